use Rattle.std.proofs.Common.{◌≡◌, ◌∙◌, ◌<◌, ℕ, List, length, ap, subst, inl}
use Rattle.wasm_types.specs.decoding.Denials.{Denies}
use Rattle.wasm_module_validator_resources.specs.referring.Naming.{NamesMore}
use Rattle.wasm_module_validator_initialisers.specs.segments.Laws.{unless_from}
use Rattle.wasm_module_validator_initialisers.specs.segments.Trees.{global_read}
use Rattle.wasm_module_validator_initialisers.specs.segments.Refusals.{RefusesGlobal}
use Rattle.wasm_module_validator_state.specs.Items.{Items}
use Rattle.wasm_module_validator_state.specs.Adding.{adding_global}
use Rattle.wasm_module_validator_state.specs.invariant.Standing.{constants_of, marking}
use Rattle.wasm_module_validator_initialisers.specs.adding.Refusals.{RefusesNewGlobal}
use Rattle.wasm_module_validator_initialisers.proofs.TooMany.{one_too_many}
use Rattle.wasm_module_validator_initialisers.proofs.NewGlobals.{global_told, global_denied, global_full, global_added}
use Rattle.wasm_module_validator_initialisers.proofs.adding.globals.add_global.Goals as goal

pub returns-in-Err-clause-answer : goal.returns-in-Err-clause-answer
returns-in-Err-clause-answer c = global_denied c.args.types.now.groups c.args.state.now (global_read c.args.global) c.in-Err.error c.in-Err.ensures.answer

pub returns-in-Err-clause-refused : goal.returns-in-Err-clause-refused
returns-in-Err-clause-refused c =
    let s = c.args.state.now in
    unless_from c.in-Err.error.kind
    (RefusesGlobal s.spaces.settings (constants_of c.args.types.now.groups s.spaces) s.spaces.imported_globals c.args.offset c.args.global c.in-Err.error)
    (RefusesNewGlobal c.args.types.now.groups s c.args.offset c.args.global c.in-Err.error) (λ p. inl p) c.in-Err.ensures.refused

pub returns-in-Err-push_global-clause-answer : goal.returns-in-Err-push_global-clause-answer
returns-in-Err-push_global-clause-answer c =
    global_full c.args.types.now.groups c.args.state.now (global_read c.args.global) c.in-Err-push_global.error
    (subst (λ (t : Items). Denies c.in-Err-push_global.error.kind (length t.spaces.globals < t.spaces.settings.limits.globals)) c.check_new_global.ensures.stays c.in-Err-push_global.ensures.answer)

pub returns-in-Err-push_global-clause-refused : goal.returns-in-Err-push_global-clause-refused
returns-in-Err-push_global-clause-refused c =
    let s = c.args.state.now in
    let e = c.in-Err-push_global.error in
    one_too_many e (length s.spaces.globals) s.spaces.settings.limits.globals c.args.offset
    (RefusesGlobal s.spaces.settings (constants_of c.args.types.now.groups s.spaces) s.spaces.imported_globals c.args.offset c.args.global e)
    (subst (λ (t : Items). Denies e.kind (length t.spaces.globals < t.spaces.settings.limits.globals)) c.check_new_global.ensures.stays c.in-Err-push_global.ensures.answer)
    c.in-Err-push_global.ensures.refused

pub returns-clause-answer : goal.returns-clause-answer
returns-clause-answer c =
    global_told c.args.types.now.groups c.args.state.now (global_read c.args.global) _ c.in-Ok.ensures.answer
    (subst (λ (t : Items). length t.spaces.globals < t.spaces.settings.limits.globals) c.check_new_global.ensures.stays c.in-Ok-push_global.ensures.answer)

pub returns-clause-added : goal.returns-clause-added
returns-clause-added c =
    let names = c.check_new_global.new.names.items in
    let kept = c.in-Ok.ty in
    let pushed = c.push_global.new.self in
    let j : c.refer_to_each.new.state ≡ record c.args.state.now { spaces = marking names (adding_global kept c.args.state.now.spaces) }
    = c.refer_to_each.ensures.marked ∙ ap (λ (xs : List ℕ). record pushed { spaces = marking xs pushed.spaces }) c.as_slice.ensures.value ∙ ap (λ (t : Items). record t { spaces = marking names t.spaces })
    (c.in-Ok-push_global.ensures.added ∙ ap (λ (t : Items). record t { spaces = adding_global kept t.spaces }) c.check_new_global.ensures.stays) in
    global_added c.args.types.now.groups c.args.state.now (global_read c.args.global) kept names c.refer_to_each.new.state c.in-Ok.ensures.named
    (subst (λ (xs : List ℕ). NamesMore c.args.state.now.spaces.settings (global_read c.args.global).init xs names) c.new-names.ensures.items c.in-Ok.ensures.names) j
