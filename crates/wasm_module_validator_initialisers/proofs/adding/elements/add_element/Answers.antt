use Rattle.std.proofs.Common.{◌≡◌, ◌∙◌, ◌<◌, ℕ, List, length, ap, subst, inl}
use Rattle.wasm_types.specs.decoding.Denials.{Denies}
use Rattle.wasm_module_validator_initialisers.specs.segments.Laws.{unless_from}
use Rattle.wasm_module_validator_initialisers.specs.elements.Trees.{element_read}
use Rattle.wasm_module_validator_initialisers.specs.elements.Naming.{NamesElement}
use Rattle.wasm_module_validator_initialisers.specs.elements.Refusals.{RefusesElement}
use Rattle.wasm_module_validator_state.specs.Items.{Items}
use Rattle.wasm_module_validator_state.specs.Adding.{adding_element}
use Rattle.wasm_module_validator_state.specs.invariant.Standing.{constants_of, marking}
use Rattle.wasm_module_validator_initialisers.specs.adding.Refusals.{RefusesNewElement}
use Rattle.wasm_module_validator_initialisers.proofs.TooMany.{one_too_many}
use Rattle.wasm_module_validator_initialisers.proofs.NewElements.{element_told, element_denied, element_full, element_added}
use Rattle.wasm_module_validator_initialisers.proofs.adding.elements.add_element.Goals as goal

pub returns-in-Err-clause-answer : goal.returns-in-Err-clause-answer
returns-in-Err-clause-answer c = element_denied c.args.types.now.groups c.args.state.now c.args.element c.in-Err.error c.in-Err.ensures.answer

pub returns-in-Err-clause-refused : goal.returns-in-Err-clause-refused
returns-in-Err-clause-refused c =
    let s = c.args.state.now in
    unless_from c.in-Err.error.kind
    (RefusesElement s.spaces.settings (constants_of c.args.types.now.groups s.spaces) s.spaces.imported_globals c.args.offset c.args.element c.in-Err.error)
    (RefusesNewElement c.args.types.now.groups s c.args.offset c.args.element c.in-Err.error) (λ p. inl p) c.in-Err.ensures.refused

pub returns-in-Err-push_element_segment-clause-answer : goal.returns-in-Err-push_element_segment-clause-answer
returns-in-Err-push_element_segment-clause-answer c =
    element_full c.args.types.now.groups c.args.state.now c.args.element c.in-Err-push_element_segment.error
    (subst (λ (t : Items). Denies c.in-Err-push_element_segment.error.kind (length t.spaces.elements < t.spaces.settings.limits.element_segments)) c.check_new_element.ensures.stays c.in-Err-push_element_segment.ensures.answer)

pub returns-in-Err-push_element_segment-clause-refused : goal.returns-in-Err-push_element_segment-clause-refused
returns-in-Err-push_element_segment-clause-refused c =
    let s = c.args.state.now in
    let e = c.in-Err-push_element_segment.error in
    one_too_many e (length s.spaces.elements) s.spaces.settings.limits.element_segments c.args.offset
    (RefusesElement s.spaces.settings (constants_of c.args.types.now.groups s.spaces) s.spaces.imported_globals c.args.offset c.args.element e)
    (subst (λ (t : Items). Denies e.kind (length t.spaces.elements < t.spaces.settings.limits.element_segments)) c.check_new_element.ensures.stays c.in-Err-push_element_segment.ensures.answer)
    c.in-Err-push_element_segment.ensures.refused

pub returns-clause-answer : goal.returns-clause-answer
returns-clause-answer c =
    element_told c.args.types.now.groups c.args.state.now c.args.element _ c.in-Ok.ensures.answer
    (subst (λ (t : Items). length t.spaces.elements < t.spaces.settings.limits.element_segments) c.check_new_element.ensures.stays c.in-Ok-push_element_segment.ensures.answer)

pub returns-clause-added : goal.returns-clause-added
returns-clause-added c =
    let names = c.check_new_element.new.names.items in
    let kept = c.in-Ok.ty in
    let pushed = c.push_element_segment.new.self in
    let j : c.refer_to_each.new.state ≡ record c.args.state.now { spaces = marking names (adding_element kept c.args.state.now.spaces) }
    = c.refer_to_each.ensures.marked ∙ ap (λ (xs : List ℕ). record pushed { spaces = marking xs pushed.spaces }) c.as_slice.ensures.value ∙ ap (λ (t : Items). record t { spaces = marking names t.spaces })
    (c.in-Ok-push_element_segment.ensures.added ∙ ap (λ (t : Items). record t { spaces = adding_element kept t.spaces }) c.check_new_element.ensures.stays) in
    element_added c.args.types.now.groups c.args.state.now c.args.element kept names c.refer_to_each.new.state c.in-Ok.ensures.named
    (subst (λ (xs : List ℕ). NamesElement c.args.state.now.spaces.settings (element_read c.args.element) xs names) c.new-names.ensures.items c.in-Ok.ensures.names) j
