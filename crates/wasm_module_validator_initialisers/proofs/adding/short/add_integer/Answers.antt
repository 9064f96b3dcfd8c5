use Rattle.std.proofs.Common.{◌≡◌, ◌+◌, ◌∙◌, ◌-◌, ◌≤◌, List, ℕ, length, take, drop, ap, subst, arith}
use Rattle.std.proofs.lemmas.List.{take_all, length-drop}
use Rattle.wasm_types.specs.externs.declared.global.GlobalType.{GlobalType}
use Rattle.wasm_module_validator_state.specs.Adding.{adding_global}
use Rattle.wasm_operators_bodies.specs.Short.{SpellsShort}
use Rattle.wasm_module_validator_state.specs.invariant.Standing.{constants_of}
use Rattle.wasm_module_validator_initialisers.proofs.ShortGlobals.{integer_told, integer_added, global_between}
use Rattle.wasm_module_validator_initialisers.proofs.adding.short.add_integer.Goals as goal

pub returns-in-Ok-clause-added : goal.returns-in-Ok-clause-added
returns-in-Ok-clause-added c =
    let text = c.args.bytes.now in
    let i = c.args.at in
    let wide = c.in-Some.wide in
    let mutable = c.in-Some.mutable in
    let long = c.in-Some-short_constant.long in
    let slice = take (length text - (i + 2)) (drop (i + 2) text) in
    let all : slice ≡ drop (i + 2) text = take_all (length text - (i + 2)) (drop (i + 2) text) (omega (arith, length-drop (i + 2) text)) in
    let spelled = subst (λ (r : List ℕ). SpellsShort c.in-Some-short_constant.constant (take long r)) all c.in-Some-short_constant.ensures.spelled in
    let room = subst (λ (r : List ℕ). long ≤ length r) all c.in-Some-short_constant.ensures.inside in
    let s = c.args.state.now in
    let told = integer_told s.spaces.settings (constants_of c.args.types.now.groups s.spaces).«module» s.spaces.imported_globals wide _ _ spelled (c.is_integer_here.ensures c.if-not-is_integer_here.false) in
    record {
      item = _;
      bytes = global_between text i long wide mutable _ c.in-Some.ensures spelled room;
      added = integer_added c.args.types.now.groups s wide mutable _ _ told c.in-Ok.ensures.answer
          (c.in-Ok.ensures.added ∙ ap (λ (t : GlobalType). record s { spaces = adding_global t s.spaces }) c.integers.ensures);
    }
