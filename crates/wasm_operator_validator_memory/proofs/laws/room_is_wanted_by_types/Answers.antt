use Rattle.std.proofs.Common.{◌≡◌, ◌∙◌, List, Option, Some, None, subst}
use Rattle.wasm_operator_validator_rules.specs.Operands.{ValueType}
use Rattle.wasm_operator_validator_state.specs.State.{Open}
use Rattle.wasm_operator_validator_state.specs.Steps.{IsOpen}
use Rattle.wasm_operator_validator_memory.proofs.Operators.{local_unknown, local_get_unset}
use Rattle.wasm_operator_validator_memory.proofs.Room.{drop_has_types}
use Rattle.wasm_operator_validator_memory.proofs.laws.room_is_wanted_by_types.Goals as goal

pub returns : goal.returns
returns c = record {
  dropped = drop_has_types;
  unknown = λ m σ x e h.
      let (t, l, i, k) = h.row.1 in
      let y : ◌≡◌ {A = Option ValueType} None (Some t) = local_unknown m σ.given.locals x e ∙ l.local in cc;
  uninitialised = λ m σ x e h. local_get_unset m σ x e h.popped h.pushed h.row.1;
  ended = λ m σ o e h. subst (λ (os : List Open). IsOpen os) e h.framed;
}
