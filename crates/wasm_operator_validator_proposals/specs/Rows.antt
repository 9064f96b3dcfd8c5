-- Rows of an operator at a place, whatever its group is.
use Rattle.std.specs.Prelude.{◌↔◌, List}
use Rattle.wasm_operators_enums.specs.Op.{Op}
use Rattle.wasm_operator_validator_rules.specs.Operands.{ValueType, Operand}
use Rattle.wasm_operator_validator_rules.specs.Row.{GroupRow}
use Rattle.wasm_operator_validator_rules.specs.Taken.{Takes}
use Rattle.wasm_operator_validator_resources.specs.Meaning.{Meaning}
use Rattle.wasm_operator_validator_state.specs.State.{State, initialised}
use Rattle.wasm_operator_validator_objects.specs.Rows.{here}

abbrev pub RowAt : Meaning → State → Op → List Operand → List Operand → Type 0
RowAt m σ o popped pushed = GroupRow (here m σ) (initialised m σ.given σ.inits) o popped pushed

-- it has exactly the row of these types
abbrev pub IsRow : Meaning → State → Op → List ValueType → List ValueType → Type 0
IsRow m σ o ts us = (popped pushed : List Operand) → RowAt m σ o popped pushed ↔ Takes ts us popped pushed

-- it has no row
abbrev pub HasNoRow : Meaning → State → Op → Type 0
HasNoRow m σ o = (popped pushed : List Operand) → RowAt m σ o popped pushed → ⊥
