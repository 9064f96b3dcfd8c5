-- Kinds of atomic accesses, as their checks name them (the proposal on shared everything).
use Rattle.std.specs.Prelude.{◌↔◌, Bool, true, false, List, Option, Some}
use Rattle.wasm_types.specs.values.declared.value.ValType.{ValType}
use Rattle.wasm_types.specs.values.declared.value.ValType.TheVariants as vals
use Rattle.wasm_operators_enums.specs.declared.atomic.SharedOperator.{SharedOperator}
use Rattle.wasm_operator_validator_rules.specs.Operands.{Operand}
use Rattle.wasm_operator_validator_rules.specs.Context.{Context}
use Rattle.wasm_operator_validator_rules.specs.Places.{Place}
use Rattle.wasm_operator_validator_rules.specs.SharedAccesses.{SharedRow, At}
use Rattle.wasm_operator_validator_rules.specs.SharedAccesses as rule
use Rattle.wasm_types.specs.fields.declared.field.FieldType.{FieldType}
use Rattle.wasm_operator_validator_resources.specs.Meaning.{Meaning}
use Rattle.wasm_operator_validator_state.specs.State.{State}
use Rattle.wasm_operator_validator_objects.specs.Rows.{here}
use Rattle.wasm_operator_validator_objects.specs.Found.{place_in}
use Rattle.wasm_operator_validator_proposals.specs.declared.places.AtomicAccess.{AtomicAccess}
use Rattle.wasm_operator_validator_proposals.specs.declared.places.AtomicAccess.TheVariants as access

abbrev pub access_of : AtomicAccess → rule.AtomicAccess
access_of access.Reads = rule.reads
access_of access.ReadsPacked = rule.reads_packed
access_of access.Writes = rule.writes
access_of access.Modifies = rule.modifies
access_of access.Exchanges = rule.exchanges
access_of access.Compares = rule.compares

-- the operator accesses this place so
abbrev pub Accesses : SharedOperator → AtomicAccess → (Context → Option Place) → Type 0
Accesses o a place = (g : Context) (popped pushed : List Operand) → SharedRow g o popped pushed ↔ At (access_of a) (place g) popped pushed

abbrev pub is_integer : ValType → Bool
is_integer vals.I32 = true
is_integer vals.I64 = true
is_integer vals.F32 = false
is_integer vals.F64 = false
is_integer vals.V128 = false
is_integer (vals.Ref r) = false

-- the same of a place that was found
abbrev pub AccessesAt : Meaning → State → SharedOperator → AtomicAccess → List ValType → FieldType → Type 0
AccessesAt m σ o a ts f = (popped pushed : List Operand) → SharedRow (here m σ) o popped pushed ↔ At (access_of a) (Some (place_in m ts f)) popped pushed
