-- Which types a check names for an atomic access (the proposal on threads).
use Rattle.std.specs.Prelude.{◌≡◌, Some}
use Rattle.wasm_types.specs.trees.Types.{Number, number}
use Rattle.wasm_types.specs.values.declared.value.ValType.{ValType}
use Rattle.wasm_types.specs.values.Values.{value_of}
use Rattle.wasm_operators_immediates.specs.declared.memory.MemArg.{MemArg}
use Rattle.wasm_operators_enums.specs.declared.atomic.AtomicOperator.{AtomicOperator}
use Rattle.wasm_operator_validator_rules.specs.Accesses.{Access, atomic_access_of}
use Rattle.wasm_operator_validator_memory.specs.Reaching.{number_of}

-- it is an access of this kind, of this number type, by this argument
pub record IsAtomic (kind : Number → Access) (op : AtomicOperator) (a : MemArg) (t : ValType) : Type 0 where
  pub of : atomic_access_of op ≡ Some (record { access = kind (number_of t); argument = a })
  pub typed : value_of t ≡ number (number_of t)
