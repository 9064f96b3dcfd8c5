-- Which accesses a memory allows (WebAssembly 3.0, validation, memory instructions).
use Rattle.std.specs.Prelude.{◌≡◌, Bool, Option, Some, None, if◌then◌else◌}
use Rattle.wasm_types.specs.trees.Types.{Number, i32, i64, f32, f64, v128, number}
use Rattle.wasm_types.specs.externs.declared.memory.MemoryType.{MemoryType}
use Rattle.wasm_types.specs.values.declared.value.ValType.{ValType}
use Rattle.wasm_types.specs.values.declared.value.ValType.TheVariants as vals
use Rattle.wasm_types.specs.values.Values.{value_of}
use Rattle.wasm_operators_immediates.specs.declared.memory.MemArg.{MemArg}
use Rattle.wasm_operators_enums.specs.declared.memory.MemoryOperator.{MemoryOperator}
use Rattle.wasm_operator_validator_rules.specs.Numbers.{is_float}
use Rattle.wasm_operator_validator_rules.specs.Operands.{ValueType}
use Rattle.wasm_operator_validator_rules.specs.Context.{address_type}
use Rattle.wasm_operator_validator_rules.specs.Accesses.{Access, access_of, may_access}

-- the type of addresses of a memory, if there is one and it allows such an access
abbrev pub reached : Bool → MemArg → Option MemoryType → Option ValueType
reached is_atomic a None = None
reached is_atomic a (Some m) = if may_access is_atomic m a then Some (address_type m.memory64) else None

-- the number of a type, where it is a number or a vector
abbrev pub number_of : ValType → Number
number_of vals.I32 = i32
number_of vals.I64 = i64
number_of vals.F32 = f32
number_of vals.F64 = f64
number_of vals.V128 = v128
number_of (vals.Ref r) = i32

-- it is an access of this kind, of this number type, by this argument, and the type is a float or not
pub record IsAccess (kind : Number → Access) (op : MemoryOperator) (a : MemArg) (floats : Bool) (t : ValType) : Type 0 where
  pub of : access_of op ≡ Some (record { access = kind (number_of t); argument = a })
  pub named : is_float (number_of t) ≡ floats
  pub typed : value_of t ≡ number (number_of t)
