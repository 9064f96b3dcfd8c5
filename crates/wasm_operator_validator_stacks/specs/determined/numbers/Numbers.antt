-- Which types a check names for an operator on numbers, and for a constant.
use Rattle.std.specs.Prelude.{◌≡◌, Bool, List, map}
use Rattle.wasm_types.specs.trees.Types.{number}
use Rattle.wasm_types.specs.values.declared.value.ValType.{ValType}
use Rattle.wasm_types.specs.values.Values.{value_of}
use Rattle.wasm_operators_immediates.specs.declared.proposal.Proposal.{Proposal}
use Rattle.wasm_operators_enums.specs.declared.constant.ConstOperator.{ConstOperator}
use Rattle.wasm_operators_enums.specs.declared.numeric.NumericOperator.{NumericOperator}
use Rattle.wasm_operators_enums.specs.numbers.Table.{numeric_info}
use Rattle.wasm_operator_validator_rules.specs.Numbers.{class_of, taken_by, given_by, has_float, constant_type, is_float}

-- it is of this proposal, with a float in its name or not, and takes and gives these types
pub record IsNumeric (op : NumericOperator) (proposal : Proposal) (floats : Bool) (takes gives : List ValType) : Type 0 where
  pub of : (numeric_info op).proposal ≡ proposal
  pub named : has_float (class_of op) ≡ floats
  pub taken : map value_of takes ≡ map number (taken_by (class_of op))
  pub given : map value_of gives ≡ map number (given_by (class_of op))

-- the same of a constant
pub record IsConstant (op : ConstOperator) (floats : Bool) (ty : ValType) : Type 0 where
  pub named : is_float (constant_type op) ≡ floats
  pub given : value_of ty ≡ number (constant_type op)
