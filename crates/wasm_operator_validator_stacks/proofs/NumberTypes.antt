-- Operators on numbers, and constants, by their types.
use Rattle.std.proofs.Common.{◌≡◌, List, [], ◌∷◌, Bool, Some, refl}
use Rattle.wasm_types.specs.values.declared.value.ValType.{ValType}
use Rattle.wasm_operators_immediates.specs.declared.proposal.Proposal.{Proposal}
use Rattle.wasm_operators_immediates.specs.declared.proposal.Proposal.TheVariants.{Mvp}
use Rattle.wasm_operators_enums.specs.declared.constant.ConstOperator.{ConstOperator}
use Rattle.wasm_operators_enums.specs.declared.constant.ConstOperator.TheVariants as const
use Rattle.wasm_operators_enums.specs.memory.Table.{const_info}
use Rattle.wasm_operators_enums.specs.declared.numeric.NumericOperator.{NumericOperator}
use Rattle.wasm_operators_enums.specs.Op as op
use Rattle.wasm_operator_validator_rules.specs.Numbers.{class_of, taken_by, given_by, constant_type}
use Rattle.wasm_operator_validator_rules.specs.InstructionTypes.{◌⟶◌, instruction_type}
use Rattle.wasm_operator_validator_state.specs.resources.Meaning.{Meaning}
use Rattle.wasm_operator_validator_state.specs.State.{State, context, types_in}
use Rattle.wasm_operator_validator_stacks.specs.determined.Operators.{IsInTable}
use Rattle.wasm_operator_validator_stacks.specs.determined.laws.Types.{number_in, numbers_in}
use Rattle.wasm_operator_validator_stacks.specs.determined.numbers.Numbers.{IsNumeric, IsConstant}

pub numeric_in_table : (o : NumericOperator) (p : Proposal) (f : Bool) (ts us : List ValType) → IsNumeric o p f ts us → IsInTable (op.Numeric o) p f
numeric_in_table o p f ts us i = record {
  is = record { of = i.of; named = i.named; plain = refl };
  row = λ g set popped pushed. (λ r. r, λ r. r);
  keeps = λ set. refl;
}

pub numeric_type : (m : Meaning) (σ : State) (o : NumericOperator) (p : Proposal) (f : Bool) (ts us : List ValType) → IsNumeric o p f ts us
    → instruction_type (context m σ.given σ.opens) (op.Numeric o) ≡ Some (types_in m ts ⟶ types_in m us)
numeric_type m σ o p f ts us i = rw (numbers_in m ts (taken_by (class_of o)) i.taken, numbers_in m us (given_by (class_of o)) i.given) refl

const_is_mvp : (o : ConstOperator) → (const_info o).proposal ≡ Mvp
const_is_mvp (const.I32Const x) = refl
const_is_mvp (const.I64Const x) = refl
const_is_mvp (const.F32Const x) = refl
const_is_mvp (const.F64Const x) = refl

pub constant_in_table : (o : ConstOperator) (f : Bool) (t : ValType) → IsConstant o f t → IsInTable (op.Const o) Mvp f
constant_in_table o f t i = record {
  is = record { of = const_is_mvp o; named = i.named; plain = refl };
  row = λ g set popped pushed. (λ r. r, λ r. r);
  keeps = λ set. refl;
}

pub constant_type_is : (m : Meaning) (σ : State) (o : ConstOperator) (f : Bool) (t : ValType) → IsConstant o f t
    → instruction_type (context m σ.given σ.opens) (op.Const o) ≡ Some (types_in m [] ⟶ types_in m (t ∷ []))
constant_type_is m σ o f t i = rw (number_in m t (constant_type o) i.given) refl
