-- What an operator with a code takes and gives, from what its table says.
use Rattle.std.proofs.Common.{◌≡◌, ◌∙◌, ◌<◌, ℕ, List, [], ◌∷◌, None, Some, true, false, IsTrue, refl, nat_lt, ltb-true, eqb-true, sym, subst}
use Rattle.std.specs.Prelude.{bit_and}
use Rattle.wasm_types.specs.settings.Features.{Feature, has, mask}
use Rattle.wasm_types.specs.trees.Gates.{Has}
use Rattle.wasm_operators_immediates.specs.Info.{features_of}
use Rattle.wasm_operators_immediates.specs.declared.proposal.Proposal.{Proposal}
use Rattle.wasm_operators_immediates.specs.declared.proposal.Proposal.TheVariants.{Mvp, SignExtension, SaturatingFloatToInt}
use Rattle.wasm_operators_enums.specs.declared.numeric.NumericOperator.{NumericOperator}
use Rattle.wasm_operators_enums.specs.numbers.Table.{numeric_info}
use Rattle.wasm_operator_validator_rules.specs.Numbers.{class_of, taken_by, given_by, numbers}
use Rattle.wasm_types.specs.trees.Types.{Number, number}
use Rattle.wasm_types.specs.trees.Trees.{TypeTree}
use Rattle.wasm_operators_immediates.specs.declared.memory.MemArg.{MemArg}
use Rattle.wasm_operators_enums.specs.declared.memory.MemoryOperator.{MemoryOperator}
use Rattle.wasm_operators_enums.specs.Op as op
use Rattle.wasm_operators_enums.specs.Op.{Op}
use Rattle.wasm_operators_enums.specs.Table.{info_of}
use Rattle.wasm_operators_enums.specs.Immediates.{immediates_of, is_canonical}
use Rattle.wasm_operators_immediates.specs.Kinds.{Plain}
use Rattle.wasm_operators_immediates.specs.Immediates.{MemoryArgument}
use Rattle.wasm_operator_validator_rules.specs.Accesses.{Access}
use Rattle.wasm_operator_validator_rules.specs.Operands.{Operand}
use Rattle.wasm_operator_validator_rules.specs.Context.{Context, Initialised}
use Rattle.wasm_operator_validator_rules.specs.InstructionTypes.{instruction_type, accesses}
use Rattle.wasm_operator_validator_rules.specs.Row.{TableRow, GroupRow, IsEnabled, after}
use Rattle.wasm_operator_validator_state.specs.laws.Entering.{nothing_asked}
use Rattle.wasm_operator_validator_fast_tables.specs.Tables.{Allows}
use Rattle.wasm_operator_validator_fast_tables.specs.Values.{number_of, type_of, types}
use Rattle.wasm_operator_validator_fast_steps.specs.Shapes.{IsNumberAt, IsAccessAt}

-- ---- features

-- bits that have a feature have its mask
has_mask : (bits : ℕ) (f : Feature) → Has bits f → bit_and bits (mask f) ≡ mask f
unfolding has
has_mask bits f h = eqb-true _ _ h

pub asked : (bits : ℕ) (o : Op) (p : Proposal) → Allows bits → (info_of o).proposal ≡ p → bit_and bits (features_of p) ≡ features_of p → IsEnabled bits o
asked bits o p a is h = record { proposal = subst (λ (x : Proposal). bit_and bits (features_of x) ≡ features_of x) (sym is) h; floats = λ t. a.floats }

-- an operator of the first release
pub first : (bits : ℕ) (o : Op) → Allows bits → (info_of o).proposal ≡ Mvp → IsEnabled bits o
first bits o a is = asked bits o Mvp a is (nothing_asked bits)

pub of_feature : (bits : ℕ) (o : Op) (p : Proposal) (f : Feature) → Allows bits → (info_of o).proposal ≡ p → Has bits f → features_of p ≡ mask f → IsEnabled bits o
of_feature bits o p f a is h same = asked bits o p a is (subst (λ (m : ℕ). bit_and bits m ≡ m) (sym same) (has_mask bits f h))

-- ---- numbers

low_code : (n code : ℕ) → code ≡ n → nat_lt n 0xfb ≡ true → code < 0xfb
low_code n code is low = subst (λ (k : ℕ). k < 0xfb) (sym is) (ltb-true n 0xfb low)

pub coded : {takes gives : List ℕ} {code n : ℕ} (o : NumericOperator) → code ≡ n → nat_lt n 0xfb ≡ true → (numeric_info o).code ≡ n → (numeric_info o).prefix ≡ None
    → (numeric_info o).proposal ≡ Mvp → ((ids : List TypeTree) → types ids takes ≡ numbers (taken_by (class_of o))) → ((ids : List TypeTree) → types ids gives ≡ numbers (given_by (class_of o))) → IsNumberAt None code takes gives
coded o is low there bare of taken given = record {
  operator = o;
  code_is = there ∙ sym is;
  prefix_is = bare;
  low = low_code _ _ is low;
  enabled = λ bits a. first bits (op.Numeric o) a of;
  taken = taken;
  given = given;
}

pub coded_sign : {takes gives : List ℕ} {code n : ℕ} (o : NumericOperator) → code ≡ n → nat_lt n 0xfb ≡ true → (numeric_info o).code ≡ n → (numeric_info o).prefix ≡ None
    → (numeric_info o).proposal ≡ SignExtension → ((ids : List TypeTree) → types ids takes ≡ numbers (taken_by (class_of o))) → ((ids : List TypeTree) → types ids gives ≡ numbers (given_by (class_of o))) → IsNumberAt None code takes gives
coded_sign o is low there bare of taken given = record {
  operator = o;
  code_is = there ∙ sym is;
  prefix_is = bare;
  low = low_code _ _ is low;
  enabled = λ bits a. of_feature bits (op.Numeric o) SignExtension _ a of a.sign refl;
  taken = taken;
  given = given;
}

pub coded_saturating : {takes gives : List ℕ} {code n : ℕ} (o : NumericOperator) → code ≡ n → nat_lt n 0xfb ≡ true → (numeric_info o).code ≡ n → (numeric_info o).prefix ≡ Some 0xfc
    → (numeric_info o).proposal ≡ SaturatingFloatToInt → ((ids : List TypeTree) → types ids takes ≡ numbers (taken_by (class_of o))) → ((ids : List TypeTree) → types ids gives ≡ numbers (given_by (class_of o)))
    → IsNumberAt (Some 0xfc) code takes gives
coded_saturating o is low there prefixed of taken given = record {
  operator = o;
  code_is = there ∙ sym is;
  prefix_is = prefixed;
  low = low_code _ _ is low;
  enabled = λ bits a. of_feature bits (op.Numeric o) SaturatingFloatToInt _ a of a.saturating refl;
  taken = taken;
  given = given;
}

-- ---- accesses

pub coded_access : {kind : Number → Access} {code natural ty n : ℕ} (o : MemArg → MemoryOperator) → code ≡ n → nat_lt n 0xfb ≡ true → ((a : MemArg) → (info_of (op.Memory (o a))).code ≡ n)
    → ((a : MemArg) → (info_of (op.Memory (o a))).prefix ≡ None) → ((a : MemArg) → (info_of (op.Memory (o a))).proposal ≡ Mvp)
    → ((a : MemArg) → immediates_of (op.Memory (o a)) ≡ MemoryArgument Plain natural a ∷ []) → ((a : MemArg) → IsTrue (is_canonical (op.Memory (o a))))
    → ((a : MemArg) (set : Initialised) → after (op.Memory (o a)) set ≡ set)
    → ((a : MemArg) (g : Context) → instruction_type g (op.Memory (o a)) ≡ accesses g false (Some (record { access = kind (number_of ty); argument = a })))
    → ((a : MemArg) (g : Context) (set : Initialised) (popped pushed : List Operand) → TableRow g (op.Memory (o a)) popped pushed → GroupRow g set (op.Memory (o a)) popped pushed)
    → ((ids : List TypeTree) → type_of ids ty ≡ number (number_of ty)) → IsAccessAt kind code natural ty
coded_access o is low there bare of carries canonical keeps table row of_number = record {
  of_number = of_number;
  operator = o;
  low = low_code _ _ is low;
  code_is = λ a. there a ∙ sym is;
  no_prefix = bare;
  of = of;
  carries = carries;
  canonical = canonical;
  keeps = keeps;
  table = table;
  row = row;
}
