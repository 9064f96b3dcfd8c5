-- Which types a check names for an operator on vectors (WebAssembly 3.0, validation, vector instructions and memory instructions).
use Rattle.std.specs.Prelude.{◌≡◌, Bool, false, List, [], ◌∷◌, None, map}
use Rattle.wasm_types.specs.settings.Features.{judges_vectors}
use Rattle.wasm_types.specs.trees.Types.{number}
use Rattle.wasm_types.specs.values.declared.value.ValType.{ValType}
use Rattle.wasm_types.specs.values.declared.value.ValType.TheVariants as vals
use Rattle.wasm_types.specs.values.Values.{value_of}
use Rattle.wasm_operators_immediates.specs.declared.memory.MemArg.{MemArg}
use Rattle.wasm_operators_immediates.specs.declared.proposal.Proposal.{Proposal}
use Rattle.wasm_operators_enums.specs.declared.vector.SimdOperator.{SimdOperator}
use Rattle.wasm_operators_enums.specs.declared.vector_numeric.SimdNumericOperator.{SimdNumericOperator}
use Rattle.wasm_operators_enums.specs.VectorsTable.{simd_numeric_info}
use Rattle.wasm_operators_enums.specs.Op.{Op}
use Rattle.wasm_operator_validator_rules.specs.Accesses.{Access}
use Rattle.wasm_operator_validator_rules.specs.Context.{Context}
use Rattle.wasm_operator_validator_rules.specs.InstructionTypes.{instruction_type}
use Rattle.wasm_operator_validator_rules.specs.Vectors.{VectorClass, vectors_taken, vectors_given, has_float_lanes, VectorWork, on_lanes, reaches, work_of, vector_class}
use Rattle.wasm_operator_validator_stacks.specs.determined.Operators.{IsInTable}
use Rattle.wasm_operator_validator_vectors.specs.declared.forms.Form.{Form}
use Rattle.wasm_operator_validator_vectors.specs.declared.forms.Form.TheVariants as form

-- the operator is of this proposal, with a float in its name or not, and has no type while the switch is off
pub record IsOnVectors (o : Op) (p : Proposal) (floats : Bool) : Type 0 where
  pub table : IsInTable o p floats
  pub unswitched : (g : Context) → judges_vectors g.bits ≡ false → instruction_type g o ≡ None

-- what a class takes and gives is these types
pub record AreOf (c : VectorClass) (takes gives : List ValType) : Type 0 where
  pub taken : map value_of takes ≡ map number (vectors_taken c)
  pub given : map value_of gives ≡ map number (vectors_given c)

-- it is of this proposal, with a float in its name or not, and takes and gives these types
pub record IsNumeric (op : SimdNumericOperator) (proposal : Proposal) (floats : Bool) (takes gives : List ValType) : Type 0 where
  pub of : (simd_numeric_info op).proposal ≡ proposal
  pub named : has_float_lanes (vector_class op) ≡ floats
  pub types : AreOf (vector_class op) takes gives

-- the same of one that carries something and reaches into no memory
abbrev pub WorksOn : VectorWork → Bool → List ValType → List ValType → Type 0
WorksOn (on_lanes c) floats takes gives = (has_float_lanes c ≡ floats) × AreOf c takes gives
WorksOn (reaches a) floats takes gives = ⊥

abbrev pub IsOnLanes : SimdOperator → Bool → List ValType → List ValType → Type 0
IsOnLanes op floats takes gives = WorksOn (work_of op) floats takes gives

-- it is an access of this kind, by this argument
abbrev pub Reaches : SimdOperator → Access → MemArg → Type 0
Reaches op k a = work_of op ≡ reaches (record { access = k; argument = a })

-- ---- forms

abbrev pub form_takes : Form → List ValType
form_takes form.Unary = vals.V128 ∷ []
form_takes form.Binary = vals.V128 ∷ vals.V128 ∷ []
form_takes form.Ternary = vals.V128 ∷ vals.V128 ∷ vals.V128 ∷ []
form_takes form.Test = vals.V128 ∷ []
form_takes form.Shift = vals.V128 ∷ vals.I32 ∷ []
form_takes form.SplatI32 = vals.I32 ∷ []
form_takes form.SplatI64 = vals.I64 ∷ []
form_takes form.SplatF32 = vals.F32 ∷ []
form_takes form.SplatF64 = vals.F64 ∷ []

abbrev pub form_gives : Form → List ValType
form_gives form.Test = vals.I32 ∷ []
form_gives f = vals.V128 ∷ []

abbrev pub IsForm : Form → SimdNumericOperator → Type 0
IsForm f op = AreOf (vector_class op) (form_takes f) (form_gives f)
