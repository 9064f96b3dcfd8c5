-- What operators on vectors take and give, by their codes after the prefix `fd`, and what they carry (WebAssembly 3.0, binary format, vector
-- instructions).
use Rattle.std.specs.Prelude.{◌≡◌, ◌<◌, ◌≤◌, ◌+◌, ℕ, true, List, [], ◌∷◌, length, get_or, nat_lt, if◌then◌else◌}
use Rattle.wasm_types.specs.settings.Features.{RelaxedSimd}
use Rattle.wasm_types.specs.trees.Gates.{Has}
use Rattle.wasm_types.specs.trees.Trees.{TypeTree}
use Rattle.wasm_operators_immediates.specs.Immediates.{Lane, MemoryArgument}
use Rattle.wasm_operators_immediates.specs.Kinds.{Plain}
use Rattle.wasm_operators_immediates.specs.declared.memory.MemArg.{MemArg}
use Rattle.wasm_operators_immediates.specs.declared.proposal.Proposal.{Proposal}
use Rattle.wasm_operators_immediates.specs.declared.proposal.Proposal.TheVariants as proposals
use Rattle.wasm_operators_enums.specs.declared.vector.SimdOperator.{SimdOperator}
use Rattle.wasm_operators_enums.specs.declared.vector_numeric.SimdNumericOperator.{SimdNumericOperator}
use Rattle.wasm_operators_enums.specs.Op as op
use Rattle.wasm_operators_enums.specs.VectorsImmediates.{simd_immediates}
use Rattle.wasm_operators_enums.specs.VectorsTable.{simd_info, simd_numeric_info}
use Rattle.wasm_operators_encoding.specs.Opcodes.{prefixed}
use Rattle.wasm_operators_encoding.specs.Operators.{opcode_of}
use Rattle.wasm_operators_frequent.specs.Short.{BeginsPrefixed}
use Rattle.wasm_operator_validator_rules.specs.Accesses.{Access}
use Rattle.wasm_operator_validator_rules.specs.Numbers.{numbers}
use Rattle.wasm_operator_validator_rules.specs.Vectors.{VectorClass as Work, vectors_taken, vectors_given, vector_class, work_of, on_lanes, reaches}
use Rattle.wasm_operator_validator_fast_tables.specs.declared.tables.Tables.{Tables}
use Rattle.wasm_operator_validator_fast_tables.specs.Values.{types}
use Rattle.wasm_operator_validator_fast_objects.specs.declared.vector_shape.VectorClass.{VectorClass}
use Rattle.wasm_operator_validator_fast_objects.specs.declared.vector_shape.VectorClass.TheVariants as class

-- ---- by their codes

-- relaxed operators have the codes from 0x100 on
abbrev pub proposal_of : ℕ → Proposal
proposal_of code = if nat_lt code 0x100 then proposals.Simd else proposals.RelaxedSimd

-- the operator with this code carries nothing, and takes and gives these types
pub record IsLanesAt (code : ℕ) (takes gives : List ℕ) : Type 0 where
  pub operator : SimdNumericOperator
  pub opcode : opcode_of (op.SimdNumeric operator) ≡ prefixed 0xfd code
  pub asks : (simd_numeric_info operator).proposal ≡ proposal_of code
  pub taken : (ids : List TypeTree) → types ids takes ≡ numbers (vectors_taken (vector_class operator))
  pub given : (ids : List TypeTree) → types ids gives ≡ numbers (vectors_given (vector_class operator))

-- with the index of one of so many lanes the operator with this code takes and gives these types
pub record IsLaneAt (code lanes : ℕ) (takes gives : List ℕ) : Type 0 where
  pub operator : ℕ → SimdOperator
  pub opcode : (l : ℕ) → opcode_of (op.Simd (operator l)) ≡ prefixed 0xfd code
  pub asks : (l : ℕ) → (simd_info (operator l)).proposal ≡ proposals.Simd
  pub carries : (l : ℕ) → simd_immediates (operator l) ≡ Lane lanes l ∷ []
  pub work : Work
  pub works : (l : ℕ) → work_of (operator l) ≡ on_lanes work
  pub taken : (ids : List TypeTree) → types ids takes ≡ numbers (vectors_taken work)
  pub given : (ids : List TypeTree) → types ids gives ≡ numbers (vectors_given work)

-- with any argument of this natural alignment the operator with this code is an access of this kind
pub record IsReachAt (kind : Access) (code natural : ℕ) : Type 0 where
  pub operator : MemArg → SimdOperator
  pub opcode : (a : MemArg) → opcode_of (op.Simd (operator a)) ≡ prefixed 0xfd code
  pub asks : (a : MemArg) → (simd_info (operator a)).proposal ≡ proposals.Simd
  pub carries : (a : MemArg) → simd_immediates (operator a) ≡ MemoryArgument Plain natural a ∷ []
  pub works : (a : MemArg) → work_of (operator a) ≡ reaches (record { access = kind; argument = a })

-- the same with the index of one of so many lanes
pub record IsLaneReachAt (kind : Access) (code natural lanes : ℕ) : Type 0 where
  pub operator : MemArg → ℕ → SimdOperator
  pub opcode : (a : MemArg) (l : ℕ) → opcode_of (op.Simd (operator a l)) ≡ prefixed 0xfd code
  pub asks : (a : MemArg) (l : ℕ) → (simd_info (operator a l)).proposal ≡ proposals.Simd
  pub carries : (a : MemArg) (l : ℕ) → simd_immediates (operator a l) ≡ MemoryArgument Plain natural a ∷ Lane lanes l ∷ []
  pub works : (a : MemArg) (l : ℕ) → work_of (operator a l) ≡ reaches (record { access = kind; argument = a })

-- a code has this class, which may be one of several codes
abbrev pub IsVectorClass : VectorClass → ℕ → Type 0
IsVectorClass class.Unary code = IsLanesAt code (4 ∷ []) (4 ∷ [])
IsVectorClass class.Binary code = IsLanesAt code (4 ∷ 4 ∷ []) (4 ∷ [])
IsVectorClass class.Ternary code = IsLanesAt code (4 ∷ 4 ∷ 4 ∷ []) (4 ∷ [])
IsVectorClass class.Test code = IsLanesAt code (4 ∷ []) (0 ∷ [])
IsVectorClass class.Shift code = IsLanesAt code (4 ∷ 0 ∷ []) (4 ∷ [])
IsVectorClass class.Const code = code ≡ 0x0c
IsVectorClass class.Shuffle code = code ≡ 0x0d
IsVectorClass class.Store code = code ≡ 0x0b
IsVectorClass _ code = Unit {0}

-- ---- by their bytes

-- features allow the operator with this code, if they allow operators on vectors
abbrev pub MayRelax : ℕ → ℕ → Type 0
MayRelax bits code = 0x100 ≤ code → Has bits RelaxedSimd

-- an operator on vectors begins with this code, which ends there, and tables say that it may
pub record IsVectorAt (text : List ℕ) (t : Tables) (i code n : ℕ) : Type 0 where
  pub begins : BeginsPrefixed text i 0xfd code n
  pub on : t.vectors ≡ true
  pub relaxed : MayRelax t.features.0 code

-- the index of one of so many lanes stands there
pub record IsLaneThere (text : List ℕ) (i lanes e : ℕ) : Type 0 where
  pub inside : i < length text
  pub below : get_or text i 0 < lanes
  pub behind : e ≡ i + 1

-- 16 indices of the lanes of two vectors stand there
pub record AreLanesThere (text : List ℕ) (i e : ℕ) : Type 0 where
  pub inside : i + 16 ≤ length text
  pub below : (k : ℕ) → k < 16 → get_or text (i + k) 0 < 32
  pub behind : e ≡ i + 16
