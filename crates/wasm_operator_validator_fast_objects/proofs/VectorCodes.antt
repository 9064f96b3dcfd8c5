-- What operators on vectors take and give, from what their tables say.
use Rattle.std.proofs.Common.{◌≡◌, ◌∙◌, ◌+◌, ℕ, true, List, [], ◌∷◌, sym, ap, subst}
use Rattle.wasm_types.specs.decoding.Leb.{u32}
use Rattle.wasm_types.specs.decoding.Numbers.{GivesAt}
use Rattle.wasm_types.specs.trees.Trees.{TypeTree}
use Rattle.wasm_operators_immediates.specs.Immediates.{Lane, MemoryArgument}
use Rattle.wasm_operators_immediates.specs.Kinds.{Plain}
use Rattle.wasm_operators_immediates.specs.declared.memory.MemArg.{MemArg}
use Rattle.wasm_operators_immediates.specs.declared.proposal.Proposal.TheVariants as proposals
use Rattle.wasm_operators_enums.specs.declared.vector.SimdOperator.{SimdOperator}
use Rattle.wasm_operators_enums.specs.declared.vector_numeric.SimdNumericOperator.{SimdNumericOperator}
use Rattle.wasm_operators_enums.specs.Op as op
use Rattle.wasm_operators_enums.specs.VectorsImmediates.{simd_immediates}
use Rattle.wasm_operators_enums.specs.VectorsTable.{simd_info, simd_numeric_info}
use Rattle.wasm_operators_encoding.specs.Opcodes.{Opcode, prefixed}
use Rattle.wasm_operators_encoding.specs.Operators.{opcode_of}
use Rattle.wasm_operators_frequent.specs.Short.{Begins}
use Rattle.wasm_operator_validator_rules.specs.Accesses.{Access}
use Rattle.wasm_operator_validator_rules.specs.Numbers.{numbers}
use Rattle.wasm_operator_validator_rules.specs.Vectors.{VectorClass as Work, vectors_taken, vectors_given, vector_class, work_of, on_lanes, reaches}
use Rattle.wasm_operator_validator_fast_tables.specs.declared.tables.Tables.{Tables}
use Rattle.wasm_operator_validator_fast_tables.specs.Values.{types}
use Rattle.wasm_operator_validator_fast_objects.specs.declared.vector_shape.VectorClass.{VectorClass}
use Rattle.wasm_operator_validator_fast_objects.specs.Vectors.{proposal_of, MayRelax, IsVectorAt, IsVectorClass, IsLanesAt, IsLaneAt, IsReachAt, IsLaneReachAt}

-- ---- at an offset

-- one of any code begins there
pub vector_at : (text : List ℕ) (t : Tables) (i code n : ℕ) → Begins text i 0xfd → t.vectors ≡ true → GivesAt u32 text (i + 1) code n → MayRelax t.features.0 code
    → IsVectorAt text t i code n
vector_at text t i code n begins on g relaxed = record { begins = record { prefix_there = begins; code_there = g }; on = on; relaxed = relaxed }

-- a code of a class that was found
pub by_class : (l k : VectorClass) (code : ℕ) → IsVectorClass k code → k ≡ l → IsVectorClass l code
by_class l k code is same = subst (λ (m : VectorClass). IsVectorClass m code) same is

-- ---- by a code

-- an opcode by another name of its code
moved : (o : Opcode) (code n : ℕ) → code ≡ n → o ≡ prefixed 0xfd n → o ≡ prefixed 0xfd code
moved o code n is there = there ∙ ap (λ (k : ℕ). prefixed 0xfd k) (sym is)

pub numeric : {takes gives : List ℕ} {code n : ℕ} (o : SimdNumericOperator) → code ≡ n → opcode_of (op.SimdNumeric o) ≡ prefixed 0xfd n
    → (simd_numeric_info o).proposal ≡ proposal_of n → ((ids : List TypeTree) → types ids takes ≡ numbers (vectors_taken (vector_class o)))
    → ((ids : List TypeTree) → types ids gives ≡ numbers (vectors_given (vector_class o))) → IsLanesAt code takes gives
numeric o is there of taken given = record {
  operator = o;
  opcode = moved _ _ _ is there;
  asks = of ∙ ap (λ (k : ℕ). proposal_of k) (sym is);
  taken = taken;
  given = given;
}

pub of_lane : {takes gives : List ℕ} {code lanes n : ℕ} (o : ℕ → SimdOperator) (work : Work) → code ≡ n → ((l : ℕ) → opcode_of (op.Simd (o l)) ≡ prefixed 0xfd n)
    → ((l : ℕ) → (simd_info (o l)).proposal ≡ proposals.Simd) → ((l : ℕ) → simd_immediates (o l) ≡ Lane lanes l ∷ [])
    → ((l : ℕ) → work_of (o l) ≡ on_lanes work) → ((ids : List TypeTree) → types ids takes ≡ numbers (vectors_taken work))
    → ((ids : List TypeTree) → types ids gives ≡ numbers (vectors_given work)) → IsLaneAt code lanes takes gives
of_lane o work is there of carries works taken given = record {
  operator = o;
  opcode = λ l. moved _ _ _ is (there l);
  asks = of;
  carries = carries;
  work = work;
  works = works;
  taken = taken;
  given = given;
}

pub reaching : {kind : Access} {code natural n : ℕ} (o : MemArg → SimdOperator) → code ≡ n → ((a : MemArg) → opcode_of (op.Simd (o a)) ≡ prefixed 0xfd n)
    → ((a : MemArg) → (simd_info (o a)).proposal ≡ proposals.Simd) → ((a : MemArg) → simd_immediates (o a) ≡ MemoryArgument Plain natural a ∷ [])
    → ((a : MemArg) → work_of (o a) ≡ reaches (record { access = kind; argument = a })) → IsReachAt kind code natural
reaching o is there of carries works = record { operator = o; opcode = λ a. moved _ _ _ is (there a); asks = of; carries = carries; works = works }

pub reaching_lane : {kind : Access} {code natural lanes n : ℕ} (o : MemArg → ℕ → SimdOperator) → code ≡ n
    → ((a : MemArg) (l : ℕ) → opcode_of (op.Simd (o a l)) ≡ prefixed 0xfd n) → ((a : MemArg) (l : ℕ) → (simd_info (o a l)).proposal ≡ proposals.Simd)
    → ((a : MemArg) (l : ℕ) → simd_immediates (o a l) ≡ MemoryArgument Plain natural a ∷ Lane lanes l ∷ [])
    → ((a : MemArg) (l : ℕ) → work_of (o a l) ≡ reaches (record { access = kind; argument = a })) → IsLaneReachAt kind code natural lanes
reaching_lane o is there of carries works = record { operator = o; opcode = λ a l. moved _ _ _ is (there a l); asks = of; carries = carries; works = works }
