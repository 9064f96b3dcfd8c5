-- Worked operators on vectors: they are read, and refused where a visitor has no visit of them. Frequent operators that are told straight
-- from their bytes, and what an iterator of operators gives.
use Rattle.std.specs.Prelude.{◌≡◌, ℕ, List, [], ◌∷◌, codes, Bool, true, false, Option, Some, None, Result, Ok, Err}
use Rattle.wasm_types.specs.decoding.declared.error.ErrorKind.TheVariants.{Other}
use Rattle.wasm_types.specs.decoding.ErrorValue.{ErrorValue}
use Rattle.wasm_types.specs.settings.Settings.{no_features}
use Rattle.wasm_operators_immediates.specs.declared.frames.FrameKind.TheVariants.{Block}
use Rattle.wasm_operators_enums.specs.Op as op
use Rattle.wasm_operators_enums.specs.Op.{Drop, Select}
use Rattle.wasm_operators_enums.specs.declared.memory.MemoryOperator.TheVariants as memory
use Rattle.wasm_operators_enums.specs.declared.vector.SimdOperator.TheVariants as simd
use Rattle.wasm_operators_frequent.specs.Short.{IsTold}
use Rattle.wasm_operators_reader.specs.Iterating.{NextOf}
use Rattle.wasm_operators_encoding.specs.immediates.Bytes.{vector_of}
use Rattle.wasm_operators_reader.specs.Standing.{Standing, Reads}
use Rattle.wasm_operators_reader.specs.Visiting.{RefusesVector}

-- sixteen zero bytes, and the constant of them
abbrev pub zeros : List ℕ
zeros = 0 ∷ 0 ∷ 0 ∷ 0 ∷ 0 ∷ 0 ∷ 0 ∷ 0 ∷ 0 ∷ 0 ∷ 0 ∷ 0 ∷ 0 ∷ 0 ∷ 0 ∷ 0 ∷ []

abbrev pub constant : op.Op
constant = op.Simd (simd.V128Const (vector_of zeros))

-- in the frame of an expression, behind n bytes, with these left
abbrev pub behind : ℕ → List ℕ → Standing
behind n rest = record { bytes = record { rest = rest; place = n; settings = no_features; start = 0 }; frames = Block ∷ [] }

-- before `v128.const 0`, `drop`, `end`
abbrev pub before_constant : Standing
before_constant = behind 0 (0xfd ∷ 0x0c ∷ 0 ∷ 0 ∷ 0 ∷ 0 ∷ 0 ∷ 0 ∷ 0 ∷ 0 ∷ 0 ∷ 0 ∷ 0 ∷ 0 ∷ 0 ∷ 0 ∷ 0 ∷ 0 ∷ 0x1a ∷ 0x0b ∷ [])

-- an error at this offset
abbrev pub refused_at : ℕ → ErrorValue
refused_at n = record { kind = Other; offset = n; message = codes "unexpected" }

pub record VectorRows : Type 0 where
  pub is_read : Reads before_constant constant (behind 18 (0x1a ∷ 0x0b ∷ []))
  pub is_refused : RefusesVector before_constant (refused_at 0)
  pub not_elsewhere : RefusesVector before_constant (refused_at 1) → ⊥

-- ---- frequent operators

-- `local.get 5`, `end`
abbrev pub get_five : List ℕ
get_five = 0x20 ∷ 0x05 ∷ 0x0b ∷ []

-- `select`, `end`
abbrev pub choice : List ℕ
choice = 0x1b ∷ 0x0b ∷ []

-- A visitor is told of the operator that its bytes spell: not of one whose opcode or index is next to its own, and up to its last byte
-- alone.
pub record TellingRows : Type 0 where
  pub local : IsTold 0 get_five 0 2 (λ o. o ≡ op.Memory (memory.LocalGet 5))
  pub not_its_neighbour : IsTold 0 get_five 0 2 (λ o. o ≡ op.Memory (memory.LocalSet 5)) → ⊥
  pub not_another_local : IsTold 0 get_five 0 2 (λ o. o ≡ op.Memory (memory.LocalGet 4)) → ⊥
  pub not_a_byte_further : IsTold 0 get_five 0 3 (λ o. o ≡ op.Memory (memory.LocalGet 5)) → ⊥
  pub selected : IsTold 0 choice 0 1 (λ o. o ≡ op.Parametric Select)
  pub not_dropped : IsTold 0 choice 0 1 (λ o. o ≡ op.Parametric Drop) → ⊥

-- ---- iterators

-- what is next of an iterator of operators, in this standing, which has failed or not, and where it stands then
abbrev pub next : Standing → Bool → Option (Result op.Op ErrorValue) → Standing → Bool → Type 0
next = NextOf (λ s o t. Reads s o t)

-- Behind an error nothing comes, neither an operator nor another error; an error is the last. With bytes left and no error something comes.
pub record IteratorRows : Type 0 where
  pub behind_an_error : (s : Standing) → next s true None s true
  pub no_operator_behind_it : (s t : Standing) (o : op.Op) (failed : Bool) → next s true (Some (Ok o)) t failed → ⊥
  pub no_error_behind_it : (s t : Standing) (e : ErrorValue) (failed : Bool) → next s true (Some (Err e)) t failed → ⊥
  pub an_error_is_last : (s t : Standing) (e : ErrorValue) → next s false (Some (Err e)) t false → ⊥
  pub an_error_moves_nothing : (s t : Standing) (e : ErrorValue) → next s false (Some (Err e)) t true → t ≡ s
  pub at_the_end : next (behind 1 []) false None (behind 1 []) false
  pub not_before_the_end : next (behind 0 (0x0b ∷ [])) false None (behind 0 (0x0b ∷ [])) false → ⊥
