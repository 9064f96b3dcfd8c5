-- Operators on integers, as a compiler may compute them (WebAssembly 3.0, execution, numeric instructions): each gives the value of its
-- function, so of constants too, and traps exactly if there is none.
use Rattle.std.specs.Prelude.{◌≡◌, ◌⊎◌, ◌↔◌, ℕ, ℤ, suc, ◌-◌, ◌<◌, ◌^◌, List, [], ◌∷◌, length, drop, get_or, Option, Some, None}
use Rattle.wasm_types.specs.trees.Types.{Number, i32, i64}
use Rattle.wasm_operators_enums.specs.declared.constant.ConstOperator.TheVariants as const
use Rattle.wasm_operators_enums.specs.declared.numeric.NumericOperator.{NumericOperator}
use Rattle.wasm_operators_enums.specs.Op as op
use Rattle.wasm_operators_enums.specs.Op.{Op}
use Rattle.wasm_operators_encoding.specs.expressions.Code.{Code, plain}
use Rattle.wasm_operator_validator_soundness.specs.runs.Values.{Program, Value, number_value}
use Rattle.wasm_operator_validator_soundness.specs.runs.States.{Activation, State, Answer, Outcome, next, trapped}
use Rattle.wasm_operator_validator_soundness.specs.runs.Soundness.{step}
use Rattle.wasm_operator_validator_store.specs.Stores.{Store, width, nothing, bits_of, integer_bits}
use Rattle.wasm_operator_validator_store.specs.Integers.{signed, idiv_u, idiv_s, irem_u, irem_s, Operation, integer_operation}
use Rattle.wasm_operator_validator_store.specs.Giving.{GivesStep}
use Rattle.wasm_operator_validator_store.specs.Soundness.{StoreRuns}

-- an activation with these values and these instructions
abbrev pub standing_at : Activation → List Value → Code → Activation
standing_at act vs c = record act { innermost = record act.innermost { values = vs; code = c } }

-- a constant of a type of integers; and as many as an operator takes, x before y, or y alone
abbrev pub constant : Number → ℤ → Op
constant i64 x = op.Const (const.I64Const x)
constant t x = op.Const (const.I32Const x)

abbrev pub constants : List Number → ℤ → ℤ → Code → Code
constants [] x y c = c
constants (t ∷ []) x y c = plain (constant t y) c
constants (t ∷ u ∷ ts) x y c = plain (constant t x) (plain (constant u y) c)

module _ (p : Program) (act : Activation) (acts : List Activation) (s : Store) (o : NumericOperator) (r : Operation)
    (more : Code) where
  -- it goes on with this above these values, or has trapped
  abbrev pub comes_to : List Value → Option ℕ → Outcome
  comes_to vs None = trapped
  comes_to vs (Some b) = next (standing_at act (number_value r.gives b ∷ vs) more ∷ acts)

  -- ---- a step

  abbrev pub bits_at : ℕ → ℕ
  bits_at n = bits_of (get_or act.innermost.values n nothing)

  abbrev pub IsComputed : Type 0
  IsComputed = (a : Answer) (u : Store) → act.innermost.code ≡ plain (op.Numeric o) more → integer_operation o ≡ Some r
      → GivesStep p (act ∷ acts) s a u
      → ((step p (act ∷ acts) a).outcome
      ≡ comes_to (drop (length r.takes) act.innermost.values) (r.value (bits_at 1) (bits_at 0))) × (u ≡ s)

  -- ---- constants

  abbrev pub value_of : ℤ → ℤ → Option ℕ
  value_of x y = let n = width (get_or r.takes 0 i32) in r.value (integer_bits n x) (integer_bits n y)

  -- this code in the place of what comes next
  abbrev pub starts : Code → State
  starts c = standing_at act act.innermost.values c ∷ acts

  -- Constants and the operator above them come to what any one constant with the bits of the value comes to, and there is such a constant;
  -- or, if the function has no value, the operator traps.
  pub record FoldsTo (x y : ℤ) (b : ℕ) : Type 0 where
    pub computed : (answers : List Answer) (u : Store) (z : State)
        → StoreRuns p s (starts (constants r.takes x y (plain (op.Numeric o) more))) answers u z
        → length answers ≡ suc (length r.takes) → (next z ≡ comes_to act.innermost.values (Some b)) × (u ≡ s)
    pub folded : (c : ℤ) (answers : List Answer) (u : Store) (z : State) → integer_bits (width r.gives) c ≡ b
        → StoreRuns p s (starts (plain (constant r.gives c) more)) answers u z
        → length answers ≡ 1 → (next z ≡ comes_to act.innermost.values (Some b)) × (u ≡ s)
    pub there : integer_bits (width r.gives) (signed (width r.gives) b) ≡ b

  abbrev pub Falls : ℤ → ℤ → Type 0
  Falls x y = (answers : List Answer) (u w : Store) (z : State) (a : Answer)
      → StoreRuns p s (starts (constants r.takes x y (plain (op.Numeric o) more))) answers u z
      → length answers ≡ length r.takes → GivesStep p z u a w → ((step p z a).outcome ≡ trapped) × (w ≡ s)

  abbrev pub IsFolded : Type 0
  IsFolded = (x y : ℤ) → integer_operation o ≡ Some r
      → ((b : ℕ) → value_of x y ≡ Some b → FoldsTo x y b) × (value_of x y ≡ None → Falls x y)

abbrev pub IntegersAreComputed : Type 0
IntegersAreComputed = (p : Program) (act : Activation) (acts : List Activation) (s : Store) (o : NumericOperator)
    (r : Operation) (more : Code) → IsComputed p act acts s o r more

abbrev pub ConstantsFold : Type 0
ConstantsFold = (p : Program) (act : Activation) (acts : List Activation) (s : Store) (o : NumericOperator)
    (r : Operation) (more : Code) → IsFolded p act acts s o r more

-- ---- division

-- With a sign it has no value by zero, nor of the least number by -1; without one, and what it leaves, by zero alone.
abbrev pub DivisionIsExact : ℕ → Type 0
DivisionIsExact n = (a b : ℕ) → a < 2 ^ n → b < 2 ^ n
    → (idiv_s n a b ≡ None) ↔ ((b ≡ 0) ⊎ ((a ≡ 2 ^ (n - 1)) × (b ≡ 2 ^ n - 1)))

abbrev pub OnlyByZero : (ℕ → ℕ → ℕ → Option ℕ) → Type 0
OnlyByZero f = (n a b : ℕ) → (f n a b ≡ None) ↔ (b ≡ 0)

pub record DivisionsAreExact : Type 0 where
  pub narrow : DivisionIsExact 32
  pub wide : DivisionIsExact 64
  pub unsigned : OnlyByZero idiv_u
  pub rest : OnlyByZero irem_s
  pub unsigned_rest : OnlyByZero irem_u
