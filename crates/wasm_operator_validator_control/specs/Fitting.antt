-- How operands fit several labels (WebAssembly 3.0, validation, control instructions).
use Rattle.std.specs.Prelude.{◌≡◌, ◌<◌, ℕ, Bool, false, List, [], ◌∷◌, ◌++◌, Option, Some, None, Result, Ok, Err, map, length, reverse, slice_get}
use Rattle.wasm_types.specs.trees.Types.{ref, abstract}
use Rattle.wasm_types.specs.values.declared.heap.AbstractHeapType.{AbstractHeapType}
use Rattle.wasm_types.specs.values.Trees.{abstract_of}
use Rattle.wasm_operator_validator_rules.specs.Operands.{ValueType, Operand, known, OperandBelow, AllBelow, all_known, stack}
use Rattle.wasm_operator_validator_state.specs.resources.Meaning.{Meaning}
use Rattle.wasm_operator_validator_state.specs.declared.operand.MaybeType.{MaybeType}
use Rattle.wasm_operator_validator_state.specs.declared.operand.MaybeType.TheVariants as maybe
use Rattle.wasm_operator_validator_state.specs.declared.refusal.Refusal.{Refusal}
use Rattle.wasm_operator_validator_state.specs.State.{State, label}
use Rattle.wasm_operator_validator_state.specs.Steps.{Stacks, MayPop}
use Rattle.wasm_operator_validator_stacks.specs.Peeking.{operand_at}

-- what a branch to each open frame takes
abbrev pub labels_of : Meaning → State → List (List ValueType)
labels_of m σ = map (label m) σ.opens

-- the operands may be taken for what each of these labels takes
abbrev pub EachBelow : List (List ValueType) → List Operand → List ℕ → Type 0
EachBelow ls s [] = Unit {0}
EachBelow ls s (l ∷ more) = ((ts : List ValueType) × (slice_get ls l ≡ Some ts) × AllBelow s (all_known ts)) × EachBelow ls s more

-- operands are there that may be taken for what each of these labels takes
abbrev pub MayBranch : Meaning → State → List ℕ → Type 0
MayBranch m σ labels = (s rest : List Operand) × EachBelow (labels_of m σ) s labels × Stacks m σ (reverse s ++ rest)

-- ---- one label after the other

-- a label takes so many operands, and operands are there for it
abbrev pub Suits : Meaning → State → ℕ → ℕ → Type 0
Suits m σ n l = (ts : List ValueType) × (slice_get (labels_of m σ) l ≡ Some ts) × (length ts ≡ n) × MayPop m σ (stack ts)

abbrev pub EachSuits : Meaning → State → ℕ → List ℕ → Type 0
EachSuits m σ n [] = Unit {0}
EachSuits m σ n (l ∷ more) = Suits m σ n l × EachSuits m σ n more

-- ---- one place after the other, from the top

-- an operand may be taken for what a label takes in a place
abbrev pub FitsAt : List (List ValueType) → ℕ → Operand → ℕ → Type 0
FitsAt ls i t l = (ts : List ValueType) × (u : Operand) × (slice_get ls l ≡ Some ts) × (slice_get (stack ts) i ≡ Some u) × OperandBelow t u

abbrev pub EachFitsAt : List (List ValueType) → ℕ → Operand → List ℕ → Type 0
EachFitsAt ls i t [] = Unit {0}
EachFitsAt ls i t (l ∷ more) = FitsAt ls i t l × EachFitsAt ls i t more

-- a reference to an abstract type that is not null
abbrev pub a_reference : Bool → AbstractHeapType → Operand
a_reference s a = known (ref false (abstract s (abstract_of a)))

-- the abstract type of a reference of which it is not known whether it is shared
abbrev pub either_shared : Option MaybeType → Option AbstractHeapType
either_shared None = None
either_shared (Some maybe.Bottom) = None
either_shared (Some (maybe.UnknownRef a)) = a
either_shared (Some (maybe.Known v)) = None

-- such a reference, shared or not, fits all these labels in a place
abbrev pub SharesOne : List (List ValueType) → ℕ → Option AbstractHeapType → List ℕ → Type 0
SharesOne ls i None labels = Unit {0}
SharesOne ls i (Some a) labels = (s : Bool) × EachFitsAt ls i (a_reference s a) labels

abbrev pub AgreesAt : Meaning → State → ℕ → List ℕ → Type 0
AgreesAt m σ i labels = SharesOne (labels_of m σ) i (either_shared (operand_at σ.opens i)) labels

-- and in each of the first so many places
abbrev pub AllAgree : Meaning → State → ℕ → List ℕ → Type 0
AllAgree m σ n labels = (i : ℕ) → i < n → AgreesAt m σ i labels

-- the answer is yes exactly where this holds
abbrev pub Answers : {X : Type 0} → Result X Refusal → Type 0 → Type 0
Answers (Ok x) P = P
Answers (Err r) P = P → ⊥
