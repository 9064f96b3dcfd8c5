-- Rows of operators on structs, arrays and references, as their checks find them (WebAssembly 3.0, validation, aggregate and reference
-- instructions).
use Rattle.std.specs.Prelude.{◌≡◌, ◌↔◌, ℕ, Bool, true, false, List, [], ◌∷◌, Option}
use Rattle.wasm_types.specs.trees.Types.{HeapOf, ref, abstract}
use Rattle.wasm_types.specs.trees.Trees.{TypeTree}
use Rattle.wasm_types.specs.values.declared.heap.AbstractHeapType.{AbstractHeapType}
use Rattle.wasm_types.specs.values.declared.heap.HeapType.{HeapType}
use Rattle.wasm_types.specs.values.Reference.{Reference}
use Rattle.wasm_types.specs.values.Trees.{abstract_of}
use Rattle.wasm_operators_enums.specs.declared.gc.GcOperator.{GcOperator}
use Rattle.wasm_operators_enums.specs.Op as op
use Rattle.wasm_operator_validator_rules.specs.Operands.{ValueType, Operand}
use Rattle.wasm_operator_validator_rules.specs.Context.{Context}
use Rattle.wasm_operator_validator_rules.specs.Places.{Place, field_place, element_place}
use Rattle.wasm_operator_validator_rules.specs.InstructionTypes.{InstructionType, named, read, read_packed, cast_at, i32_type, gc_type_of}
use Rattle.wasm_operator_validator_rules.specs.Taken.{Takes, TableRow}
use Rattle.wasm_operator_validator_rules.specs.Objects.{GcRow, IsCast, Branches, difference}
use Rattle.wasm_operator_validator_resources.specs.Meaning.{Meaning}
use Rattle.wasm_operator_validator_state.specs.State.{State, context}

-- the context of a state
abbrev pub here : Meaning → State → Context
here m σ = context m σ.given σ.opens

-- the operator has exactly the row of these types
abbrev pub IsRow : Meaning → State → GcOperator → List ValueType → List ValueType → Type 0
IsRow m σ o ts us = (popped pushed : List Operand) → GcRow (here m σ) o popped pushed ↔ Takes ts us popped pushed

-- it has no row
abbrev pub HasNoRow : Meaning → State → GcOperator → Type 0
HasNoRow m σ o = (popped pushed : List Operand) → GcRow (here m σ) o popped pushed → ⊥

-- its row is that of the table of instruction types, which has this for it
pub record IsTyped (o : GcOperator) (f : Context → Option InstructionType) : Type 0 where
  pub row : (g : Context) (popped pushed : List Operand) → GcRow g o popped pushed ↔ TableRow g (op.Gc o) popped pushed
  pub type : (g : Context) → gc_type_of g o ≡ f g

-- what is stored in a place is read, extended if it is packed
abbrev pub reading : Bool → Place → Option InstructionType
reading true = read_packed
reading false = read

-- it reads a field, and an element
abbrev pub ReadsField : GcOperator → ℕ → ℕ → Bool → Type 0
ReadsField o x i packed = IsTyped o (λ g. named (field_place g x i) (reading packed))

abbrev pub ReadsElement : GcOperator → ℕ → Bool → Type 0
ReadsElement o x packed = IsTyped o (λ g. named (element_place g x) (reading packed))

-- it tests a reference, and casts it
abbrev pub TestsReference : GcOperator → HeapType → Type 0
TestsReference o h = IsTyped o (λ g. cast_at g h (λ k. i32_type))

abbrev pub CastsReference : GcOperator → HeapType → Bool → Type 0
CastsReference o h n = IsTyped o (λ g. cast_at g h (λ k. ref n k))

-- ---- rows of their own

-- a reference to an abstract type, shared or not, that may be null
abbrev pub nullable_to : AbstractHeapType → Bool → ValueType
nullable_to kind s = ref true (abstract s (abstract_of kind))

-- it takes such a reference, in either sharedness, and gives a number
abbrev pub TakesEither : GcOperator → AbstractHeapType → Type 0
TakesEither o kind = (g : Context) (popped pushed : List Operand) → GcRow g o popped pushed ↔ (s : Bool) × Takes (nullable_to kind s ∷ []) (i32_type ∷ []) popped pushed

-- it converts a reference to the first type into one to the second, in either sharedness and nullability
abbrev pub Converts : GcOperator → AbstractHeapType → AbstractHeapType → Type 0
Converts o from to = (g : Context) (popped pushed : List Operand) → GcRow g o popped pushed
    ↔ (n s : Bool) × Takes (ref n (abstract s (abstract_of from)) ∷ []) (ref n (abstract s (abstract_of to)) ∷ []) popped pushed

-- what a branch on a cast takes to its label, and what it leaves; one on a cast that fails takes what the other leaves
abbrev pub taken_by : Bool → ValueType → ValueType → ValueType
taken_by true cast other = other
taken_by false cast other = cast

abbrev pub left_by : Bool → ValueType → ValueType → ValueType
left_by true cast other = cast
left_by false cast other = other

-- it branches on a cast, or on one that fails
abbrev pub IsCastBranch : GcOperator → ℕ → Reference → Reference → Bool → Type 0
IsCastBranch o l from to fails = (g : Context) (popped pushed : List Operand) → GcRow g o popped pushed
    ↔ (h k : HeapOf TypeTree) × IsCast g from to h k × Branches g l (ref from.nullable h) (taken_by fails (ref to.nullable k) (difference from to h)) (left_by fails (ref to.nullable k) (difference from to h)) popped pushed
