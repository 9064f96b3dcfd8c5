-- Rows of operators on structs, arrays and references that the table of instruction types does not have (WebAssembly 3.0, validation,
-- aggregate and reference instructions).
use Rattle.std.specs.Prelude.{◌≡◌, ℕ, Bool, true, false, IsTrue, List, [], ◌∷◌, ◌++◌, Some, slice_get}
use Rattle.wasm_types.specs.trees.Types.{eq, any, extern, i31, array, ref, HeapOf, abstract, value}
use Rattle.wasm_types.specs.trees.Trees.{TypeTree}
use Rattle.wasm_types.specs.trees.Below.{Below}
use Rattle.wasm_types.specs.trees.Matches.{StorageMatches}
use Rattle.wasm_types.specs.values.Reference.{Reference}
use Rattle.wasm_operators_enums.specs.declared.gc.GcOperator.{GcOperator}
use Rattle.wasm_operators_enums.specs.declared.gc.GcOperator.TheVariants as gc
use Rattle.wasm_operators_enums.specs.Op as op
use Rattle.wasm_operator_validator_rules.specs.Operands.{ValueType, Operand}
use Rattle.wasm_operator_validator_rules.specs.Context.{Context}
use Rattle.wasm_operator_validator_rules.specs.Aggregates.{Array, array_named, heap_named, is_castable}
use Rattle.wasm_operator_validator_rules.specs.InstructionTypes.{i32_type, reference_to, allocated}
use Rattle.wasm_operator_validator_rules.specs.Taken.{Takes, TableRow, IsLabel}

-- ---- arrays and element segments

-- standard: valid-instr-aggr: array.new_elem, array.init_elem: the segment's type
-- an element segment has what may stand in the array
abbrev pub MayHold : Context → Array → ℕ → Type 0
MayHold g a e = (s t : ValueType) × (slice_get g.«module».elements e ≡ Some s) × (a.element.storage ≡ value t) × Below s t

-- ---- branches on casts (validation, control instructions)

-- standard: valid-instr-control: br_on_cast, br_on_cast_fail: the two types (differs: whatever the features are)
-- A cast from one type to another, below it; which features are on does not matter. Neither is of continuations (the proposal on
-- stack switching).
pub record IsCast (g : Context) (from to : Reference) (h k : HeapOf TypeTree) : Type 0 where
  pub from_named : heap_named g from.heap ≡ Some h
  pub to_named : heap_named g to.heap ≡ Some k
  pub from_castable : IsTrue (is_castable h)
  pub to_castable : IsTrue (is_castable k)
  pub below : Below (ref to.nullable k) (ref from.nullable h)

-- standard: aux-reftypediff: difference, its null
-- what a value may be that is of the first type and not of the second: no null, if the second has it (validation, conventions)
abbrev pub null_left : Bool → Bool → Bool
null_left n true = false
null_left n false = n

-- standard: aux-reftypediff: difference
abbrev pub difference : Reference → Reference → HeapOf TypeTree → ValueType
difference from to h = ref (null_left from.nullable to.nullable) h

-- standard: part of GcRow
-- a label that takes a value of this type on top of others
abbrev pub CarriesLast : Context → ℕ → List ValueType → ValueType → Type 0
CarriesLast g l ts t = (u : ValueType) × IsLabel g l (ts ++ u ∷ []) × Below t u

-- standard: part of GcRow
-- a reference is cast; if it is of one type, the branch takes it, else it stays with the other
abbrev pub Branches : Context → ℕ → ValueType → ValueType → ValueType → List Operand → List Operand → Type 0
Branches g l cast taken left popped pushed =
    (ts : List ValueType) × CarriesLast g l ts taken × Takes (ts ++ cast ∷ []) (ts ++ left ∷ []) popped pushed

-- ---- the rows

-- standard: valid-instr-ref: ref.eq (differs: of two shared references too)
-- standard: valid-instr-aggr: array.new_elem, array.len, array.copy, array.init_elem (differs: shared arrays too)
-- standard: valid-instr-control: br_on_cast, br_on_cast_fail
-- standard: valid-instr-aggr: any.convert_extern, extern.convert_any, i31.get_s, i31.get_u (differs: shared references too)
-- What is free: whether references are shared, and whether a converted one may be null.
abbrev pub GcRow : Context → GcOperator → List Operand → List Operand → Type 0
GcRow g gc.RefEq popped pushed = (s : Bool) × Takes (ref true (abstract s eq) ∷ ref true (abstract s eq) ∷ []) (i32_type ∷ []) popped pushed
GcRow g (gc.ArrayNewElem x e) popped pushed =
    (a : Array) × (array_named g x ≡ Some a) × MayHold g a e × Takes (i32_type ∷ i32_type ∷ []) (allocated g a.type ∷ []) popped pushed
GcRow g gc.ArrayLen popped pushed = (s : Bool) × Takes (ref true (abstract s array) ∷ []) (i32_type ∷ []) popped pushed
GcRow g (gc.ArrayCopy x y) popped pushed =
    (a b : Array) × (array_named g x ≡ Some a) × (array_named g y ≡ Some b) × IsTrue a.element.mutable
    × StorageMatches b.element.storage a.element.storage
    × Takes (reference_to a.type ∷ i32_type ∷ reference_to b.type ∷ i32_type ∷ i32_type ∷ []) [] popped pushed
GcRow g (gc.ArrayInitElem x e) popped pushed =
    (a : Array) × (array_named g x ≡ Some a) × IsTrue a.element.mutable × MayHold g a e
    × Takes (reference_to a.type ∷ i32_type ∷ i32_type ∷ i32_type ∷ []) [] popped pushed
GcRow g (gc.BrOnCast l from to) popped pushed = (h k : HeapOf TypeTree) × IsCast g from to h k
    × Branches g l (ref from.nullable h) (ref to.nullable k) (difference from to h) popped pushed
GcRow g (gc.BrOnCastFail l from to) popped pushed = (h k : HeapOf TypeTree) × IsCast g from to h k
    × Branches g l (ref from.nullable h) (difference from to h) (ref to.nullable k) popped pushed
GcRow g gc.AnyConvertExtern popped pushed = (n s : Bool)
    × Takes (ref n (abstract s extern) ∷ []) (ref n (abstract s any) ∷ []) popped pushed
GcRow g gc.ExternConvertAny popped pushed = (n s : Bool)
    × Takes (ref n (abstract s any) ∷ []) (ref n (abstract s extern) ∷ []) popped pushed
GcRow g gc.I31GetS popped pushed = (s : Bool) × Takes (ref true (abstract s i31) ∷ []) (i32_type ∷ []) popped pushed
GcRow g gc.I31GetU popped pushed = (s : Bool) × Takes (ref true (abstract s i31) ∷ []) (i32_type ∷ []) popped pushed
GcRow g o popped pushed = TableRow g (op.Gc o) popped pushed
