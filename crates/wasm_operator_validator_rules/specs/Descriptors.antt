-- Rows of operators on structs that have a descriptor, and on descriptors (the proposal on custom descriptors): a descriptor is a struct
-- that describes each struct that is made with it.
use Rattle.std.specs.Prelude.{◌≡◌, ℕ, Bool, true, false, IsTrue, List, [], ◌∷◌, ◌++◌, Option, Some, None, option_map}
use Rattle.wasm_types.specs.trees.Types.{ref, HeapOf, abstract, concrete, exact}
use Rattle.wasm_types.specs.trees.Trees.{TypeTree, opened}
use Rattle.wasm_types.specs.values.declared.heap.HeapType.{HeapType}
use Rattle.wasm_operators_enums.specs.declared.gc.DescriptorOperator.{DescriptorOperator}
use Rattle.wasm_operators_enums.specs.declared.gc.DescriptorOperator.TheVariants as descriptor
use Rattle.wasm_operator_validator_rules.specs.Operands.{ValueType, Operand}
use Rattle.wasm_operator_validator_rules.specs.Context.{Context}
use Rattle.wasm_operator_validator_rules.specs.Named.{used_type}
use Rattle.wasm_operator_validator_rules.specs.Aggregates.{Struct, struct_named, heap_named, top_heap, is_castable}
use Rattle.wasm_operator_validator_rules.specs.Places.{have_defaults, operands_for}
use Rattle.wasm_operator_validator_rules.specs.InstructionTypes.{allocated}
use Rattle.wasm_operator_validator_rules.specs.Taken.{Takes}
use Rattle.wasm_operator_validator_rules.specs.Objects.{IsCast, CarriesLast, difference}

-- a type, or exactly it
abbrev pub of_type : Bool → TypeTree → HeapOf TypeTree
of_type false t = concrete t
of_type true t = exact t

-- standard: proposal-custom-descriptors: what describes a heap type
-- what describes a type, exactly if the type is exact
abbrev pub descriptor_of : HeapOf TypeTree → Option (HeapOf TypeTree)
descriptor_of (abstract s a) = None
descriptor_of (concrete t) = option_map (λ d. concrete d) (opened t).descriptor
descriptor_of (exact t) = option_map (λ d. exact d) (opened t).descriptor

-- standard: part of DescriptorRow
-- a struct type that is described by another
pub record IsDescribed (g : Context) (x : ℕ) (s : Struct) (d : TypeTree) : Type 0 where
  pub struct : struct_named g x ≡ Some s
  pub descriptor : (opened s.type).descriptor ≡ Some d

-- standard: part of DescriptorRow
-- a type that is named, and what describes it
pub record IsDescribedHeap (g : Context) (h : HeapType) (k d : HeapOf TypeTree) : Type 0 where
  pub named : heap_named g h ≡ Some k
  pub castable : IsTrue (is_castable k)
  pub descriptor : descriptor_of k ≡ Some d

-- standard: part of DescriptorRow
-- a reference is cast by what describes it, on top; if it is of one type, the branch takes it, else it stays with the other
abbrev pub BranchesBy : Context → ℕ → ValueType → HeapOf TypeTree → ValueType → ValueType → List Operand → List Operand → Type 0
BranchesBy g l cast by taken left popped pushed =
    (ts : List ValueType) × CarriesLast g l ts taken × Takes (ts ++ cast ∷ ref true by ∷ []) (ts ++ left ∷ []) popped pushed

-- standard: proposal-custom-descriptors: struct.new_desc, struct.new_default_desc, ref.get_desc
-- standard: proposal-custom-descriptors: ref.cast_desc_eq, br_on_cast_desc_eq, br_on_cast_desc_eq_fail
-- What is free: whether the operand of `ref.get_desc` is exactly of its type, and then so is what describes it. Elsewhere the type that
-- is named decides that alone.
abbrev pub DescriptorRow : Context → DescriptorOperator → List Operand → List Operand → Type 0
DescriptorRow g (descriptor.StructNewDesc x) popped pushed = (s : Struct) × (d : TypeTree) × IsDescribed g x s d
    × Takes (operands_for s.fields ++ ref true (exact d) ∷ []) (allocated g s.type ∷ []) popped pushed
DescriptorRow g (descriptor.StructNewDefaultDesc x) popped pushed = (s : Struct) × (d : TypeTree) × IsDescribed g x s d × IsTrue (have_defaults s.fields)
    × Takes (ref true (exact d) ∷ []) (allocated g s.type ∷ []) popped pushed
DescriptorRow g (descriptor.RefGetDesc x) popped pushed = (t d : TypeTree) × (e : Bool) × (used_type g x ≡ Some t) × ((opened t).descriptor ≡ Some d)
    × Takes (ref true (of_type e t) ∷ []) (ref false (of_type e d) ∷ []) popped pushed
DescriptorRow g (descriptor.RefCastDescEqNonNull h) popped pushed = (k d : HeapOf TypeTree) × IsDescribedHeap g h k d
    × Takes (ref true (top_heap k) ∷ ref true d ∷ []) (ref false k ∷ []) popped pushed
DescriptorRow g (descriptor.RefCastDescEqNullable h) popped pushed = (k d : HeapOf TypeTree) × IsDescribedHeap g h k d
    × Takes (ref true (top_heap k) ∷ ref true d ∷ []) (ref true k ∷ []) popped pushed
DescriptorRow g (descriptor.BrOnCastDescEq l from to) popped pushed = (h k d : HeapOf TypeTree) × IsCast g from to h k × (descriptor_of k ≡ Some d)
    × BranchesBy g l (ref from.nullable h) d (ref to.nullable k) (difference from to h) popped pushed
DescriptorRow g (descriptor.BrOnCastDescEqFail l from to) popped pushed = (h k d : HeapOf TypeTree) × IsCast g from to h k × (descriptor_of k ≡ Some d)
    × BranchesBy g l (ref from.nullable h) d (difference from to h) (ref to.nullable k) popped pushed
