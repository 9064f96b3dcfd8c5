-- Rows of casts by what describes a struct, as their checks find them (the proposal on custom descriptors).
use Rattle.std.specs.Prelude.{◌≡◌, ◌↔◌, ℕ, Bool, true, List, [], ◌∷◌, Some}
use Rattle.wasm_types.specs.trees.Types.{HeapOf, ref}
use Rattle.wasm_types.specs.trees.Trees.{TypeTree}
use Rattle.wasm_types.specs.values.declared.heap.HeapType.{HeapType}
use Rattle.wasm_types.specs.values.declared.value.ValType.{ValType}
use Rattle.wasm_types.specs.values.Reference.{Reference}
use Rattle.wasm_operators_enums.specs.declared.gc.DescriptorOperator.{DescriptorOperator}
use Rattle.wasm_operator_validator_rules.specs.Operands.{Operand}
use Rattle.wasm_operator_validator_rules.specs.Context.{Context}
use Rattle.wasm_operator_validator_rules.specs.Aggregates.{top_heap}
use Rattle.wasm_operator_validator_rules.specs.Taken.{Takes}
use Rattle.wasm_operator_validator_rules.specs.Objects.{IsCast, difference}
use Rattle.wasm_operator_validator_rules.specs.Descriptors.{descriptor_of, IsDescribedHeap, BranchesBy, DescriptorRow}
use Rattle.wasm_operator_validator_resources.specs.Meaning.{Meaning, heap_in, type_in}
use Rattle.wasm_operator_validator_objects.specs.Rows.{taken_by, left_by}

-- a reference to what describes a type, that may be null
abbrev pub DescribesBy : Meaning → HeapType → ValType → Type 0
DescribesBy m h t = (d : HeapOf TypeTree) × (descriptor_of (heap_in m h) ≡ Some d) × (type_in m t ≡ ref true d)

-- it casts a reference by what describes the type
abbrev pub CastsBy : DescriptorOperator → HeapType → Bool → Type 0
CastsBy o h n = (g : Context) (popped pushed : List Operand) → DescriptorRow g o popped pushed
    ↔ (k d : HeapOf TypeTree) × IsDescribedHeap g h k d × Takes (ref true (top_heap k) ∷ ref true d ∷ []) (ref n k ∷ []) popped pushed

-- it branches on such a cast, or on one that fails
abbrev pub BranchesOnCastBy : DescriptorOperator → ℕ → Reference → Reference → Bool → Type 0
BranchesOnCastBy o l from to fails = (g : Context) (popped pushed : List Operand) → DescriptorRow g o popped pushed
    ↔ (h k d : HeapOf TypeTree) × IsCast g from to h k × (descriptor_of k ≡ Some d)
    × BranchesBy g l (ref from.nullable h) d (taken_by fails (ref to.nullable k) (difference from to h)) (left_by fails (ref to.nullable k) (difference from to h)) popped pushed
