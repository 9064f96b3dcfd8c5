-- Rows of operators on descriptors that hold, and rows that do not.
use Rattle.std.specs.Prelude.{true, false, List, [], ◌∷◌, Some, None}
use Rattle.wasm_types.specs.trees.declared.index.UnpackedIndex.TheVariants as index
use Rattle.wasm_types.specs.trees.Types.{any, ref, abstract, exact, EntryOf, struct_of}
use Rattle.wasm_types.specs.trees.Trees.{RefTree, local, GroupTree, TypeTree, group_tree}
use Rattle.wasm_types.specs.trees.worked.Types.{variable}
use Rattle.wasm_types.specs.values.declared.heap.AbstractHeapType.TheVariants as kind
use Rattle.wasm_types.specs.values.declared.heap.HeapType.TheVariants as heap
use Rattle.wasm_types.specs.values.Reference.{Reference}
use Rattle.wasm_operators_enums.specs.declared.gc.DescriptorOperator.TheVariants as descriptor
use Rattle.wasm_operator_validator_rules.specs.Operands.{ValueType, Operand, known}
use Rattle.wasm_operator_validator_rules.specs.Context.{Module, Context}
use Rattle.wasm_operator_validator_rules.specs.Descriptors.{DescriptorRow}
use Rattle.wasm_operator_validator_rules.specs.worked.References.{null_to, to, cell, HasNo}
use Rattle.wasm_operator_validator_rules.specs.worked.Objects.{with_objects, here, plainly, empty_entry, described, describing, started}
use Rattle.wasm_operator_validator_rules.specs.worked.ObjectRows.{to_abstract, concretely}

-- ---- types and contexts

-- a struct of a reference that is never null, and its descriptor
abbrev pub joined_full : GroupTree
joined_full = group_tree
    (record empty_entry { descriptor = Some (local 1); inner = struct_of (variable (ref false (abstract false any)) ∷ []) }
    ∷ record empty_entry { describes = Some (local 0) } ∷ [])

abbrev pub full : TypeTree
full = record { group = joined_full; place = 0 }

abbrev pub describing_full : TypeTree
describing_full = record { group = joined_full; place = 1 }

-- a shared struct and its descriptor
abbrev pub joined_shared : GroupTree
joined_shared = group_tree
    (record empty_entry { shared = true; descriptor = Some (local 1) } ∷ record empty_entry { shared = true; describes = Some (local 0) } ∷ [])

abbrev pub described_shared : TypeTree
described_shared = record { group = joined_shared; place = 0 }

abbrev pub describing_shared : TypeTree
describing_shared = record { group = joined_shared; place = 1 }

-- a module with these types: a struct and its descriptor, a struct alone, the others above, and a continuation
abbrev pub with_descriptors : Module
with_descriptors = record with_objects {
  types = described ∷ describing ∷ cell ∷ full ∷ describing_full ∷ described_shared ∷ describing_shared ∷ started ∷ [];
}

abbrev pub there : Context
there = record here { «module» = with_descriptors }

-- within frames to which a branch takes these; in a shared function
abbrev pub below : List ValueType → Context
below ts = record there { labels = ts ∷ [] }

abbrev pub there_shared : Context
there_shared = record there { shared = true }

abbrev pub exactly : TypeTree → Operand
exactly t = known (ref false (exact t))

abbrev pub null_exactly : TypeTree → Operand
null_exactly t = known (ref true (exact t))

abbrev pub any_reference : Operand
any_reference = to_abstract true false any

abbrev pub from_any : Reference
from_any = record { nullable = true; heap = heap.Abstract false kind.Any }

-- ---- rows

pub record DescriptorsWorked : Type 0 where
  pub new : DescriptorRow there (descriptor.StructNewDesc 3) (to_abstract false false any ∷ null_exactly describing_full ∷ []) (exactly full ∷ [])
  pub new_plainly : DescriptorRow (record plainly { «module» = with_descriptors }) (descriptor.StructNewDesc 0) (null_exactly describing ∷ []) (known (to described) ∷ [])
  pub new_inexactly : DescriptorRow there (descriptor.StructNewDesc 0) (known (null_to describing) ∷ []) (exactly described ∷ []) → ⊥
  pub new_without : HasNo (DescriptorRow there (descriptor.StructNewDesc 2))
  pub new_not_shared : HasNo (DescriptorRow there_shared (descriptor.StructNewDesc 0))
  pub new_default : DescriptorRow there (descriptor.StructNewDefaultDesc 0) (null_exactly describing ∷ []) (exactly described ∷ [])
  pub new_no_default : HasNo (DescriptorRow there (descriptor.StructNewDefaultDesc 3))
  pub new_default_without : HasNo (DescriptorRow there (descriptor.StructNewDefaultDesc 2))
  pub get : DescriptorRow there (descriptor.RefGetDesc 0) (known (null_to described) ∷ []) (known (to describing) ∷ [])
  pub get_exact : DescriptorRow there (descriptor.RefGetDesc 0) (null_exactly described ∷ []) (exactly describing ∷ [])
  pub get_more : DescriptorRow there (descriptor.RefGetDesc 0) (known (null_to described) ∷ []) (exactly describing ∷ []) → ⊥
  pub get_none : HasNo (DescriptorRow there (descriptor.RefGetDesc 2))
  pub get_shared : DescriptorRow there_shared (descriptor.RefGetDesc 5) (known (null_to described_shared) ∷ []) (known (to describing_shared) ∷ [])
  pub get_not_shared : HasNo (DescriptorRow there_shared (descriptor.RefGetDesc 0))
  pub cast : DescriptorRow there (descriptor.RefCastDescEqNonNull (heap.Concrete (index.Module 0))) (any_reference ∷ known (null_to describing) ∷ [])
      (known (to described) ∷ [])
  pub cast_null : DescriptorRow there (descriptor.RefCastDescEqNullable (heap.Exact (index.Module 0))) (any_reference ∷ null_exactly describing ∷ [])
      (null_exactly described ∷ [])
  pub cast_inexactly : DescriptorRow there (descriptor.RefCastDescEqNullable (heap.Exact (index.Module 0))) (any_reference ∷ known (null_to describing) ∷ [])
      (null_exactly described ∷ []) → ⊥
  pub cast_without : HasNo (DescriptorRow there (descriptor.RefCastDescEqNonNull (heap.Concrete (index.Module 2))))
  pub cast_abstract : HasNo (DescriptorRow there (descriptor.RefCastDescEqNonNull (heap.Abstract false kind.Any)))
  pub cast_continuation : HasNo (DescriptorRow there (descriptor.RefCastDescEqNonNull (heap.Concrete (index.Module 7))))
  pub cast_not_shared : HasNo (DescriptorRow there_shared (descriptor.RefCastDescEqNullable (heap.Concrete (index.Module 0))))
  pub on_cast : DescriptorRow (below (to described ∷ [])) (descriptor.BrOnCastDescEq 0 from_any (concretely false 0))
      (any_reference ∷ known (null_to describing) ∷ []) (any_reference ∷ [])
  pub on_cast_without : HasNo (DescriptorRow (below (to cell ∷ [])) (descriptor.BrOnCastDescEq 0 from_any (concretely false 2)))
  pub on_cast_unknown : HasNo (DescriptorRow (below (to described ∷ [])) (descriptor.BrOnCastDescEq 1 from_any (concretely false 0)))
  pub on_cast_carries_null : HasNo (DescriptorRow (below (to described ∷ [])) (descriptor.BrOnCastDescEq 0 from_any (concretely true 0)))
  pub on_fail : DescriptorRow (below (ref true (abstract false any) ∷ [])) (descriptor.BrOnCastDescEqFail 0 from_any (concretely false 0))
      (any_reference ∷ known (null_to describing) ∷ []) (known (to described) ∷ [])
  pub on_fail_carries_second : HasNo (DescriptorRow (below (to described ∷ [])) (descriptor.BrOnCastDescEqFail 0 from_any (concretely false 0)))
