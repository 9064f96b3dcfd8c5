-- What operators on structs, arrays and references name: types of the module by an index, and heap types that code writes (WebAssembly
-- 3.0, validation, conventions, contexts; types, expansion).
use Rattle.std.specs.Prelude.{ℕ, Bool, true, false, not, List, Option, Some, None, option_map, option_and_then, if◌then◌else◌}
use Rattle.wasm_types.specs.trees.declared.index.UnpackedIndex.{UnpackedIndex}
use Rattle.wasm_types.specs.trees.declared.index.UnpackedIndex.TheVariants as index
use Rattle.wasm_types.specs.trees.Types.{Abstract, cont, HeapOf, abstract, concrete, exact, FieldOf, InnerOf, array_of, struct_of}
use Rattle.wasm_types.specs.trees.Trees.{TypeTree}
use Rattle.wasm_types.specs.trees.AbstractOrder.{top_of}
use Rattle.wasm_types.specs.trees.Below.{expanded, heap_is_shared, abstract_above}
use Rattle.wasm_types.specs.values.declared.heap.HeapType.{HeapType}
use Rattle.wasm_types.specs.values.Trees.{heap_of}
use Rattle.wasm_operator_validator_rules.specs.Context.{Context, may_use}
use Rattle.wasm_operator_validator_rules.specs.Named.{used_type}

-- ---- structs and arrays by an index

-- a composite type as the fields of a struct, and as the element of an array
abbrev pub as_struct : InnerOf TypeTree → Option (List (FieldOf TypeTree))
as_struct (struct_of xs) = Some xs
as_struct _ = None

abbrev pub as_array : InnerOf TypeTree → Option (FieldOf TypeTree)
as_array (array_of x) = Some x
as_array _ = None

-- a struct type with its fields, and an array type with its element
pub record Struct : Type 0 where
  pub type : TypeTree
  pub fields : List (FieldOf TypeTree)

pub record Array : Type 0 where
  pub type : TypeTree
  pub element : FieldOf TypeTree

-- standard: aux-expand-deftype: expand, to a struct type
abbrev pub struct_named : Context → ℕ → Option Struct
struct_named g x = option_and_then (λ t. option_map (λ xs. record { type = t; fields = xs }) (as_struct (expanded t))) (used_type g x)

-- standard: aux-expand-deftype: expand, to an array type
abbrev pub array_named : Context → ℕ → Option Array
array_named g x = option_and_then (λ t. option_map (λ y. record { type = t; element = y }) (as_array (expanded t))) (used_type g x)

-- ---- heap types that code writes, whatever the features are

abbrev pub index_named : Context → UnpackedIndex → Option TypeTree
index_named g (index.Module n) = used_type g n
index_named g (index.RecGroup n) = None
index_named g (index.Id i) = None

abbrev pub heap_meant : Context → HeapOf UnpackedIndex → Option (HeapOf TypeTree)
heap_meant g (abstract s a) = if may_use g s then Some (abstract s a) else None
heap_meant g (concrete i) = option_map (λ t. concrete t) (index_named g i)
heap_meant g (exact i) = option_map (λ t. exact t) (index_named g i)

-- standard: valid-heaptype: a heap type of a cast or a test (differs: whatever the features are)
abbrev pub heap_named : Context → HeapType → Option (HeapOf TypeTree)
heap_named g h = heap_meant g (heap_of h)

-- ---- the top of a hierarchy (validation, matching, heap types)

abbrev pub top_above : HeapOf TypeTree → Abstract
top_above (abstract s a) = top_of a
top_above (concrete t) = top_of (abstract_above (expanded t))
top_above (exact t) = top_of (abstract_above (expanded t))

-- standard: valid-instr-ref: the top of a hierarchy, from which a cast or a test begins
-- the type above all types of its hierarchy, and as shared
abbrev pub top_heap : HeapOf TypeTree → HeapOf TypeTree
top_heap h = abstract (heap_is_shared h) (top_above h)

-- no cast and no test looks into a continuation (the proposal on stack switching)
abbrev pub is_cont : Abstract → Bool
is_cont cont = true
is_cont a = false

-- standard: proposal-stack-switching: no cast looks into a continuation
abbrev pub is_castable : HeapOf TypeTree → Bool
is_castable h = not (is_cont (top_above h))
