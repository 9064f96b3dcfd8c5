-- What code's names of types stand for: indices of the module, and ids of types that are known once and for all.
use Rattle.std.specs.Prelude.{◌<◌, List, length}
use Rattle.wasm_types.specs.trees.declared.index.CoreTypeId.{CoreTypeId}
use Rattle.wasm_types.specs.trees.declared.index.UnpackedIndex.{UnpackedIndex}
use Rattle.wasm_types.specs.trees.declared.index.UnpackedIndex.TheVariants as index
use Rattle.wasm_types.specs.trees.Types as tree
use Rattle.wasm_types.specs.trees.Types.{HeapOf, heap_map, value_map, InnerOf, inner_map, EntryOf, entry_map}
use Rattle.wasm_types.specs.trees.Trees.{TypeTree}
use Rattle.wasm_types.specs.trees.ValidGroup.{type_at}
use Rattle.wasm_types.specs.values.declared.heap.HeapType.{HeapType}
use Rattle.wasm_types.specs.values.declared.value.ValType.{ValType}
use Rattle.wasm_types.specs.values.Reference.{Reference}
use Rattle.wasm_types.specs.values.Trees.{heap_of}
use Rattle.wasm_types.specs.values.Values.{value_of}
use Rattle.wasm_types.specs.fields.declared.func.FuncType.{FuncType}
use Rattle.wasm_types.specs.fields.Fields.{function_tree}
use Rattle.wasm_types.specs.declared.sub_type.SubType.{SubType}
use Rattle.wasm_types.specs.Entries.{entry_of}
use Rattle.wasm_types.specs.externs.declared.global.GlobalType.{GlobalType}
use Rattle.wasm_types.specs.externs.declared.table.TableType.{TableType}
use Rattle.wasm_operator_validator_rules.specs.Operands.{ValueType}
use Rattle.wasm_operator_validator_rules.specs.Context.{Module, Global, Table}
-- the top of a hierarchy
pub use Rattle.wasm_operator_validator_rules.specs.Aggregates.{top_above, top_heap}

-- what a look-up means: the module of the rules, and the type behind each id
pub record Meaning : Type 0 where
  pub «module» : Module
  pub ids : List TypeTree

-- an id of a known type
abbrev pub IsKnown : Meaning → CoreTypeId → Type 0
IsKnown m i = i.0 < length m.ids

-- an index that is such an id
abbrev pub IsKnownIndex : Meaning → UnpackedIndex → Type 0
IsKnownIndex m (index.Module n) = ⊥
IsKnownIndex m (index.RecGroup n) = ⊥
IsKnownIndex m (index.Id i) = IsKnown m i

abbrev pub type_of_id : Meaning → CoreTypeId → TypeTree
type_of_id m i = type_at m.ids i.0

-- the type that code names so
abbrev pub named_type : Meaning → UnpackedIndex → TypeTree
named_type m (index.Module n) = type_at m.«module».types n
named_type m (index.RecGroup n) = type_at m.«module».types n
named_type m (index.Id i) = type_of_id m i

-- ---- types of the code, over whole types

abbrev pub heap_in : Meaning → HeapType → HeapOf TypeTree
heap_in m h = heap_map (named_type m) (heap_of h)

unfoldable pub type_in : Meaning → ValType → ValueType
type_in m t = value_map (named_type m) (value_of t)

abbrev pub reference_in : Meaning → Reference → ValueType
reference_in m r = tree.ref r.nullable (heap_in m r.heap)

abbrev pub function_in : Meaning → FuncType → InnerOf TypeTree
function_in m f = inner_map (named_type m) (function_tree f)

abbrev pub entry_in : Meaning → SubType → EntryOf TypeTree
entry_in m t = entry_map (named_type m) (entry_of t)

abbrev pub global_in : Meaning → GlobalType → Global
global_in m g = record { content = type_in m g.content_type; mutable = g.mutable; shared = g.shared }

abbrev pub table_in : Meaning → TableType → Table
table_in m t = record { element = reference_in m t.element_type; table64 = t.table64; shared = t.shared }
