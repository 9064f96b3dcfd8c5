-- What a row tells of a function, a table, a memory, a global or a tag, and which rows a module has.
use Rattle.std.specs.Prelude.{◌+◌, ◌==◌, ℕ, Bool, true, false, if◌then◌else◌, List, map, Option, Some, None, is_some}
use Rattle.wasm_types.specs.trees.declared.index.CoreTypeId.{CoreTypeId}
use Rattle.wasm_types.specs.values.Trees.{heap_of}
use Rattle.wasm_types.specs.values.Values.{value_of}
use Rattle.wasm_types.specs.externs.declared.table.TableType.{TableType}
use Rattle.wasm_types.specs.externs.declared.memory.MemoryType.{MemoryType}
use Rattle.wasm_types.specs.externs.declared.global.GlobalType.{GlobalType}
use Rattle.wasm_types.specs.externs.Addresses.{page_bits}
use Rattle.wasm_sections_items.specs.declared.imports.kind.ExternalKind.{ExternalKind}
use Rattle.wasm_sections_items.specs.declared.imports.kind.ExternalKind.TheVariants as kind
use Rattle.wasm_module_validator_index_spaces.specs.Spaces.{Spaces}
use Rattle.wasm_module_validator_index_spaces.specs.view.Entities.{own_entity, table_entity, memory_entity, global_entity, tag_entity}
use Rattle.wasm_module_validator_index_spaces.specs.declared.view.entity.EntityType.{EntityType}
use Rattle.wasm_module_validator_index_spaces.specs.declared.view.entity.EntityType.TheVariants as entity
use Rattle.wasm_module_validator_rows.specs.declared.entities.EntityRow.{EntityRow}
use Rattle.wasm_module_validator_rows.specs.Rows.{flag_of, no_type, plain, told_reference, told_value}
use Rattle.wasm_module_validator_rows.specs.Written.{counted}

-- ---- one row

-- a number, if there is one
abbrev pub number_or_0 : Option ℕ → ℕ
number_or_0 None = 0
number_or_0 (Some n) = n

abbrev pub plain_entity : ℕ → EntityRow
plain_entity kind = record { kind = kind; flags = 0; id = no_type; page_size_log2 = 0; value = plain 0; minimum = 0; maximum = 0 }

-- a function or a tag: 8 it is of exactly its type
abbrev pub typed_of : ℕ → CoreTypeId → Bool → EntityRow
typed_of kind id exact = record (plain_entity kind) { flags = flag_of exact 8; id = id.0 }

-- 16 its addresses have 64 bits, 4 it is shared, 32 it has a maximum
abbrev pub table_of : TableType → EntityRow
table_of t = record (plain_entity 1) {
  flags = flag_of t.table64 16 + flag_of t.shared 4 + flag_of (is_some t.maximum) 32;
  value = told_reference t.element_type.nullable (heap_of t.element_type.heap);
  minimum = t.initial;
  maximum = number_or_0 t.maximum;
}

-- 64 the size of its page is written
abbrev pub memory_of : MemoryType → EntityRow
memory_of t = record (plain_entity 2) {
  flags = flag_of t.memory64 16 + flag_of t.shared 4 + flag_of (is_some t.maximum) 32 + flag_of (is_some t.page_size_log2) 64;
  page_size_log2 = page_bits t.page_size_log2;
  minimum = t.initial;
  maximum = number_or_0 t.maximum;
}

-- 1 it may be written, 4 it is shared
abbrev pub global_of : GlobalType → EntityRow
global_of t = record (plain_entity 3) { flags = flag_of t.mutable 1 + flag_of t.shared 4; value = told_value (value_of t.content_type) }

abbrev pub told_entity : EntityType → EntityRow
told_entity (entity.Func id) = typed_of 0 id false
told_entity (entity.FuncExact id) = typed_of 0 id true
told_entity (entity.Table t) = table_of t
told_entity (entity.Memory t) = memory_of t
told_entity (entity.Global t) = global_of t
told_entity (entity.Tag id) = typed_of 4 id false

-- ---- all of a module

-- the space of a kind: what is imported comes first
abbrev pub entities : Spaces → ExternalKind → List EntityType
entities s kind.Func = map (own_entity s) s.functions
entities s kind.FuncExact = map (own_entity s) s.functions
entities s kind.Table = map table_entity s.tables
entities s kind.Memory = map memory_entity s.memories
entities s kind.Global = map global_entity s.globals
entities s kind.Tag = map tag_entity s.tags

-- a row for each
abbrev pub entity_rows : Spaces → ExternalKind → List EntityRow
entity_rows s k = counted (map told_entity (entities s k))

-- the kinds by their numbers
abbrev pub kind_numbered : ℕ → Option ExternalKind
kind_numbered n =
    if n == 0 then Some kind.Func else if n == 1 then Some kind.Table else if n == 2 then Some kind.Memory else if n == 3 then Some kind.Global
    else if n == 4 then Some kind.Tag else None

-- the ids of the types of a module, by the indices that they have there
abbrev pub id_rows : Spaces → List ℕ
id_rows s = counted (map (λ (id : CoreTypeId). id.0) s.types)
