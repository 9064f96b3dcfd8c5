-- A module as far as it was read, beside the tree of what was read (WebAssembly 3.0, structure, modules, indices): its spaces are those
-- of the tree, each type by what its name means.
use Rattle.std.specs.Prelude.{◌≡◌, ℕ, List, [], length, map, Option}
use Rattle.wasm_types.specs.externs.declared.table.TableType.{TableType}
use Rattle.wasm_types.specs.externs.declared.tag.TagType.{TagType}
use Rattle.wasm_sections_items.specs.elements.Spells.{ElementTree}
use Rattle.wasm_types.specs.trees.ValidGroup.{type_at}
use Rattle.wasm_operator_validator_stacks.specs.resources.Meaning.{table_in, global_in, reference_in}
use Rattle.wasm_operators_encoding.specs.expressions.Code.{Code}
use Rattle.wasm_module_validator_checks.specs.rules.Syntax.{ModuleTree}
use Rattle.wasm_module_validator_checks.specs.rules.Spaces as tree
use Rattle.wasm_module_validator_checks.specs.rules.Spaces.{FunctionEntry, function_of, imported, function_space, table_space, memory_space, tag_space, global_space, imported_globals, element_type, types_behind}
use Rattle.wasm_module_validator_type_storage.specs.trees.Groups.{Group}
use Rattle.wasm_module_validator_type_groups.specs.adding.Interned.{space_of}
use Rattle.wasm_module_validator_resources.specs.index_spaces.declared.module.Function.{Function}
use Rattle.wasm_module_validator_resources.specs.index_spaces.Spaces.{Spaces}
use Rattle.wasm_module_validator_resources.specs.Reading.{names_in}

-- a function of the space, as the rules have it
abbrev pub entry_of : Function → FunctionEntry
entry_of f = record { type = f.type_index; is_exact = f.is_exact }

-- how many elements a table has at first, and how many it may have (structure, types, limits); its context has neither
abbrev pub sizes_of : TableType → ℕ × Option ℕ
sizes_of t = (t.initial, t.maximum)

-- The spaces hold what the tree has: types by ids whose trees are those of the groups; functions by the indices of their types; tables,
-- globals and element segments by types that mean what is written, tables with the sizes that are written; tags by the ids of their types.
pub record IsReadAs (groups : List Group) (s : Spaces) (m : ModuleTree) : Type 0 where
  pub types : space_of groups s.types ≡ types_behind [] m.types
  pub functions : map entry_of s.functions ≡ function_space m
  pub tables : map (table_in (names_in groups s.types)) s.tables ≡ map (tree.table_in (types_behind [] m.types)) (table_space m)
  pub table_sizes : map sizes_of s.tables ≡ map sizes_of (table_space m)
  pub memories : s.memories ≡ memory_space m
  pub globals : map (global_in (names_in groups s.types)) s.globals ≡ map (tree.global_in (types_behind [] m.types)) (global_space m)
  pub tags : space_of groups s.tags ≡ map (λ (t : TagType). type_at (types_behind [] m.types) t.func_type_idx) (tag_space m)
  pub elements : map (reference_in (names_in groups s.types)) s.elements ≡ map (λ (e : ElementTree Code). element_type (types_behind [] m.types) e.items) m.element_segments
  pub data_count : s.data_count ≡ m.data_count
  pub imported_functions : s.imported_functions ≡ length (imported function_of m)
  pub imported_globals : s.imported_globals ≡ imported_globals m
