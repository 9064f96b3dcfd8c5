-- The context of the rules with an item more, in the terms in which the module writes it (WebAssembly 3.0, validation, conventions,
-- contexts). Each item stands behind those of its space.
use Rattle.std.specs.Prelude.{◌≡◌, ◌↔◌, ◌⊎◌, ◌<◌, ℕ, Bool, true, false, List, [], ◌∷◌, ◌++◌, length, All, Some, if◌then◌else◌}
use Rattle.wasm_types.specs.trees.declared.index.UnpackedIndex.{UnpackedIndex}
use Rattle.wasm_types.specs.trees.Types.{ValueOf}
use Rattle.wasm_types.specs.trees.Each.{EachValue}
use Rattle.wasm_types.specs.trees.Trees.{TypeTree}
use Rattle.wasm_types.specs.trees.ValidGroup.{type_at}
use Rattle.wasm_types.specs.values.Reference.{Reference}
use Rattle.wasm_types.specs.values.declared.value.ValType.TheVariants.{Ref}
use Rattle.wasm_types.specs.values.Values.{value_of}
use Rattle.wasm_types.specs.externs.declared.table.TableType.{TableType}
use Rattle.wasm_types.specs.externs.declared.memory.MemoryType.{MemoryType}
use Rattle.wasm_types.specs.externs.declared.global.GlobalType.{GlobalType}
use Rattle.wasm_sections_items.specs.declared.imports.kind.ExternalKind.{ExternalKind}
use Rattle.wasm_sections_items.specs.declared.imports.kind.ExternalKind.TheVariants as kind
use Rattle.wasm_sections_items.specs.declared.imports.type_ref.TypeRef.{TypeRef}
use Rattle.wasm_sections_items.specs.declared.imports.type_ref.TypeRef.TheVariants as import
use Rattle.wasm_operator_validator_rules.specs.Context.{Module}
use Rattle.wasm_operator_validator_rules.specs.Operands.{ValueType}
use Rattle.wasm_operator_validator_rules.specs.Row.{IsOneOf}
use Rattle.wasm_module_validator_checks.specs.rules.Spaces.{table_in, global_in}
use Rattle.wasm_module_validator_type_storage.specs.trees.Groups.{Group, count}
use Rattle.wasm_module_validator_type_storage.specs.trees.BelowIds.{IsIdBelow}
use Rattle.wasm_module_validator_resources.specs.index_spaces.Spaces.{Spaces, AreTyped}

-- types more
abbrev pub with_types : List TypeTree → Module → Module
with_types ts g = record g { types = g.types ++ ts }

-- a function, by the index of its type, of which it is known or not that it has exactly that type
abbrev pub with_function : Bool → ℕ → Module → Module
with_function exact x g = record g {
  functions = g.functions ++ type_at g.types x ∷ [];
  exact_functions = g.exact_functions ++ (if exact then length g.functions ∷ [] else []);
}

abbrev pub with_table : TableType → Module → Module
with_table t g = record g { tables = g.tables ++ table_in g.types t ∷ [] }

abbrev pub with_memory : MemoryType → Module → Module
with_memory t g = record g { memories = g.memories ++ t ∷ [] }

abbrev pub with_global : GlobalType → Module → Module
with_global t g = record g { globals = g.globals ++ global_in g.types t ∷ [] }

-- a tag, by the index of its type
abbrev pub with_tag : ℕ → Module → Module
with_tag x g = record g { tags = g.tags ++ type_at g.types x ∷ [] }

-- an element segment, by the type of its elements
abbrev pub with_element : ValueType → Module → Module
with_element t g = record g { elements = g.elements ++ t ∷ [] }

abbrev pub with_data_count : ℕ → Module → Module
with_data_count n g = record g { data_count = Some n }

-- an import
abbrev pub with_import : TypeRef → Module → Module
with_import (import.Func x) g = with_function false x g
with_import (import.FuncExact x) g = with_function true x g
with_import (import.Table t) g = with_table t g
with_import (import.Memory t) g = with_memory t g
with_import (import.Global t) g = with_global t g
with_import (import.Tag t) g = with_tag t.func_type_idx g

-- The second context is the first, but that code may refer to this function too, if the module has it.
pub record AlsoRefers (x : ℕ) (g h : Module) : Type 0 where
  pub same : h ≡ record g { referenced = h.referenced }
  pub referenced : (y : ℕ) → IsOneOf y h.referenced ↔ (IsOneOf y g.referenced ⊎ ((y ≡ x) × (x < length g.functions)))

-- the context with an export
abbrev pub IsWithExport : ExternalKind → ℕ → Module → Module → Type 0
IsWithExport kind.Func x g h = AlsoRefers x g h
IsWithExport kind.FuncExact x g h = AlsoRefers x g h
IsWithExport kind.Table x g h = h ≡ g
IsWithExport kind.Memory x g h = h ≡ g
IsWithExport kind.Global x g h = h ≡ g
IsWithExport kind.Tag x g h = h ≡ g

-- ---- what later types leave as it is

-- a value type that names types of the list alone
abbrev pub IsKnownValue : List Group → ValueOf UnpackedIndex → Type 0
IsKnownValue groups v = EachValue (IsIdBelow (count groups)) v

-- functions have types of the module; tables, globals and element segments name types of the list alone
pub record AreNamesKnown (groups : List Group) (s : Spaces) : Type 0 where
  pub functions : AreTyped s.types s.functions
  pub tables : All (λ (t : TableType). IsKnownValue groups (value_of (Ref t.element_type))) s.tables
  pub globals : All (λ (t : GlobalType). IsKnownValue groups (value_of t.content_type)) s.globals
  pub elements : All (λ (r : Reference). IsKnownValue groups (value_of (Ref r))) s.elements
