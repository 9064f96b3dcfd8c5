-- What the spaces of a module and the context of the rules are with an item more (WebAssembly 3.0, structure, modules, indices; validation,
-- conventions, contexts): each item stands behind those of its space.
use Rattle.std.specs.Prelude.{◌≡◌, ℕ, Bool, true, false, List, [], ◌∷◌, Some}
use Rattle.wasm_types.specs.settings.Settings.{Settings}
use Rattle.wasm_types.specs.trees.Types.{number, ref, abstract, i32, func, extern}
use Rattle.wasm_types.specs.trees.Trees.{TypeTree}
use Rattle.wasm_types.specs.trees.worked.Types.{base, derived, routine}
use Rattle.wasm_types.specs.values.declared.value.ValType.TheVariants as value
use Rattle.wasm_types.specs.trees.declared.index.CoreTypeId.{CoreTypeId}
use Rattle.wasm_sections_items.specs.declared.imports.kind.ExternalKind.TheVariants as kind
use Rattle.wasm_sections_items.specs.declared.imports.type_ref.TypeRef.TheVariants as import
use Rattle.wasm_module_validator_initialisers.specs.index_spaces.declared.module.Function.{Function}
use Rattle.wasm_module_validator_initialisers.specs.index_spaces.Spaces.{Spaces, nothing_read, own_function, imported_function}
use Rattle.wasm_operator_validator_rules.specs.Context.{Module}
use Rattle.wasm_module_validator_section_order.specs.rules.worked.Trees.{funcref, externref, table_with, memory_with, constant_of, variable_of, tag_with}
use Rattle.wasm_module_validator_type_storage.specs.trees.Worked.{id_of, both}
use Rattle.wasm_module_validator_type_storage.specs.trees.Groups.{tree_of}
use Rattle.wasm_module_validator_initialisers.specs.state.Adding.{adding_function, importing_function, adding_table, adding_memory, adding_global, adding_tag, adding_element, counting_data, referring, importing, exporting}
use Rattle.wasm_module_validator_initialisers.specs.state.Contexts as context
use Rattle.wasm_module_validator_initialisers.specs.state.Contexts.{AlsoRefers, IsWithExport}
use Rattle.wasm_module_validator_initialisers.specs.resources.Reading.{types_by_id, with_types, places, context_of, meaning_of}

-- two functions of its own, of which nothing is referred to, and one that is imported
abbrev pub own : ℕ → Function
own x = own_function x

abbrev pub marked : ℕ → Function
marked x = record (own_function x) { is_referenced = true }

-- nothing but two types, by the ids 4 and 7
abbrev pub typed : Settings → Spaces
typed z = record (nothing_read z) { types = id_of 4 ∷ id_of 7 ∷ [] }

-- ---- spaces

pub record SpacesAdded (z : Settings) : Type 0 where
  pub functions : adding_function 1 (adding_function 0 (nothing_read z)) ≡ record (nothing_read z) { functions = own 0 ∷ own 1 ∷ [] }
  pub imported : importing (import.Func 1) (importing (import.Func 0) (nothing_read z))
      ≡ record (nothing_read z) { functions = imported_function false 0 ∷ imported_function false 1 ∷ []; imported_functions = 2 }
  pub imported_exactly : importing (import.FuncExact 5) (nothing_read z) ≡ record (nothing_read z) { functions = imported_function true 5 ∷ []; imported_functions = 1 }
  pub tables : adding_table (table_with funcref 2) (adding_table (table_with funcref 1) (nothing_read z))
      ≡ record (nothing_read z) { tables = table_with funcref 1 ∷ table_with funcref 2 ∷ [] }
  pub table_imported : importing (import.Table (table_with funcref 1)) (nothing_read z) ≡ record (nothing_read z) { tables = table_with funcref 1 ∷ [] }
  pub memories : adding_memory (memory_with 2 (Some 3)) (importing (import.Memory (memory_with 1 (Some 3))) (nothing_read z))
      ≡ record (nothing_read z) { memories = memory_with 1 (Some 3) ∷ memory_with 2 (Some 3) ∷ [] }
  pub globals : adding_global (variable_of value.I32) (adding_global (constant_of value.I32) (nothing_read z))
      ≡ record (nothing_read z) { globals = constant_of value.I32 ∷ variable_of value.I32 ∷ [] }
  pub global_imported : importing (import.Global (constant_of value.I32)) (nothing_read z)
      ≡ record (nothing_read z) { globals = constant_of value.I32 ∷ []; imported_globals = 1 }
  pub tags : adding_tag 1 (importing (import.Tag (tag_with 0)) (typed z)) ≡ record (typed z) { tags = id_of 4 ∷ id_of 7 ∷ [] }
  pub elements : adding_element externref (adding_element funcref (nothing_read z)) ≡ record (nothing_read z) { elements = funcref ∷ externref ∷ [] }
  pub data_count : counting_data 3 (nothing_read z) ≡ record (nothing_read z) { data_count = Some 3 }

-- of two functions an export, or another mention, marks the one that it names; other exports change nothing
pub record SpacesMarked (z : Settings) (x : ℕ) : Type 0 where
  pub first : referring 0 (adding_function 1 (adding_function 0 (nothing_read z))) ≡ record (nothing_read z) { functions = marked 0 ∷ own 1 ∷ [] }
  pub second : exporting kind.Func 1 (adding_function 1 (adding_function 0 (nothing_read z))) ≡ record (nothing_read z) { functions = own 0 ∷ marked 1 ∷ [] }
  pub exactly : exporting kind.FuncExact 0 (adding_function 1 (adding_function 0 (nothing_read z))) ≡ record (nothing_read z) { functions = marked 0 ∷ own 1 ∷ [] }
  pub unknown : referring 2 (adding_function 1 (adding_function 0 (nothing_read z))) ≡ record (nothing_read z) { functions = own 0 ∷ own 1 ∷ [] }
  pub table : exporting kind.Table 0 (adding_function 0 (nothing_read z)) ≡ adding_function 0 (nothing_read z)
  pub memory : exporting kind.Memory 0 (adding_function 0 (nothing_read z)) ≡ adding_function 0 (nothing_read z)
  pub global : exporting kind.Global 0 (adding_function 0 (nothing_read z)) ≡ adding_function 0 (nothing_read z)
  pub tag : exporting kind.Tag 0 (adding_function 0 (nothing_read z)) ≡ adding_function 0 (nothing_read z)

-- ---- contexts

-- a context with two types: a struct, and a function type
abbrev pub two_types : Module
two_types = with_types (base ∷ routine ∷ [])

-- the same with a function, which code may refer to or not
abbrev pub one_function : List ℕ → Module
one_function xs = record two_types { functions = routine ∷ []; referenced = xs }

pub record ContextsAdded : Type 0 where
  pub types : context.with_types (derived ∷ []) two_types ≡ with_types (base ∷ routine ∷ derived ∷ [])
  pub function : context.with_function false 1 two_types ≡ record two_types { functions = routine ∷ [] }
  pub exact_function : context.with_function true 1 (context.with_function false 1 two_types) ≡ record two_types { functions = routine ∷ routine ∷ []; exact_functions = 1 ∷ [] }
  pub imported : context.with_import (import.Func 1) two_types ≡ record two_types { functions = routine ∷ [] }
  pub imported_exactly : context.with_import (import.FuncExact 1) two_types ≡ record two_types { functions = routine ∷ []; exact_functions = 0 ∷ [] }
  pub table : context.with_import (import.Table (table_with externref 1)) (context.with_table (table_with funcref 1) two_types)
      ≡ record two_types {
        tables = record { element = ref true (abstract false func); table64 = false; shared = false }
            ∷ record { element = ref true (abstract false extern); table64 = false; shared = false } ∷ [];
      }
  pub memory : context.with_import (import.Memory (memory_with 2 (Some 3))) (context.with_memory (memory_with 1 (Some 3)) two_types)
      ≡ record two_types { memories = memory_with 1 (Some 3) ∷ memory_with 2 (Some 3) ∷ [] }
  pub global : context.with_import (import.Global (constant_of value.I32)) (context.with_global (variable_of value.I32) two_types)
      ≡ record two_types { globals = record { content = number i32; mutable = true; shared = false } ∷ record { content = number i32; mutable = false; shared = false } ∷ [] }
  pub tag : context.with_import (import.Tag (tag_with 1)) (context.with_tag 0 two_types) ≡ record two_types { tags = base ∷ routine ∷ [] }
  pub element : context.with_element (number i32) two_types ≡ record two_types { elements = number i32 ∷ [] }
  pub data_count : context.with_data_count 3 two_types ≡ record two_types { data_count = Some 3 }

-- with an export code may also refer to the function that it names, if there is one, and to no other; else the context stays
pub record ContextsRefer : Type 0 where
  pub also : AlsoRefers 0 (one_function []) (one_function (0 ∷ []))
  pub not_also : AlsoRefers 0 (one_function []) (one_function []) → ⊥
  pub not_another : AlsoRefers 0 (one_function []) (one_function (0 ∷ 1 ∷ [])) → ⊥
  pub not_lost : AlsoRefers 0 (one_function (3 ∷ [])) (one_function (0 ∷ [])) → ⊥
  pub not_unknown : AlsoRefers 1 (one_function []) (one_function (1 ∷ [])) → ⊥
  pub unknown : AlsoRefers 1 (one_function []) (one_function [])
  pub otherwise : AlsoRefers 0 (one_function []) (record (one_function (0 ∷ [])) { data_count = Some 1 }) → ⊥
  pub function : IsWithExport kind.Func 0 (one_function []) (one_function (0 ∷ []))
  pub function_not : IsWithExport kind.Func 0 (one_function []) (one_function []) → ⊥
  pub exactly : IsWithExport kind.FuncExact 0 (one_function []) (one_function (0 ∷ []))
  pub exactly_not : IsWithExport kind.FuncExact 0 (one_function []) (one_function []) → ⊥
  pub table : IsWithExport kind.Table 0 (one_function []) (one_function [])
  pub table_not : IsWithExport kind.Table 0 (one_function []) (one_function (0 ∷ [])) → ⊥
  pub memory : IsWithExport kind.Memory 0 (one_function []) (one_function [])
  pub memory_not : IsWithExport kind.Memory 0 (one_function []) (one_function (0 ∷ [])) → ⊥
  pub global : IsWithExport kind.Global 0 (one_function []) (one_function [])
  pub global_not : IsWithExport kind.Global 0 (one_function []) (one_function (0 ∷ [])) → ⊥
  pub tag : IsWithExport kind.Tag 0 (one_function []) (one_function [])
  pub tag_not : IsWithExport kind.Tag 0 (one_function []) (one_function (0 ∷ [])) → ⊥

-- ---- what a module that is being read means

-- two structs that refer to each other have the ids 0 and 1, and one below the second has the id 2
abbrev pub reading : Settings → Spaces
reading z = record (nothing_read z) {
  types = id_of 2 ∷ id_of 0 ∷ [];
  functions = record (imported_function false 1) { is_referenced = true } ∷ own 0 ∷ marked 1 ∷ [];
  memories = memory_with 1 (Some 3) ∷ [];
  tags = id_of 1 ∷ [];
  data_count = Some 3;
}

pub record ModulesMean (z : Settings) : Type 0 where
  pub ids : types_by_id both ≡ tree_of both 0 ∷ tree_of both 1 ∷ tree_of both 2 ∷ []
  pub types : (context_of both (reading z)).types ≡ tree_of both 2 ∷ tree_of both 0 ∷ []
  pub functions : (context_of both (reading z)).functions ≡ tree_of both 0 ∷ tree_of both 2 ∷ tree_of both 0 ∷ []
  pub memories : (context_of both (reading z)).memories ≡ memory_with 1 (Some 3) ∷ []
  pub tags : (context_of both (reading z)).tags ≡ tree_of both 1 ∷ []
  pub data_count : (context_of both (reading z)).data_count ≡ Some 3
  pub referenced : (context_of both (reading z)).referenced ≡ 0 ∷ 2 ∷ []
  pub exact : (context_of both (reading z)).exact_functions ≡ 1 ∷ 2 ∷ []
  pub tables : (context_of [] (record (nothing_read z) { tables = table_with funcref 1 ∷ table_with externref 1 ∷ [] })).tables
      ≡ record { element = ref true (abstract false func); table64 = false; shared = false } ∷ record { element = ref true (abstract false extern); table64 = false; shared = false } ∷ []
  pub globals : (context_of [] (record (nothing_read z) { globals = constant_of value.I32 ∷ variable_of value.I32 ∷ [] })).globals
      ≡ record { content = number i32; mutable = false; shared = false } ∷ record { content = number i32; mutable = true; shared = false } ∷ []
  pub elements : (context_of [] (record (nothing_read z) { elements = funcref ∷ externref ∷ [] })).elements
      ≡ ref true (abstract false func) ∷ ref true (abstract false extern) ∷ []
  pub meant : (meaning_of both (reading z)).«module» ≡ context_of both (reading z)
  pub known : (meaning_of both (reading z)).ids ≡ types_by_id both
