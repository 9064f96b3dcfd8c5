-- A module as far as it was read: its index spaces by the indices and ids of its types (WebAssembly 3.0, structure, modules,
-- indices). In each space what is imported comes first.
use Rattle.std.specs.Prelude.{ℕ, zero, suc, ◌<◌, ◌≤◌, ◌^◌, Bool, true, false, List, [], ◌∷◌, length, Option, None, All, get_or}
use Rattle.wasm_types.specs.settings.Settings.{Settings}
use Rattle.wasm_types.specs.trees.declared.index.CoreTypeId.{CoreTypeId}
use Rattle.wasm_types.specs.values.Reference.{Reference}
use Rattle.wasm_types.specs.externs.declared.table.TableType.{TableType}
use Rattle.wasm_types.specs.externs.declared.memory.MemoryType.{MemoryType}
use Rattle.wasm_types.specs.externs.declared.global.GlobalType.{GlobalType}
use Rattle.wasm_module_validator_index_spaces.specs.declared.module.Function.{Function}

-- what it is judged by, its types by their ids, functions by the indices of their types, tags by the ids of their types, element
-- segments by the types of their elements, how many data segments the data count section names, and how much is imported
pub record Spaces : Type 0 where
  pub settings : Settings
  pub types : List CoreTypeId
  pub functions : List Function
  pub tables : List TableType
  pub memories : List MemoryType
  pub globals : List GlobalType
  pub tags : List CoreTypeId
  pub elements : List Reference
  pub data_count : Option ℕ
  pub imported_functions : ℕ
  pub imported_globals : ℕ

-- nothing was read
abbrev pub nothing_read : Settings → Spaces
nothing_read z = record {
  settings = z;
  types = [];
  functions = [];
  tables = [];
  memories = [];
  globals = [];
  tags = [];
  elements = [];
  data_count = None;
  imported_functions = 0;
  imported_globals = 0;
}

-- the id of the type with an index that the module has
abbrev pub id_at : List CoreTypeId → ℕ → CoreTypeId
id_at ids n = get_or ids n (record { 0 = 0 })

-- ---- what holds of each module

-- each function has a type of the module
abbrev pub AreTyped : List CoreTypeId → List Function → Type 0
AreTyped ids fs = All (λ (f : Function). f.type_index < length ids) fs

-- functions and element segments are counted by 32 bits, and what is imported is among what there is
pub record AreCounted (fs : List Function) (es : List Reference) (gs : List GlobalType) (some others : ℕ) : Type 0 where
  pub functions : length fs < 2 ^ 32
  pub elements : length es < 2 ^ 32
  pub imported_functions : some ≤ length fs
  pub imported_globals : others ≤ length gs

-- ---- what is added

-- a function that the module has itself, and one that is imported, exactly or not
abbrev pub own_function : ℕ → Function
own_function x = record { type_index = x; is_exact = true; is_referenced = false }

abbrev pub imported_function : Bool → ℕ → Function
imported_function exact x = record { type_index = x; is_exact = exact; is_referenced = false }

-- code may refer to the function at this place, if there is one
abbrev pub referring_to : ℕ → List Function → List Function
referring_to n [] = []
referring_to zero (f ∷ fs) = record f { is_referenced = true } ∷ fs
referring_to (suc n) (f ∷ fs) = f ∷ referring_to n fs
