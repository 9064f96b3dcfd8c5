-- The state of a module that is being read stands for the tree of what was read (WebAssembly 3.0, structure, modules; validation, modules).
use Rattle.std.specs.Prelude.{◌≡◌, ◌+◌, ◌<◌, ◌≤◌, ◌++◌, ◌∷◌, [], ℕ, true, IsTrue, List, Result, length, filter_map, Contains}
use Rattle.wasm_types.specs.decoding.ErrorValue.{ErrorValue}
use Rattle.wasm_types.specs.decoding.Denials.{Tells}
use Rattle.wasm_types.specs.settings.Settings.{Settings}
use Rattle.wasm_types.specs.trees.declared.index.CoreTypeId.{CoreTypeId}
use Rattle.wasm_types.specs.trees.ValidGroup.{Written, IsValidGroup}
use Rattle.wasm_module_validator_type_storage.specs.trees.Groups.{Group, count}
use Rattle.wasm_module_validator_type_groups.specs.adding.Interned.{space_of}
use Rattle.wasm_module_validator_resources.specs.index_spaces.Spaces.{Spaces}
use Rattle.wasm_operator_validator_stacks.specs.resources.Meaning.{Meaning}
use Rattle.wasm_module_validator_resources.specs.Reading.{meaning_of}
use Rattle.wasm_module_validator_resources.specs.referring.Referring.{meaning_with_all}
use Rattle.wasm_module_validator_state.specs.invariant.so_far.SoFar.{IsReadAs}
use Rattle.wasm_module_validator_state.specs.invariant.so_far.Referring.{IsReferredAs, referring_to_each}
use Rattle.wasm_module_validator_state.specs.Items.{Items}
use Rattle.wasm_module_validator_exports.specs.declared.names.imports.Place.{Place}
use Rattle.wasm_module_validator_exports.specs.names.Imports.{ImportedName, with_import}
use Rattle.wasm_sections_items.specs.imports.Spells.{ImportTree, kind_of}
use Rattle.wasm_sections_items.specs.declared.imports.type_ref.TypeRef.{TypeRef}
use Rattle.wasm_sections_items.specs.declared.imports.type_ref.TypeRef.TheVariants as import
use Rattle.wasm_module_validator_checks.specs.rules.Spaces.{function_of, table_of, memory_of, global_of, tag_of}
use Rattle.wasm_module_validator_checks.specs.rules.Syntax.{ModuleTree}
use Rattle.wasm_module_validator_resources.specs.rules_in_order.Sections.{Section, up_to, IsUnread}
use Rattle.wasm_module_validator_resources.specs.rules_in_order.Adding.{Fits, size_so_far}
use Rattle.wasm_module_validator_resources.specs.rules_in_order.Texts.{ItemRead, AddsRead}

-- ---- imports by their names

-- how many imports before go into the same space
abbrev pub imports_before : TypeRef → List ImportTree → ℕ
imports_before (import.Func x) is = length (filter_map (λ (i : ImportTree). function_of i.ty) is)
imports_before (import.FuncExact x) is = length (filter_map (λ (i : ImportTree). function_of i.ty) is)
imports_before (import.Table t) is = length (filter_map (λ (i : ImportTree). table_of i.ty) is)
imports_before (import.Memory t) is = length (filter_map (λ (i : ImportTree). memory_of i.ty) is)
imports_before (import.Global t) is = length (filter_map (λ (i : ImportTree). global_of i.ty) is)
imports_before (import.Tag t) is = length (filter_map (λ (i : ImportTree). tag_of i.ty) is)

-- where what is imported by this type stands behind these imports
abbrev pub place_behind : List ImportTree → TypeRef → Place
place_behind is t = record { kind = kind_of t; index = imports_before t is }

-- these imports behind others, which have these names
abbrev pub named_behind : List ImportTree → List ImportedName → List ImportTree → List ImportedName
named_behind before names [] = names
named_behind before names (i ∷ is) = named_behind (before ++ i ∷ [])
    (with_import i.module_name i.field_name (place_behind before i.ty) names) is

-- the imports of a module: each pair of names where it came first, with what is imported by it
abbrev pub imports_by_name : List ImportTree → List ImportedName
imports_by_name is = named_behind [] [] is

-- ---- the list of types

-- groups were added to a list: the newest come first
abbrev pub IsGrown : List Group → List Group → Type 0
IsGrown old new = (more : List Group) × (new ≡ more ++ old)

-- Types of these ids came to the module's, and each type that the list took is one of them.
pub record TakesOwn (old : List Group) (before : List CoreTypeId) (new : List Group) (after : List CoreTypeId) : Type 0 where
  pub ids : List CoreTypeId
  pub behind : after ≡ before ++ ids
  pub own : (id : CoreTypeId) → count old ≤ id.0 → id.0 < count new → Contains ids id

-- and they have no more types than the module has besides, and no others
abbrev pub GrowsWith : List Group → Spaces → List Group → Spaces → Type 0
GrowsWith old s new t = IsGrown old new × (count new + length s.types ≤ count old + length t.types) × TakesOwn old s.types new t.types

-- ---- the state

-- It was made with these settings; its spaces are those of the tree, and the functions that are marked those that the tree refers to; the
-- imports by their names, the exports and the size of types are the tree's. The list of types may hold those of other modules besides.
pub record Stands (groups : List Group) (s : Items) (z : Settings) (m : ModuleTree) : Type 0 where
  pub settings : s.spaces.settings ≡ z
  pub read : IsReadAs groups s.spaces m
  pub referred : IsReferredAs s.spaces m
  pub imports : s.imports ≡ imports_by_name m.imports
  pub exports : s.exports ≡ m.exports
  pub size : s.type_size ≡ size_so_far m

-- what look-ups mean while constants are judged: there each function may be referred to
abbrev pub constants_of : List Group → Spaces → Meaning
constants_of groups s = meaning_with_all (meaning_of groups s)

-- code may refer to each of these functions that there is, as it is where a table, a global or an element segment names them
abbrev pub marking : List ℕ → Spaces → Spaces
marking xs s = record s { functions = referring_to_each xs s.functions }

-- ---- groups of types

-- A group of n types comes behind so many groups: there are fewer than the limit of types, and at most as many types with it; and it is
-- valid behind the types that there are.
abbrev pub MayGrow : List Group → Items → ℕ → ℕ → Written → Type 0
MayGrow groups s many n g = (many < s.spaces.settings.limits.types)
    × ((IsTrue true → length s.spaces.types + n ≤ s.spaces.settings.limits.types)
    × IsValidGroup s.spaces.settings (space_of groups s.spaces.types) g)

-- ---- while a section is read

-- nothing was read behind the section
pub record IsReading (s : Section) (groups : List Group) (i : Items) (z : Settings) (m : ModuleTree) : Type 0 where
  pub stands : Stands groups i z m
  pub last : m ≡ up_to s m

-- where it begins, nothing of the section was read
pub record IsBefore (s : Section) (groups : List Group) (i : Items) (z : Settings) (m : ModuleTree) : Type 0 where
  pub stands : Stands groups i z m
  pub unread : IsUnread s m

-- What a call that adds an item to the state answers: Ok exactly where the rules allow the item behind what was read, for each tree that
-- the state stands for.
abbrev pub TellsItem : {X : Type 0} → (s : Section) → List Group → Items → ItemRead s → Result X ErrorValue → Type 0
TellsItem s groups i x result = (z : Settings) (m : ModuleTree) → IsReading s groups i z m
    → Tells result ((n : ModuleTree) × AddsRead z s m x n)

-- And what it leaves, where it is Ok: the state stands for each tree that has the item more. The list of types may have grown.
abbrev pub AddsItem : (s : Section) → List Group → Items → ItemRead s → List Group → Items → Type 0
AddsItem s groups i x grown j = (z : Settings) (m n : ModuleTree) → IsReading s groups i z m → AddsRead z s m x n → IsReading s grown j z n

-- An item may be added to each tree that the state stands for, and that state stands for the tree with it.
abbrev pub IsAdded : (s : Section) → List Group → Items → ItemRead s → Items → Type 0
IsAdded s groups i x j = ((z : Settings) (m : ModuleTree) → IsReading s groups i z m → (n : ModuleTree) × AddsRead z s m x n)
    × AddsItem s groups i x groups j

-- What is tested where a section begins: Ok exactly where so many items fit, for each such tree.
abbrev pub TellsFit : {X : Type 0} → (s : Section) → List Group → Items → ℕ → Result X ErrorValue → Type 0
TellsFit s groups i n result = (z : Settings) (m : ModuleTree) → IsBefore s groups i z m → Tells result (Fits z s m n)
