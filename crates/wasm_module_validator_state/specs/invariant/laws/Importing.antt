-- What an import leaves stands for every tree with the import more, while nothing but types and imports was read.
use Rattle.std.proofs.Common.{◌≡◌, ◌∙◌, ◌+◌, ℕ, true, false, List, [], ◌∷◌, ◌++◌, length, map, refl, sym, ap, subst}
use Rattle.std.proofs.lemmas.List.{append-nil, append_assoc, map_push}
use Rattle.wasm_types.specs.settings.Settings.{Settings}
use Rattle.wasm_types.specs.trees.ValidGroup.{Written}
use Rattle.wasm_module_validator_type_storage.specs.trees.Groups.{Group}
use Rattle.wasm_module_validator_exports.specs.Imports.{IsNamedImport}
use Rattle.wasm_module_validator_exports.specs.names.Imports.{ImportedName, with_import as with_name}
use Rattle.wasm_module_validator_resources.specs.index_spaces.Spaces.{Spaces, imported_function}
use Rattle.wasm_module_validator_resources.specs.Reading.{context_of, meaning_of}
use Rattle.wasm_module_validator_state.specs.invariant.so_far.SoFar.{IsReadAs}
use Rattle.wasm_module_validator_state.specs.invariant.so_far.Referring.{IsReferredAs}
use Rattle.wasm_module_validator_state.specs.invariant.so_far.laws.Importing.{imports_alone, function_is_imported, exact_function_is_imported, table_is_imported, memory_is_imported, global_is_imported, tag_is_imported}
use Rattle.wasm_module_validator_state.specs.invariant.so_far.laws.Limits.{import_size_is}
use Rattle.wasm_module_validator_state.specs.invariant.so_far.laws.Named.{table_is_named, global_is_named}
use Rattle.wasm_module_validator_state.specs.invariant.so_far.laws.Referring.{function_is_not_referred_to}
use Rattle.wasm_module_validator_state.specs.Adding.{importing}
use Rattle.wasm_module_validator_state.specs.Items.{Items, HasItsType, IsImported, next_index, next_place}
use Rattle.wasm_module_validator_state.specs.laws.Importing.{valid_typed}
use Rattle.wasm_sections_items.specs.imports.Spells.{ImportTree, kind_of}
use Rattle.wasm_sections_items.specs.declared.imports.type_ref.TypeRef.{TypeRef}
use Rattle.wasm_sections_items.specs.declared.imports.type_ref.TypeRef.TheVariants as import
use Rattle.wasm_module_validator_resources.specs.rules_in_order.contexts.laws.Types.{import_agrees}
use Rattle.wasm_module_validator_checks.specs.rules.Syntax.{ModuleTree}
use Rattle.wasm_module_validator_checks.specs.rules.Spaces.{module_of, imported, function_of, table_of, memory_of, global_of, tag_of}
use Rattle.wasm_module_validator_checks.specs.rules.Valid.{import_size}
use Rattle.wasm_module_validator_resources.specs.rules_in_order.contexts.InOrder.{context_so_far}
use Rattle.wasm_module_validator_resources.specs.rules_in_order.Sections as section
use Rattle.wasm_module_validator_resources.specs.rules_in_order.Sections.{adding, up_to}
use Rattle.wasm_module_validator_resources.specs.rules_in_order.Adding.{Adds, sum_from, size_so_far}
use Rattle.wasm_module_validator_state.specs.invariant.Standing.{Stands, imports_before, place_behind, named_behind}
use Rattle.wasm_module_validator_state.specs.invariant.laws.Deciding.{types_back, functions_counted, tables_counted, memories_counted, globals_counted, tags_counted}
use Rattle.wasm_module_validator_state.specs.invariant.laws.Behind.{import_sizes_are, sum_pushed}

-- ---- what an import changes

pub settings_stay : (u : TypeRef) (s : Spaces) → (importing u s).settings ≡ s.settings
settings_stay (import.Func x) s = refl
settings_stay (import.FuncExact x) s = refl
settings_stay (import.Table t) s = refl
settings_stay (import.Memory t) s = refl
settings_stay (import.Global t) s = refl
settings_stay (import.Tag t) s = refl

pub types_stay : (u : TypeRef) (s : Spaces) → (importing u s).types ≡ s.types
types_stay (import.Func x) s = refl
types_stay (import.FuncExact x) s = refl
types_stay (import.Table t) s = refl
types_stay (import.Memory t) s = refl
types_stay (import.Global t) s = refl
types_stay (import.Tag t) s = refl

module _ (groups : List Group) (s : Spaces) (gs : List Written) (is : List ImportTree) (i : ImportTree) where
  -- no function is referred to
  none_referred : IsReferredAs s (imports_alone gs is) → (u : TypeRef) → IsReferredAs (importing u s) (imports_alone gs (is ++ i ∷ []))
  none_referred r (import.Func x) =
      function_is_not_referred_to s (importing (import.Func x) s) (imports_alone gs is) (imports_alone gs (is ++ i ∷ [])) (imported_function false x) r refl refl refl refl
  none_referred r (import.FuncExact x) =
      function_is_not_referred_to s (importing (import.FuncExact x) s) (imports_alone gs is) (imports_alone gs (is ++ i ∷ [])) (imported_function true x) r refl refl refl refl
  none_referred r (import.Table t) = r
  none_referred r (import.Memory t) = r
  none_referred r (import.Global t) = r
  none_referred r (import.Tag t) = r

  -- the import, by its type over ids in place of the one that is written, goes into its space
  read_behind : IsReadAs groups s (imports_alone gs is) → (t u : TypeRef) → i.ty ≡ t → IsNamedImport (meaning_of groups s) t u → HasItsType t s
      → IsReadAs groups (importing u s) (imports_alone gs (is ++ i ∷ []))
  read_behind r (import.Func x) u e h w =
      subst (λ k. IsReadAs groups (importing k s) (imports_alone gs (is ++ i ∷ []))) (sym h) (function_is_imported groups s gs is r i x e)
  read_behind r (import.FuncExact x) u e h w =
      subst (λ k. IsReadAs groups (importing k s) (imports_alone gs (is ++ i ∷ []))) (sym h) (exact_function_is_imported groups s gs is r i x e)
  read_behind r (import.Memory t) u e h w = subst (λ k. IsReadAs groups (importing k s) (imports_alone gs (is ++ i ∷ []))) (sym h) (memory_is_imported groups s gs is r i t e)
  read_behind r (import.Tag t) u e h w = subst (λ k. IsReadAs groups (importing k s) (imports_alone gs (is ++ i ∷ []))) (sym h) (tag_is_imported groups s gs is r i t e w)
  read_behind r (import.Table t) (import.Table u) e h w = table_is_imported groups s gs is r i t u e (table_is_named groups s (imports_alone gs is) r t u h.0) (λ k. (h.1 k, h.2 k))
  read_behind r (import.Table t) (import.Func x) e h w = absurd cc
  read_behind r (import.Table t) (import.FuncExact x) e h w = absurd cc
  read_behind r (import.Table t) (import.Memory u) e h w = absurd cc
  read_behind r (import.Table t) (import.Global u) e h w = absurd cc
  read_behind r (import.Table t) (import.Tag u) e h w = absurd cc
  read_behind r (import.Global t) (import.Global u) e h w = global_is_imported groups s gs is r i t u e (global_is_named groups s (imports_alone gs is) r t u h)
  read_behind r (import.Global t) (import.Func x) e h w = absurd cc
  read_behind r (import.Global t) (import.FuncExact x) e h w = absurd cc
  read_behind r (import.Global t) (import.Memory u) e h w = absurd cc
  read_behind r (import.Global t) (import.Table u) e h w = absurd cc
  read_behind r (import.Global t) (import.Tag u) e h w = absurd cc

-- ---- imports by their names

-- one more behind all
named_push : (before : List ImportTree) (names : List ImportedName) (is : List ImportTree) (i : ImportTree)
    → named_behind before names (is ++ i ∷ []) ≡ with_name i.module_name i.field_name (place_behind (before ++ is) i.ty) (named_behind before names is)
named_push before names [] i = ap (λ (b : List ImportTree). with_name i.module_name i.field_name (place_behind b i.ty) names) (sym (append-nil before))
named_push before names (j ∷ is) i =
    let with_one : List ImportedName = with_name j.module_name j.field_name (place_behind before j.ty) names in
    named_push (before ++ j ∷ []) with_one is i
    ∙ ap (λ (b : List ImportTree). with_name i.module_name i.field_name (place_behind b i.ty) (named_behind (before ++ j ∷ []) with_one is)) (append_assoc before (j ∷ []) is)

-- ---- the state

module _ (groups : List Group) (s : Items) (z : Settings) where
  -- with an import, by its type over ids
  abbrev with_import : ImportTree → TypeRef → Items
  with_import i u = record s {
    spaces = importing u s.spaces;
    imports = with_name i.module_name i.field_name (next_place i.ty s.spaces) s.imports;
    type_size = s.type_size + import_size (context_of groups s.spaces) i.ty;
  }

  module _ (gs : List Written) (is : List ImportTree) (r : Stands groups s z (imports_alone gs is)) (i : ImportTree) where
    abbrev behind : ModuleTree
    behind = imports_alone gs (is ++ i ∷ [])

    abbrev size_in : ModuleTree → ImportTree → ℕ
    size_in t j = import_size (module_of t) j.ty

    size_behind : s.type_size + import_size (context_of groups s.spaces) i.ty ≡ size_so_far behind
    size_behind =
        let f : ImportTree → ℕ = size_in behind in
        let one : import_size (context_of groups s.spaces) i.ty ≡ f i = import_size_is (context_of groups s.spaces) (module_of behind) (record { types = r.read.types }) i.ty in
        let same : map (size_in (imports_alone gs is)) is ≡ map f is = import_sizes_are (module_of (imports_alone gs is)) (module_of behind) (record { types = refl }) is in
        let last : (map f is ++ []) ++ f i ∷ [] ≡ map f (is ++ i ∷ []) ++ [] =
        (ap (λ ns. ns ++ f i ∷ []) (append-nil (map f is)) ∙ (sym (map_push f is i) ∙ sym (append-nil (map f (is ++ i ∷ []))))) in
        (λ k. r.size k + one k) ∙ (ap (λ ns. sum_from 1 (ns ++ []) + f i) same ∙ (sym (sum_pushed 1 (map f is ++ []) (f i)) ∙ ap (sum_from 1) last))

    -- it has the next index of its space
    next_is : (t : TypeRef) → next_index t s.spaces ≡ imports_before t is
    next_is (import.Func x) = functions_counted groups s z (imports_alone gs is) r ∙ ap length (append-nil (imported function_of (imports_alone gs is)))
    next_is (import.FuncExact x) = functions_counted groups s z (imports_alone gs is) r ∙ ap length (append-nil (imported function_of (imports_alone gs is)))
    next_is (import.Table t) = tables_counted groups s z (imports_alone gs is) r ∙ ap length (append-nil (imported table_of (imports_alone gs is)))
    next_is (import.Memory t) = memories_counted groups s z (imports_alone gs is) r ∙ ap length (append-nil (imported memory_of (imports_alone gs is)))
    next_is (import.Global t) = globals_counted groups s z (imports_alone gs is) r ∙ ap length (append-nil (imported global_of (imports_alone gs is)))
    next_is (import.Tag t) = tags_counted groups s z (imports_alone gs is) r ∙ ap length (append-nil (imported tag_of (imports_alone gs is)))

    stands_behind : (u : TypeRef) → IsNamedImport (meaning_of groups s.spaces) i.ty u → HasItsType i.ty s.spaces → Stands groups (with_import i u) z behind
    stands_behind u h w = record {
      settings = settings_stay u s.spaces ∙ r.settings;
      read = read_behind groups s.spaces gs is i r.read i.ty u refl h w;
      referred = none_referred groups s.spaces gs is i r.referred u;
      imports =
          (λ k. with_name i.module_name i.field_name (record { kind = kind_of i.ty; index = next_is i.ty k }) (r.imports k))
          ∙ sym (named_push [] [] is i);
      exports = r.exports;
      size = size_behind;
    }

  pub imports_stand : (m : ModuleTree) → Stands groups s z m → m ≡ up_to section.imports m → (i : ImportTree) (n : ModuleTree) → Adds z section.imports m i n
      → (after : Items) → IsImported groups i s after → Stands groups after z n
  imports_stand m r u i n a after h =
      let still : adding section.imports m i ≡ adding section.imports (up_to section.imports m) i = ap (λ t. adding section.imports t i) u in
      let valid = import_agrees (context_so_far m) (context_of groups s.spaces) (types_back groups s z m r) z i.ty a.valid in
      let typed : HasItsType i.ty s.spaces = valid_typed groups s.spaces z i.ty valid in
      subst (λ x. Stands groups x z n) (sym h.added) (subst (λ t. Stands groups (with_import i h.type) z t) (sym (a.added ∙ still))
      (stands_behind m.types m.imports (subst (λ t. Stands groups s z t) u r) i h.type h.named typed))
