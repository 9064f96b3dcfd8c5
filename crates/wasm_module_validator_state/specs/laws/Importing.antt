-- What a module that is being read means with an import or an export more, and that it is still read over its list.
use Rattle.std.proofs.Common.{◌≡◌, ◌∙◌, ℕ, zero, suc, ◌<◌, true, false, List, [], ◌∷◌, length, get_or, refl, ap, sym, subst, arith}
use Rattle.std.specs.Prelude.{All}
use Rattle.std.proofs.lemmas.List.{length-map, get_or-map}
use Rattle.std.proofs.lemmas.List.Elements.{All-append}
use Rattle.std.proofs.lemmas.Option.{slice_get_within, get_or_from_slice_get}
use Rattle.wasm_types.specs.settings.Settings.{Settings}
use Rattle.wasm_types.specs.trees.declared.index.CoreTypeId.{CoreTypeId}
use Rattle.wasm_types.specs.trees.Types.{function}
use Rattle.wasm_types.specs.trees.Trees.{TypeTree}
use Rattle.wasm_types.specs.trees.Below.{expanded}
use Rattle.wasm_types.specs.trees.ValidGroup.{IsFunction}
use Rattle.wasm_types.specs.externs.declared.table.TableType.{TableType}
use Rattle.wasm_types.specs.externs.declared.memory.MemoryType.{MemoryType}
use Rattle.wasm_types.specs.externs.declared.global.GlobalType.{GlobalType}
use Rattle.wasm_types.specs.externs.declared.tag.TagType.{TagType}
use Rattle.wasm_sections_items.specs.declared.imports.kind.ExternalKind.{ExternalKind}
use Rattle.wasm_sections_items.specs.declared.imports.kind.ExternalKind.TheVariants as kind
use Rattle.wasm_sections_items.specs.declared.imports.type_ref.TypeRef.{TypeRef}
use Rattle.wasm_sections_items.specs.declared.imports.type_ref.TypeRef.TheVariants.{Func, FuncExact, Table, Memory, Global, Tag}
use Rattle.wasm_operator_validator_stacks.specs.resources.Meaning.{Meaning, table_in, global_in}
use Rattle.wasm_module_validator_type_storage.specs.trees.Groups.{Group, tree_of}
use Rattle.wasm_module_validator_checks.specs.rules.Spaces.{table_in as table_written, global_in as global_written}
use Rattle.wasm_module_validator_checks.specs.rules.Valid.{IsFunctionIndex, IsValidImport}
use Rattle.wasm_module_validator_exports.specs.Imports.{IsNamedImport}
use Rattle.wasm_module_validator_type_groups.specs.adding.Interned.{space_of, AreIdsKnown, IsChecked}
use Rattle.wasm_module_validator_resources.specs.index_spaces.Spaces.{Spaces, id_at, imported_function}
use Rattle.wasm_module_validator_resources.specs.Reading.{context_of, meaning_of}
use Rattle.wasm_module_validator_resources.specs.Named.{IsReadOver, IsFunctionId}
use Rattle.wasm_module_validator_state.specs.Adding.{adding_tag, importing, exporting}
use Rattle.wasm_module_validator_state.specs.Contexts.{with_import, IsWithExport}
use Rattle.wasm_module_validator_state.specs.Items.{HasItsType, HasRoomFor}
use Rattle.wasm_module_validator_state.specs.laws.Reading.{function_more, table_more, global_more, tag_more, reference_more}

one_of_all : {X : Type 0} (P : X → Type 0) (x : X) → P x → All P (x ∷ [])
one_of_all P x h zero d lt = h
one_of_all P x h (suc k) d lt = absurd (omega arith)

-- ---- an import by its type over ids, in place of the one that is written

module _ (m : Meaning) (P : TypeRef → TypeRef → Type 0) (function : (x : ℕ) → P (Func x) (Func x)) (exactly : (x : ℕ) → P (FuncExact x) (FuncExact x))
    (table : (t u : TableType) → table_in m u ≡ table_written m.«module».types t → P (Table t) (Table u)) (memory : (t : MemoryType) → P (Memory t) (Memory t))
    (global : (t u : GlobalType) → global_in m u ≡ global_written m.«module».types t → P (Global t) (Global u)) (tag : (t : TagType) → P (Tag t) (Tag t)) where
  -- what holds of each kind holds of all imports
  by_name : (t u : TypeRef) → IsNamedImport m t u → P t u
  by_name (Func x) u h = subst (P (Func x)) (sym h) (function x)
  by_name (FuncExact x) u h = subst (P (FuncExact x)) (sym h) (exactly x)
  by_name (Memory t) u h = subst (P (Memory t)) (sym h) (memory t)
  by_name (Tag t) u h = subst (P (Tag t)) (sym h) (tag t)
  by_name (Table t) (Table u) h = table t u h.0
  by_name (Table t) (Func x) h = absurd cc
  by_name (Table t) (FuncExact x) h = absurd cc
  by_name (Table t) (Memory u) h = absurd cc
  by_name (Table t) (Global u) h = absurd cc
  by_name (Table t) (Tag u) h = absurd cc
  by_name (Global t) (Global u) h = global t u h
  by_name (Global t) (Func x) h = absurd cc
  by_name (Global t) (FuncExact x) h = absurd cc
  by_name (Global t) (Memory u) h = absurd cc
  by_name (Global t) (Table u) h = absurd cc
  by_name (Global t) (Tag u) h = absurd cc

module _ (groups : List Group) (s : Spaces) where
  -- there is room for both alike
  pub room_named : (t u : TypeRef) → IsNamedImport (meaning_of groups s) t u → HasRoomFor u s → HasRoomFor t s
  room_named = by_name (meaning_of groups s) (λ t u. HasRoomFor u s → HasRoomFor t s) (λ x w. w) (λ x w. w) (λ t u h w. w) (λ t w. w) (λ t u h w. w) (λ t w. w)

  pub named_room : (t u : TypeRef) → IsNamedImport (meaning_of groups s) t u → HasRoomFor t s → HasRoomFor u s
  named_room = by_name (meaning_of groups s) (λ t u. HasRoomFor t s → HasRoomFor u s) (λ x w. w) (λ x w. w) (λ t u h w. w) (λ t w. w) (λ t u h w. w) (λ t w. w)

  -- both have their types
  pub typed_named : (t u : TypeRef) → IsNamedImport (meaning_of groups s) t u → HasItsType t s → HasItsType u s
  typed_named = by_name (meaning_of groups s) (λ t u. HasItsType t s → HasItsType u s) (λ x w. w) (λ x w. w) (λ t u h w. w) (λ t w. w) (λ t u h w. w) (λ t w. w)

  -- the context has what is written
  pub import_more : (t u : TypeRef) → IsNamedImport (meaning_of groups s) t u → HasItsType t s → context_of groups (importing u s) ≡ with_import t (context_of groups s)
  import_more = by_name (meaning_of groups s) (λ t u. HasItsType t s → context_of groups (importing u s) ≡ with_import t (context_of groups s))
      (λ x w. function_more groups s (imported_function false x) refl)
      (λ x w. function_more groups s (imported_function true x) refl)
      (λ t u h w. table_more groups s u (table_written (space_of groups s.types) t) h)
      (λ t w. refl)
      (λ t u h w. global_more groups s u (global_written (space_of groups s.types) t) h)
      (λ t w. tag_more groups s t.func_type_idx w)

  -- a function type of the context is one of the list
  pub function_known : (x : ℕ) → IsFunctionIndex (context_of groups s) x → x < length s.types
  function_known x f =
      let lt = slice_get_within (space_of groups s.types) x f.0 f.2 in
      let long = length-map s.types (λ (j : CoreTypeId). tree_of groups j.0) in
      omega arith

  pub function_of_id : IsReadOver groups s → (x : ℕ) → IsFunctionIndex (context_of groups s) x → IsFunctionId groups (id_at s.types x)
  function_of_id r x f =
      let lt = function_known x f in
      let tree : CoreTypeId → TypeTree = λ (j : CoreTypeId). tree_of groups j.0 in
      let at : get_or (space_of groups s.types) x f.0 ≡ tree (id_at s.types x) = get_or-map tree s.types x (record { 0 = 0 }) f.0 lt in
      let found = get_or_from_slice_get (space_of groups s.types) x f.0 f.0 f.2 in
      let is : expanded (tree (id_at s.types x)) ≡ function f.1.params f.1.results = ap expanded (sym at ∙ found) ∙ f.3 in
      (r.known x (record { 0 = 0 }) lt, subst IsFunction (sym is) tt)

  -- each import that is valid has its type
  pub valid_typed : (z : Settings) (t : TypeRef) → IsValidImport z (context_of groups s) t → HasItsType t s
  valid_typed z (Func x) v = function_known x v
  valid_typed z (FuncExact x) v = function_known x v.1
  valid_typed z (Table t) v = tt
  valid_typed z (Memory t) v = tt
  valid_typed z (Global t) v = tt
  valid_typed z (Tag t) v = function_known t.func_type_idx (v.type, v.signature, v.named, v.function)

  -- ---- the module is still read over the list

  pub tag_read : IsReadOver groups s → (x : ℕ) → IsFunctionIndex (context_of groups s) x → IsReadOver groups (adding_tag x s)
  tag_read r x f = record {
    checked = r.checked;
    known = r.known;
    tags = All-append (IsFunctionId groups) s.tags (id_at s.types x ∷ []) r.tags (one_of_all (IsFunctionId groups) (id_at s.types x) (function_of_id r x f));
  }

  pub same_read : IsReadOver groups s → (n : Spaces) → n.settings ≡ s.settings → n.types ≡ s.types → n.tags ≡ s.tags → IsReadOver groups n
  same_read r n z t g = record {
    checked = subst (λ (y : Settings). IsChecked y groups) (sym z) r.checked;
    known = subst (AreIdsKnown groups) (sym t) r.known;
    tags = subst (All (IsFunctionId groups)) (sym g) r.tags;
  }

  pub import_read : (z : Settings) (t u : TypeRef) → IsNamedImport (meaning_of groups s) t u → IsValidImport z (context_of groups s) t → IsReadOver groups s → IsReadOver groups (importing u s)
  import_read z = by_name (meaning_of groups s) (λ t u. IsValidImport z (context_of groups s) t → IsReadOver groups s → IsReadOver groups (importing u s))
      (λ x v r. same_read r (importing (Func x) s) refl refl refl)
      (λ x v r. same_read r (importing (FuncExact x) s) refl refl refl)
      (λ t u h v r. same_read r (importing (Table u) s) refl refl refl)
      (λ t v r. same_read r (importing (Memory t) s) refl refl refl)
      (λ t u h v r. same_read r (importing (Global u) s) refl refl refl)
      (λ t v r. tag_read r t.func_type_idx (v.type, v.signature, v.named, v.function))

  -- ---- exports

  pub export_more : (k : ExternalKind) (x : ℕ) → IsWithExport k x (context_of groups s) (context_of groups (exporting k x s))
  export_more kind.Func x = reference_more groups s x
  export_more kind.FuncExact x = reference_more groups s x
  export_more kind.Table x = refl
  export_more kind.Memory x = refl
  export_more kind.Global x = refl
  export_more kind.Tag x = refl

  pub export_read : IsReadOver groups s → (k : ExternalKind) (x : ℕ) → IsReadOver groups (exporting k x s)
  export_read r kind.Func x = same_read r (exporting kind.Func x s) refl refl refl
  export_read r kind.FuncExact x = same_read r (exporting kind.FuncExact x s) refl refl refl
  export_read r kind.Table x = r
  export_read r kind.Memory x = r
  export_read r kind.Global x = r
  export_read r kind.Tag x = r
