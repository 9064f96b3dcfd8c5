-- What an item leaves, from what its steps leave.
use Rattle.std.proofs.Common.{◌≡◌, ◌∙◌, ℕ, ◌+◌, List, [], ◌∷◌, ◌++◌, refl, ap, sym, subst, true, Option, Result, Ok, Err, OnOk, OnErr}
use Rattle.wasm_types.specs.decoding.ErrorValue.{ErrorValue}
use Rattle.wasm_types.specs.trees.Trees.{TypeTree}
use Rattle.wasm_sections_items.specs.declared.imports.kind.ExternalKind.{ExternalKind}
use Rattle.wasm_sections_items.specs.declared.imports.type_ref.TypeRef.{TypeRef}
use Rattle.wasm_sections_items.specs.imports.Spells.{ImportTree, ExportTree}
use Rattle.wasm_module_validator_type_storage.specs.trees.Groups.{Group}
use Rattle.wasm_module_validator_checks.specs.rules.Valid.{IsFunctionIndex, import_size, export_size}
use Rattle.wasm_module_validator_exports.specs.Imports.{IsNamedImport}
use Rattle.wasm_module_validator_exports.specs.names.Imports.{ImportedName, with_import as with_name}
use Rattle.wasm_module_validator_type_groups.specs.adding.Interned.{space_of, AddsGroup, AreIdsKnown, IsChecked}
use Rattle.wasm_module_validator_resources.specs.index_spaces.Spaces.{Spaces, own_function}
use Rattle.wasm_module_validator_resources.specs.Reading.{context_of, meaning_of}
use Rattle.wasm_module_validator_resources.specs.Named.{IsReadOver}
use Rattle.wasm_module_validator_state.specs.Adding.{importing, exporting, adding_tag, adding_function}
use Rattle.wasm_module_validator_state.specs.Contexts.{IsWithExport, with_tag, with_function, with_types, AreNamesKnown}
use Rattle.wasm_module_validator_state.specs.Items.{Items, HasItsType, IsImported, IsExported, next_place}
use Rattle.wasm_module_validator_state.specs.laws.Reading.{function_more, tag_more, types_added, functions_stay}
use Rattle.wasm_module_validator_state.specs.laws.Importing.{import_more, export_more, tag_read, same_read, function_known}

pub make_imported : (groups : List Group) (i : ImportTree) (u : TypeRef) (before : Items) (spaces : Spaces) (names : List ImportedName) (exports : List ExportTree) (size : ℕ) (code : Option ℕ)
    → IsNamedImport (meaning_of groups before.spaces) i.ty u → HasItsType i.ty before.spaces
    → spaces ≡ importing u before.spaces → names ≡ with_name i.module_name i.field_name (next_place i.ty before.spaces) before.imports → exports ≡ before.exports
    → size ≡ before.type_size + import_size (context_of groups before.spaces) i.ty → code ≡ before.next_code
    → IsImported groups i before (record { spaces = spaces; imports = names; exports = exports; type_size = size; next_code = code })
make_imported groups i u before spaces names exports size code named typed e f g h k = record {
  type = u;
  named = named;
  added = λ j. record { spaces = e j; imports = f j; exports = g j; type_size = h j; next_code = k j };
  context = ap (context_of groups) e ∙ import_more groups before.spaces i.ty u named typed;
}

pub make_exported : (groups : List Group) (name : List ℕ) (k : ExternalKind) (x : ℕ) (before : Items)
    (spaces : Spaces) (names : List ImportedName) (exports : List ExportTree) (size : ℕ) (code : Option ℕ)
    → spaces ≡ exporting k x before.spaces → names ≡ before.imports → exports ≡ before.exports ++ record { name = name; kind = k; index = x } ∷ []
    → size ≡ before.type_size + export_size (context_of groups before.spaces) k x
    → code ≡ before.next_code → IsExported groups name k x before (record { spaces = spaces; imports = names; exports = exports; type_size = size; next_code = code })
make_exported groups name k x before spaces names exports size code e f l g h = record {
  added = λ i. record { spaces = e i; imports = f i; exports = l i; type_size = g i; next_code = h i };
  context = subst (λ (s : Spaces). IsWithExport k x (context_of groups before.spaces) (context_of groups s)) (sym e) (export_more groups before.spaces k x);
}

module _ {X : Type 0} (groups : List Group) (s old new : Spaces) (e : old ≡ s) where
  pub tag_context : (r : Result X ErrorValue) (x : ℕ) → IsFunctionIndex (context_of groups s) x → OnOk r (new ≡ adding_tag x old)
      → OnOk r (context_of groups new ≡ with_tag x (context_of groups s))
  tag_context (Ok v) x f h = ap (context_of groups) (h ∙ ap (adding_tag x) e) ∙ tag_more groups s x (function_known groups s x f)
  tag_context (Err v) x f h = tt

  pub tag_stays : (r : Result X ErrorValue) (x : ℕ) → IsFunctionIndex (context_of groups s) x → IsReadOver groups s → OnOk r (new ≡ adding_tag x old) → OnErr r (new ≡ old)
      → IsReadOver groups new
  tag_stays (Ok v) x f read h w = subst (IsReadOver groups) (sym (h ∙ ap (adding_tag x) e)) (tag_read groups s read x f)
  tag_stays (Err v) x f read h w = subst (IsReadOver groups) (sym (w ∙ e)) read

  pub function_context : (r : Result X ErrorValue) (x : ℕ) → OnOk r (new ≡ adding_function x old) → OnOk r (context_of groups new ≡ with_function true x (context_of groups s))
  function_context (Ok v) x h = ap (context_of groups) (h ∙ ap (adding_function x) e) ∙ function_more groups s (own_function x) refl
  function_context (Err v) x h = tt

  pub function_stays : (r : Result X ErrorValue) (x : ℕ) → IsReadOver groups s → OnOk r (new ≡ adding_function x old) → OnErr r (new ≡ old) → IsReadOver groups new
  function_stays (Ok v) x read h w = subst (IsReadOver groups) (sym (h ∙ ap (adding_function x) e)) (same_read groups s read (adding_function x s) refl refl refl)
  function_stays (Err v) x read h w = subst (IsReadOver groups) (sym (w ∙ e)) read

module _ {X : Type 0} (groups more : List Group) (s old new : Spaces) (e : old ≡ s) (g : Group) (trees : List TypeTree) where
  pub types_context : (r : Result X ErrorValue) → IsReadOver groups s → OnOk r (AddsGroup groups more old.types new.types g) →
      OnOk r (space_of more new.types ≡ space_of groups s.types ++ trees)
      → new ≡ record old { types = new.types } → OnOk r (AreNamesKnown groups s → context_of more new ≡ with_types trees (context_of groups s))
  types_context (Ok v) read a grown same =
      λ known. ap (context_of more) (same ∙ ap (λ (n : Spaces). record n { types = new.types }) e)
      ∙ types_added groups more s new.types g trees (subst (λ (n : Spaces). AddsGroup groups more n.types new.types g) e a) grown (λ k d lt. (read.tags k d lt).0) known
  types_context (Err v) read a grown same = tt

  pub types_stay : (r : Result X ErrorValue) → IsReadOver groups s → OnOk r (AddsGroup groups more old.types new.types g)
      → OnOk r (IsChecked old.settings more) → OnOk r (AreIdsKnown more new.types)
      → new ≡ record old { types = new.types } → OnOk r (IsReadOver more new)
  types_stay (Ok v) read a checked known same =
      let first : IsReadOver more (record s { types = new.types }) = record {
        checked = subst (λ (n : Spaces). IsChecked n.settings more) e checked;
        known = known;
        tags = functions_stay groups more s.types new.types g s.tags (subst (λ (n : Spaces). AddsGroup groups more n.types new.types g) e a) read.tags;
      } in
      subst (IsReadOver more) (sym (same ∙ ap (λ (n : Spaces). record n { types = new.types }) e)) first
  types_stay (Err v) read a checked known same = tt
