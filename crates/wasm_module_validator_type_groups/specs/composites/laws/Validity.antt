-- A composite type over ids is valid where it is over the types that the ids stand for, and only there.
use Rattle.std.proofs.Common.{◌↔◌, ℕ, ◌<◌, Bool, IsTrue, List, [], ◌∷◌, length, map, sym, subst}
use Rattle.std.proofs.lemmas.List.{length-map}
use Rattle.wasm_types.specs.settings.Features.{MultiValue}
use Rattle.wasm_types.specs.trees.declared.index.UnpackedIndex.{UnpackedIndex}
use Rattle.wasm_types.specs.trees.declared.index.UnpackedIndex.TheVariants.{Module, RecGroup, Id}
use Rattle.wasm_types.specs.trees.Types.{abstract, concrete, exact, ValueOf, number, ref, StorageOf, i8, i16, value, FieldOf, InnerOf, function, array_of, struct_of, continuation}
use Rattle.wasm_types.specs.trees.Types.{EntryOf, value_map, storage_map, field_map, inner_map, entry_map}
use Rattle.wasm_types.specs.trees.Each.{EachValue, EachStorage, EachValues, EachFields, EachInner}
use Rattle.wasm_types.specs.trees.Trees.{TypeTree}
use Rattle.wasm_types.specs.trees.Below.{expanded}
use Rattle.wasm_types.specs.trees.Gates.{Has, ValueIsAllowed}
use Rattle.wasm_types.specs.trees.ValidGroup as trees
use Rattle.wasm_types.specs.trees.ValidGroup.{IsValidPart, AreValidParts, IsValidStorage, AreValidFields, IsValidInner, IsValidComposite}
use Rattle.wasm_module_validator_type_storage.specs.trees.Groups.{Group, count}
use Rattle.wasm_module_validator_type_storage.specs.trees.Formed.{IsFormed, AreCanonical}
use Rattle.wasm_module_validator_type_storage.specs.trees.ByIds.{tree_named}
use Rattle.wasm_module_validator_type_storage.specs.trees.BelowIds.{IsIdBelow, id_named, undeclared, entry_by_id}
use Rattle.wasm_module_validator_type_storage.specs.trees.laws.Ids.{opens}
use Rattle.wasm_module_validator_type_storage.specs.trees.laws.BelowIds.{value_shared}
use Rattle.wasm_module_validator_type_groups.specs.composites.Composites.{IsFunction, IsPartValid, ArePartsValid, IsStorageValid, AreFieldsValid, IsInnerValid, IsCompositeValid}

same : {A : Type 0} → A ↔ A
same = (λ a. a, λ a. a)

-- features ask nothing of what a reference leads to
allowed_mapped : {R S : Type 0} (bits : ℕ) (f : R → S) (v : ValueOf R) → ValueIsAllowed bits v ↔ ValueIsAllowed bits (value_map f v)
allowed_mapped bits f (number n) = same
allowed_mapped bits f (ref n (abstract s a)) = same
allowed_mapped bits f (ref n (concrete r)) = same
allowed_mapped bits f (ref n (exact r)) = same

function_mapped : {R : Type 0} (f : R → TypeTree) (x : InnerOf R) → IsFunction x ↔ trees.IsFunction (inner_map f x)
function_mapped f (function ps rs) = same
function_mapped f (array_of x) = same
function_mapped f (struct_of xs) = same
function_mapped f (continuation r) = same

module _ (groups : List Group) (formed : IsFormed groups) (c : AreCanonical groups) (bits : ℕ) where
  part_valid : (s : Bool) (v : ValueOf UnpackedIndex) → EachValue (IsIdBelow (count groups)) v → IsPartValid groups bits s v ↔ IsValidPart bits s (value_map (tree_named groups) v)
  part_valid s v w =
      let shared = value_shared groups formed c v w in
      let allowed = allowed_mapped bits (tree_named groups) v in (
        λ h. (allowed.0 h.0, λ t. subst IsTrue shared (h.1 t)),
        λ h. (allowed.1 h.0, λ t. subst IsTrue (sym shared) (h.1 t)),
      )

  parts_valid : (s : Bool) (vs : List (ValueOf UnpackedIndex)) → EachValues (IsIdBelow (count groups)) vs
      → ArePartsValid groups bits s vs ↔ AreValidParts bits s (map (value_map (tree_named groups)) vs)
  parts_valid s [] w = same
  parts_valid s (v ∷ vs) w =
      let first = part_valid s v w.0 in
      let rest = parts_valid s vs w.1 in
      (λ h. (first.0 h.0, rest.0 h.1), λ h. (first.1 h.0, rest.1 h.1))

  storage_valid : (s : Bool) (x : StorageOf UnpackedIndex) → EachStorage (IsIdBelow (count groups)) x
      → IsStorageValid groups bits s x ↔ IsValidStorage bits s (storage_map (tree_named groups) x)
  storage_valid s i8 w = same
  storage_valid s i16 w = same
  storage_valid s (value v) w = part_valid s v w

  fields_valid : (s : Bool) (xs : List (FieldOf UnpackedIndex)) → EachFields (IsIdBelow (count groups)) xs
      → AreFieldsValid groups bits s xs ↔ AreValidFields bits s (map (field_map (tree_named groups)) xs)
  fields_valid s [] w = same
  fields_valid s (x ∷ xs) w =
      let first = storage_valid s x.storage w.0 in
      let rest = fields_valid s xs w.1 in
      (λ h. (first.0 h.0, rest.0 h.1), λ h. (first.1 h.0, rest.1 h.1))

  function_valid : (f : UnpackedIndex) → IsIdBelow (count groups) f → IsFunction (entry_by_id groups (id_named f)).inner ↔ trees.IsFunction (expanded (tree_named groups f))
  function_valid (Module m) w = absurd w
  function_valid (RecGroup p) w = absurd w
  function_valid (Id i) w =
      subst (λ (x : EntryOf TypeTree). IsFunction (entry_by_id groups i).inner ↔ trees.IsFunction x.inner) (sym (opens groups formed c i.0 undeclared w))
      (function_mapped (tree_named groups) (entry_by_id groups i).inner)

  results_counted : (rs : List (ValueOf UnpackedIndex)) → (1 < length rs → Has bits MultiValue) ↔ (1 < length (map (value_map (tree_named groups)) rs) → Has bits MultiValue)
  results_counted rs =
      subst (λ (n : ℕ). (1 < length rs → Has bits MultiValue) ↔ (1 < n → Has bits MultiValue)) (sym (length-map rs (value_map (tree_named groups)))) same

  inner_valid : (s : Bool) (x : InnerOf UnpackedIndex) → EachInner (IsIdBelow (count groups)) x → IsInnerValid groups bits s x ↔ IsValidInner bits s (inner_map (tree_named groups) x)
  inner_valid s (function ps rs) w =
      let params = parts_valid s ps w.0 in
      let results = parts_valid s rs w.1 in
      let counted = results_counted rs in
      (λ h. (params.0 h.0, results.0 h.1, counted.0 h.2), λ h. (params.1 h.0, results.1 h.1, counted.1 h.2))
  inner_valid s (array_of x) w = let element = storage_valid s x.storage w in (λ h. (h.0, h.1, element.0 h.2), λ h. (h.0, h.1, element.1 h.2))
  inner_valid s (struct_of xs) w = let fields = fields_valid s xs w in (λ h. (h.0, h.1, fields.0 h.2), λ h. (h.0, h.1, fields.1 h.2))
  inner_valid s (continuation f) w = let made = function_valid f w in (λ h. (h.0, h.1, made.0 h.2), λ h. (h.0, h.1, made.1 h.2))

  pub composite_valid : (x : EntryOf UnpackedIndex) → EachInner (IsIdBelow (count groups)) x.inner
      → IsCompositeValid groups bits x ↔ IsValidComposite bits (entry_map (tree_named groups) x)
  composite_valid x w = let inner = inner_valid x.shared x.inner w in (λ h. (h.0, inner.0 h.1), λ h. (h.0, inner.1 h.1))
