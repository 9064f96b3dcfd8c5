-- Matching over ids is matching of the types that they stand for, where all groups are in canonical form.
use Rattle.std.proofs.Common.{◌≡◌, ◌↔◌, ◌<◌, List, [], ◌∷◌, map, sym, subst}
use Rattle.wasm_types.specs.trees.declared.index.CoreTypeId.{CoreTypeId}
use Rattle.wasm_types.specs.trees.declared.index.UnpackedIndex.{UnpackedIndex}
use Rattle.wasm_types.specs.trees.declared.index.UnpackedIndex.TheVariants.{Module, RecGroup, Id}
use Rattle.wasm_types.specs.trees.Types.{ValueOf, StorageOf, i8, i16, value, FieldOf, InnerOf, function, array_of, struct_of, continuation, EntryOf}
use Rattle.wasm_types.specs.trees.Types.{value_map, storage_map, field_map, inner_map, entry_map}
use Rattle.wasm_types.specs.trees.Each.{EachStorage, EachValues, EachFields, EachInner}
use Rattle.wasm_types.specs.trees.Trees.{TypeTree, opened}
use Rattle.wasm_types.specs.trees.Below.{DeclaredBelow}
use Rattle.wasm_types.specs.trees.Matches.{StorageMatches, FieldMatches, FieldsMatch, ResultsMatch, InnerMatches, Matches}
use Rattle.wasm_module_validator_type_storage.specs.trees.Groups.{Group, count, tree_of}
use Rattle.wasm_module_validator_type_storage.specs.trees.Formed.{IsFormed, AreCanonical}
use Rattle.wasm_module_validator_type_storage.specs.trees.ByIds.{IdBelow, tree_named}
use Rattle.wasm_module_validator_type_storage.specs.trees.BelowIds.{IsIdBelow, id_named, undeclared, entry_by_id}
use Rattle.wasm_module_validator_type_storage.specs.trees.laws.Ids.{opens, below_by_ids}
use Rattle.wasm_module_validator_type_storage.specs.trees.laws.BelowIds.{value_below}
use Rattle.wasm_module_validator_canonical_types.specs.matches.MatchesById.{StorageMatchesById, FieldMatchesById, FieldsMatchById, ResultsMatchById, InnerMatchesById, MatchesById}
use Rattle.wasm_module_validator_canonical_types.specs.matches.laws.Known.{entry_known}

same : {A : Type 0} → A ↔ A
same = (λ a. a, λ a. a)

module _ (groups : List Group) (formed : IsFormed groups) (c : AreCanonical groups) where
  storage_matches : (x y : StorageOf UnpackedIndex) → EachStorage (IsIdBelow (count groups)) x → EachStorage (IsIdBelow (count groups)) y
      → StorageMatchesById groups x y ↔ StorageMatches (storage_map (tree_named groups) x) (storage_map (tree_named groups) y)
  storage_matches i8 i8 v w = same
  storage_matches i8 i16 v w = same
  storage_matches i8 (value b) v w = same
  storage_matches i16 i8 v w = same
  storage_matches i16 i16 v w = same
  storage_matches i16 (value b) v w = same
  storage_matches (value a) i8 v w = same
  storage_matches (value a) i16 v w = same
  storage_matches (value a) (value b) v w = value_below groups formed c a b v w

  field_matches : (x y : FieldOf UnpackedIndex) → EachStorage (IsIdBelow (count groups)) x.storage → EachStorage (IsIdBelow (count groups)) y.storage
      → FieldMatchesById groups x y ↔ FieldMatches (field_map (tree_named groups) x) (field_map (tree_named groups) y)
  field_matches x y v w =
      let there = storage_matches x.storage y.storage v w in
      let back = storage_matches y.storage x.storage w v in
      (λ h. (h.0, there.0 h.1, λ m. back.0 (h.2 m)), λ h. (h.0, there.1 h.1, λ m. back.1 (h.2 m)))

  fields_match : (xs ys : List (FieldOf UnpackedIndex)) → EachFields (IsIdBelow (count groups)) xs → EachFields (IsIdBelow (count groups)) ys
      → FieldsMatchById groups xs ys ↔ FieldsMatch (map (field_map (tree_named groups)) xs) (map (field_map (tree_named groups)) ys)
  fields_match [] [] v w = same
  fields_match (x ∷ xs) [] v w = same
  fields_match [] (y ∷ ys) v w = same
  fields_match (x ∷ xs) (y ∷ ys) v w =
      let first = field_matches x y v.0 w.0 in
      let rest = fields_match xs ys v.1 w.1 in
      (λ h. (first.0 h.0, rest.0 h.1), λ h. (first.1 h.0, rest.1 h.1))

  results_match : (xs ys : List (ValueOf UnpackedIndex)) → EachValues (IsIdBelow (count groups)) xs → EachValues (IsIdBelow (count groups)) ys
      → ResultsMatchById groups xs ys ↔ ResultsMatch (map (value_map (tree_named groups)) xs) (map (value_map (tree_named groups)) ys)
  results_match [] [] v w = same
  results_match (x ∷ xs) [] v w = same
  results_match [] (y ∷ ys) v w = same
  results_match (x ∷ xs) (y ∷ ys) v w =
      let first = value_below groups formed c x y v.0 w.0 in
      let rest = results_match xs ys v.1 w.1 in
      (λ h. (first.0 h.0, rest.0 h.1), λ h. (first.1 h.0, rest.1 h.1))

  function_below : (f g : UnpackedIndex) → IsIdBelow (count groups) f → IsIdBelow (count groups) g
      → IdBelow groups (id_named f) (id_named g) ↔ DeclaredBelow (tree_named groups f) (tree_named groups g)
  function_below (Module m) g v w = absurd v
  function_below (RecGroup p) g v w = absurd v
  function_below (Id i) (Module m) v w = absurd w
  function_below (Id i) (RecGroup p) v w = absurd w
  function_below (Id i) (Id j) v w = below_by_ids groups formed c i j v w

  inner_matches : (x y : InnerOf UnpackedIndex) → EachInner (IsIdBelow (count groups)) x → EachInner (IsIdBelow (count groups)) y
      → InnerMatchesById groups x y ↔ InnerMatches (inner_map (tree_named groups) x) (inner_map (tree_named groups) y)
  inner_matches (function ps rs) (function qs ss) v w =
      let params = results_match qs ps w.0 v.0 in
      let results = results_match rs ss v.1 w.1 in
      (λ h. (params.0 h.0, results.0 h.1), λ h. (params.1 h.0, results.1 h.1))
  inner_matches (function ps rs) (array_of y) v w = same
  inner_matches (function ps rs) (struct_of ys) v w = same
  inner_matches (function ps rs) (continuation g) v w = same
  inner_matches (array_of x) (function qs ss) v w = same
  inner_matches (array_of x) (array_of y) v w = field_matches x y v w
  inner_matches (array_of x) (struct_of ys) v w = same
  inner_matches (array_of x) (continuation g) v w = same
  inner_matches (struct_of xs) (function qs ss) v w = same
  inner_matches (struct_of xs) (array_of y) v w = same
  inner_matches (struct_of xs) (struct_of ys) v w = fields_match xs ys v w
  inner_matches (struct_of xs) (continuation g) v w = same
  inner_matches (continuation f) (function qs ss) v w = same
  inner_matches (continuation f) (array_of y) v w = same
  inner_matches (continuation f) (struct_of ys) v w = same
  inner_matches (continuation f) (continuation g) v w = function_below f g v w

  pub ids_match : (a b : CoreTypeId) → a.0 < count groups → b.0 < count groups
      → MatchesById groups a b ↔ Matches (opened (tree_of groups a.0)) (opened (tree_of groups b.0))
  ids_match a b la lb =
      let inner = inner_matches (entry_by_id groups a).inner (entry_by_id groups b).inner (entry_known groups formed c a la).inner (entry_known groups formed c b lb).inner in
      let P : EntryOf TypeTree → EntryOf TypeTree → Type 0 = λ x y. MatchesById groups a b ↔ Matches x y in
      subst (λ (x : EntryOf TypeTree). P x (opened (tree_of groups b.0))) (sym (opens groups formed c a.0 undeclared la))
      (subst (λ (y : EntryOf TypeTree). P (entry_map (tree_named groups) (entry_by_id groups a)) y) (sym (opens groups formed c b.0 undeclared lb))
      (λ h. (h.0, inner.0 h.1), λ h. (h.0, inner.1 h.1)))
