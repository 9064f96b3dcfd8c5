-- A canonical form unrolls to what the group does.
use Rattle.std.proofs.Common.{◌≡◌, ◌∙◌, ℕ, ◌-◌, ◌<◌, ◌≤◌, Bool, true, List, [], ◌∷◌, length, map, get_or, refl, ap, sym, ⊎_elim, arith}
use Rattle.std.proofs.lemmas.Bool.{lt-ltb, le-ltb, cases_lt}
use Rattle.std.proofs.lemmas.List.{length-map, get_or-map}
use Rattle.wasm_types.specs.trees.declared.index.CoreTypeId.{CoreTypeId}
use Rattle.wasm_types.specs.trees.declared.index.UnpackedIndex.{UnpackedIndex}
use Rattle.wasm_types.specs.trees.declared.index.UnpackedIndex.TheVariants.{Module, RecGroup, Id}
use Rattle.wasm_types.specs.trees.Indices.{number_of}
use Rattle.wasm_types.specs.trees.Types.{entry_map, entry_of_subtype}
use Rattle.wasm_types.specs.trees.Trees.{TypeTree}
use Rattle.wasm_types.specs.trees.Unfold.{Local, Earlier, unfolded}
use Rattle.wasm_types.specs.trees.ValidGroup.{canonical_at, written_entries, written_tree}
use Rattle.wasm_types.specs.trees.laws.Types.{each_entry, entry_agrees, entry_twice}
use Rattle.wasm_types.specs.trees.laws.Valid.{canonical_unfolds}
use Rattle.wasm_types.specs.Entries.{Declared}
use Rattle.wasm_module_validator_type_storage.specs.trees.Groups.{Group, reference_of, entries_of, tree_of, tree_behind}
use Rattle.wasm_module_validator_canonical_types.specs.Written.{IsModuleIndex, AreModuleIndices, HaveOneSupertype, written_type}
use Rattle.wasm_module_validator_canonical_types.specs.Canonical.{canonical_index, canonical_types}
use Rattle.wasm_module_validator_canonical_types.specs.laws.Statements.{written}
use Rattle.wasm_module_validator_canonical_types.specs.laws.Written.{entry_written}

module _ (ids : List CoreTypeId) where
  abbrev numbers : List ℕ
  numbers = map (λ (i : CoreTypeId). i.0) ids

  pub canonical_old : (n : ℕ) → n < length ids → canonical_index ids (Module n) ≡ Id (get_or ids n (record { 0 = 0 }))
  canonical_old n lt = rw (lt-ltb n (length ids) lt) refl

  pub canonical_own : (n : ℕ) → length ids ≤ n → canonical_index ids (Module n) ≡ RecGroup (n - length ids)
  canonical_own n le = rw (le-ltb n (length ids) le) refl

  -- an index names the same in both forms
  same_index : (n : ℕ) → reference_of (canonical_index ids (Module n)) ≡ canonical_at numbers n
  same_index n = ⊎_elim
      (λ old.
      let a : canonical_at numbers n ≡ Earlier (get_or numbers n 0) = rw (lt-ltb n (length numbers) (omega (arith, length-map ids (λ (i : CoreTypeId). i.0)))) refl in
      let b : get_or numbers n 0 ≡ (get_or ids n (record { 0 = 0 })).0 = get_or-map (λ (i : CoreTypeId). i.0) ids n (record { 0 = 0 }) 0 old in
      ap reference_of (canonical_old n old) ∙ ap Earlier (sym b) ∙ sym a)
      (λ new.
      let a : canonical_at numbers n ≡ Local (n - length numbers) = rw (le-ltb n (length numbers) (omega (arith, length-map ids (λ (i : CoreTypeId). i.0)))) refl in
      ap reference_of (canonical_own n new) ∙ ap (λ (m : ℕ). Local (n - m)) (sym (length-map ids (λ (i : CoreTypeId). i.0))) ∙ sym a)
      (cases_lt n (length ids))

  same_name : (i : UnpackedIndex) → IsModuleIndex i → reference_of (canonical_index ids i) ≡ canonical_at numbers (number_of i)
  same_name (Module n) m = same_index n
  same_name (RecGroup p) m = absurd m
  same_name (Id j) m = absurd m

  same_entries : (explicit : Bool) (ds : List Declared) → AreModuleIndices ds → HaveOneSupertype ds
      → entries_of (record { is_canonical = true; types = canonical_types ids ds }) ≡ map (entry_map (canonical_at numbers)) (written_entries (written explicit ds))
  same_entries explicit [] m s = refl
  same_entries explicit (d ∷ ds) m s =
      let first : entry_map reference_of (entry_map (canonical_index ids) d.entry) ≡ entry_map (canonical_at numbers) (entry_of_subtype (written_type d)) =
      entry_twice reference_of (canonical_index ids) d.entry
      ∙ entry_agrees (λ i. reference_of (canonical_index ids i)) (λ i. canonical_at numbers (number_of i)) d.entry
      (each_entry IsModuleIndex (λ i. reference_of (canonical_index ids i) ≡ canonical_at numbers (number_of i)) same_name d.entry m.0)
      ∙ sym (entry_twice (canonical_at numbers) number_of d.entry)
      ∙ ap (entry_map (canonical_at numbers)) (sym (entry_written d s.1)) in
      let rest = same_entries explicit ds m.1 s.2 in
      cc

map_numbers : (tree : ℕ → TypeTree) (ids : List CoreTypeId) → map tree (map (λ (i : CoreTypeId). i.0) ids) ≡ map (λ (i : CoreTypeId). tree i.0) ids
map_numbers tree [] = refl
map_numbers tree (i ∷ ids) = ap (λ l. tree i.0 ∷ l) (map_numbers tree ids)

pub canonical_group : (groups : List Group) (ids : List CoreTypeId) (explicit : Bool) (ds : List Declared) → AreModuleIndices ds → HaveOneSupertype ds
    → tree_behind groups (record { is_canonical = true; types = canonical_types ids ds })
    ≡ written_tree (map (λ (i : CoreTypeId). tree_of groups i.0) ids) (written explicit ds)
canonical_group groups ids explicit ds m s =
    ap (unfolded (tree_of groups)) (same_entries ids explicit ds m s)
    ∙ canonical_unfolds (tree_of groups) (map (λ (i : CoreTypeId). i.0) ids) (written explicit ds)
    ∙ ap (λ (space : List TypeTree). written_tree space (written explicit ds)) (map_numbers (tree_of groups) ids)
