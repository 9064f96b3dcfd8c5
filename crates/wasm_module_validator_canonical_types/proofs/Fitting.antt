-- Where each id fits, an index is stored as its canonical form.
use Rattle.std.proofs.Common.{◌≡◌, ◌∙◌, ◌<◌, List, length, map, get_or, refl, sym, ⊎_elim, Result, Ok}
use Rattle.std.specs.Prelude.{All}
use Rattle.std.specs.List.{flat_map}
use Rattle.std.proofs.lemmas.Bool.{lt-ltb, le-ltb, cases_lt}
use Rattle.wasm_types.specs.trees.declared.index.CoreTypeId.{CoreTypeId}
use Rattle.wasm_types.specs.trees.declared.index.UnpackedIndex.{UnpackedIndex}
use Rattle.wasm_types.specs.trees.declared.index.UnpackedIndex.TheVariants.{Module, RecGroup, Id}
use Rattle.wasm_types.specs.values.Remap.{Remapped}
use Rattle.wasm_types.specs.declared.sub_type.SubType.{SubType}
use Rattle.wasm_types.specs.Entries.{Declared, declared_of}
use Rattle.wasm_types.specs.Remap.{declared_indices, declared_shape, declared_map}
use Rattle.wasm_module_validator_canonical_types.specs.Canonical.{IdFits, canonical_index, canonical_types}
use Rattle.wasm_module_validator_canonical_types.specs.Packed.{packed_id, packed_canonical}
use Rattle.wasm_module_validator_canonical_types.proofs.Remapped.{group_mapped}

module _ (ids : List CoreTypeId) (fit : All IdFits ids) where
  index_fits : (i : UnpackedIndex) → packed_canonical ids i ≡ canonical_index ids i
  index_fits (Module n) = ⊎_elim
      (λ old.
      let x : CoreTypeId = get_or ids n (record { 0 = 0 }) in
      let small : x.0 < 0x10_0000 = fit n (record { 0 = 0 }) old in
      let a : packed_canonical ids (Module n) ≡ packed_id (Module n) x = rw (lt-ltb n (length ids) old) refl in
      let b : packed_id (Module n) x ≡ Id x = rw (lt-ltb x.0 0x10_0000 small) refl in
      let c : canonical_index ids (Module n) ≡ Id x = rw (lt-ltb n (length ids) old) refl in
      a ∙ b ∙ sym c)
      (λ new. rw (le-ltb n (length ids) new) refl)
      (cases_lt n (length ids))
  index_fits (RecGroup p) = refl
  index_fits (Id j) = refl

  types_fit : (ds : List Declared) → map (declared_map (packed_canonical ids)) ds ≡ canonical_types ids ds
  types_fit ds = λ k. map (declared_map (λ i. index_fits i k)) ds

  -- a group whose indices are replaced by what they mean is in canonical form
  pub remapped_canonical : {E U : Type 0} (answers : UnpackedIndex → Result UnpackedIndex E → Type 0) (result : Result U E) (xs ys : List SubType)
      → Remapped (map declared_shape) (flat_map declared_indices) answers result (map declared_of xs) (map declared_of ys)
      → ((i : UnpackedIndex) (r : Result UnpackedIndex E) → answers i r → r ≡ Ok (packed_canonical ids i))
      → map declared_of ys ≡ canonical_types ids (map declared_of xs)
  remapped_canonical answers result xs ys w only = group_mapped (packed_canonical ids) answers result xs ys w only ∙ types_fit (map declared_of xs)
