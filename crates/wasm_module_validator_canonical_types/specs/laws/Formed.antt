-- A canonical form leads to known ids and to the group's own places, and a supertype stands before its subtype.
use Rattle.std.proofs.Common.{◌≡◌, ◌∙◌, ℕ, suc, ◌+◌, ◌-◌, ◌<◌, ◌≤◌, Bool, true, List, [], ◌∷◌, length, map, Option, Some, None, refl, ap, sym, subst, ⊎_elim, arith}
use Rattle.std.specs.Prelude.{All}
use Rattle.std.specs.Option.{option_map}
use Rattle.std.proofs.lemmas.Bool.{cases_lt}
use Rattle.std.proofs.lemmas.List.{length-map}
use Rattle.wasm_types.specs.trees.declared.index.CoreTypeId.{CoreTypeId}
use Rattle.wasm_types.specs.trees.declared.index.UnpackedIndex.{UnpackedIndex}
use Rattle.wasm_types.specs.trees.declared.index.UnpackedIndex.TheVariants.{Module, RecGroup, Id}
use Rattle.wasm_types.specs.trees.Each.{EachOption, EachEntry}
use Rattle.wasm_types.specs.trees.laws.Types.{entry_of_each}
use Rattle.wasm_types.specs.Entries.{Declared, first_of}
use Rattle.wasm_module_validator_type_storage.specs.trees.Formed.{IsIndexWithin, IsTypeFormed, AreTypesFormed, IsGroupFormed}
use Rattle.wasm_module_validator_canonical_types.specs.Written.{IsModuleIndex, AreModuleIndices, HaveOneSupertype}
use Rattle.wasm_module_validator_canonical_types.specs.Canonical.{canonical_index, canonical_type, canonical_types, IsIndexAllowed, IsIndexBefore, IsTypeAllowed, AreTypesAllowed}
use Rattle.wasm_module_validator_canonical_types.specs.laws.Each.{both_entry, first_each}
use Rattle.wasm_module_validator_canonical_types.specs.laws.Unfolding.{canonical_old, canonical_own}

first_mapped : {R S : Type 0} (f : R → S) (is : List R) → option_map f (first_of is) ≡ first_of (map f is)
first_mapped f [] = refl
first_mapped f (i ∷ is) = refl

module _ (known : ℕ) (ids : List CoreTypeId) (ids_known : All (λ (i : CoreTypeId). i.0 < known) ids) where
  index_formed : (places n : ℕ) → n < length ids + places → IsIndexWithin true known places (canonical_index ids (Module n))
  index_formed places n lt = ⊎_elim
      (λ old. subst (IsIndexWithin true known places) (sym (canonical_old ids n old)) (ids_known n (record { 0 = 0 }) old))
      (λ new. let below : n - length ids < places = omega arith in subst (IsIndexWithin true known places) (sym (canonical_own ids n new)) below)
      (cases_lt n (length ids))

  above_formed : (places : ℕ) (o : Option UnpackedIndex) → EachOption IsModuleIndex o → EachOption (IsIndexBefore (length ids + places)) o
      → EachOption (IsIndexWithin true known places) (option_map (canonical_index ids) o)
  above_formed places None m w = tt
  above_formed places (Some (Module n)) m w = index_formed places n w
  above_formed places (Some (RecGroup p)) m w = absurd m
  above_formed places (Some (Id j)) m w = absurd m

  module _ (gc : Bool) (places : ℕ) where
    allowed_formed : (i : UnpackedIndex) → IsModuleIndex i → IsIndexAllowed gc (length ids) (length ids + places) i → IsIndexWithin true known places (canonical_index ids i)
    allowed_formed (Module n) m w = index_formed places n w.0
    allowed_formed (RecGroup p) m w = absurd m
    allowed_formed (Id j) m w = absurd m

    type_formed : (own : ℕ) (d : Declared) → EachEntry IsModuleIndex d.entry → length d.supertypes ≤ 1 → d.entry.supertype ≡ first_of d.supertypes
        → IsTypeAllowed gc (length ids) (length ids + places) (length ids + own) d → IsTypeFormed true known places own (canonical_type ids d)
    type_formed own d m one e w = record {
      one = omega (arith, length-map d.supertypes (canonical_index ids));
      first = ap (option_map (canonical_index ids)) e ∙ first_mapped (canonical_index ids) d.supertypes;
      above = above_formed own d.entry.supertype m.supertype
          (subst (EachOption (IsIndexBefore (length ids + own))) (sym e) (first_each (IsIndexBefore (length ids + own)) d.supertypes w.supertypes));
      within = entry_of_each (canonical_index ids) (IsIndexWithin true known places) d.entry
          (both_entry IsModuleIndex (IsIndexAllowed gc (length ids) (length ids + places)) (λ i. IsIndexWithin true known places (canonical_index ids i)) allowed_formed d.entry m w.parts);
    }

    types_formed : (own : ℕ) (ds : List Declared) → AreModuleIndices ds → HaveOneSupertype ds → AreTypesAllowed gc (length ids) (length ids + places) (length ids + own) ds
        → AreTypesFormed true known places own (canonical_types ids ds)
    types_formed own [] m s w = tt
    types_formed own (d ∷ ds) m s w = (
      type_formed own d m.0 s.0 s.1 w.0,
      types_formed (suc own) ds m.1 s.2 (subst (λ (n : ℕ). AreTypesAllowed gc (length ids) (length ids + places) n ds) (omega arith) w.1),
    )

  pub canonical_formed : (gc : Bool) (ds : List Declared) → AreModuleIndices ds → HaveOneSupertype ds
      → AreTypesAllowed gc (length ids) (length ids + length ds) (length ids) ds → IsGroupFormed known (record { is_canonical = true; types = canonical_types ids ds })
  canonical_formed gc ds m s w =
      subst (λ (n : ℕ). AreTypesFormed true known n 0 (canonical_types ids ds)) (sym (length-map ds (canonical_type ids)))
      (types_formed gc (length ds) 0 ds m s (subst (λ (n : ℕ). AreTypesAllowed gc (length ids) (length ids + length ds) n ds) (omega arith) w))
