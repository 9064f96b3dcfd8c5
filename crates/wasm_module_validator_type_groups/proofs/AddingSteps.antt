-- What each step says of a group, in the terms of the rules.
use Rattle.std.proofs.Common.{◌≡◌, ◌∙◌, ◌⊎◌, inl, inr, ℕ, ◌+◌, ◌-◌, Bool, true, false, cond, IsTrue, List, ◌∷◌, ◌++◌, length, ap, sym, subst}
use Rattle.wasm_types.specs.settings.Settings.{Settings}
use Rattle.wasm_types.specs.settings.Features.{has, Gc, needs_canonical_types}
use Rattle.wasm_types.specs.decoding.Denials.{Denies}
use Rattle.wasm_types.specs.decoding.DenialLaws.{denies_from}
use Rattle.wasm_types.specs.decoding.declared.error.ErrorKind.{ErrorKind}
use Rattle.wasm_types.specs.trees.declared.index.CoreTypeId.{CoreTypeId}
use Rattle.wasm_types.specs.trees.Gates.{Has}
use Rattle.wasm_types.specs.trees.ValidGroup.{IsValidGroup, types_of}
use Rattle.wasm_types.specs.declared.rec_group.RecGroup.{RecGroup}
use Rattle.wasm_types.specs.Entries.{Declared, subtypes, declared_types}
use Rattle.wasm_module_validator_type_storage.specs.trees.Groups.{Group, count}
use Rattle.wasm_module_validator_type_storage.specs.trees.Formed.{IsGroupFormed, IsFormed}
use Rattle.wasm_module_validator_type_list.specs.Lookups.{HasIds}
use Rattle.wasm_module_validator_type_list.specs.List.{HasRoom, Interns}
use Rattle.wasm_module_validator_canonical_types.specs.Written.{AreModuleIndices, HaveOneSupertype}
use Rattle.wasm_module_validator_canonical_types.specs.Canonical.{AreTypesAllowed}
use Rattle.wasm_module_validator_type_groups.specs.composites.Composites.{WhereCanonical}
use Rattle.wasm_module_validator_type_groups.specs.ValidTypes.{HaveKnownIds, AreTypesValid}
use Rattle.wasm_module_validator_type_groups.specs.adding.Interned.{space_of, AreIdsKnown, written_group, kept_types, kept_group, IsChecked, ids_from, AddsGroup, AreGroupTypesValid}
use Rattle.wasm_module_validator_type_groups.proofs.Outcome.{Outcome, kept_length, outcome, kept_formed, formed_after, canonical_after}
use Rattle.wasm_module_validator_type_groups.proofs.Verdict.{few_supertypes, kept_is, known_ids, allowed_indices, valid_by_ids, group_is_valid, space_is, known_is, checked_is, adds_group}

list_either : (b : Bool) (g : Group) (old new : List Group) → new ≡ cond b (g ∷ old) old → (new ≡ old) ⊎ (new ≡ g ∷ old)
list_either true g old new e = inr e
list_either false g old new e = inl e

-- a group is accepted
abbrev pub IsAccepted : Settings → List Group → List CoreTypeId → RecGroup → Type 0
IsAccepted z old ids x = IsValidGroup z (space_of old ids) (written_group x) × HasRoom old (length (declared_types x))

module _ (z : Settings) (old : List Group) (ids : List CoreTypeId) (x : RecGroup) where
  pub refuses_written : (own : ℕ) → own ≡ z.features → (kind : ErrorKind) → Denies kind ((IsTrue x.is_explicit → Has own Gc) × HaveOneSupertype (declared_types x))
      → Denies kind (IsAccepted z old ids x)
  refuses_written own e kind d = denies_from kind ((IsTrue x.is_explicit → Has own Gc) × HaveOneSupertype (declared_types x)) (IsAccepted z old ids x)
      (λ v. ((λ t. subst (λ (b : ℕ). Has b Gc) (sym e) (v.0.explicit t)), few_supertypes (subtypes x) v.0.supertypes)) d

  pub refuses_room : (ts : List Declared) → ts ≡ kept_types (needs_canonical_types z.features) ids (declared_types x) → (kind : ErrorKind) → Denies kind (HasRoom old (length ts))
      → Denies kind (IsAccepted z old ids x)
  refuses_room ts e kind d = denies_from kind (HasRoom old (length ts)) (IsAccepted z old ids x)
      (λ v. subst (HasRoom old) (sym (ap length e ∙ kept_length (needs_canonical_types z.features) ids (declared_types x))) v.1) d

  module _ (m : AreModuleIndices (declared_types x)) (s : HaveOneSupertype (declared_types x)) where
    abbrev Allowed : Type 0
    Allowed = WhereCanonical z.features (AreTypesAllowed (has Gc z.features) (length ids) (length ids + length (declared_types x)) (length ids) (declared_types x))

    pub refuses_form : (kind : ErrorKind) → Denies kind Allowed → Denies kind (IsAccepted z old ids x)
    refuses_form kind d = denies_from kind Allowed (IsAccepted z old ids x) (λ v. allowed_indices z old ids x.is_explicit (declared_types x) m s v.0) d

    module _ (checked : IsChecked z old) (formed : IsFormed old) (known : AreIdsKnown old ids) (allowed : Allowed)
        (own : ℕ) (b : Bool) (ts : List Declared) (e : own ≡ z.features) (f : b ≡ needs_canonical_types own)
        (k : ts ≡ kept_types (needs_canonical_types z.features) ids (declared_types x)) where
      abbrev g : Group
      g = record { is_canonical = b; types = ts }

      kept : g ≡ kept_group z.features ids (declared_types x)
      kept = kept_is z.features own b ids (declared_types x) ts e f k

      pub formed_is : IsGroupFormed (count old) g
      formed_is = subst (IsGroupFormed (count old)) (sym kept) (kept_formed z old checked ids x.is_explicit (declared_types x) m s formed known allowed)

      module _ (new : List Group) (is_new : Bool) (number : ℕ) (i : Interns old new g is_new number) where
        pub interned_is : Interns old new (kept_group z.features ids (declared_types x)) is_new number
        interned_is = subst (λ (h : Group). Interns old new h is_new number) kept i

        pub outcome_is : (first end : ℕ) → HasIds new number first end
            → Outcome z old new (space_of old ids) (written_group x) is_new first end (length (declared_types x))
        outcome_is first end at = outcome z old checked ids x.is_explicit (declared_types x) m s formed known allowed new is_new number first end interned_is at

        pub known_ids_is : (own_z : Settings) → own_z ≡ z → WhereCanonical own_z.features (HaveKnownIds new)
        known_ids_is own_z y =
            let f = formed_after z old checked ids x.is_explicit (declared_types x) m s formed known allowed new is_new number interned_is in
            let c = canonical_after z old checked ids x.is_explicit (declared_types x) m s formed known allowed new is_new number interned_is in
            subst (λ (a : Settings). WhereCanonical a.features (HaveKnownIds new)) (sym y) (known_ids z.features new f c)

        pub refuses_types : (own_z : Settings) → own_z ≡ z → (kind : ErrorKind) → Denies kind (IsTrue is_new → AreGroupTypesValid own_z new number)
            → Denies kind (IsAccepted z old ids x)
        refuses_types own_z y kind d = denies_from kind (IsTrue is_new → AreGroupTypesValid own_z new number) (IsAccepted z old ids x)
            (λ v t first end at. subst (λ (a : Settings). AreGroupTypesValid a new number) (sym y)
            (λ one two here. valid_by_ids z old ids x.is_explicit (declared_types x) new is_new one two (outcome_is one two here) v.0 t) first end at) d

        -- the list is as it was, or the group was added to it
        pub list_is : (new ≡ old) ⊎ (new ≡ kept_group z.features ids (declared_types x) ∷ old)
        list_is = list_either is_new (kept_group z.features ids (declared_types x)) old new interned_is.groups

        module _ (own_z : Settings) (y : own_z ≡ z) (pass : IsTrue is_new → AreGroupTypesValid own_z new number) (first end : ℕ) (at : HasIds new number first end) where
          o : Outcome z old new (space_of old ids) (written_group x) is_new first end (length (declared_types x))
          o = outcome_is first end at

          h : IsTrue is_new → AreTypesValid new z.features z.limits.subtyping_depth first (end - first)
          h t = subst (λ (a : Settings). AreGroupTypesValid a new number) y (pass t) first end at

          pub accepted_is : (bits : ℕ) → bits ≡ z.features → (IsTrue x.is_explicit → Has bits Gc) → HasRoom old (length ts) → IsAccepted z old ids x
          accepted_is bits c explicit room = (
            group_is_valid z old ids x.is_explicit (declared_types x) new is_new first end o h (λ t. subst (λ (j : ℕ). Has j Gc) c (explicit t)) s,
            subst (HasRoom old) (ap length k ∙ kept_length (needs_canonical_types z.features) ids (declared_types x)) room,
          )

          pub checked_after : IsChecked z new
          checked_after = checked_is z old ids x.is_explicit (declared_types x) new is_new first end o h checked

          module _ (was after : List CoreTypeId) (same : was ≡ ids) (more : after ≡ was ++ ids_from first (end - first)) where
            behind : after ≡ ids ++ ids_from first (end - first)
            behind = more ∙ ap (λ l. l ++ ids_from first (end - first)) same

            pub added_after : AddsGroup old new ids after (kept_group z.features ids (declared_types x))
            added_after = adds_group z old ids x.is_explicit (declared_types x) new is_new first end o number after interned_is at behind

            pub space_is_after : space_of new after ≡ space_of old ids ++ types_of (space_of old ids) (written_group x)
            space_is_after = space_is z old ids x.is_explicit (declared_types x) new is_new first end o h known after behind

            pub known_is_after : AreIdsKnown new after
            known_is_after = known_is z old ids x.is_explicit (declared_types x) new is_new first end o h known after behind
