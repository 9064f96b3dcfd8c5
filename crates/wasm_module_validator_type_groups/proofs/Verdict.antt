-- What the steps say of a group together.
use Rattle.std.proofs.Common.{◌≡◌, ◌∙◌, ℕ, ◌+◌, ◌-◌, ◌<◌, ◌≤◌, Bool, true, false, IsTrue, List, [], ◌∷◌, ◌++◌, length, map, refl, ap, sym, subst, arith}
use Rattle.std.specs.Prelude.{All}
use Rattle.std.proofs.lemmas.List.{length-map}
use Rattle.std.proofs.lemmas.List.Elements.{All-nil, All-cons, All-head, All-tail, All-weaker}
use Rattle.wasm_types.specs.settings.Settings.{Settings}
use Rattle.wasm_types.specs.settings.Features.{has, Gc, needs_canonical_types}
use Rattle.wasm_types.specs.trees.declared.index.CoreTypeId.{CoreTypeId}
use Rattle.wasm_types.specs.trees.Indices.{number_of}
use Rattle.wasm_types.specs.trees.Trees.{TypeTree}
use Rattle.wasm_types.specs.trees.Gates.{Has}
use Rattle.wasm_types.specs.trees.ValidGroup.{Written, IsWithinSupertypes, written_entries, written_tree, types_from, types_of, AreWellReferenced, IsValidGroup}
use Rattle.wasm_types.specs.declared.sub_type.SubType.{SubType}
use Rattle.wasm_types.specs.Entries.{Declared, declared_of}
use Rattle.wasm_module_validator_type_storage.specs.trees.Groups.{Group, count, tree_of}
use Rattle.wasm_module_validator_type_storage.specs.trees.Formed.{IsFormed, AreCanonical}
use Rattle.wasm_module_validator_type_list.specs.Lookups.{HasIds}
use Rattle.wasm_module_validator_canonical_types.specs.matches.laws.Known.{entry_known}
use Rattle.wasm_module_validator_type_list.specs.List.{Interns}
use Rattle.wasm_module_validator_canonical_types.specs.Written.{AreModuleIndices, HaveOneSupertype, written_type, written_types}
use Rattle.wasm_module_validator_canonical_types.specs.Canonical.{IdFits, AreTypesAllowed}
use Rattle.wasm_module_validator_canonical_types.specs.laws.Statements.{written}
use Rattle.wasm_module_validator_canonical_types.specs.laws.Written.{allowed_referenced}
use Rattle.wasm_module_validator_type_groups.specs.composites.Composites.{WhereCanonical}
use Rattle.wasm_module_validator_type_groups.specs.ValidTypes.{AreTypesValid, HaveKnownIds}
use Rattle.wasm_module_validator_type_groups.specs.adding.Interned.{space_of, AreIdsKnown, kept_types, kept_group, IsChecked, ids_from, AddsGroup}
use Rattle.wasm_module_validator_type_groups.proofs.Stands.{space_after, known_after, valid_after}
use Rattle.wasm_module_validator_type_groups.proofs.Outcome.{Valid, Outcome, kept_length}

-- ---- supertypes

pub few_supertypes : (xs : List SubType) → All IsWithinSupertypes (written_types (map declared_of xs)) → HaveOneSupertype (map declared_of xs)
few_supertypes [] w = tt
few_supertypes (x ∷ xs) w =
    let rest = written_types (map declared_of xs) in
    let one : IsWithinSupertypes (written_type (declared_of x)) = All-head IsWithinSupertypes (written_type (declared_of x)) rest w in
    (omega (arith, one, length-map (declared_of x).supertypes number_of), refl, few_supertypes xs (All-tail IsWithinSupertypes (written_type (declared_of x)) rest w))

pub within_supertypes : (ds : List Declared) → HaveOneSupertype ds → All IsWithinSupertypes (written_types ds)
within_supertypes [] s = All-nil IsWithinSupertypes
within_supertypes (d ∷ ds) s =
    All-cons IsWithinSupertypes (written_type d) (written_types ds) (let one = s.0 in omega (arith, length-map d.supertypes number_of)) (within_supertypes ds s.2)

-- ---- ids

pub ids_fit : (groups : List Group) (ids : List CoreTypeId) → count groups ≤ 0x10_0000 → AreIdsKnown groups ids → All IdFits ids
ids_fit groups ids small known = All-weaker (λ (i : CoreTypeId). i.0 < count groups) IdFits (λ i lt. omega arith) ids known

pub known_ids : (bits : ℕ) (groups : List Group) → IsFormed groups → WhereCanonical bits (AreCanonical groups) → WhereCanonical bits (HaveKnownIds groups)
known_ids bits groups formed c t i lt = entry_known groups formed (c t) i lt

-- the group that was interned is the group as it is kept
pub kept_is : (bits own : ℕ) (b : Bool) (ids : List CoreTypeId) (ds ts : List Declared) → own ≡ bits → b ≡ needs_canonical_types own → ts ≡ kept_types (needs_canonical_types bits) ids ds
    → record { is_canonical = b; types = ts } ≡ kept_group bits ids ds
kept_is bits own b ids ds ts e f k =
    let same : b ≡ needs_canonical_types bits = f ∙ ap needs_canonical_types e in
    λ i. record { is_canonical = same i; types = k i }

module _ (z : Settings) (old : List Group) (ids : List CoreTypeId) (explicit : Bool) (ds : List Declared) where
  abbrev space : List TypeTree
  space = space_of old ids

  abbrev w : Written
  w = written explicit ds

  counted : length (written_types ds) ≡ length ds
  counted = length-map ds written_type

  places : length ids ≡ length space
  places = sym (length-map ids (λ (i : CoreTypeId). tree_of old i.0))

  -- the types of a valid group
  pub valid_types : IsValidGroup z space w → Valid z space w (length ds)
  valid_types v = subst (λ (n : ℕ). Valid z space w n) counted v.types

  -- a valid group has allowed indices
  pub allowed_indices : AreModuleIndices ds → HaveOneSupertype ds → IsValidGroup z space w
      → WhereCanonical z.features (AreTypesAllowed (has Gc z.features) (length ids) (length ids + length ds) (length ids) ds)
  allowed_indices m s v t =
      (allowed_referenced z.features (length ids) (length ids + length ds) (length ids) explicit ds m s).1
      (subst (λ (n : ℕ). AreWellReferenced z.features n (n + length ds) n (written_entries w)) (sym places)
      (subst (λ (n : ℕ). AreWellReferenced z.features (length space) (length space + n) (length space) (written_entries w)) counted v.references))

  module _ (new : List Group) (is_new : Bool) (first end : ℕ) (o : Outcome z old new space w is_new first end (length ds)) where
    counts : end - first ≡ length ds
    counts = let e = o.ends in omega arith

    -- the types of a valid group that is new are valid by their ids
    pub valid_by_ids : IsValidGroup z space w → IsTrue is_new → AreTypesValid new z.features z.limits.subtyping_depth first (end - first)
    valid_by_ids v t = subst (λ (n : ℕ). AreTypesValid new z.features z.limits.subtyping_depth first n) (sym counts) ((o.checked t).1 (valid_types v))

    either_valid : (b : Bool) → is_new ≡ b → (IsTrue is_new → AreTypesValid new z.features z.limits.subtyping_depth first (end - first)) → Valid z space w (length ds)
    either_valid true e h = (o.checked e).0 (subst (λ (n : ℕ). AreTypesValid new z.features z.limits.subtyping_depth first n) counts (h e))
    either_valid false e h = o.known e

    module _ (h : IsTrue is_new → AreTypesValid new z.features z.limits.subtyping_depth first (end - first)) where
      valid : Valid z space w (length ds)
      valid = either_valid is_new refl h

      -- a group that passed is valid
      pub group_is_valid : (IsTrue explicit → Has z.features Gc) → HaveOneSupertype ds → IsValidGroup z space w
      group_is_valid e s = record {
        explicit = e;
        supertypes = within_supertypes ds s;
        references = subst (λ (n : ℕ). AreWellReferenced z.features (length space) (length space + n) (length space) (written_entries w)) (sym counted) (o.referenced valid);
        types = subst (λ (n : ℕ). Valid z space w n) (sym counted) valid;
      }

      pub space_is : AreIdsKnown old ids → (after : List CoreTypeId) → after ≡ ids ++ ids_from first (end - first) → space_of new after ≡ space ++ types_of space w
      space_is known after e =
          ap (space_of new) e
          ∙ ap (λ n. space_of new (ids ++ ids_from first n)) counts
          ∙ space_after old new (written_tree space w) first (length ds) (o.stands valid) ids known
          ∙ ap (λ n. space ++ types_from (written_tree space w) 0 n) (sym counted)

      pub known_is : AreIdsKnown old ids → (after : List CoreTypeId) → after ≡ ids ++ ids_from first (end - first) → AreIdsKnown new after
      known_is known after e =
          subst (AreIdsKnown new) (sym (e ∙ ap (λ n. ids ++ ids_from first n) counts))
          (known_after old new (written_tree space w) first (length ds) (o.stands valid) ids known)

      pub checked_is : IsChecked z old → IsChecked z new
      checked_is k = record {
        canonical = o.canonical;
        valid = valid_after old new (written_tree space w) first (length ds) (o.stands valid) z k.valid valid;
      }

    pub adds_group : (k : ℕ) (after : List CoreTypeId) → Interns old new (kept_group z.features ids ds) is_new k → HasIds new k first end → after ≡ ids ++ ids_from first (end - first)
        → AddsGroup old new ids after (kept_group z.features ids ds)
    adds_group k after i at e =
        let long : length (kept_types (needs_canonical_types z.features) ids ds) ≡ length ds = kept_length (needs_canonical_types z.features) ids ds in
        let till : end ≡ first + length (kept_types (needs_canonical_types z.features) ids ds) = let e = o.ends in omega arith in
        record {
          is_new = is_new;
          number = k;
          first = first;
          interned = i;
          ids = subst (λ (n : ℕ). HasIds new k first n) till at;
          added = e ∙ ap (λ n. ids ++ ids_from first n) (counts ∙ sym long);
        }
