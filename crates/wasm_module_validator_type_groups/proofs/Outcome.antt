-- What a list holds once a group was interned behind the types of a module, in canonical form or as it is written.
use Rattle.std.proofs.Common.{◌≡◌, ◌∙◌, ◌↔◌, ℕ, ◌+◌, Bool, true, false, cond, IsTrue, List, ◌∷◌, length, refl, ap, sym, subst, Some, arith}
use Rattle.std.specs.Prelude.{slice_get}
use Rattle.std.proofs.lemmas.List.{length-map}
use Rattle.wasm_types.specs.settings.Settings.{Settings}
use Rattle.wasm_types.specs.settings.Features.{has, Gc, needs_canonical_types}
use Rattle.wasm_types.specs.trees.declared.index.CoreTypeId.{CoreTypeId}
use Rattle.wasm_types.specs.trees.Trees.{GroupTree, TypeTree}
use Rattle.wasm_types.specs.trees.ValidGroup.{Written, written_entries, written_tree, types_from, AreWellReferenced, AreValidTypes}
use Rattle.wasm_types.specs.Entries.{Declared}
use Rattle.wasm_module_validator_type_storage.specs.trees.Groups.{Group, count, tree_of, tree_behind, group_at, group_ranges}
use Rattle.wasm_module_validator_type_storage.specs.trees.Formed.{IsGroupFormed, IsMissing, IsFormed, AreCanonical}
use Rattle.wasm_module_validator_type_list.specs.Lookups.{HasIds}
use Rattle.wasm_module_validator_type_list.specs.List.{Interns}
use Rattle.wasm_module_validator_canonical_types.specs.Written.{AreModuleIndices, HaveOneSupertype}
use Rattle.wasm_module_validator_canonical_types.specs.Canonical.{canonical_type, canonical_types, AreTypesAllowed}
use Rattle.wasm_module_validator_canonical_types.specs.laws.Statements.{written}
use Rattle.wasm_module_validator_canonical_types.specs.laws.Written.{allowed_referenced}
use Rattle.wasm_module_validator_canonical_types.specs.laws.Unfolding.{canonical_group}
use Rattle.wasm_module_validator_canonical_types.specs.laws.Formed.{canonical_formed}
use Rattle.wasm_module_validator_type_groups.specs.composites.Composites.{WhereCanonical}
use Rattle.wasm_module_validator_type_groups.specs.ValidTypes.{AreTypesValid}
use Rattle.wasm_module_validator_type_groups.specs.laws.OfGroups.{types_valid}
use Rattle.wasm_module_validator_type_groups.specs.adding.Interned.{space_of, AreIdsKnown, kept_types, kept_group, IsChecked}
use Rattle.wasm_module_validator_type_groups.proofs.Stands.{Stands, range_new, same_range, stands_new, stands_known, valid_known}
use Rattle.wasm_module_validator_type_groups.proofs.AsWritten.{formed_as_written, plain_referenced, valid_as_written, plain_written, tree_as_written}

-- n types of a group that is written so, behind these types
abbrev pub Valid : Settings → List TypeTree → Written → ℕ → Type 0
Valid z space w n = AreValidTypes z (types_from (written_tree space w) 0 n)

-- a group was interned, and its ids are these
pub record Outcome (z : Settings) (old new : List Group) (space : List TypeTree) (w : Written) (is_new : Bool) (first end n : ℕ) : Type 0 where
  pub ends : end ≡ first + n
  -- checked by ids it is valid exactly where it is by its tree
  pub checked : IsTrue is_new → AreTypesValid new z.features z.limits.subtyping_depth first n ↔ Valid z space w n
  -- a known group is valid
  pub known : is_new ≡ false → Valid z space w n
  -- a valid group's ids stand for its types, and it is well referenced
  pub stands : Valid z space w n → Stands old new (written_tree space w) first n
  pub referenced : Valid z space w n → AreWellReferenced z.features (length space) (length space + n) (length space) (written_entries w)
  pub canonical : WhereCanonical z.features (AreCanonical new)
  pub formed : IsFormed new

-- the groups after one was interned
groups_new : (b : Bool) (g : Group) (old new : List Group) → new ≡ cond b (g ∷ old) old → b ≡ true → new ≡ g ∷ old
groups_new true g old new e t = e
groups_new false g old new e t = absurd cc

groups_known : (b : Bool) (g : Group) (old new : List Group) → new ≡ cond b (g ∷ old) old → b ≡ false → new ≡ old
groups_known true g old new e t = absurd cc
groups_known false g old new e t = e

pub kept_length : (b : Bool) (ids : List CoreTypeId) (ds : List Declared) → length (kept_types b ids ds) ≡ length ds
kept_length true ids ds = length-map ds (canonical_type ids)
kept_length false ids ds = refl

-- ---- in canonical form

module _ (z : Settings) (old : List Group) (checked : IsChecked z old) (ids : List CoreTypeId) (explicit : Bool) (ds : List Declared) (m : AreModuleIndices ds) (s : HaveOneSupertype ds) where
  abbrev space : List TypeTree
  space = space_of old ids

  abbrev w : Written
  w = written explicit ds

  module _ (formed : IsFormed old) (c : AreCanonical old) (known : AreIdsKnown old ids)
      (allowed : AreTypesAllowed (has Gc z.features) (length ids) (length ids + length ds) (length ids) ds) where
    abbrev g : Group
    g = record { is_canonical = true; types = canonical_types ids ds }

    long : length g.types ≡ length ds
    long = length-map ds (canonical_type ids)

    g_formed : IsGroupFormed (count old) g
    g_formed = canonical_formed (count old) ids known (has Gc z.features) ds m s allowed

    tree_is : tree_behind old g ≡ written_tree space w
    tree_is = canonical_group old ids explicit ds m s

    referenced_is : AreWellReferenced z.features (length space) (length space + length ds) (length space) (written_entries w)
    referenced_is =
        let counted : length ids ≡ length space = sym (length-map ids (λ (i : CoreTypeId). tree_of old i.0)) in
        subst (λ (n : ℕ). AreWellReferenced z.features n (n + length ds) n (written_entries w)) counted
        ((allowed_referenced z.features (length ids) (length ids + length ds) (length ids) explicit ds m s).0 allowed)

    here : (new : List Group) (first end : ℕ) → Stands old new (tree_behind old g) first (length g.types) × (end ≡ first + length g.types)
        → Stands old new (written_tree space w) first (length ds) × (end ≡ first + length ds)
    here new first end h = (
      subst (λ (n : ℕ). Stands old new (written_tree space w) first n) long (subst (λ (t : GroupTree). Stands old new t first (length g.types)) tree_is h.0),
      subst (λ (n : ℕ). end ≡ first + n) long h.1,
    )

    outcome_new : (k first end : ℕ) → k ≡ length old → IsMissing old g → HasIds (g ∷ old) k first end → Outcome z old (g ∷ old) space w true first end (length ds)
    outcome_new k first end e missing ids_are =
        let at = same_range (slice_get (group_ranges (g ∷ old)) k) (count old) (count old + length g.types) first end
        (ap (slice_get (group_ranges (g ∷ old))) e ∙ range_new g old) ids_are in
        let same : count old ≡ first = at.0 in
        let st = here (g ∷ old) first end (
          subst (λ (n : ℕ). Stands old (g ∷ old) (tree_behind old g) n (length g.types)) same (stands_new g old),
          sym at.1 ∙ ap (λ (n : ℕ). n + length g.types) same,
        ) in
        let f : IsFormed (g ∷ old) = (g_formed, λ t. missing, formed) in
        let a : AreCanonical (g ∷ old) = (refl, c) in
        let within = st.0.known in
        let zeroth : first + 0 ≡ first = omega arith in
        record {
          ends = st.1;
          checked = λ t. subst (λ (n : ℕ). AreTypesValid (g ∷ old) z.features z.limits.subtyping_depth n (length ds) ↔ Valid z space w (length ds)) zeroth
              (types_valid (g ∷ old) f a z (written_tree space w) first (length ds) 0 (omega arith) (λ p lt. st.0.types p (omega arith)));
          known = λ t. absurd cc;
          stands = λ v. st.0;
          referenced = λ v. referenced_is;
          canonical = λ t. a;
          formed = f;
        }

    outcome_known : (k first end : ℕ) → group_at old k ≡ Some g → HasIds old k first end → Outcome z old old space w false first end (length ds)
    outcome_known k first end at ids_are =
        let st = here old first end (stands_known old formed c k g first end at ids_are) in record {
          ends = st.1;
          checked = λ t. absurd cc;
          known = λ t. valid_known old old (written_tree space w) first (length ds) st.0 z checked.valid;
          stands = λ v. st.0;
          referenced = λ v. referenced_is;
          canonical = λ t. c;
          formed = formed;
        }

    pub outcome_canonical : (new : List Group) (is_new : Bool) (k first end : ℕ) → Interns old new g is_new k → HasIds new k first end
        → Outcome z old new space w is_new first end (length ds)
    outcome_canonical new true k first end i ids_are =
        subst (λ (l : List Group). Outcome z old l space w true first end (length ds)) (sym i.groups)
        (outcome_new k first end (i.next refl) (i.new_exactly.0 refl refl) (subst (λ (l : List Group). HasIds l k first end) i.groups ids_are))
    outcome_canonical new false k first end i ids_are =
        subst (λ (l : List Group). Outcome z old l space w false first end (length ds)) (sym i.groups)
        (outcome_known k first end (subst (λ (l : List Group). group_at l k ≡ Some g) i.groups i.at) (subst (λ (l : List Group). HasIds l k first end) i.groups ids_are))

  -- ---- as it is written

  module _ (formed : IsFormed old) (off : needs_canonical_types z.features ≡ false) where
    abbrev h : Group
    h = record { is_canonical = false; types = ds }

    outcome_first : (k first end : ℕ) → k ≡ length old → HasIds (h ∷ old) k first end → Outcome z old (h ∷ old) space w true first end (length ds)
    outcome_first k first end e ids_are =
        let at = same_range (slice_get (group_ranges (h ∷ old)) k) (count old) (count old + length ds) first end
        (ap (slice_get (group_ranges (h ∷ old))) e ∙ range_new h old) ids_are in
        let same : count old ≡ first = at.0 in
        record {
          ends = sym at.1 ∙ ap (λ (n : ℕ). n + length ds) same;
          checked = λ t. subst (λ (n : ℕ). AreTypesValid (h ∷ old) z.features z.limits.subtyping_depth n (length ds) ↔ Valid z space w (length ds)) same
              (valid_as_written z off old space explicit ds s);
          known = λ t. absurd cc;
          stands = λ v. subst (λ (n : ℕ). Stands old (h ∷ old) (written_tree space w) n (length ds)) same
              (subst (λ (t : GroupTree). Stands old (h ∷ old) t (count old) (length ds)) (tree_as_written z off old space explicit ds s v) (stands_new h old));
          referenced = λ v. plain_referenced z.features (length space) (length space + length ds) (length space) explicit ds s (plain_written z off old space explicit ds s v);
          canonical = λ t. let x : true ≡ false = sym t ∙ off in absurd cc;
          formed = (formed_as_written (count old) ds m s, (λ t. absurd cc), formed);
        }

    pub outcome_as_written : (new : List Group) (is_new : Bool) (k first end : ℕ) → Interns old new h is_new k → HasIds new k first end
        → Outcome z old new space w is_new first end (length ds)
    outcome_as_written new true k first end i ids_are =
        subst (λ (l : List Group). Outcome z old l space w true first end (length ds)) (sym i.groups)
        (outcome_first k first end (i.next refl) (subst (λ (l : List Group). HasIds l k first end) i.groups ids_are))
    outcome_as_written new false k first end i ids_are =
        let x : false ≡ true = i.new_exactly.1 (λ t. absurd cc) in absurd cc

  -- ---- either

  module _ (formed : IsFormed old) (known : AreIdsKnown old ids)
      (allowed : WhereCanonical z.features (AreTypesAllowed (has Gc z.features) (length ids) (length ids + length ds) (length ids) ds)) where
    outcome_either : (b : Bool) → needs_canonical_types z.features ≡ b → (new : List Group) (is_new : Bool) (k first end : ℕ)
        → Interns old new (record { is_canonical = b; types = kept_types b ids ds }) is_new k → HasIds new k first end → Outcome z old new space w is_new first end (length ds)
    outcome_either true e new is_new k first end i ids_are = outcome_canonical formed (checked.canonical e) known (allowed e) new is_new k first end i ids_are
    outcome_either false e new is_new k first end i ids_are = outcome_as_written formed e new is_new k first end i ids_are

    pub outcome : (new : List Group) (is_new : Bool) (k first end : ℕ) → Interns old new (kept_group z.features ids ds) is_new k → HasIds new k first end
        → Outcome z old new space w is_new first end (length ds)
    outcome = outcome_either (needs_canonical_types z.features) refl

    formed_either : (b : Bool) → needs_canonical_types z.features ≡ b → IsGroupFormed (count old) (record { is_canonical = b; types = kept_types b ids ds })
    formed_either true e = canonical_formed (count old) ids known (has Gc z.features) ds m s (allowed e)
    formed_either false e = formed_as_written (count old) ds m s

    -- the group may be interned
    pub kept_formed : IsGroupFormed (count old) (kept_group z.features ids ds)
    kept_formed = formed_either (needs_canonical_types z.features) refl

    -- whether it was added or not, the list is formed, and in canonical form where the features ask for it
    pub formed_after : (new : List Group) (is_new : Bool) (k : ℕ) → Interns old new (kept_group z.features ids ds) is_new k → IsFormed new
    formed_after new true k i = subst IsFormed (sym i.groups) (kept_formed, i.new_exactly.0 refl, formed)
    formed_after new false k i = subst IsFormed (sym i.groups) formed

    pub canonical_after : (new : List Group) (is_new : Bool) (k : ℕ) → Interns old new (kept_group z.features ids ds) is_new k → WhereCanonical z.features (AreCanonical new)
    canonical_after new true k i = subst (λ (l : List Group). WhereCanonical z.features (AreCanonical l)) (sym i.groups) (λ t. (t, checked.canonical t))
    canonical_after new false k i = subst (λ (l : List Group). WhereCanonical z.features (AreCanonical l)) (sym i.groups) checked.canonical
