-- A group as it is written, added where no feature asks for canonical forms.
use Rattle.std.proofs.Common.{◌≡◌, ◌∙◌, ◌↔◌, ℕ, zero, suc, ◌+◌, ◌-◌, ◌<◌, ◌≤◌, Bool, false, List, [], ◌∷◌, length, map, get_or, refl, ap, sym, subst, Option, Some, None, arith}
use Rattle.std.proofs.lemmas.List.{length-map, get_or-map, get_or-append_right}
use Rattle.wasm_types.specs.settings.Settings.{Settings}
use Rattle.wasm_types.specs.settings.Features.{Gc, needs_canonical_types}
use Rattle.wasm_types.specs.trees.declared.index.UnpackedIndex.{UnpackedIndex}
use Rattle.wasm_types.specs.trees.declared.index.UnpackedIndex.TheVariants.{Module, RecGroup, Id}
use Rattle.wasm_types.specs.trees.Indices.{number_of}
use Rattle.wasm_types.specs.trees.Types.{entry_map, entry_of_subtype}
use Rattle.wasm_types.specs.trees.Each.{EachOption}
use Rattle.wasm_types.specs.trees.Trees.{GroupTree, RefTree, TypeTree, group_tree, type_meant, past_the_end, opened}
use Rattle.wasm_types.specs.trees.Unfold.{GroupReference, Entry, reference_tree}
use Rattle.wasm_types.specs.trees.Gates.{Has}
use Rattle.wasm_types.specs.trees.ValidGroup.{written_entries, reference_at, type_at, written_tree, types_from, AreWellReferenced, IsValidType, AreValidTypes}
use Rattle.wasm_types.specs.trees.laws.Types.{each_entry, entry_agrees, entry_twice}
use Rattle.wasm_types.specs.trees.laws.Unfold.{open_place}
use Rattle.wasm_types.specs.Entries.{Declared, first_of}
use Rattle.wasm_types.specs.Remap.{declared_map}
use Rattle.wasm_module_validator_type_storage.specs.trees.Groups.{Group, count, by_id, declared_by_id, reference_of, entries_of, tree_of, tree_behind}
use Rattle.wasm_module_validator_type_storage.specs.trees.Formed.{IsIndexWithin, AreTypesFormed, IsGroupFormed}
use Rattle.wasm_module_validator_type_storage.specs.trees.BelowIds.{undeclared, entry_by_id}
use Rattle.wasm_module_validator_type_storage.specs.trees.laws.Unrolled.{count_push}
use Rattle.wasm_module_validator_type_storage.specs.trees.laws.Ids.{stored_push, length_stored}
use Rattle.wasm_module_validator_canonical_types.specs.Written.{IsModuleIndex, AreModuleIndices, HaveOneSupertype, written_type}
use Rattle.wasm_module_validator_canonical_types.specs.laws.Statements.{written}
use Rattle.wasm_module_validator_canonical_types.specs.laws.Written.{entry_written}
use Rattle.wasm_module_validator_type_groups.specs.ValidTypes.{IsTypeValid, AreTypesValid}
use Rattle.wasm_module_validator_type_groups.proofs.Plain.{IsPlain, plain_mapped, each_plain, tree_plain}
use Rattle.wasm_module_validator_type_groups.proofs.PlainById.{id_plain}
use Rattle.wasm_module_validator_type_groups.proofs.Stands.{valid_place}

-- ---- it is formed

index_within : (known places : ℕ) (i : UnpackedIndex) → IsModuleIndex i → IsIndexWithin false known places i
index_within known places (Module n) w = refl
index_within known places (RecGroup p) w = absurd w
index_within known places (Id i) w = absurd w

option_within : (known places : ℕ) (o : Option UnpackedIndex) → EachOption IsModuleIndex o → EachOption (IsIndexWithin false known places) o
option_within known places None w = tt
option_within known places (Some i) w = index_within known places i w

types_formed : (known places own : ℕ) (ds : List Declared) → AreModuleIndices ds → HaveOneSupertype ds → AreTypesFormed false known places own ds
types_formed known places own [] m s = tt
types_formed known places own (d ∷ ds) m s = (
  record {
    one = s.0;
    first = s.1;
    above = option_within known own d.entry.supertype m.0.supertype;
    within = each_entry IsModuleIndex (IsIndexWithin false known places) (index_within known places) d.entry m.0;
  },
  types_formed known places (suc own) ds m.1 s.2,
)

pub formed_as_written : (known : ℕ) (ds : List Declared) → AreModuleIndices ds → HaveOneSupertype ds → IsGroupFormed known (record { is_canonical = false; types = ds })
formed_as_written known ds m s = types_formed known (length ds) 0 ds m s

-- ---- its types

first_at : (ds : List Declared) (p : ℕ) (d : Declared) → HaveOneSupertype ds → p < length ds → (get_or ds p d).entry.supertype ≡ first_of (get_or ds p d).supertypes
first_at [] p d s lt = absurd (omega arith)
first_at (x ∷ xs) zero d s lt = s.1
first_at (x ∷ xs) (suc p) d s lt = first_at xs p d s.2 (omega arith)

-- each type has no references
abbrev pub ArePlain : ℕ → List Declared → Type 0
ArePlain bits [] = Unit {0}
ArePlain bits (d ∷ ds) = IsPlain bits d.entry × ArePlain bits ds

plain_from : (bits : ℕ) (ds : List Declared) (d : Declared) → ((p : ℕ) → p < length ds → IsPlain bits (get_or ds p d).entry) → ArePlain bits ds
plain_from bits [] d h = tt
plain_from bits (x ∷ xs) d h = (h 0 (omega arith), plain_from bits xs d (λ p lt. h (suc p) (omega arith)))

-- plain types are well referenced, wherever their group begins
pub plain_referenced : (bits start end own : ℕ) (explicit : Bool) (ds : List Declared) → HaveOneSupertype ds → ArePlain bits ds
    → AreWellReferenced bits start end own (written_entries (written explicit ds))
plain_referenced bits start end own explicit [] s h = tt
plain_referenced bits start end own explicit (d ∷ ds) s h =
    let plain : IsPlain bits (entry_of_subtype (written_type d)) = subst (IsPlain bits) (sym (entry_written d s.1)) ((plain_mapped number_of bits d.entry).1 h.0) in (
      record {
        supertype = (each_plain (λ (i : ℕ). i < own) bits (entry_of_subtype (written_type d)) plain).supertype;
        describes = (each_plain (λ (i : ℕ). i < own) bits (entry_of_subtype (written_type d)) plain).describes;
        known = each_plain (λ (i : ℕ). i < end) bits (entry_of_subtype (written_type d)) plain;
        outside = each_plain (λ (i : ℕ). start ≤ i → Has bits Gc) bits (entry_of_subtype (written_type d)) plain;
      },
      plain_referenced bits start end (suc own) explicit ds s.2 h.1,
    )

-- plain types unroll alike, whatever their references are taken for
plain_entries : (f h : GroupReference → RefTree) (bits n : ℕ) (explicit : Bool) (ds : List Declared) → HaveOneSupertype ds → ArePlain bits ds
    → map (entry_map f) (entries_of (record { is_canonical = false; types = ds })) ≡ map (entry_map h) (map (entry_map (reference_at n)) (written_entries (written explicit ds)))
plain_entries f h bits n explicit [] s w = refl
plain_entries f h bits n explicit (d ∷ ds) s w =
    let a : entry_map f (entry_map reference_of d.entry) ≡ entry_map h (entry_map (reference_at n) (entry_of_subtype (written_type d))) =
    entry_twice f reference_of d.entry
    ∙ entry_agrees (λ i. f (reference_of i)) (λ i. h (reference_at n (number_of i))) d.entry
    (each_plain (λ i. f (reference_of i) ≡ h (reference_at n (number_of i))) bits d.entry w.0)
    ∙ sym (entry_twice h (λ i. reference_at n (number_of i)) d.entry)
    ∙ ap (entry_map h) (sym (entry_twice (reference_at n) number_of d.entry))
    ∙ ap (λ x. entry_map h (entry_map (reference_at n) x)) (sym (entry_written d s.1)) in
    let b = plain_entries f h bits n explicit ds s.2 w.1 in
    cc

module _ (z : Settings) (off : needs_canonical_types z.features ≡ false) (old : List Group) (space : List TypeTree) (explicit : Bool) (ds : List Declared) (s : HaveOneSupertype ds) where
  abbrev g : Group
  g = record { is_canonical = false; types = ds }

  abbrev tree : GroupTree
  tree = written_tree space (written explicit ds)

  -- the type of a place, by ids and by its tree
  entry_at : (p : ℕ) → p < length ds → entry_by_id (g ∷ old) (record { 0 = count old + p }) ≡ entry_map (by_id (count old)) (get_or ds p undeclared).entry
  entry_at p lt =
      let place : count old + p - count old ≡ p = omega arith in
      let at : get_or (declared_by_id (g ∷ old)) (count old + p) undeclared ≡ declared_map (by_id (count old)) (get_or ds p undeclared) =
      ap (λ l. get_or l (count old + p) undeclared) (stored_push g old)
      ∙ get_or-append_right (declared_by_id old) (map (declared_map (by_id (count old))) ds) (count old) (count old + p) undeclared (length_stored old) (omega arith)
      ∙ ap (λ k. get_or (map (declared_map (by_id (count old))) ds) k undeclared) place
      ∙ get_or-map (declared_map (by_id (count old))) ds p undeclared undeclared lt in
      ap (λ (d : Declared). d.entry) at

  abbrev meant : UnpackedIndex → TypeTree
  meant i = type_meant tree (reference_tree (type_at space) (reference_at (length space) (number_of i)))

  abbrev entries : List Entry
  entries = map (entry_map (reference_at (length space))) (written_entries (written explicit ds))

  entries_counted : length entries ≡ length ds
  entries_counted =
      length-map (written_entries (written explicit ds)) (entry_map (reference_at (length space)))
      ∙ length-map (map written_type ds) entry_of_subtype ∙ length-map ds written_type

  tree_at : (p : ℕ) → p < length ds → opened (record { group = tree; place = p }) ≡ entry_map meant (get_or ds p undeclared).entry
  tree_at p lt =
      let d : Declared = get_or ds p undeclared in
      let far = entries_counted in
      let lw : p < length (map written_type ds) = omega (arith, length-map ds written_type) in
      let le : p < length (written_entries (written explicit ds)) = omega (arith, length-map (map written_type ds) entry_of_subtype) in
      let at : get_or entries p past_the_end ≡ entry_map (reference_at (length space)) (entry_map number_of d.entry) =
      get_or-map (entry_map (reference_at (length space))) (written_entries (written explicit ds)) p (entry_of_subtype (written_type undeclared)) past_the_end le
      ∙ ap (entry_map (reference_at (length space)))
      (get_or-map entry_of_subtype (map written_type ds) p (written_type undeclared) (entry_of_subtype (written_type undeclared)) lw
      ∙ ap entry_of_subtype (get_or-map written_type ds p undeclared (written_type undeclared) lt) ∙ entry_written d (first_at ds p undeclared s lt)) in
      open_place (type_at space) entries p (omega arith)
      ∙ ap (λ x. entry_map (type_meant tree) (entry_map (reference_tree (type_at space)) x)) at
      ∙ ap (entry_map (type_meant tree)) (entry_twice (reference_tree (type_at space)) (reference_at (length space)) (entry_map number_of d.entry))
      ∙ ap (entry_map (type_meant tree)) (entry_twice (λ n. reference_tree (type_at space) (reference_at (length space) n)) number_of d.entry)
      ∙ entry_twice (type_meant tree) (λ i. reference_tree (type_at space) (reference_at (length space) (number_of i))) d.entry

  plain_id : (p : ℕ) → p < length ds → IsTypeValid (g ∷ old) z.features z.limits.subtyping_depth (record { 0 = count old + p }) ↔ IsPlain z.features (get_or ds p undeclared).entry
  plain_id p lt =
      let a = id_plain (g ∷ old) z.features off z.limits.subtyping_depth (record { 0 = count old + p }) (omega (arith, count_push g old)) in
      let b = plain_mapped (by_id (count old)) z.features (get_or ds p undeclared).entry in
      let e = entry_at p lt in
      (λ v. b.0 (subst (IsPlain z.features) e (a.0 v)), λ h. a.1 (subst (IsPlain z.features) (sym e) (b.1 h)))

  plain_tree : (p : ℕ) → p < length ds → IsValidType z (record { group = tree; place = p }) ↔ IsPlain z.features (get_or ds p undeclared).entry
  plain_tree p lt =
      let a = tree_plain z.features off z refl (record { group = tree; place = p }) in
      let b = plain_mapped meant z.features (get_or ds p undeclared).entry in
      let e = tree_at p lt in
      (λ v. b.0 (subst (IsPlain z.features) e (a.0 v)), λ h. a.1 (subst (IsPlain z.features) (sym e) (b.1 h)))

  valid_from : (n place : ℕ) → place + n ≤ length ds → AreTypesValid (g ∷ old) z.features z.limits.subtyping_depth (count old + place) n ↔ AreValidTypes z (types_from tree place n)
  unfolding types_from
  valid_from zero place le = (λ h. tt, λ h. tt)
  valid_from (suc n) place le =
      let a = plain_id place (omega arith) in
      let b = plain_tree place (omega arith) in
      let next : count old + suc place ≡ suc (count old + place) = omega arith in
      let rest = subst (λ (m : ℕ). AreTypesValid (g ∷ old) z.features z.limits.subtyping_depth m n ↔ AreValidTypes z (types_from tree (suc place) n)) next (valid_from n (suc place) (omega arith)) in
      (λ h. (b.1 (a.0 h.0), rest.0 h.1), λ h. (a.1 (b.0 h.0), rest.1 h.1))

  pub valid_as_written : AreTypesValid (g ∷ old) z.features z.limits.subtyping_depth (count old) (length ds) ↔ AreValidTypes z (types_from tree 0 (length ds))
  valid_as_written =
      let zeroth : count old + 0 ≡ count old = omega arith in
      subst (λ (m : ℕ). AreTypesValid (g ∷ old) z.features z.limits.subtyping_depth m (length ds) ↔ AreValidTypes z (types_from tree 0 (length ds))) zeroth (valid_from (length ds) 0 (omega arith))

  -- valid types have no references
  pub plain_written : AreValidTypes z (types_from tree 0 (length ds)) → ArePlain z.features ds
  plain_written v = plain_from z.features ds undeclared
      (λ p lt. (plain_tree p lt).0 (valid_place z tree (length ds) p v lt))

  -- so the group unrolls in the list to what it is behind the types of its module
  pub tree_as_written : AreValidTypes z (types_from tree 0 (length ds)) → tree_behind old g ≡ tree
  tree_as_written v = ap group_tree (plain_entries (reference_tree (tree_of old)) (reference_tree (type_at space)) z.features (length space) explicit ds s (plain_written v))
