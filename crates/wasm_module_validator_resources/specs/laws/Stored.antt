-- What a list stores of a type is the type opened; and types without references unroll alike where they are stored alike.
use Rattle.std.proofs.Common.{◌≡◌, ◌∙◌, ℕ, suc, ◌+◌, ◌-◌, ◌<◌, Bool, false, IsTrue, List, [], ◌∷◌, length, map, get_or, refl, ap, sym, subst, None, arith}
use Rattle.std.proofs.lemmas.List.{length-map, get_or-map}
use Rattle.wasm_types.specs.settings.Features.{needs_canonical_types}
use Rattle.wasm_types.specs.trees.declared.index.CoreTypeId.{CoreTypeId}
use Rattle.wasm_types.specs.trees.declared.index.UnpackedIndex.{UnpackedIndex}
use Rattle.wasm_types.specs.trees.declared.index.UnpackedIndex.TheVariants.{Module, RecGroup, Id}
use Rattle.wasm_types.specs.trees.Types.{EntryOf, entry_map}
use Rattle.wasm_types.specs.trees.Each.{EachEntries}
use Rattle.wasm_types.specs.trees.Trees.{TypeTree, type_meant, past_the_end, opened}
use Rattle.wasm_types.specs.trees.Unfold.{Entry, reference_tree}
use Rattle.wasm_types.specs.trees.laws.Types.{each_entry, entry_twice, entry_agrees, entries_same}
use Rattle.wasm_types.specs.trees.laws.Unfold.{open_place}
use Rattle.wasm_types.specs.Entries.{Declared, first_of}
use Rattle.wasm_types.specs.Remap.{declared_map}
use Rattle.wasm_operator_validator_resources.specs.Meaning.{named_type}
use Rattle.wasm_module_validator_type_storage.specs.trees.Groups.{Group, count, tree_of, tree_behind, by_id, declared_by_id, reference_of}
use Rattle.wasm_module_validator_type_storage.specs.trees.Groups as groups_of
use Rattle.wasm_module_validator_type_storage.specs.trees.Formed.{AreTypesFormed, IsFormed}
use Rattle.wasm_module_validator_type_storage.specs.trees.ByIds.{tree_named}
use Rattle.wasm_module_validator_type_storage.specs.trees.BelowIds.{IsIdBelow, undeclared, entry_by_id}
use Rattle.wasm_module_validator_type_storage.specs.trees.laws.Unrolled.{length_entries}
use Rattle.wasm_module_validator_type_storage.specs.trees.laws.Ids.{opens}
use Rattle.wasm_module_validator_canonical_types.specs.matches.laws.Known.{entry_known}
use Rattle.wasm_module_validator_resources.specs.Bare.{is_bare}
use Rattle.wasm_module_validator_resources.specs.Reading.{names_in}
use Rattle.wasm_module_validator_resources.specs.laws.Trees.{id_known}
use Rattle.wasm_module_validator_resources.specs.laws.Homes.{IsHome, home_of}
use Rattle.wasm_module_validator_resources.specs.Named.{IsSettled}
use Rattle.wasm_module_validator_resources.specs.laws.Bare.{each_bare, bare_mapped, bare_top}
use Rattle.wasm_module_validator_resources.specs.laws.Settled.{by_form}

-- an id of the list means its type
index_means : (groups : List Group) (ids : List CoreTypeId) (i : UnpackedIndex) → IsIdBelow (count groups) i → named_type (names_in groups ids) i ≡ tree_named groups i
index_means groups ids (Module n) w = absurd w
index_means groups ids (RecGroup p) w = absurd w
index_means groups ids (Id i) w = id_known groups ids i w

-- ---- types without references, in their group

-- the subtypes of a group, over indices
abbrev pub shapes : Group → List (EntryOf UnpackedIndex)
shapes g = map (λ (d : Declared). d.entry) g.types

-- a place of a group, opened
abbrev meant : List Group → Group → UnpackedIndex → TypeTree
meant earlier g i = type_meant (tree_behind earlier g) (reference_tree (tree_of earlier) (reference_of i))

place_opens : (earlier : List Group) (g : Group) (p : ℕ) → p < length g.types
    → opened (record { group = tree_behind earlier g; place = p }) ≡ entry_map (meant earlier g) (get_or g.types p undeclared).entry
place_opens earlier g p lt =
    let d : Declared = get_or g.types p undeclared in
    let long = length_entries g in
    let shaped : p < length (shapes g) = omega (arith, length-map g.types (λ (d : Declared). d.entry)) in
    let at : get_or (groups_of.entries_of g) p past_the_end ≡ entry_map reference_of d.entry =
    get_or-map (entry_map reference_of) (shapes g) p undeclared.entry past_the_end shaped
    ∙ ap (entry_map reference_of) (get_or-map (λ (d : Declared). d.entry) g.types p undeclared undeclared.entry lt) in
    open_place (tree_of earlier) (groups_of.entries_of g) p (omega arith)
    ∙ ap (λ (x : Entry). entry_map (type_meant (tree_behind earlier g)) (entry_map (reference_tree (tree_of earlier)) x)) at
    ∙ ap (entry_map (type_meant (tree_behind earlier g))) (entry_twice (reference_tree (tree_of earlier)) reference_of d.entry)
    ∙ entry_twice (type_meant (tree_behind earlier g)) (λ i. reference_tree (tree_of earlier) (reference_of i)) d.entry

-- each is plain
abbrev pub ArePlain : List (EntryOf UnpackedIndex) → Type 0
ArePlain [] = Unit {0}
ArePlain (x ∷ xs) = IsTrue (is_bare x) × ArePlain xs

plain_shapes : (ds : List Declared) → ((p : ℕ) → p < length ds → IsTrue (is_bare (get_or ds p undeclared).entry)) → ArePlain (map (λ (d : Declared). d.entry) ds)
plain_shapes [] h = tt
plain_shapes (d ∷ ds) h = (h 0 (omega arith), plain_shapes ds (λ p lt. h (suc p) (omega arith)))

-- references of plain types may be replaced in any way
pub plain_alike : {S : Type 0} (f h : UnpackedIndex → S) (xs : List (EntryOf UnpackedIndex)) → ArePlain xs → map (entry_map f) xs ≡ map (entry_map h) xs
plain_alike f h [] w = refl
plain_alike f h (x ∷ xs) w =
    let a : entry_map f x ≡ entry_map h x = entry_agrees f h x (each_bare (λ i. f i ≡ h i) x w.0) in
    let b = plain_alike f h xs w.1 in
    cc

-- and they are told apart all the same
abbrev Never : UnpackedIndex → Type 0
Never i = ⊥

never_in : (xs : List (EntryOf UnpackedIndex)) → ArePlain xs → EachEntries Never xs
never_in [] w = tt
never_in (x ∷ xs) w = (each_bare Never x w.0, never_in xs w.1)

pub plain_same : {S : Type 0} (f h : UnpackedIndex → S) (xs ys : List (EntryOf UnpackedIndex)) → ArePlain xs → ArePlain ys
    → map (entry_map f) xs ≡ map (entry_map h) ys → xs ≡ ys
plain_same f h xs ys v w e =
    entries_same f Never (λ r s a b c. absurd a) xs ys (never_in xs v) (never_in ys w) (e ∙ plain_alike h f ys w)

-- what each declares is plain, and it declares no supertype besides
abbrev pub AreAlone : List Declared → Type 0
AreAlone [] = Unit {0}
AreAlone (d ∷ ds) = IsTrue (is_bare d.entry) × (d.supertypes ≡ []) × AreAlone ds

first_none : (is : List UnpackedIndex) → first_of is ≡ None → is ≡ []
first_none [] e = refl
first_none (i ∷ is) e = absurd cc

types_alone : (canonical : Bool) (known places own : ℕ) (ds : List Declared) → AreTypesFormed canonical known places own ds
    → ArePlain (map (λ (d : Declared). d.entry) ds) → AreAlone ds
types_alone canonical known places own [] w v = tt
types_alone canonical known places own (d ∷ ds) w v =
    (v.0, first_none d.supertypes (sym w.0.first ∙ bare_top d.entry v.0), types_alone canonical known places (suc own) ds w.1 v.1)

tails : (x y : EntryOf UnpackedIndex) (xs ys : List (EntryOf UnpackedIndex)) → x ∷ xs ≡ y ∷ ys → xs ≡ ys
tails x y xs ys e = cc

-- so the subtypes tell what is declared
pub declared_same : (ds es : List Declared) → AreAlone ds → AreAlone es
    → map (λ (d : Declared). d.entry) ds ≡ map (λ (d : Declared). d.entry) es → ds ≡ es
declared_same [] [] v w e = refl
declared_same [] (y ∷ ys) v w e = cc
declared_same (x ∷ xs) [] v w e = cc
declared_same (x ∷ xs) (y ∷ ys) v w e =
    let heads : x.entry ≡ y.entry = ap (λ (l : List (EntryOf UnpackedIndex)). get_or l 0 x.entry) e in
    let rest = declared_same xs ys v.2 w.2 (tails _ _ _ _ e) in
    let none : x.supertypes ≡ y.supertypes = v.1 ∙ sym w.1 in
    let same : x ≡ y = λ i. record { supertypes = none i; entry = heads i } in
    cc

module _ (bits : ℕ) (groups : List Group) (formed : IsFormed groups) (s : IsSettled bits groups) (off : needs_canonical_types bits ≡ false) where
  pub place_plain : (id k first : ℕ) (g : Group) (earlier : List Group) → IsHome groups id k first g earlier → (p : ℕ) → p < length g.types
      → IsTrue (is_bare (get_or g.types p undeclared).entry)
  place_plain id k first g earlier h p lt =
      let within = h.known in
      let whole = subst (λ (t : TypeTree). IsTrue (is_bare (opened t))) (h.trees p lt) (s.bare off (first + p) (omega arith)) in
      sym (bare_mapped (meant earlier g) (get_or g.types p undeclared).entry) ∙ subst (λ x. IsTrue (is_bare x)) (place_opens earlier g p lt) whole

  pub home_plain : (id k first : ℕ) (g : Group) (earlier : List Group) → IsHome groups id k first g earlier → ArePlain (shapes g)
  home_plain id k first g earlier h = plain_shapes g.types (place_plain id k first g earlier h)

  pub home_alone : (id k first : ℕ) (g : Group) (earlier : List Group) → IsHome groups id k first g earlier → AreAlone g.types
  home_alone id k first g earlier h = types_alone g.is_canonical first (length g.types) 0 g.types h.formed (home_plain id k first g earlier h)

  -- a type that is plain, opened, is what is stored of it
  plain_opens : (f : UnpackedIndex → TypeTree) (id : ℕ) → id < count groups
      → entry_map f (get_or (declared_by_id groups) id undeclared).entry ≡ opened (tree_of groups id)
  plain_opens f id lt =
      let home = home_of groups formed id lt in
      let h = home.is in
      let begins = h.begins in
      let ends = h.ends in
      let p : ℕ = id - home.first in
      let g : Group = home.group in
      let at : home.first + p ≡ id = omega arith in
      let within : p < length g.types = omega arith in
      let d : Declared = get_or g.types p undeclared in
      let stored : get_or (declared_by_id groups) id undeclared ≡ declared_map (by_id home.first) d =
      ap (λ (n : ℕ). get_or (declared_by_id groups) n undeclared) (sym at) ∙ h.stored p undeclared within in
      ap (λ (x : Declared). entry_map f x.entry) stored
      ∙ entry_twice f (by_id home.first) d.entry
      ∙ entry_agrees (λ i. f (by_id home.first i)) (meant home.earlier g) d.entry
      (each_bare (λ i. f (by_id home.first i) ≡ meant home.earlier g i) d.entry (place_plain id home.number home.first g home.earlier h p within))
      ∙ sym (place_opens home.earlier g p within)
      ∙ ap opened (sym (h.trees p within) ∙ ap (tree_of groups) at)

-- ---- what is stored of a type is the type, opened

pub stored_opens : (bits : ℕ) (groups : List Group) → IsFormed groups → IsSettled bits groups → (ids : List CoreTypeId) (i : CoreTypeId) → i.0 < count groups
    → entry_map (named_type (names_in groups ids)) (entry_by_id groups i) ≡ opened (tree_of groups i.0)
stored_opens bits groups formed s ids i lt = by_form bits groups s
    (λ c. entry_agrees (named_type (names_in groups ids)) (tree_named groups) (entry_by_id groups i)
    (each_entry (IsIdBelow (count groups)) (λ j. named_type (names_in groups ids) j ≡ tree_named groups j) (index_means groups ids) (entry_by_id groups i)
    (entry_known groups formed c i lt))
    ∙ sym (opens groups formed c i.0 undeclared lt))
    (λ off. plain_opens bits groups formed s off (named_type (names_in groups ids)) i.0 lt)
