-- Ids are told apart by their types, and groups by their trees, where all groups are in canonical form.
use Rattle.std.proofs.Common.{◌≡◌, ◌∙◌, ◌↔◌, ℕ, suc, ◌-◌, ◌<◌, ◌≤◌, true, IsTrue, List, [], ◌∷◌, length, map, refl, ap, sym, subst, Option, Some, None, arith, ⊎_elim}
use Rattle.std.specs.Prelude.{cond, Bool, false}
use Rattle.std.proofs.Common.{eqb}
use Rattle.std.specs.Option.{option_map}
use Rattle.std.proofs.lemmas.Bool.{cases_lt, eq-eqb, ne_eqb}
use Rattle.wasm_types.specs.trees.declared.index.UnpackedIndex.{UnpackedIndex}
use Rattle.wasm_types.specs.trees.declared.index.UnpackedIndex.TheVariants.{Module, RecGroup, Id}
use Rattle.wasm_types.specs.trees.Types.{EntryOf, entry_map}
use Rattle.wasm_types.specs.trees.Each.{EachEntry, EachEntries}
use Rattle.wasm_types.specs.trees.Trees.{TypeTree}
use Rattle.wasm_types.specs.trees.Unfold.{GroupReference, type_count, IsKnown}
use Rattle.wasm_types.specs.trees.laws.Types.{each_entry, entries_same}
use Rattle.wasm_types.specs.trees.laws.Unfold.{groups_same}
use Rattle.wasm_types.specs.Entries.{Declared, first_of}
use Rattle.wasm_module_validator_type_storage.specs.trees.Groups.{Group, reference_of, entries_of, count, tree_of, tree_behind, group_at}
use Rattle.wasm_module_validator_type_storage.specs.trees.Formed.{IsIndexWithin, IsTypeFormed, AreTypesFormed, IsGroupFormed, IsMissing, IsFormed, AreCanonical, IsNewTree}
use Rattle.wasm_module_validator_type_storage.specs.trees.laws.Unrolled.{count_push, tree_old, tree_new, group_known, entries_widen, unfolds_alike}

-- ---- a group in canonical form is what its references name

-- an index of a group in canonical form
abbrev IsTold : UnpackedIndex → Type 0
IsTold (Module n) = ⊥
IsTold (RecGroup p) = Unit {0}
IsTold (Id i) = Unit {0}

index_told : (known places : ℕ) (i : UnpackedIndex) → IsIndexWithin true known places i → IsTold i
index_told known places (Module n) w = absurd cc
index_told known places (RecGroup p) w = tt
index_told known places (Id i) w = tt

index_same : (i j : UnpackedIndex) → IsTold i → IsTold j → reference_of i ≡ reference_of j → i ≡ j
index_same (Module n) j v w e = absurd v
index_same (RecGroup p) (Module m) v w e = absurd w
index_same (RecGroup p) (RecGroup q) v w e = cc
index_same (RecGroup p) (Id j) v w e = cc
index_same (Id i) (Module m) v w e = absurd w
index_same (Id i) (RecGroup q) v w e = cc
index_same (Id i) (Id j) v w e = let f : i.0 ≡ j.0 = cc in ap (λ (n : ℕ). Id (record { 0 = n })) f

entry_told : (known places : ℕ) (x : EntryOf UnpackedIndex) → EachEntry (IsIndexWithin true known places) x → EachEntry IsTold x
entry_told known places x w = each_entry (IsIndexWithin true known places) IsTold (index_told known places) x w

supers_same : (is js : List UnpackedIndex) → length is ≤ 1 → length js ≤ 1 → first_of is ≡ first_of js → is ≡ js
supers_same [] [] a b e = refl
supers_same [] (j ∷ js) a b e = cc
supers_same (i ∷ is) [] a b e = cc
supers_same (i ∷ []) (j ∷ []) a b e = cc
supers_same (i ∷ []) (j ∷ k ∷ js) a b e = absurd (omega arith)
supers_same (i ∷ h ∷ is) (j ∷ js) a b e = absurd (omega arith)

declared_same : (k m n p o q : ℕ) (x y : Declared) → IsTypeFormed true k m n x → IsTypeFormed true p o q y
    → entry_map reference_of x.entry ≡ entry_map reference_of y.entry → x ≡ y
declared_same k m n p o q x y v w e =
    let one : (x.entry ∷ []) ≡ (y.entry ∷ []) =
    entries_same reference_of IsTold index_same (x.entry ∷ []) (y.entry ∷ []) (entry_told k m x.entry v.within, tt) (entry_told p o y.entry w.within, tt)
    (ap (λ (z : EntryOf GroupReference). z ∷ []) e) in
    let same : x.entry ≡ y.entry = cc in
    let firsts : first_of x.supertypes ≡ first_of y.supertypes = sym v.first ∙ ap (λ (z : EntryOf UnpackedIndex). z.supertype) same ∙ w.first in
    let supers = supers_same x.supertypes y.supertypes v.one w.one firsts in
    λ i. record { supertypes = supers i; entry = same i }

types_same : (k m n p o q : ℕ) (xs ys : List Declared) → AreTypesFormed true k m n xs → AreTypesFormed true p o q ys
    → map (entry_map reference_of) (map (λ d. d.entry) xs) ≡ map (entry_map reference_of) (map (λ d. d.entry) ys) → xs ≡ ys
types_same k m n p o q [] [] v w e = refl
types_same k m n p o q [] (y ∷ ys) v w e = cc
types_same k m n p o q (x ∷ xs) [] v w e = cc
types_same k m n p o q (x ∷ xs) (y ∷ ys) v w e =
    let a = declared_same k m n p o q x y v.0 w.0 cc in
    let b = types_same k m (suc n) p o (suc q) xs ys v.1 w.1 cc in
    cc

-- two groups in canonical form that name the same are one
group_same : (few many : ℕ) (g h : Group) → IsTrue g.is_canonical → IsTrue h.is_canonical → IsGroupFormed few g → IsGroupFormed many h → entries_of g ≡ entries_of h → g ≡ h
group_same few many g h c d v w e =
    let v' : AreTypesFormed true few (length g.types) 0 g.types = subst (λ b. AreTypesFormed b few (length g.types) 0 g.types) c v in
    let w' : AreTypesFormed true many (length h.types) 0 h.types = subst (λ b. AreTypesFormed b many (length h.types) 0 h.types) d w in
    let types = types_same few (length g.types) 0 many (length h.types) 0 g.types h.types v' w' e in
    λ i. record { is_canonical = (c ∙ sym d) i; types = types i }

-- ---- where an id comes from

-- a group of the list, in canonical form, that the tree of the id is a place of
pub record IsHome (groups : List Group) (id k : ℕ) (g : Group) : Type 0 where
  pub stands : group_at groups k ≡ Some g
  pub old : k < length groups
  pub canonical : IsTrue g.is_canonical
  pub formed : (few : ℕ) × IsGroupFormed few g
  pub known : EachEntries (IsKnown (count groups)) (entries_of g)
  pub unfolds : (tree_of groups id).group ≡ tree_behind groups g

pub at_old : (g : Group) (earlier : List Group) (k : ℕ) → k < length earlier → group_at (g ∷ earlier) k ≡ group_at earlier k
at_old g earlier k h = rw (ne_eqb k (length earlier) (λ e. omega arith)) refl

pub at_new : (g : Group) (earlier : List Group) → group_at (g ∷ earlier) (length earlier) ≡ Some g
at_new g earlier = rw (eq-eqb (length earlier) (length earlier) refl) refl

home_old : (g : Group) (earlier : List Group) (id k : ℕ) (h : Group) → id < count earlier → IsHome earlier id k h → IsHome (g ∷ earlier) id k h
home_old g earlier id k h lt home = record {
  stands = at_old g earlier k home.old ∙ home.stands;
  old = let l = home.old in omega arith;
  canonical = home.canonical;
  formed = home.formed;
  known = entries_widen (count earlier) (count (g ∷ earlier)) (omega (arith, count_push g earlier)) (entries_of h) home.known;
  unfolds =
      ap (λ (t : TypeTree). t.group) (tree_old g earlier id lt) ∙ home.unfolds
      ∙ unfolds_alike (tree_of earlier) (tree_of (g ∷ earlier)) (count earlier) (λ i l. sym (tree_old g earlier i l)) (entries_of h) home.known;
}

home_new : (g : Group) (earlier : List Group) (id : ℕ) → IsTrue g.is_canonical → IsGroupFormed (count earlier) g → count earlier ≤ id → IsHome (g ∷ earlier) id (length earlier) g
home_new g earlier id c formed le =
    let known = group_known (count earlier) g c formed in
    record {
      stands = at_new g earlier;
      old = omega arith;
      canonical = c;
      formed = (count earlier, formed);
      known = entries_widen (count earlier) (count (g ∷ earlier)) (omega (arith, count_push g earlier)) (entries_of g) known;
      unfolds =
          ap (λ (t : TypeTree). t.group) (tree_new g earlier id le)
          ∙ unfolds_alike (tree_of earlier) (tree_of (g ∷ earlier)) (count earlier) (λ i l. sym (tree_old g earlier i l)) (entries_of g) known;
    }

nothing_below : (id : ℕ) → id < count [] → ⊥
unfolding type_count
nothing_below id lt = omega arith

-- each id has a home
home : (groups : List Group) → IsFormed groups → AreCanonical groups → (id : ℕ) → id < count groups → (k : ℕ) × (g : Group) × IsHome groups id k g
home [] formed c id lt = absurd (nothing_below id lt)
home (g ∷ earlier) formed c id lt =
    ⊎_elim (λ old. let h = home earlier formed.2 c.1 id old in (h.0, h.1, home_old g earlier id h.0 h.1 old h.2))
    (λ new. (length earlier, g, home_new g earlier id c.0 formed.0 new))
    (cases_lt id (count earlier))

-- ---- ids

-- a type of an earlier group is no type of a new one
module _ (g : Group) (earlier : List Group) (formed : IsFormed (g ∷ earlier)) (c : AreCanonical (g ∷ earlier))
    (apart : (i j : ℕ) → i < count earlier → j < count earlier → tree_of earlier i ≡ tree_of earlier j → i ≡ j) where
  differ : (i j : ℕ) → i < count earlier → count earlier ≤ j → tree_of (g ∷ earlier) i ≡ tree_of (g ∷ earlier) j → ⊥
  differ i j old new e =
      let h = home earlier formed.2 c.1 i old in
      let a : tree_behind earlier h.1 ≡ tree_behind earlier g =
      sym h.2.unfolds ∙ ap (λ (t : TypeTree). t.group) (sym (tree_old g earlier i old) ∙ e ∙ tree_new g earlier j new) in
      let b : entries_of h.1 ≡ entries_of g =
      groups_same (tree_of earlier) (count earlier) apart (entries_of h.1) (entries_of g) h.2.known (group_known (count earlier) g c.0 formed.0) a in
      let d : h.1 ≡ g = group_same h.2.formed.0 (count earlier) h.1 g h.2.canonical c.0 h.2.formed.1 formed.0 b in
      formed.1 c.0 h.0 (h.2.stands ∙ ap Some d)

pub apart : (groups : List Group) → IsFormed groups → AreCanonical groups → (i j : ℕ) → i < count groups → j < count groups → tree_of groups i ≡ tree_of groups j → i ≡ j
apart [] formed c i j a b e = absurd (nothing_below i a)
apart (g ∷ earlier) formed c i j a b e =
    let before = apart earlier formed.2 c.1 in
    ⊎_elim
    (λ io. ⊎_elim (λ jo. before i j io jo (sym (tree_old g earlier i io) ∙ e ∙ tree_old g earlier j jo)) (λ jn. absurd (differ g earlier formed c before i j io jn e)) (cases_lt j (count earlier)))
    (λ new. ⊎_elim (λ jo. absurd (differ g earlier formed c before j i jo new (sym e)))
    (λ jn. let p : i - count earlier ≡ j - count earlier = ap (λ (t : TypeTree). t.place) (sym (tree_new g earlier i new) ∙ e ∙ tree_new g earlier j jn) in omega arith)
    (cases_lt j (count earlier)))
    (cases_lt i (count earlier))

-- ---- groups

-- what is known of a group at a number
pub record IsAt (groups : List Group) (g : Group) : Type 0 where
  pub canonical : IsTrue g.is_canonical
  pub formed : (few : ℕ) × IsGroupFormed few g
  pub known : EachEntries (IsKnown (count groups)) (entries_of g)

at_widens : (h : Group) (groups : List Group) (g : Group) → IsAt groups g → IsAt (h ∷ groups) g
at_widens h groups g a = record {
  canonical = a.canonical;
  formed = a.formed;
  known = entries_widen (count groups) (count (h ∷ groups)) (omega (arith, count_push h groups)) (entries_of g) a.known;
}

at_first : (h : Group) (groups : List Group) → IsTrue h.is_canonical → IsGroupFormed (count groups) h → IsAt groups h
at_first h groups c w = record { canonical = c; formed = (count groups, w); known = group_known (count groups) h c w }

at_either : (h : Group) (groups : List Group) (k : ℕ) (g : Group) (b : Bool) → IsAt groups h → (group_at groups k ≡ Some g → IsAt groups g)
    → cond b (Some h) (group_at groups k) ≡ Some g → IsAt groups g
at_either h groups k g true first older e = let f : h ≡ g = cc in subst (IsAt groups) f first
at_either h groups k g false first older e = older e

pub is_at : (groups : List Group) → IsFormed groups → AreCanonical groups → (k : ℕ) (g : Group) → group_at groups k ≡ Some g → IsAt groups g
is_at [] formed c k g e = absurd cc
is_at (h ∷ groups) formed c k g e =
    at_widens h groups g (at_either h groups k g (eqb k (length groups)) (at_first h groups c.0 formed.0) (is_at groups formed.2 c.1 k g) e)

missing_tree : (groups : List Group) → IsFormed groups → AreCanonical groups → (g : Group) → IsTrue g.is_canonical → IsGroupFormed (count groups) g → IsMissing groups g
    → (k : ℕ) (o : Option Group) → group_at groups k ≡ o → option_map (tree_behind groups) o ≡ Some (tree_behind groups g) → ⊥
missing_tree groups formed c g d w missing k None at e = cc
missing_tree groups formed c g d w missing k (Some h) at e =
    let t : tree_behind groups h ≡ tree_behind groups g = cc in
    let a = is_at groups formed c k h at in
    let b : entries_of h ≡ entries_of g =
    groups_same (tree_of groups) (count groups) (apart groups formed c) (entries_of h) (entries_of g) a.known (group_known (count groups) g d w) t in
    let same : h ≡ g = group_same a.formed.0 (count groups) h g a.canonical d a.formed.1 w b in
    missing k (at ∙ ap Some same)

-- a group in canonical form is missing exactly where its tree is
pub missing_by_tree : (groups : List Group) → IsFormed groups → AreCanonical groups → (g : Group) → IsTrue g.is_canonical → IsGroupFormed (count groups) g
    → IsMissing groups g ↔ IsNewTree groups (tree_behind groups g)
missing_by_tree groups formed c g d w = (
  λ missing k e. missing_tree groups formed c g d w missing k (group_at groups k) refl e,
  λ none k e. none k (ap (option_map (tree_behind groups)) e),
)
