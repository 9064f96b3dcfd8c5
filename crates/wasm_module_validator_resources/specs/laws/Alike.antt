-- Types without references unroll to one type exactly where their groups are stored alike, and they have the same place there.
use Rattle.std.proofs.Common.{◌≡◌, ◌∙◌, ◌↔◌, ℕ, ◌+◌, ◌-◌, ◌<◌, ◌≤◌, false, List, [], ◌∷◌, length, map, get_or, refl, ap, sym, subst, Option, Some, arith}
use Rattle.std.proofs.lemmas.Option.{same_Some}
use Rattle.std.specs.Prelude.{slice_get, unwrap_or}
use Rattle.std.proofs.lemmas.List.{length-map, get_or-map, same_lists}
use Rattle.wasm_types.specs.settings.Features.{needs_canonical_types}
use Rattle.wasm_types.specs.trees.declared.index.UnpackedIndex.{UnpackedIndex}
use Rattle.wasm_types.specs.trees.Types.{EntryOf, entry_map}
use Rattle.wasm_types.specs.trees.Trees.{RefTree, TypeTree, group_tree, entries_of}
use Rattle.wasm_types.specs.trees.Unfold.{reference_tree}
use Rattle.wasm_types.specs.trees.laws.Trees.{entries_back}
use Rattle.wasm_types.specs.trees.laws.Types.{entries_twice}
use Rattle.wasm_types.specs.Entries.{Declared}
use Rattle.wasm_types.specs.Remap.{declared_map}
use Rattle.wasm_module_validator_type_storage.specs.trees.Groups.{Group, count, tree_of, tree_behind, by_id, declared_by_id, reference_of, group_numbers, group_ranges}
use Rattle.wasm_module_validator_type_storage.specs.trees.Formed.{IsFormed}
use Rattle.wasm_module_validator_type_storage.specs.trees.BelowIds.{undeclared}
use Rattle.wasm_module_validator_type_list.specs.Lookups.{HasIds}
use Rattle.wasm_module_validator_resources.specs.Named.{AreStoredAlike, HasSpan, IsSettled}
use Rattle.wasm_module_validator_resources.specs.laws.Homes.{IsHome, Home, home_of}
use Rattle.wasm_module_validator_resources.specs.laws.Stored.{shapes, plain_alike, plain_same, AreAlone, declared_same, place_plain, home_plain, home_alone}

-- ---- the ids of the group of a type

-- they begin at or before the type's own, and end behind it
pub record IsAround (groups : List Group) (id first end : ℕ) : Type 0 where
  pub begins : first ≤ id
  pub ends : id < end
  pub known : end ≤ count groups

module _ (groups : List Group) (id k : ℕ) (h : Home groups id) (e : slice_get (group_numbers groups) id ≡ Some k) where
  same_number : h.number ≡ k
  same_number = same_Some h.number k (sym h.numbered ∙ e)

  pub number_known : k < length groups
  number_known = subst (λ (n : ℕ). n < length groups) same_number h.is.old

  same_range : (first end : ℕ) → HasIds groups k first end → (h.first ≡ first) × (h.first + length h.group.types ≡ end)
  same_range first end r =
      let pair : Some (h.first, h.first + length h.group.types) ≡ Some (first, end) =
      sym h.is.range ∙ ap (λ (n : ℕ). slice_get (group_ranges groups) n) same_number ∙ r in
      (ap (λ (x : Option (ℕ × ℕ)). (unwrap_or x (0, 0)).0) pair, ap (λ (x : Option (ℕ × ℕ)). (unwrap_or x (0, 0)).1) pair)

pub number_in : (groups : List Group) → IsFormed groups → (id k : ℕ) → id < count groups → slice_get (group_numbers groups) id ≡ Some k → k < length groups
number_in groups formed id k lt e = number_known groups id k (home_of groups formed id lt) e

pub around : (groups : List Group) → IsFormed groups → (id k first end : ℕ) → id < count groups → slice_get (group_numbers groups) id ≡ Some k → HasIds groups k first end
    → IsAround groups id first end
around groups formed id k first end lt e r =
    let h = home_of groups formed id lt in
    let same = same_range groups id k h e first end r in
    let one : h.first ≡ first = same.0 in
    let two : h.first + length h.group.types ≡ end = same.1 in
    let begins = h.is.begins in
    let ends = h.is.ends in
    let known = h.is.known in
    record { begins = omega arith; ends = omega arith; known = omega arith }

pub span_at : (groups : List Group) → IsFormed groups → (id k first end : ℕ) → id < count groups → slice_get (group_numbers groups) id ≡ Some k → HasIds groups k first end
    → HasSpan groups id first (end - first)
span_at groups formed id k first end lt e r =
    let w = around groups formed id k first end lt e r in
    let begins = w.begins in
    let ends = w.ends in
    let known = w.known in
    let whole : end ≡ first + (end - first) = omega arith in
    record {
      number = k;
      numbered = e;
      ids = subst (HasIds groups k first) whole r;
      begins = begins;
      ends = omega arith;
      known = omega arith;
    }

-- its tree is at its place of the group's
abbrev home_tree : (groups : List Group) (id : ℕ) → Home groups id → TypeTree
home_tree groups id h = record { group = tree_behind h.earlier h.group; place = id - h.first }

placed : (groups : List Group) (id : ℕ) (h : Home groups id) → tree_of groups id ≡ home_tree groups id h
placed groups id h =
    let begins = h.is.begins in
    let ends = h.is.ends in
    let at : id ≡ h.first + (id - h.first) = omega arith in
    ap (tree_of groups) at ∙ h.is.trees (id - h.first) (omega arith)

-- ---- two groups

joined : (t u v w : TypeTree) → t ≡ u → u ≡ v → w ≡ v → t ≡ w
joined t u v w a b c = a ∙ b ∙ sym c

across : (t u v w : TypeTree) → t ≡ u → t ≡ v → v ≡ w → u ≡ w
across t u v w a b c = sym a ∙ b ∙ c

-- what a group's tree is made of
made_of : (earlier : List Group) (g : Group)
    → tree_behind earlier g ≡ group_tree (map (entry_map (λ i. reference_tree (tree_of earlier) (reference_of i))) (shapes g))
made_of earlier g = ap group_tree (entries_twice (reference_tree (tree_of earlier)) reference_of (shapes g))

head_same : (x y : EntryOf UnpackedIndex) → x ∷ [] ≡ y ∷ [] → x ≡ y
head_same x y e = ap (λ (l : List (EntryOf UnpackedIndex)). get_or l 0 x) e

-- declarations with the indices replaced, where there are none
declared_alike : (f h : UnpackedIndex → UnpackedIndex) (ds : List Declared) → AreAlone ds → map (declared_map f) ds ≡ map (declared_map h) ds
declared_alike f h [] w = refl
declared_alike f h (d ∷ ds) w =
    let shape : entry_map f d.entry ∷ [] ≡ entry_map h d.entry ∷ [] = plain_alike f h (d.entry ∷ []) (w.0, tt) in
    let entries : entry_map f d.entry ≡ entry_map h d.entry = head_same _ _ shape in
    let none : map f d.supertypes ≡ map h d.supertypes = ap (map f) w.1 ∙ sym (ap (map h) w.1) in
    let one : declared_map f d ≡ declared_map h d = λ i. record { supertypes = none i; entry = entries i } in
    let rest = declared_alike f h ds w.2 in
    cc

module _ (bits : ℕ) (groups : List Group) (formed : IsFormed groups) (s : IsSettled bits groups) (off : needs_canonical_types bits ≡ false) where
  module _ (a b k l fa fb : ℕ) (g h : Group) (es gs : List Group) (x : IsHome groups a k fa g es) (y : IsHome groups b l fb h gs) where
    -- one tree, one list of declarations
    types_same : tree_behind es g ≡ tree_behind gs h → g.types ≡ h.types
    types_same e =
        let f : UnpackedIndex → RefTree = λ i. reference_tree (tree_of es) (reference_of i) in
        let m : UnpackedIndex → RefTree = λ i. reference_tree (tree_of gs) (reference_of i) in
        let whole : map (entry_map f) (shapes g) ≡ map (entry_map m) (shapes h) =
        sym (entries_back (map (entry_map f) (shapes g))) ∙ ap entries_of (sym (made_of es g) ∙ e ∙ made_of gs h) ∙ entries_back (map (entry_map m) (shapes h)) in
        declared_same g.types h.types
        (home_alone bits groups formed s off a k fa g es x)
        (home_alone bits groups formed s off b l fb h gs y)
        (plain_same f m (shapes g) (shapes h)
        (home_plain bits groups formed s off a k fa g es x)
        (home_plain bits groups formed s off b l fb h gs y) whole)

    alike_from : g.types ≡ h.types → AreStoredAlike groups fa fb (length g.types)
    alike_from e p lt =
        let long : length g.types ≡ length h.types = ap length e in
        let alone = home_alone bits groups formed s off a k fa g es x in
        let mapped : map (declared_map (by_id fa)) g.types ≡ map (declared_map (by_id fb)) h.types =
        declared_alike (by_id fa) (by_id fb) g.types alone ∙ ap (map (declared_map (by_id fb))) e in
        x.stored p undeclared lt
        ∙ sym (get_or-map (declared_map (by_id fa)) g.types p undeclared undeclared lt)
        ∙ ap (λ (l : List Declared). get_or l p undeclared) mapped
        ∙ get_or-map (declared_map (by_id fb)) h.types p undeclared undeclared (omega arith)
        ∙ sym (y.stored p undeclared (omega arith))

    shape_at : AreStoredAlike groups fa fb (length g.types) → length g.types ≡ length h.types → (p : ℕ) → p < length g.types
        → (get_or g.types p undeclared).entry ≡ (get_or h.types p undeclared).entry
    shape_at alike long p lt =
        let v : EntryOf UnpackedIndex = (get_or g.types p undeclared).entry in
        let w : EntryOf UnpackedIndex = (get_or h.types p undeclared).entry in
        let stored : declared_map (by_id fa) (get_or g.types p undeclared) ≡ declared_map (by_id fb) (get_or h.types p undeclared) =
        sym (x.stored p undeclared lt) ∙ alike p lt ∙ y.stored p undeclared (omega arith) in
        head_same v w
        (plain_same (by_id fa) (by_id fb) (v ∷ []) (w ∷ [])
        (place_plain bits groups formed s off a k fa g es x p lt, tt)
        (place_plain bits groups formed s off b l fb h gs y p (omega arith), tt)
        (ap (λ (d : Declared). d.entry ∷ []) stored))

    -- stored alike, one tree
    trees_same : AreStoredAlike groups fa fb (length g.types) → length g.types ≡ length h.types → tree_behind es g ≡ tree_behind gs h
    trees_same alike long =
        let f : UnpackedIndex → RefTree = λ i. reference_tree (tree_of es) (reference_of i) in
        let m : UnpackedIndex → RefTree = λ i. reference_tree (tree_of gs) (reference_of i) in
        let lg = length-map g.types (λ (d : Declared). d.entry) in
        let lh = length-map h.types (λ (d : Declared). d.entry) in
        let same : shapes g ≡ shapes h = same_lists (shapes g) (shapes h) (omega arith)
        (λ p d lt.
        get_or-map (λ (d : Declared). d.entry) g.types p undeclared d (omega arith)
        ∙ shape_at alike long p (omega arith)
        ∙ sym (get_or-map (λ (d : Declared). d.entry) h.types p undeclared d (omega arith))) in
        made_of es g
        ∙ ap group_tree
        (plain_alike f m (shapes g) (home_plain bits groups formed s off a k fa g es x) ∙ ap (map (entry_map m)) same)
        ∙ sym (made_of gs h)

  -- two types of the list
  pub alike_is_same : (a b k l fa ea fb eb : ℕ) → a < count groups → b < count groups
      → slice_get (group_numbers groups) a ≡ Some k → HasIds groups k fa ea → slice_get (group_numbers groups) b ≡ Some l → HasIds groups l fb eb
      → ((a - fa ≡ b - fb) × (ea - fa ≡ eb - fb) × AreStoredAlike groups fa fb (ea - fa)) ↔ (tree_of groups a ≡ tree_of groups b)
  alike_is_same a b k l fa ea fb eb la lb ka ra kb rb =
      let x = home_of groups formed a la in
      let y = home_of groups formed b lb in
      let sx = same_range groups a k x ka fa ea ra in
      let sy = same_range groups b l y kb fb eb rb in
      let xf : x.first ≡ fa = sx.0 in
      let xe : x.first + length x.group.types ≡ ea = sx.1 in
      let yf : y.first ≡ fb = sy.0 in
      let ye : y.first + length y.group.types ≡ eb = sy.1 in
      let xb = x.is.begins in
      let xn = x.is.ends in
      let yb = y.is.begins in
      let yn = y.is.ends in
      let count_is : ea - fa ≡ length x.group.types = omega arith in (
        λ w.
            let place : a - fa ≡ b - fb = w.0 in
            let long : ea - fa ≡ eb - fb = w.1 in
            let places : a - x.first ≡ b - y.first = omega arith in
            let alike : AreStoredAlike groups x.first y.first (length x.group.types) =
            λ p lt. ap (λ (n : ℕ). get_or (declared_by_id groups) (n + p) undeclared) xf ∙ w.2 p (omega arith)
            ∙ ap (λ (n : ℕ). get_or (declared_by_id groups) (n + p) undeclared) (sym yf) in
            let groups_same = trees_same a b x.number y.number x.first y.first x.group y.group x.earlier y.earlier x.is y.is alike (omega arith) in
            let one : home_tree groups a x ≡ home_tree groups b y =
            λ i. record { group = groups_same i; place = places i } in
            joined (tree_of groups a) (home_tree groups a x) (home_tree groups b y) (tree_of groups b) (placed groups a x) one (placed groups b y),
        λ e.
            let one : home_tree groups a x ≡ home_tree groups b y =
            across (tree_of groups a) (home_tree groups a x) (tree_of groups b) (home_tree groups b y) (placed groups a x) e (placed groups b y) in
            let tree : tree_behind x.earlier x.group ≡ tree_behind y.earlier y.group = ap (λ (t : TypeTree). t.group) one in
            let place : a - x.first ≡ b - y.first = ap (λ (t : TypeTree). t.place) one in
            let types = types_same a b x.number y.number x.first y.first x.group y.group x.earlier y.earlier x.is y.is tree in
            let long : length x.group.types ≡ length y.group.types = ap length types in
            let alike = alike_from a b x.number y.number x.first y.first x.group y.group x.earlier y.earlier x.is y.is types in (
              (omega arith),
              (omega arith),
              λ p lt. ap (λ (n : ℕ). get_or (declared_by_id groups) (n + p) undeclared) (sym xf) ∙ alike p (omega arith)
                  ∙ ap (λ (n : ℕ). get_or (declared_by_id groups) (n + p) undeclared) yf,
            ),
      )

  -- by their spans
  pub spans_same : (a b fa la fb lb : ℕ) → a < count groups → b < count groups → HasSpan groups a fa la → HasSpan groups b fb lb
      → ((a - fa ≡ b - fb) × (la ≡ lb) × AreStoredAlike groups fa fb la) ↔ (tree_of groups a ≡ tree_of groups b)
  spans_same a b fa la fb lb ka kb x y =
      let both = alike_is_same a b x.number y.number fa (fa + la) fb (fb + lb) ka kb x.numbered x.ids y.numbered y.ids in
      let one : fa + la - fa ≡ la = omega arith in
      let two : fb + lb - fb ≡ lb = omega arith in (
        λ w. both.0 (w.0, one ∙ w.1 ∙ sym two, subst (AreStoredAlike groups fa fb) (sym one) w.2),
        λ e. let w = both.1 e in (w.0, sym one ∙ w.1 ∙ two, subst (AreStoredAlike groups fa fb) one w.2),
      )
