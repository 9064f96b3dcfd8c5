-- While one list has room for the types of all modules, each has the verdict that it has alone.
use Rattle.std.proofs.Common.{◌≡◌, ◌∙◌, ◌⊎◌, ◌<◌, ◌≤◌, ◌+◌, ◌^◌, ℕ, zero, suc, Bool, true, false, IsTrue, List, [], ◌∷◌, ◌++◌, length, refl, sym, ap, subst, arith, inl, inr, ⊎_elim}
use Rattle.std.specs.Prelude.{Contains}
use Rattle.std.proofs.lemmas.Bool.{cases_lt}
use Rattle.std.proofs.lemmas.List.{length-append, length-map}
use Rattle.std.proofs.lemmas.List.Elements.{Contains-append_left, Contains-append_right, Contains-append_cases}
use Rattle.wasm_types.specs.decoding.ErrorValue.{ErrorValue}
use Rattle.wasm_types.specs.settings.Settings.{Settings}
use Rattle.wasm_types.specs.settings.Features.{needs_canonical_types}
use Rattle.wasm_types.specs.trees.declared.index.CoreTypeId.{CoreTypeId}
use Rattle.wasm_types.specs.trees.Trees.{TypeTree}
use Rattle.wasm_types.specs.trees.Unfold.{type_count}
use Rattle.wasm_module_validator_index_spaces.specs.declared.view.validator_id.ValidatorId.{ValidatorId}
use Rattle.wasm_module_validator_type_list.specs.List.{max_types}
use Rattle.wasm_module_validator_type_storage.specs.trees.Groups.{Group, count, tree_of}
use Rattle.wasm_module_validator_type_groups.specs.adding.Interned.{space_of, ids_from}
use Rattle.wasm_module_validator_drivers.specs.declarations.Total.{HasEachOnce, IsPastTotal, OneGroup, TakesOf}
use Rattle.wasm_module_validator_drivers.specs.declarations.TotalLaws.{type_there}
use Rattle.wasm_module_validator_drivers.specs.reading.Reading.{HasGroupIn}
use Rattle.wasm_module_validator_drivers.specs.state.invariant.Standing.{IsGrown}
use Rattle.wasm_module_validator_drivers.specs.state.invariant.laws.Growing.{ids_contain, ids_counted}
use Rattle.wasm_module_validator_drivers.specs.state.Items.{no_items}
use Rattle.wasm_module_validator_rules.specs.Accepts.{AcceptsUnder, IsValidOutsideBodies, JudgesOutsideBodies}
use Rattle.wasm_module_validator_rules.specs.Spaces.{types_behind}
use Rattle.wasm_module_validator_rules.specs.Syntax.{ModuleTree}
use Rattle.wasm_module_validator.specs.declared.lists.Verdict.{Verdict}
use Rattle.wasm_module_validator.specs.declared.lists.Verdict.TheVariants.{Accepted, Refused}
use Rattle.wasm_module_validator.specs.Alone.{all_types, AreDifferent, AreAmong, HasRoomAfter, HasRoomForAll, IsWithinTotal, AreAtMost, AreCounted, HaveFewTypes, AreAlone}
use Rattle.wasm_module_validator.specs.Lists.{AreVerdicts}
use Rattle.wasm_module_validator.specs.Shown.{Learned}
use Rattle.wasm_module_validator.specs.laws.GroupsIn.{groups_within, read_judges}
use Rattle.wasm_module_validator.specs.laws.Ids.{ids_stay}
use Rattle.wasm_module_validator.specs.laws.Verdict.{accepted_is_read, outside_is_read}

-- ---- the types of a list

-- where the type of one of some ids comes from
id_of : (groups : List Group) (first n : ℕ) (t : TypeTree) → Contains (space_of groups (ids_from first n)) t
    → (id : ℕ) × (first ≤ id) × (id < first + n) × (tree_of groups id ≡ t)
id_of groups first zero t (k, l, at) = absurd (omega (arith, l))
id_of groups first (suc n) t (zero, l, at) = (first, omega arith, omega arith, at)
id_of groups first (suc n) t (suc k, l, at) =
    let i = id_of groups (suc first) n t (k, omega (arith, l), at) in (i.0, omega (arith, i.1), omega (arith, i.2), i.3)

different : (groups : List Group) → HasEachOnce groups → (first n : ℕ) → first + n ≤ count groups → AreDifferent (space_of groups (ids_from first n))
different groups once first zero h = tt
different groups once first (suc n) h = (
  λ c. let i = id_of groups (suc first) n (tree_of groups first) c in
      let same = once i.0 first (omega (arith, i.2, h)) (omega (arith, h)) i.3 in omega (arith, i.1, same),
  different groups once (suc first) n (omega (arith, h)),
)

counted : (groups : List Group) → length (all_types groups) ≡ count groups
counted groups = length-map (ids_from 0 (count groups)) (λ (i : CoreTypeId). tree_of groups i.0) ∙ ids_counted 0 (count groups)

-- ---- what the list has come to hold

-- each type of the list is one of these, and it has no more of them
abbrev AreKnown : List TypeTree → List Group → Type 0
AreKnown types now = ((id : ℕ) → id < count now → Contains types (tree_of now id)) × (count now ≤ length types)

known_first : (held : List Group) → AreKnown (all_types held) held
known_first held = (
  λ id low. type_there held (ids_from 0 (count held)) (record { 0 = id }) (ids_contain 0 (count held) (record { 0 = id }) (omega arith) (omega (arith, low))),
  (let c = counted held in omega (arith, c)),
)

known_further : (types : List TypeTree) (now : List Group) (more : List TypeTree) (next : List Group) → AreKnown types now → IsGrown now next
    → count next ≤ count now + length more → TakesOf more now next → AreKnown (types ++ more) next
known_further types now more next k grown few of = (
  λ id high. ⊎_elim
      (λ old. subst (Contains (types ++ more)) (sym (ids_stay now next grown id old)) (Contains-append_left types more (tree_of now id) (k.0 id old)))
      (λ new. Contains-append_right types more (tree_of next id) (of id new high)) (cases_lt id (count now)),
  (let whole = length-append types more in let less = k.1 in omega (arith, whole, less, few)),
)

-- ---- a group that was refused had no room

module _ (z : Settings) (types : List TypeTree) (now : List Group) (Has : List TypeTree → ℕ → Type 0) (known : AreKnown types now)
    (room : (before : List TypeTree) (own : ℕ) → Has before own → length before + own ≤ z.limits.types → HasRoomAfter z (types ++ before) own) where
  module _ (e : ErrorValue) (p : IsPastTotal now (no_items z) Has e) where
    within : HasRoomAfter z (types ++ p.before) p.own
    within = room p.before p.own p.has p.within

    held_known : AreKnown (types ++ p.before) p.held
    held_known = let few = p.few in known_further types now p.before p.held known p.grown (omega (arith, few)) p.taken

    refuted : (b : Bool) → needs_canonical_types z.features ≡ b → ⊥
    refuted true on =
        let fits = within.canonical on (all_types p.held) (different p.held (p.once on) 0 (count p.held) (omega arith))
        (λ t c. let i = id_of p.held 0 (count p.held) t c in subst (Contains (types ++ p.before)) i.3 (held_known.0 i.0 (omega (arith, i.2)))) in
        let many = counted p.held in
        let past = p.past in
        omega (arith, fits, many, past)
    refuted false off = let fits = within.as_written off in let few = held_known.1 in let past = p.past in omega (arith, fits, few, past)

  not_past : (e : ErrorValue) → IsPastTotal now (no_items z) Has e → ⊥
  not_past e p = refuted e p (needs_canonical_types z.features) refl

  none_past : (e : ErrorValue) {P : Type 0} → IsPastTotal now (no_items z) Has e ⊎ (P → ⊥) → P → ⊥
  none_past e (inl p) valid = not_past e p
  none_past e (inr none) valid = none valid

-- ---- one module after the other

module _ (z : Settings) (id : ValidatorId) where
  alone_from : (types : List TypeTree) (now : List Group) (xs : List (List ℕ)) (vs : List Verdict) → AreKnown types now → HasRoomForAll z types xs
      → AreVerdicts z id now xs vs → AreAlone z xs vs
  alone_from types now [] [] k w h = tt
  alone_from types now [] (v ∷ vs) k w h = h
  alone_from types now (x ∷ xs) [] k w h = h
  alone_from types now (x ∷ xs) (Accepted t ∷ vs) k w (is, (next, left, rest)) =
      let read = accepted_is_read z x is.0 in
      let more = types_behind [] read.0.tree.types in
      let took = left.2 read.0 read.1 in
      (is.0, alone_from (types ++ more) next xs vs (known_further types now more next k left.0 took.0 took.1) (w.1 read.0 read.1) rest)
  alone_from types now (x ∷ xs) (Refused e true ∷ vs) k w (is, (next, left, rest)) =
      let read = (outside_is_read z x).0 is.2 in
      let more = types_behind [] read.0.tree.types in
      let took = left.1 read.0 read.1 in
      ((is.0, is.2), alone_from (types ++ more) next xs vs (known_further types now more next k left.0 took.0 took.1) (w.1 read.0 read.1) rest)
  alone_from types now (x ∷ xs) (Refused e false ∷ vs) k w (is, ends) =
      let none = none_past z types now (HasGroupIn z x) k w.0 e is.1 in
      ((λ a. let read = accepted_is_read z x a in none ((outside_is_read z x).1 (read.0, read.1)), none), ends)

  pub verdicts_are_alone : (held : List Group) (xs : List (List ℕ)) (vs : List Verdict) → AreVerdicts z id held xs vs → IsWithinTotal z held xs → AreAlone z xs vs
  verdicts_are_alone held xs vs h w = alone_from (all_types held) held xs vs (known_first held) w h

-- ---- how many are different

-- one of them, between those before it and those after it
parted : (ts : List TypeTree) (t : TypeTree) → Contains ts t → (front : List TypeTree) × (back : List TypeTree) × (ts ≡ front ++ t ∷ back)
parted [] t (k, l, at) = absurd (omega (arith, l))
parted (u ∷ us) t (zero, l, at) = ([], us, ap (λ v. v ∷ us) at)
parted (u ∷ us) t (suc k, l, at) = let p = parted us t (k, omega (arith, l), at) in (u ∷ p.0, p.1, ap (λ vs. u ∷ vs) p.2)

-- without one of them, another is still there
still_there : (front back : List TypeTree) (t u : TypeTree) → (t ≡ u → ⊥) → Contains front u ⊎ Contains (t ∷ back) u → Contains (front ++ back) u
still_there front back t u other (inl c) = Contains-append_left front back u c
still_there front back t u other (inr (zero, l, at)) = absurd (other at)
still_there front back t u other (inr (suc k, l, at)) = Contains-append_right front back u (k, omega (arith, l), at)

-- types that are different are no more than those that they are among
pub no_more_than : (some all : List TypeTree) → AreDifferent some → AreAmong some all → length some ≤ length all
no_more_than [] all d a = omega arith
no_more_than (t ∷ ts) all d a =
    let p = parted all t (a t (zero, omega arith, refl)) in
    let rest = no_more_than ts (p.0 ++ p.1) d.1 (λ u c. still_there p.0 p.1 t u (λ e. d.0 (subst (Contains ts) (sym e) c))
    (Contains-append_cases p.0 (t ∷ p.1) u (subst (λ (us : List TypeTree). Contains us u) p.2 (a u (suc c.0, omega (arith, c.1), c.2))))) in
    let whole : length all ≡ length p.0 + length (t ∷ p.1) = ap length p.2 ∙ length-append p.0 (t ∷ p.1) in
    let less = length-append p.0 p.1 in
    omega (arith, rest, whole, less)

-- ---- inputs for which a list has room

-- it has if there is room for all of them, each as often as it is there
roomy : (z : Settings) (types : List TypeTree) (own : ℕ) → length types + own ≤ max_types → HasRoomAfter z types own
roomy z types own fits = record { canonical = λ on some d a. let few = no_more_than some types d a in omega (arith, few, fits); as_written = λ off. fits }

roomy_for_all : (z : Settings) (types : List TypeTree) (xs : List (List ℕ)) → AreAtMost max_types z (length types) xs → HasRoomForAll z types xs
roomy_for_all z types [] a = tt
roomy_for_all z types (x ∷ xs) a = (
  λ before own has within. roomy z (types ++ before) own (let fits = a.0 before own has in let whole = length-append types before in omega (arith, fits, whole)),
  λ q read. let more = types_behind [] q.tree.types in
      roomy_for_all z (types ++ more) xs (subst (λ (n : ℕ). AreAtMost max_types z n xs) (sym (length-append types more)) (a.1 q read)),
)

pub few_have_room : (z : Settings) (held : List Group) (xs : List (List ℕ)) → AreAtMost max_types z (count held) xs → IsWithinTotal z held xs
few_have_room z held xs a = roomy_for_all z (all_types held) xs (subst (λ (n : ℕ). AreAtMost max_types z n xs) (sym (counted held)) a)

pub first_has_room : (z : Settings) (x : List ℕ) → z.limits.types ≤ max_types → IsWithinTotal z [] (x ∷ [])
unfolding type_count
first_has_room z x few = (λ before own has within. roomy z before own (omega (arith, within, few)), λ q read. tt)

-- ---- inputs whose modules have few types

module _ (z : Settings) (id : ValidatorId) where
  -- a module that is valid outside its bodies passes no total
  not_past_few : (types : List TypeTree) (now : List Group) (x : List ℕ) (xs : List (List ℕ)) (e : ErrorValue) → AreKnown types now → length x < 2 ^ 64
      → HaveFewTypes max_types z (length types) (x ∷ xs) → IsPastTotal now (no_items z) (HasGroupIn z x) e ⊎ (IsValidOutsideBodies z x → ⊥) → IsValidOutsideBodies z x → ⊥
  not_past_few types now x xs e k short w (inr none) valid = none valid
  not_past_few types now x xs e k short w (inl past) valid =
      let read = (outside_is_read z x).0 valid in
      let few : length types + length (types_behind [] read.0.tree.types) ≤ max_types = (w (record read.0.tree { code = [] }) (read_judges z x read.0 read.1)).0 in
      not_past z types now (HasGroupIn z x) k
      (λ before own has within.
      let some = groups_within z x before own read.0 short has read.1 in
      let whole = length-append types before in
      roomy z (types ++ before) own (omega (arith, few, some, whole)))
      e past

  few_from : (types : List TypeTree) (now : List Group) (xs : List (List ℕ)) (vs : List Verdict) → AreKnown types now → AreCounted xs
      → HaveFewTypes max_types z (length types) xs → AreVerdicts z id now xs vs → AreAlone z xs vs
  few_from types now [] [] k s w h = tt
  few_from types now [] (v ∷ vs) k s w h = h
  few_from types now (x ∷ xs) [] k s w h = h
  few_from types now (x ∷ xs) (Accepted t ∷ vs) k s w (is, (next, left, rest)) =
      let read = accepted_is_read z x is.0 in
      let more = types_behind [] read.0.tree.types in
      let took = left.2 read.0 read.1 in
      let few = (w (record read.0.tree { code = [] }) (read_judges z x read.0 read.1)).1 in
      let behind : HaveFewTypes max_types z (length (types ++ more)) xs = subst (λ (n : ℕ). HaveFewTypes max_types z n xs) (sym (length-append types more)) few in
      (is.0, few_from (types ++ more) next xs vs (known_further types now more next k left.0 took.0 took.1) s.1 behind rest)
  few_from types now (x ∷ xs) (Refused e true ∷ vs) k s w (is, (next, left, rest)) =
      let read = (outside_is_read z x).0 is.2 in
      let more = types_behind [] read.0.tree.types in
      let took = left.1 read.0 read.1 in
      let few = (w (record read.0.tree { code = [] }) (read_judges z x read.0 read.1)).1 in
      let behind : HaveFewTypes max_types z (length (types ++ more)) xs = subst (λ (n : ℕ). HaveFewTypes max_types z n xs) (sym (length-append types more)) few in
      ((is.0, is.2), few_from (types ++ more) next xs vs (known_further types now more next k left.0 took.0 took.1) s.1 behind rest)
  few_from types now (x ∷ xs) (Refused e false ∷ vs) k s w (is, ends) =
      let none = not_past_few types now x xs e k s.0 w is.1 in
      ((λ a. let read = accepted_is_read z x a in none ((outside_is_read z x).1 (read.0, read.1)), none), ends)

  pub few_are_alone : (held : List Group) (xs : List (List ℕ)) (vs : List Verdict) → AreCounted xs → AreVerdicts z id held xs vs → HaveFewTypes max_types z (count held) xs
      → AreAlone z xs vs
  few_are_alone held xs vs s h w =
      few_from (all_types held) held xs vs (known_first held) s (subst (λ (n : ℕ). HaveFewTypes max_types z n xs) (sym (counted held)) w) h

-- ---- worked rows

-- An input has room if the types so far and those of its module are as many as there may be, and not if they are one more; so it is if the same
-- input comes again. Nothing is asked of one that spells no such module, nor of those after it.
pub record FewRows (z : Settings) (x y : List ℕ) (m : ModuleTree) (n : ℕ) : Type 0 where
  pub none : HaveFewTypes max_types z n []
  pub fits : ((k : ModuleTree) → JudgesOutsideBodies z x k → length (types_behind [] k.types) ≤ 1) → n + 1 ≤ max_types → HaveFewTypes max_types z n (x ∷ [])
  pub full : JudgesOutsideBodies z x m → length (types_behind [] m.types) ≡ 1 → HaveFewTypes max_types z max_types (x ∷ []) → ⊥
  pub again : JudgesOutsideBodies z x m → length (types_behind [] m.types) ≡ 1 → n + 1 ≡ max_types → HaveFewTypes max_types z n (x ∷ x ∷ []) → ⊥
  pub no_module : (IsValidOutsideBodies z x → ⊥) → HaveFewTypes max_types z n (x ∷ y ∷ [])

pub few_rows : (z : Settings) (x y : List ℕ) (m : ModuleTree) (n : ℕ) → FewRows z x y m n
few_rows z x y m n = record {
  none = tt;
  fits = λ one room k j. ((let o = one k j in omega (arith, o, room)), tt);
  full = λ j one w. let few = (w m j).0 in omega (arith, few, one);
  again = λ j one last w. let few = ((w m j).1 m j).0 in omega (arith, few, one, last);
  no_module = λ not k j. absurd (not (k, j));
}

-- Types that come a second time take no room where they are kept in canonical form, and do where they are not; and behind as many as a list has,
-- there is no room for one more. A module whose types the list has all passes no total if there is room for its group besides, and a second
-- module that is the same has the verdict of the first.
pub record AloneRows (z : Settings) (types : List TypeTree) (own : ℕ) (x : List ℕ) (t : Learned) (e : ErrorValue) : Type 0 where
  pub again : IsTrue (needs_canonical_types z.features) → length types + own ≤ max_types → HasRoomAfter z (types ++ types) own
  pub full : IsTrue (needs_canonical_types z.features) → AreDifferent types → length types ≡ max_types → HasRoomAfter z types 1 → ⊥
  pub as_written : needs_canonical_types z.features ≡ false → length types + length types + own ≤ max_types → HasRoomAfter z (types ++ types) own
  pub full_as_written : needs_canonical_types z.features ≡ false → length types + length types ≡ max_types → HasRoomAfter z (types ++ types) 1 → ⊥
  pub crowded : IsTrue (needs_canonical_types z.features) → AreDifferent types → length types ≡ max_types → 1 ≤ z.limits.types → HasGroupIn z x [] 1
      → HasRoomForAll z types (x ∷ []) → ⊥
  pub held_already : IsTrue (needs_canonical_types z.features) → (groups : List Group) → AreAmong types (all_types groups) → count groups + own ≤ max_types
      → IsPastTotal groups (no_items z) (OneGroup types own) e → ⊥
  pub accepted_again : AcceptsUnder z x → AreAlone z (x ∷ x ∷ []) (Accepted t ∷ Accepted t ∷ [])
  pub refused_again : (b : Bool) → AreAlone z (x ∷ x ∷ []) (Accepted t ∷ Refused e b ∷ []) → ⊥
  pub none_more : AreAlone z [] (Accepted t ∷ []) → ⊥
  pub none_fewer : AreAlone z (x ∷ []) [] → ⊥
  pub inside : IsValidOutsideBodies z x → AreAlone z (x ∷ []) (Refused e false ∷ []) → ⊥

among_twice : (types some : List TypeTree) → AreAmong some (types ++ types) → AreAmong some types
among_twice types some a t c = ⊎_elim (λ l. l) (λ r. r) (Contains-append_cases types types t (a t c))

not_accepted : (z : Settings) (x : List ℕ) (t : Learned) (e : ErrorValue) (b : Bool) → AreAlone z (x ∷ x ∷ []) (Accepted t ∷ Refused e b ∷ []) → ⊥
not_accepted z x t e true (a, (none, ends)) = none.0 a
not_accepted z x t e false (a, (none, ends)) = none.0 a

-- what the list has takes no room in it
room_again : (z : Settings) (groups : List Group) (types : List TypeTree) (own : ℕ) → IsTrue (needs_canonical_types z.features) → AreAmong types (all_types groups)
    → count groups + own ≤ max_types → (before : List TypeTree) (n : ℕ) → OneGroup types own before n → length before + n ≤ z.limits.types
    → HasRoomAfter z (all_types groups ++ before) n
room_again z groups types own on among fits before n (is, same) within = record {
  canonical = λ on some d a.
      let few = no_more_than some (all_types groups) d (λ t c. ⊎_elim (λ l. l) (λ r. among t (subst (λ (ts : List TypeTree). Contains ts t) is r))
      (Contains-append_cases (all_types groups) before t (a t c))) in
      let all = counted groups in
      omega (arith, few, all, fits, same);
  as_written = λ off. absurd (let both : true ≡ false = sym on ∙ off in cc);
}

pub alone_rows : (z : Settings) (types : List TypeTree) (own : ℕ) (x : List ℕ) (t : Learned) (e : ErrorValue) → AloneRows z types own x t e
alone_rows z types own x t e = record {
  again = λ on fits. record {
    canonical = λ on some d a. let few = no_more_than some types d (among_twice types some a) in omega (arith, few, fits);
    as_written = λ off. absurd (let both : true ≡ false = sym on ∙ off in cc);
  };
  full = λ on d many room. let fits = room.canonical on types d (λ u c. c) in omega (arith, fits, many);
  as_written = λ off fits. record {
    canonical = λ on. absurd (let both : true ≡ false = sym on ∙ off in cc);
    as_written = λ off. let whole = length-append types types in omega (arith, whole, fits);
  };
  full_as_written = λ off many room. let fits = room.as_written off in let whole = length-append types types in omega (arith, fits, whole, many);
  crowded = λ on d many within has room.
      let fits = (room.0 [] 1 has (omega (arith, within))).canonical on types d (λ u c. Contains-append_left types [] u c) in omega (arith, fits, many);
  held_already = λ on groups among fits p.
      not_past z (all_types groups) groups (OneGroup types own) (known_first groups) (room_again z groups types own on among fits) e p;
  accepted_again = λ a. (a, (a, tt));
  refused_again = not_accepted z x t e;
  none_more = λ h. h;
  none_fewer = λ h. h;
  inside = λ v h. h.0.1 v;
}
