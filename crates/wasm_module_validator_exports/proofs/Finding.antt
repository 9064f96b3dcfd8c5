-- Pairs of names by the slots and the map that they are found in.
use Rattle.std.proofs.Common.{◌≡◌, ◌∙◌, ◌⊎◌, ◌&&◌, ◌==◌, ◌<◌, arith, cond, get_or, ℕ, zero, suc, Bool, true, false, List, [], ◌∷◌, ◌++◌, length, slice_get}
use Rattle.std.proofs.Common.{Option, Some, None, option_map, refl, sym, ap, subst, inl, inr, ⊎_elim, String, string_bytes, if◌then◌else◌}
use Rattle.std.proofs.lemmas.Bool.{cases_Bool, cond-true, cond-false, eqb-true}
use Rattle.std.specs.declared.alloc.Global.{Global}
use Rattle.std.specs.Option.{unwrap_or}
use Rattle.std.specs.Cmp.{IsTotalOrder, IsEquivalence, eq_by_cmp_equiv, then_total, on_total, both_tied}
use Rattle.std.specs.Cmp.Lexicographic.{slice_cmp, nat_list_cmp_total, texts_ties, bytes_decides}
use Rattle.std.specs.Ordering.{nat_cmp, ordering_then, eq_by_cmp}
use Rattle.std.specs.declared.cmp.Ordering.{Ordering}
use Rattle.std.specs.Str.{bytes_eq}
use Rattle.std.specs.BTreeMap.{BTreeMap, UpdatesBy, is_at}
use Rattle.std.specs.Map.{lookup, KeepsOthers, IsKeyTest, AreApart}
use Rattle.wasm_module_validator_exports.specs.declared.names.pairs.Met.{Met}
use Rattle.wasm_module_validator_exports.specs.declared.names.pairs.Met.TheVariants as met
use Rattle.wasm_module_validator_exports.specs.declared.names.pairs.Sought.{Sought}
use Rattle.wasm_module_validator_exports.specs.declared.names.pairs.Sought.TheVariants as sought
use Rattle.wasm_module_validator_exports.specs.names.Exports.{IsPut, beside}
use Rattle.wasm_module_validator_exports.specs.declared.names.imports.KeptNames.{KeptNames}
use Rattle.wasm_module_validator_exports.specs.names.Imports.{Pair, all_named, module_at, pairs_of, is_pair, index_of, slot_for, in_first, in_other, is_there, stands_at, IsSlotOf, IsFree, HasFree, StandsNowhere, HasMet, HasMetAt, compare_names, find_names, HasSought, found, Finds, IsBehind, Holds, HasSettled}
use Rattle.wasm_module_validator_exports.specs.names.Kept.{name_at}
use Rattle.wasm_module_validator_exports.proofs.Keeping.{pair_at, read}

abbrev Key : Type 0
Key = String Global × String Global

abbrev Others : Type 0
Others = BTreeMap Key ℕ

-- ---- the test of a pair

first_of : (a b : Bool) → (a && b) ≡ true → a ≡ true
first_of true b e = refl
first_of false b e = e

second_of : (a b : Bool) → (a && b) ≡ true → b ≡ true
second_of true b e = e
second_of false b e = absurd cc

both_of : (a b : Bool) → a ≡ true → b ≡ true → (a && b) ≡ true
both_of true b e f = f
both_of false b e f = e

names_are : (a b m f : List ℕ) → is_pair a b (m, f) ≡ true → (a ≡ m) × (b ≡ f)
names_are a b m f e = ((bytes_decides a m).0 (first_of (bytes_eq a m) (bytes_eq b f) e), (bytes_decides b f).0 (second_of (bytes_eq a m) (bytes_eq b f) e))

itself : (m f : List ℕ) → is_pair m f (m, f) ≡ true
itself m f = both_of (bytes_eq m m) (bytes_eq f f) ((bytes_decides m m).1 refl) ((bytes_decides f f).1 refl)

-- ---- a pair more behind the others

abbrev first_found : Option ℕ → Option ℕ → Option ℕ
first_found None o = o
first_found (Some i) o = Some i

none_first : (o : Option ℕ) → first_found o None ≡ o
none_first None = refl
none_first (Some i) = refl

abbrev pick : Bool → Option ℕ → Option ℕ
pick t o = if t then Some 0 else o

one_on : (t s : Bool) (n : ℕ) (o : Option ℕ)
    → pick t (option_map suc (first_found o (cond s (Some n) None))) ≡ first_found (pick t (option_map suc o)) (cond s (Some (suc n)) None)
one_on true s n o = refl
one_on false s n (Some i) = refl
one_on false true n None = refl
one_on false false n None = refl

alone : (s : Bool) → pick s None ≡ cond s (Some 0) None
alone true = refl
alone false = refl

index_push : (a b : List ℕ) (p : Pair) (ps : List Pair) → index_of a b (ps ++ p ∷ []) ≡ first_found (index_of a b ps) (cond (is_pair a b p) (Some (length ps)) None)
index_push a b p [] = alone (is_pair a b p)
index_push a b p (q ∷ ps) =
    ap (λ (o : Option ℕ). pick (is_pair a b q) (option_map suc o)) (index_push a b p ps)
    ∙ one_on (is_pair a b q) (is_pair a b p) (length ps) (index_of a b ps)

index_new : (m f : List ℕ) (ps : List Pair) → index_of m f ps ≡ None → index_of m f (ps ++ (m, f) ∷ []) ≡ Some (length ps)
index_new m f ps none =
    index_push m f (m, f) ps ∙ ap (λ (o : Option ℕ). first_found o (cond (is_pair m f (m, f)) (Some (length ps)) None)) none
    ∙ cond-true (is_pair m f (m, f)) (Some (length ps)) None (itself m f)

index_same : (a b m f : List ℕ) (ps : List Pair) → is_pair a b (m, f) ≡ false → index_of a b (ps ++ (m, f) ∷ []) ≡ index_of a b ps
index_same a b m f ps other =
    index_push a b (m, f) ps ∙ ap (first_found (index_of a b ps)) (cond-false (is_pair a b (m, f)) (Some (length ps)) None other)
    ∙ none_first (index_of a b ps)

-- what stands at an index, with a pair more behind the others: what stood there, or it is that pair and nothing stood there
there_still : (a b : List ℕ) (p : Pair) (ps : List Pair) (i : ℕ) → (is_there a b (slice_get (ps ++ p ∷ []) i) ≡ is_there a b (slice_get ps i))
    ⊎ ((i ≡ length ps) × (is_there a b (slice_get (ps ++ p ∷ []) i) ≡ is_pair a b p) × (is_there a b (slice_get ps i) ≡ false))
there_still a b p [] zero = inr (refl, refl, refl)
there_still a b p [] (suc i) = inl refl
there_still a b p (q ∷ ps) zero = inl refl
there_still a b p (q ∷ ps) (suc i) = ⊎_elim (λ e. inl e) (λ e. inr (ap suc e.0, e.1, e.2)) (there_still a b p ps i)

there_last : (ps : List Pair) (p : Pair) → slice_get (ps ++ p ∷ []) (length ps) ≡ Some p
there_last [] p = refl
there_last (q ∷ ps) p = there_last ps p

none_before : (ps : List Pair) (p : Pair) (x : ℕ) → slice_get (ps ++ p ∷ []) x ≡ None → slice_get ps x ≡ None
none_before [] p x e = refl
none_before (q ∷ ps) p zero e = absurd (let bad : Some q ≡ None = e in cc)
none_before (q ∷ ps) p (suc x) e = none_before ps p x e

-- another pair stands where it stood
stands_still : (a b m f : List ℕ) (ps : List Pair) (o : Option ℕ) → is_pair a b (m, f) ≡ false → stands_at a b (ps ++ (m, f) ∷ []) o ≡ stands_at a b ps o
stands_still a b m f ps None other = refl
stands_still a b m f ps (Some i) other = ⊎_elim (λ e. e) (λ e. e.1 ∙ other ∙ sym e.2) (there_still a b (m, f) ps i)

-- where the new pair stands and did not is behind the others
stands_last : (m f : List ℕ) (ps : List Pair) (o : Option ℕ) → stands_at m f ps o ≡ false → stands_at m f (ps ++ (m, f) ∷ []) o ≡ true → o ≡ Some (length ps)
stands_last m f ps None old now = absurd (let bad : false ≡ true = now in cc)
stands_last m f ps (Some i) old now =
    ⊎_elim (λ e. absurd (let bad : true ≡ false = sym now ∙ e ∙ old in cc)) (λ e. ap Some e.0) (there_still m f (m, f) ps i)

-- ---- slots

free_for_all : (a b : List ℕ) (ps : List Pair) (o : Option ℕ) (x : ℕ) → o ≡ Some x → slice_get ps x ≡ None → stands_at a b ps o ≡ false
free_for_all a b ps o x e none = ap (stands_at a b ps) e ∙ ap (is_there a b) none

abbrev chosen : Bool → Option ℕ → Option ℕ → Option ℕ
chosen t o p = if t then o else p

chosen_first : (t : Bool) (o p : Option ℕ) → t ≡ true → chosen t o p ≡ o
chosen_first true o p e = refl
chosen_first false o p e = absurd cc

chosen_second : (t : Bool) (o p : Option ℕ) → t ≡ false → chosen t o p ≡ p
chosen_second true o p e = absurd cc
chosen_second false o p e = refl

-- a pair that stands in neither of its slots is found by the map
nowhere_found : (slots : List ℕ) (others : Others) (ps : List Pair) (m f : List ℕ) → StandsNowhere slots ps m f → found slots others ps m f ≡ find_names others m f
nowhere_found slots others ps m f none =
    chosen_second (stands_at m f ps (in_first slots m f)) (in_first slots m f) (chosen (stands_at m f ps (in_other slots m f)) (in_other slots m f) (find_names others m f)) none.0
    ∙ chosen_second (stands_at m f ps (in_other slots m f)) (in_other slots m f) (find_names others m f) none.1

module _ (slots : List ℕ) (others : Others) (ps : List Pair) (m f : List ℕ) (h : Holds slots others ps) where
  abbrev behind_first : Option ℕ
  behind_first = chosen (stands_at m f ps (in_other slots m f)) (in_other slots m f) (find_names others m f)

  pub there_by_slot : (i : ℕ) → HasMet slots ps m f (met.Same i) → index_of m f ps ≡ Some i
  there_by_slot i s =
      sym (h.0 m f)
      ∙ ⊎_elim
      (λ y. chosen_first (stands_at m f ps (in_first slots m f)) (in_first slots m f) behind_first y.0 ∙ y.1)
      (λ y. chosen_second (stands_at m f ps (in_first slots m f)) (in_first slots m f) behind_first y.0
      ∙ (chosen_first (stands_at m f ps (in_other slots m f)) (in_other slots m f) (find_names others m f) y.1 ∙ y.2))
      s

  pub by_map : StandsNowhere slots ps m f → index_of m f ps ≡ find_names others m f
  by_map none = sym (h.0 m f) ∙ nowhere_found slots others ps m f none

  pub new_by_slot : (q : ℕ) → IsSlotOf slots m f q → IsFree slots ps q → StandsNowhere slots ps m f → index_of m f ps ≡ None
  new_by_slot q at free none =
      let has : HasFree slots ps m f = ⊎_elim (λ y. inl (subst (IsFree slots ps) y free)) (λ y. inr (subst (IsFree slots ps) y free)) at in
      by_map none ∙ h.1 m f has

module _ (old new : List ℕ) (others : Others) (ps : List Pair) (m f : List ℕ) (q i : ℕ) (at : IsSlotOf old m f q) (last : i ≡ length ps)
    (free : IsFree old ps q) (none : StandsNowhere old ps m f) (put : IsPut q i old new) (h : Holds old others ps) where
  abbrev more : List Pair
  more = ps ++ (m, f) ∷ []

  slot_now : (k : ℕ) → slice_get new k ≡ cond (q == k) (Some (length ps)) (slice_get old k)
  slot_now k = put.1 k ∙ ap (λ (l : ℕ). cond (q == k) (Some l) (slice_get old k)) last

  in_it : (k : ℕ) → (q == k) ≡ true → slice_get new k ≡ Some (length ps)
  in_it k y = slot_now k ∙ cond-true (q == k) (Some (length ps)) (slice_get old k) y

  elsewhere : (k : ℕ) → (q == k) ≡ false → slice_get new k ≡ slice_get old k
  elsewhere k z = slot_now k ∙ cond-false (q == k) (Some (length ps)) (slice_get old k) z

  same_slot : (a b : List ℕ) → slot_for a b (length new) ≡ slot_for a b (length old)
  same_slot a b = ap (slot_for a b) put.0

  abbrev stands_new : ℕ → Bool
  stands_new k = stands_at m f more (slice_get new k)

  standing : (k : ℕ) → q ≡ k → stands_new k ≡ true
  standing k e = ap (stands_at m f more) (in_it k (equal q k e)) ∙ (ap (is_there m f) (there_last ps (m, f)) ∙ itself m f)
    where
      same : (v : ℕ) → (v == v) ≡ true
      same v = grind arith

      equal : (v w : ℕ) → v ≡ w → (v == w) ≡ true
      equal v w e = subst (λ (u : ℕ). (v == u) ≡ true) e (same v)

  -- if it stands at the index of a slot in which it did not, this is the last
  is_last : (k : ℕ) → stands_at m f ps (slice_get old k) ≡ false → stands_new k ≡ true → slice_get new k ≡ Some (length ps)
  is_last k was now =
      ⊎_elim
      (λ y. in_it k y)
      (λ z. elsewhere k z ∙ stands_last m f ps (slice_get old k) was (sym (ap (stands_at m f more) (elsewhere k z)) ∙ now))
      (cases_Bool (q == k))

  abbrev its : ℕ
  its = slot_for m f (length new)

  at_now : (q ≡ its) ⊎ (q ≡ beside its)
  at_now = ⊎_elim (λ y. inl (y ∙ sym (same_slot m f))) (λ y. inr (y ∙ ap beside (sym (same_slot m f)))) at

  was_first : stands_at m f ps (slice_get old its) ≡ false
  was_first = ap (λ (k : ℕ). stands_at m f ps (slice_get old k)) (same_slot m f) ∙ none.0

  was_other : stands_at m f ps (slice_get old (beside its)) ≡ false
  was_other = ap (λ (k : ℕ). stands_at m f ps (slice_get old (beside k))) (same_slot m f) ∙ none.1

  finds_new : found new others more m f ≡ Some (length ps)
  finds_new =
      let rest = chosen (stands_new (beside its)) (slice_get new (beside its)) (find_names others m f) in
      ⊎_elim
      (λ y. chosen_first (stands_new its) (slice_get new its) rest y ∙ is_last its was_first y)
      (λ z.
      let there : stands_new (beside its) ≡ true = ⊎_elim (λ e. absurd (let bad : true ≡ false = sym (standing its e) ∙ z in cc)) (λ e. standing (beside its) e) at_now in
      chosen_second (stands_new its) (slice_get new its) rest z
      ∙ (chosen_first (stands_new (beside its)) (slice_get new (beside its)) (find_names others m f) there ∙ is_last (beside its) was_other there))
      (cases_Bool (stands_new its))

  none_at : index_of m f ps ≡ None
  none_at = new_by_slot old others ps m f h q at free none

  module _ (a b : List ℕ) (other : is_pair a b (m, f) ≡ false) where
    -- another pair is found in a slot as it was
    kept_if : (k : ℕ) (rest : Option ℕ) → chosen (stands_at a b more (slice_get new k)) (slice_get new k) rest ≡ chosen (stands_at a b ps (slice_get old k)) (slice_get old k) rest
    kept_if k rest =
        ⊎_elim
        (λ y.
        let was : IsFree old ps k = subst (IsFree old ps) (eqb-true q k y) free in
        chosen_second (stands_at a b more (slice_get new k)) (slice_get new k) rest
        (ap (stands_at a b more) (in_it k y) ∙ (ap (is_there a b) (there_last ps (m, f)) ∙ other))
        ∙ sym (chosen_second (stands_at a b ps (slice_get old k)) (slice_get old k) rest (free_for_all a b ps (slice_get old k) was.0 was.1 was.2)))
        (λ z. ap (λ (o : Option ℕ). chosen (stands_at a b more o) o rest) (elsewhere k z)
        ∙ ap (λ (t : Bool). chosen t (slice_get old k) rest) (stands_still a b m f ps (slice_get old k) other))
        (cases_Bool (q == k))

    abbrev asked : ℕ
    asked = slot_for a b (length new)

    finds_other : found new others more a b ≡ index_of a b more
    finds_other =
        kept_if asked (chosen (stands_at a b more (slice_get new (beside asked))) (slice_get new (beside asked)) (find_names others a b))
        ∙ ap (chosen (stands_at a b ps (slice_get old asked)) (slice_get old asked)) (kept_if (beside asked) (find_names others a b))
        ∙ ap (λ (k : ℕ). chosen (stands_at a b ps (slice_get old k)) (slice_get old k)
        (chosen (stands_at a b ps (slice_get old (beside k))) (slice_get old (beside k)) (find_names others a b))) (same_slot a b)
        ∙ h.0 a b ∙ sym (index_same a b m f ps other)

  finds_by_slot : Finds new others more
  finds_by_slot a b =
      ⊎_elim
      (λ y. let n = names_are a b m f y in
      subst (λ (c : List ℕ). found new others more c b ≡ index_of c b more) (sym n.0)
      (subst (λ (d : List ℕ). found new others more m d ≡ index_of m d more) (sym n.1) (finds_new ∙ sym (index_new m f ps none_at))))
      (finds_other a b) (cases_Bool (is_pair a b (m, f)))

  -- a slot that is free was so
  was_free : (k : ℕ) → IsFree new more k → IsFree old ps k
  was_free k (x, was, gone) =
      ⊎_elim
      (λ y.
      let here : Some (length ps) ≡ Some x = sym (in_it k y) ∙ was in
      let same : length ps ≡ x = ap (λ (o : Option ℕ). unwrap_or o x) here in
      let there : slice_get more x ≡ Some (m, f) = subst (λ (l : ℕ). slice_get more l ≡ Some (m, f)) same (there_last ps (m, f)) in
      absurd (let bad : None ≡ Some (m, f) = sym gone ∙ there in cc))
      (λ z. (x, sym (elsewhere k z) ∙ was, none_before ps (m, f) x gone))
      (cases_Bool (q == k))

  behind_by_slot : IsBehind new others more
  behind_by_slot a b has =
      let asked = slot_for a b (length new) in
      let before : IsFree old ps asked ⊎ IsFree old ps (beside asked) = ⊎_elim (λ y. inl (was_free asked y)) (λ y. inr (was_free (beside asked) y)) has in
      h.1 a b (subst (λ (k : ℕ). IsFree old ps k ⊎ IsFree old ps (beside k)) (same_slot a b) before)

  pub settled_by_slot : (index_of m f ps ≡ None) × Holds new others more
  settled_by_slot = (none_at, (finds_by_slot, behind_by_slot))

-- ---- the map

module _ (slots : List ℕ) (others more : Others) (ps : List Pair) (m f : List ℕ) (h : Holds slots others ps) (elsewhere : StandsNowhere slots ps m f)
    (full : HasFree slots ps m f → ⊥) (new : find_names others m f ≡ None)
    (put : (a b : List ℕ) → find_names more a b ≡ cond (is_pair a b (m, f)) (Some (length ps)) (find_names others a b)) where
  abbrev longer : List Pair
  longer = ps ++ (m, f) ∷ []

  nowhere : index_of m f ps ≡ None
  nowhere = by_map slots others ps m f h elsewhere ∙ new

  found_new : found slots more longer m f ≡ Some (length ps)
  found_new =
      let o = in_first slots m f in
      let p = in_other slots m f in
      let rest = chosen (stands_at m f longer p) p (find_names more m f) in
      ⊎_elim
      (λ y. chosen_first (stands_at m f longer o) o rest y ∙ stands_last m f ps o elsewhere.0 y)
      (λ z. chosen_second (stands_at m f longer o) o rest z
      ∙ ⊎_elim
      (λ y. chosen_first (stands_at m f longer p) p (find_names more m f) y ∙ stands_last m f ps p elsewhere.1 y)
      (λ w. chosen_second (stands_at m f longer p) p (find_names more m f) w
      ∙ (put m f ∙ cond-true (is_pair m f (m, f)) (Some (length ps)) (find_names others m f) (itself m f)))
      (cases_Bool (stands_at m f longer p)))
      (cases_Bool (stands_at m f longer o))

  found_other : (a b : List ℕ) → is_pair a b (m, f) ≡ false → found slots more longer a b ≡ index_of a b longer
  found_other a b other =
      let o = in_first slots a b in
      let p = in_other slots a b in
      ap (λ (t : Bool). chosen t o (chosen (stands_at a b longer p) p (find_names more a b))) (stands_still a b m f ps o other)
      ∙ ap (λ (t : Bool). chosen (stands_at a b ps o) o (chosen t p (find_names more a b))) (stands_still a b m f ps p other)
      ∙ ap (λ (r : Option ℕ). chosen (stands_at a b ps o) o (chosen (stands_at a b ps p) p r))
      (put a b ∙ cond-false (is_pair a b (m, f)) (Some (length ps)) (find_names others a b) other)
      ∙ h.0 a b ∙ sym (index_same a b m f ps other)

  finds_by_map : Finds slots more longer
  finds_by_map a b =
      ⊎_elim
      (λ y. let n = names_are a b m f y in
      subst (λ (c : List ℕ). found slots more longer c b ≡ index_of c b longer) (sym n.0)
      (subst (λ (d : List ℕ). found slots more longer m d ≡ index_of m d longer) (sym n.1) (found_new ∙ sym (index_new m f ps nowhere))))
      (found_other a b) (cases_Bool (is_pair a b (m, f)))

  behind_by_map : IsBehind slots more longer
  behind_by_map a b has =
      let shrunk : (k : ℕ) → IsFree slots longer k → IsFree slots ps k = (λ k g. (g.0, g.1, none_before ps (m, f) g.0 g.2)) in
      let asked = slot_for a b (length slots) in
      let before : HasFree slots ps a b = ⊎_elim (λ y. inl (shrunk asked y)) (λ y. inr (shrunk (beside asked) y)) has in
      ⊎_elim
      (λ y. let n = names_are a b m f y in
      absurd (full (subst (λ (c : List ℕ). HasFree slots ps c f) n.0 (subst (λ (d : List ℕ). HasFree slots ps a d) n.1 before))))
      (λ z. put a b ∙ cond-false (is_pair a b (m, f)) (Some (length ps)) (find_names others a b) z ∙ h.1 a b before)
      (cases_Bool (is_pair a b (m, f)))

  settled_by_map : (index_of m f ps ≡ None) × Holds slots more longer
  settled_by_map = (nowhere, (finds_by_map, behind_by_map))

-- what is done if the slots have other pairs
pub settled : (slots : List ℕ) (others next : Others) (ps : List Pair) (m f : List ℕ) (r : Sought) → HasMet slots ps m f met.Other → HasSought m f (length ps) others next r
    → Holds slots others ps → HasSettled m f ps slots next r
settled slots others next ps m f sought.New t s h = settled_by_map slots others next ps m f h t.0 t.1 s.0 s.1
settled slots others next ps m f (sought.At i) t s h =
    (by_map slots others ps m f h t.0 ∙ s.0, subst (λ (o : Others). Holds slots o ps) (sym s.1) h)
settled slots others next ps m f sought.NoMemory t s h = (
  λ a b. ap (λ (r : Option ℕ). chosen (stands_at a b ps (in_first slots a b)) (in_first slots a b) (chosen (stands_at a b ps (in_other slots a b)) (in_other slots a b) r)) (s a b)
      ∙ h.0 a b,
  λ a b has. s a b ∙ h.1 a b has,
)

-- ---- both slots of a pair

module _ (slots : List ℕ) (ps : List Pair) (m f : List ℕ) where
  abbrev first : ℕ
  first = slot_for m f (length slots)

  free_nowhere : (k p i : ℕ) → HasMetAt slots ps m f k (met.Free p i) → stands_at m f ps (slice_get slots k) ≡ false
  free_nowhere k p i t = free_for_all m f ps (slice_get slots k) t.2.0 t.2.1 t.2.2

  pub met_first : (p i : ℕ) → HasMetAt slots ps m f first (met.Free p i) → stands_at m f ps (in_other slots m f) ≡ false → HasMet slots ps m f (met.Free p i)
  met_first p i t e = (inl t.0, t.1, subst (IsFree slots ps) (sym t.0) t.2, (free_nowhere first p i t, e))

  pub free_beside : (p i : ℕ) → HasMetAt slots ps m f (beside first) (met.Free p i) → stands_at m f ps (in_other slots m f) ≡ false
  free_beside p i t = free_nowhere (beside first) p i t

  pub met_same : (i : ℕ) → HasMetAt slots ps m f first (met.Same i) → HasMet slots ps m f (met.Same i)
  met_same i t = inl (t.1, t.0)

  pub met_beside : (p i j : ℕ) → HasMetAt slots ps m f first (met.Free p i) → HasMetAt slots ps m f (beside first) (met.Same j) → HasMet slots ps m f (met.Same j)
  met_beside p i j s t = inr (free_nowhere first p i s, t.1, t.0)

  -- the first has another pair: what is in the other decides
  pub met_other : (t : Met) → HasMetAt slots ps m f first met.Other → HasMetAt slots ps m f (beside first) t → HasMet slots ps m f t
  met_other (met.Free p i) s t = (inr t.0, t.1, subst (IsFree slots ps) (sym t.0) t.2, (s.0, free_nowhere (beside first) p i t))
  met_other (met.Same i) s t = inr (s.0, t.1, t.0)
  met_other met.Other s t = ((s.0, t.0), λ has. ⊎_elim s.1 t.1 has)

-- ---- a pair more in the map

abbrev Bytes : Type 0
Bytes = List ℕ × List ℕ

abbrev compare : Bytes → Bytes → Ordering
compare a b = ordering_then (slice_cmp nat_cmp a.0 b.0) (slice_cmp nat_cmp a.1 b.1)

compare_total : IsTotalOrder compare
compare_total = then_total (on_total (λ (a : Bytes). a.0) nat_list_cmp_total) (on_total (λ (a : Bytes). a.1) nat_list_cmp_total)

same_pair : IsEquivalence (eq_by_cmp compare)
same_pair = eq_by_cmp_equiv compare_total

-- the test of names is equality by that order
tested : (m f a b : List ℕ) → (bytes_eq m a && bytes_eq f b) ≡ eq_by_cmp compare (m, f) (a, b)
tested m f a b = both_tied (bytes_eq m a) (bytes_eq f b) (slice_cmp nat_cmp m a) (slice_cmp nat_cmp f b) (texts_ties m a) (texts_ties f b)

abbrev bytes_of : Key → Bytes
bytes_of k = (string_bytes k.0, string_bytes k.1)

abbrev compare_keys : Key → Key → Ordering
compare_keys x y = compare (bytes_of x) (bytes_of y)

module _ (m f : List ℕ) where
  others_stay : (old new : List (Key × ℕ)) → KeepsOthers (eq_by_cmp compare_keys) (is_at (compare_names m f)) old new
      → (other : Key → Bool) → IsKeyTest (eq_by_cmp compare_keys) other → AreApart (is_at (compare_names m f)) other → lookup other new ≡ lookup other old
  unfolding KeepsOthers
  others_stay old new h = h

  apart : (a b : List ℕ) → eq_by_cmp compare (m, f) (a, b) ≡ false → (k : Key) → is_at (compare_names m f) k ≡ true → is_at (compare_names a b) k ≡ false
  apart a b n k y = same_pair.symm (a, b) (bytes_of k) ∙ sym (same_pair.congr (m, f) (bytes_of k) (a, b) y) ∙ n

  turned : (a b : List ℕ) → is_pair a b (m, f) ≡ false → eq_by_cmp compare (m, f) (a, b) ≡ false
  turned a b other = same_pair.symm (m, f) (a, b) ∙ sym (tested a b m f) ∙ other

  pub found_more : (old new : Others) (v : ℕ) → UpdatesBy compare_keys (compare_names m f) old new (Some v) → (a b : List ℕ)
      → find_names new a b ≡ cond (is_pair a b (m, f)) (Some v) (find_names old a b)
  found_more old new v h a b =
      ⊎_elim
      (λ y. let n = names_are a b m f y in
      subst (λ (c : List ℕ). find_names new c b ≡ Some v) (sym n.0) (subst (λ (d : List ℕ). find_names new m d ≡ Some v) (sym n.1) h.1)
      ∙ sym (cond-true (is_pair a b (m, f)) (Some v) (find_names old a b) y))
      (λ z. others_stay old.entries new.entries h.3 (is_at (compare_names a b)) (λ x y. same_pair.congr (a, b) (bytes_of x) (bytes_of y)) (apart a b (turned a b z))
      ∙ sym (cond-false (is_pair a b (m, f)) (Some v) (find_names old a b) z))
      (cases_Bool (is_pair a b (m, f)))

-- ---- no pairs

stands_nowhere : (a b : List ℕ) (o : Option ℕ) → stands_at a b [] o ≡ false
stands_nowhere a b None = refl
stands_nowhere a b (Some i) = refl

-- without pairs none is found
pub holds_nothing : (slots : List ℕ) (others : Others) → others.entries ≡ [] → Holds slots others []
holds_nothing slots others e =
    let none : (a b : List ℕ) → find_names others a b ≡ None = (λ a b. ap (λ (es : List (Key × ℕ)). lookup (is_at (compare_names a b)) es) e) in (
      λ a b. nowhere_found slots others [] a b (stands_nowhere a b (in_first slots a b), stands_nowhere a b (in_other slots a b)) ∙ none a b,
      λ a b free. none a b,
    )

-- ---- what an index in a slot leads to

module _ (slots : List ℕ) (ms : List (String Global)) (t : List ℕ) (ks : List KeptNames) (m f : List ℕ) (q x : ℕ) (k : KeptNames)
    (inside : q < length slots) (was : x ≡ get_or slots q x) (beyond : x < length ks) (there : k ≡ get_or ks x k) where
  abbrev all : List Pair
  all = pairs_of (all_named ms t ks)

  leads : slice_get slots q ≡ Some x
  leads = read slots q x inside was

  stands_here : slice_get all x ≡ Some (module_at ms k.«module», name_at t k.name)
  stands_here = pair_at ms t ks x ∙ ap (option_map (λ (j : KeptNames). (module_at ms j.«module», name_at t j.name))) (read ks x k beyond there)

  pub leads_to : (b : Bool) → b ≡ is_pair m f (module_at ms k.«module», name_at t k.name) → (slice_get slots q ≡ Some x) × (stands_at m f all (slice_get slots q) ≡ b)
  leads_to b same = (leads, ap (stands_at m f all) leads ∙ ap (is_there m f) stands_here ∙ sym same)

  pub not_led : false ≡ is_pair m f (module_at ms k.«module», name_at t k.name) → stands_at m f all (slice_get slots q) ≡ false
  not_led same = ap (stands_at m f all) leads ∙ ap (is_there m f) stands_here ∙ sym same

  -- where a pair stands its slot is not free
  pub not_free : IsFree slots all q → ⊥
  not_free (y, is, free) =
      let same : x ≡ y = ap (λ (o : Option ℕ). unwrap_or o x) (sym leads ∙ is) in
      let some : slice_get all y ≡ Some (module_at ms k.«module», name_at t k.name)
      = subst (λ (w : ℕ). slice_get all w ≡ Some (module_at ms k.«module», name_at t k.name)) same stands_here in
      let bad : None ≡ Some (module_at ms k.«module», name_at t k.name) = sym free ∙ some in
      cc
