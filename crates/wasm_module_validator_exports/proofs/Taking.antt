-- Names by the map and the set that they are found in.
use Rattle.std.proofs.Common.{rules, ◌≡◌, ◌∙◌, ◌+◌, take, ◌⊎◌, ◌||◌, ◌==◌, ◌<◌, ◌≤◌, arith, get_or, cond, ℕ, zero, suc, Bool, true, false, not, List, [], ◌∷◌, ◌++◌, length, slice_get, refl, sym, ap, subst, inl, inr, ⊎_elim, String, string_bytes}
use Rattle.std.proofs.Common.{Option, Some, None, option_map}
use Rattle.std.specs.Bool.{one_answer}
use Rattle.std.specs.Option.{unwrap_or}
use Rattle.std.specs.List.{list_any}
use Rattle.std.specs.Str.{bytes_eq}
use Rattle.std.specs.Ordering.{nat_cmp}
use Rattle.std.specs.Cmp.Lexicographic.{slice_cmp}
use Rattle.std.specs.BTreeMap.{is_at}
use Rattle.std.specs.BTreeSet.{BTreeSet, contains_text}
use Rattle.std.proofs.lemmas.List.{map-append, take_more}
use Rattle.std.proofs.lemmas.Bool.{cases_Bool, cond-true, cond-false}
use Rattle.std.proofs.lemmas.Slice.Eq.{bytes_eq-Decides}
use Rattle.std.proofs.lemmas.Map.Views.{exact_unsigned_eq}
use Rattle.std.proofs.lemmas.List.Folds.{list_any-append}
use Rattle.wasm_sections_items.specs.imports.Spells.{ExportTree}
use Rattle.wasm_module_validator_exports.specs.declared.names.exports.KeptExport.{KeptExport}
use Rattle.wasm_module_validator_exports.specs.declared.names.slots.Met.{Met}
use Rattle.wasm_module_validator_exports.specs.declared.names.slots.Met.TheVariants as met
use Rattle.wasm_module_validator_exports.specs.declared.names.slots.Tried.{Tried}
use Rattle.wasm_module_validator_exports.specs.declared.names.slots.Tried.TheVariants as tried
use Rattle.wasm_module_validator_exports.specs.names.Exports.{AreNamed, IsNew, IsSlotOf, Finds, HasFree, HasMet, HasMetAt, HasNoted, HasSettled, Holds, IsBehind, IsFree, IsPut, beside, exports_of, first_slot, is_name, kept_of, names_of, number_of, slot_of, stands, stands_at, stands_in}
use Rattle.wasm_module_validator_exports.specs.names.Kept.{IsNamed, name_at}
use Rattle.wasm_module_validator_exports.proofs.Keeping.{read}

neither : (a b : Bool) → (a || b) ≡ false → (a ≡ false) × (b ≡ false)
neither false false e = (refl, refl)
neither false true e = cc
neither true b e = cc

either : (a b : Bool) → (a || b) ≡ true → (a ≡ true) ⊎ (b ≡ true)
either false false e = cc
either false true e = inr refl
either true b e = inl refl

-- a name is new exactly where the test finds it nowhere
pub new_name : (n : List ℕ) (xs : List (List ℕ)) → list_any (bytes_eq n) xs ≡ false → IsNew n xs
new_name n [] e = tt
new_name n (x ∷ xs) e =
    let (f, g) = neither (bytes_eq n x) (list_any (bytes_eq n) xs) e in
    (λ q. (let y : false ≡ true = sym f ∙ (bytes_eq-Decides n x).1 q in cc), new_name n xs g)

pub known_name : (n : List ℕ) (xs : List (List ℕ)) → list_any (bytes_eq n) xs ≡ true → IsNew n xs → ⊥
known_name n [] e h = cc
known_name n (x ∷ xs) e h =
    ⊎_elim (λ f. h.0 ((bytes_eq-Decides n x).0 f)) (λ g. known_name n xs g h.1)
    (either (bytes_eq n x) (list_any (bytes_eq n) xs) e)

-- the tests of two texts agree whichever comes first
pub turned : (xs ys : List ℕ) → bytes_eq xs ys ≡ bytes_eq ys xs
turned xs ys =
    let d = bytes_eq-Decides ys xs in
    one_answer (bytes_eq xs ys) (bytes_eq ys xs) (bytes_eq-Decides xs ys) (λ t. sym (d.0 t), λ e. d.1 (sym e))

pub is_known : (b : Bool) → false ≡ not b → b ≡ true
is_known true e = refl
is_known false e = e

pub is_unknown : (b : Bool) → true ≡ not b → b ≡ false
is_unknown true e = e
is_unknown false e = refl

-- ---- what stands at an index

-- the name at an index is that of the export there
pub name_there : (t : List ℕ) (xs : List KeptExport) (i : ℕ) → slice_get (names_of (exports_of t xs)) i ≡ option_map (λ (e : KeptExport). name_at t e.name) (slice_get xs i)
name_there t [] i = refl
name_there t (x ∷ xs) zero = refl
name_there t (x ∷ xs) (suc i) = name_there t xs i

-- behind the others a name stands at their length, and where none stood before
stands_last : (q n : List ℕ) (names : List (List ℕ)) → is_name q (slice_get (names ++ n ∷ []) (length names)) ≡ bytes_eq q n
stands_last q n [] = refl
stands_last q n (x ∷ xs) = stands_last q n xs

-- elsewhere nothing changes: it is as it was, or it was nothing and is the name that was added
stands_still : (q n : List ℕ) (names : List (List ℕ)) (i : ℕ) → (is_name q (slice_get (names ++ n ∷ []) i) ≡ is_name q (slice_get names i))
    ⊎ ((is_name q (slice_get (names ++ n ∷ []) i) ≡ bytes_eq q n) × (is_name q (slice_get names i) ≡ false))
stands_still q n [] zero = inr (refl, refl)
stands_still q n [] (suc i) = inl refl
stands_still q n (x ∷ xs) zero = inl refl
stands_still q n (x ∷ xs) (suc i) = stands_still q n xs i

-- ---- a name more

other_one : (a b : Bool) → b ≡ true → (a || b) ≡ true
other_one true b e = refl
other_one false b e = e

none : (a b : Bool) → a ≡ false → b ≡ false → (a || b) ≡ false
none true b e f = e
none false b e f = f

after : (q n : List ℕ) (names : List (List ℕ)) → list_any (bytes_eq q) (names ++ n ∷ []) ≡ (list_any (bytes_eq q) names || bytes_eq q n)
after q n names = list_any-append (bytes_eq q) names (n ∷ []) ∙ ap (λ (b : Bool). list_any (bytes_eq q) names || b) (alone (bytes_eq q n))
  where
    alone : (b : Bool) → (b || false) ≡ b
    alone true = refl
    alone false = refl

-- ---- slots

-- where an index leads, with a name more behind the others, unless it leads to that
stands_by : (q n : List ℕ) (names : List (List ℕ)) (o : Option ℕ) → (stands_at q (names ++ n ∷ []) o ≡ stands_at q names o)
    ⊎ ((stands_at q (names ++ n ∷ []) o ≡ bytes_eq q n) × (stands_at q names o ≡ false))
stands_by q n names None = inl refl
stands_by q n names (Some i) = stands_still q n names i

free_for_all : (q : List ℕ) (names : List (List ℕ)) (o : Option ℕ) (x : ℕ) → o ≡ Some x → slice_get names x ≡ None → stands_at q names o ≡ false
free_for_all q names o x e f = ap (λ (p : Option ℕ). stands_at q names p) e ∙ ap (is_name q) f

-- a slot that is there
pub within : (xs : List ℕ) (p x : ℕ) → slice_get xs p ≡ Some x → p < length xs
within [] p x e = absurd cc
within (y ∷ ys) zero x e = omega arith
within (y ∷ ys) (suc p) x e = let l = within ys p x e in omega (arith, l)

-- what a list that grew had
grown : (names : List (List ℕ)) (n : List ℕ) (x : ℕ) → slice_get (names ++ n ∷ []) x ≡ None → slice_get names x ≡ None
grown [] n x e = refl
grown (m ∷ ms) n zero e = absurd (let bad : Some m ≡ None = e in cc)
grown (m ∷ ms) n (suc x) e = grown ms n x e

last_there : (names : List (List ℕ)) (n : List ℕ) → slice_get (names ++ n ∷ []) (length names) ≡ Some n
last_there [] n = refl
last_there (m ∷ ms) n = last_there ms n

module _ (slots t : List ℕ) (xs : List KeptExport) (n : List ℕ) (p x : ℕ) (e : KeptExport) where
  -- what an index in a slot leads to
  pub leads_to : (b : Bool) → p < length slots → x ≡ get_or slots p x → x < length xs → e ≡ get_or xs x e → b ≡ bytes_eq n (name_at t e.name)
      → stands_in n slots (names_of (exports_of t xs)) p ≡ b
  leads_to b within was beyond there same =
      ap (stands_at n (names_of (exports_of t xs))) (read slots p x within was)
      ∙ ap (is_name n) (name_there t xs x ∙ ap (option_map (λ (f : KeptExport). name_at t f.name)) (read xs x e beyond there)) ∙ sym same

  -- where an export stands its slot is not free
  pub not_free : p < length slots → x ≡ get_or slots p x → x < length xs → e ≡ get_or xs x e → IsFree slots (names_of (exports_of t xs)) p → ⊥
  not_free within was beyond there (y, is, free) =
      let same : x ≡ y = ap (λ (o : Option ℕ). unwrap_or o x) (sym (read slots p x within was) ∙ is) in
      let some : slice_get (names_of (exports_of t xs)) y ≡ Some (name_at t e.name) =
      subst (λ (w : ℕ). slice_get (names_of (exports_of t xs)) w ≡ Some (name_at t e.name)) same
      (name_there t xs x ∙ ap (option_map (λ (f : KeptExport). name_at t f.name)) (read xs x e beyond there)) in
      let bad : None ≡ Some (name_at t e.name) = sym free ∙ some in
      cc

-- nor is one that is not there
pub no_slot : (slots : List ℕ) (names : List (List ℕ)) (p : ℕ) → length slots ≤ p → IsFree slots names p → ⊥
no_slot slots names p beyond (y, is, free) = let l = within slots p y is in omega (arith, l, beyond)

-- what stands at an index, whatever would stand past the end
there : {A : Type 0} (xs : List A) (i : ℕ) (d : A) → i < length xs → get_or xs i d ≡ get_or xs i (get_or xs i d)
there [] i d l = absurd (omega (arith, l))
there (x ∷ xs) zero d l = refl
there (x ∷ xs) (suc i) d l = there xs i d (omega (arith, l))

-- the name of each is kept
pub named_there : (t : List ℕ) (xs : List KeptExport) (i : ℕ) (e : KeptExport) → AreNamed t xs → i < length xs → e ≡ get_or xs i e → IsNamed t e.name
named_there t [] i e h l r = absurd (omega (arith, l))
named_there t (x ∷ xs) zero e h l r = subst (λ (f : KeptExport). IsNamed t f.name) (sym r) h.0
named_there t (x ∷ xs) (suc i) e h l r = named_there t xs i e h.1 (omega (arith, l)) r

pub named_at : (t : List ℕ) (xs : List KeptExport) (i : ℕ) (d : KeptExport) → AreNamed t xs → i < length xs → IsNamed t (get_or xs i d).name
named_at t xs i d h l = named_there t xs i (get_or xs i d) h l (there xs i d l)

pub named_first : (t : List ℕ) (xs : List KeptExport) (i : ℕ) → AreNamed t xs → AreNamed t (take i xs)
named_first t xs zero h = tt
named_first t [] (suc i) h = tt
named_first t (x ∷ xs) (suc i) h = (h.0, named_first t xs i h.1)

-- no export, no name
pub leads_nowhere : (t : List ℕ) (xs : List KeptExport) (x : ℕ) → slice_get xs x ≡ None → slice_get (names_of (exports_of t xs)) x ≡ None
leads_nowhere t xs x e = name_there t xs x ∙ ap (option_map (λ (f : KeptExport). name_at t f.name)) e

-- as many names as exports
pub as_many : (t : List ℕ) (xs : List KeptExport) → length xs ≡ length (names_of (exports_of t xs))
as_many t [] = refl
as_many t (x ∷ xs) = ap suc (as_many t xs)

-- ---- both slots of a name

module _ (slots : List ℕ) (names : List (List ℕ)) (n : List ℕ) where
  abbrev first : ℕ
  first = first_slot slots n

  -- the first is free: it stands nowhere if not in the other
  pub met_first : (p i : ℕ) → HasMetAt slots names n first (met.Free p i) → stands_in n slots names (beside first) ≡ false → HasMet slots names n (met.Free p i)
  met_first p i m e =
      let here : IsFree slots names first = subst (IsFree slots names) m.0 m.2 in
      (inl m.0, m.1, m.2, none (stands_in n slots names first) (stands_in n slots names (beside first)) (free_for_all n names (slice_get slots first) here.0 here.1 here.2) e)

  -- the first has another name: what is in the other decides
  pub met_other : (m : Met) → HasMetAt slots names n first met.Other → HasMetAt slots names n (beside first) m → HasMet slots names n m
  met_other (met.Free p i) f m =
      let there : IsFree slots names (beside first) = subst (IsFree slots names) m.0 m.2 in
      (inr m.0, m.1, m.2, none (stands_in n slots names first) (stands_in n slots names (beside first)) f.0 (free_for_all n names (slice_get slots (beside first)) there.0 there.1 there.2))
  met_other met.Same f m = other_one (stands_in n slots names first) (stands_in n slots names (beside first)) m
  met_other met.Other f m =
      (none (stands_in n slots names first) (stands_in n slots names (beside first)) f.0 m.0, λ h. ⊎_elim f.1 m.1 h)

  pub met_same : stands_in n slots names first ≡ true → HasMet slots names n met.Same
  met_same e = ap (λ (b : Bool). b || stands_in n slots names (beside first)) e

  pub met_beside : stands_in n slots names (beside first) ≡ true → HasMet slots names n met.Same
  met_beside e = other_one (stands_in n slots names first) (stands_in n slots names (beside first)) e

  -- a slot that is free has no name
  pub free_beside : (p i : ℕ) → HasMetAt slots names n (beside first) (met.Free p i) → stands_in n slots names (beside first) ≡ false
  free_beside p i m =
      let there : IsFree slots names (beside first) = subst (IsFree slots names) m.0 m.2 in
      free_for_all n names (slice_get slots (beside first)) there.0 there.1 there.2

-- ---- a name more

-- what is found of another name is what was
other_found : (s o l e : Bool) → e ≡ false → (s || o) ≡ l → (s || o) ≡ (l || e)
other_found s o true e f h = h
other_found s o false e f h = h ∙ sym f

module _ {Y : Type 0} (old new : List ℕ) (others : BTreeSet (String Y)) (names : List (List ℕ)) (n : List ℕ) (p i : ℕ) (last : i ≡ length names) (put : IsPut p i old new) where
  slot_now : (k : ℕ) → slice_get new k ≡ cond (p == k) (Some (length names)) (slice_get old k)
  slot_now k = put.1 k ∙ ap (λ (l : ℕ). cond (p == k) (Some l) (slice_get old k)) last

  same_first : (q : List ℕ) → first_slot new q ≡ first_slot old q
  same_first q = ap (slot_of (number_of q)) put.0

  -- the name stands in the slot
  stands_now : (k : ℕ) → p ≡ k → stands_in n new (names ++ n ∷ []) k ≡ true
  stands_now k e =
      ap (stands_at n (names ++ n ∷ [])) (slot_now k ∙ cond-true (p == k) (Some (length names)) (slice_get old k) (equal p k e))
      ∙ stands_last n n names ∙ (bytes_eq-Decides n n).1 refl
    where
      itself : (v : ℕ) → (v == v) ≡ true
      itself v = search rules

      equal : (v w : ℕ) → v ≡ w → (v == w) ≡ true
      equal v w e = subst (λ (u : ℕ). (v == u) ≡ true) e (itself v)

  -- another stands where it stood
  others_stand : IsFree old names p → (q : List ℕ) → bytes_eq q n ≡ false → (k : ℕ) → stands_in q new (names ++ n ∷ []) k ≡ stands_in q old names k
  others_stand free q apart k =
      ⊎_elim
      (λ y.
      let same : p ≡ k = exact_unsigned_eq p k y in
      let here : IsFree old names k = subst (IsFree old names) same free in
      ap (stands_at q (names ++ n ∷ [])) (slot_now k ∙ cond-true (p == k) (Some (length names)) (slice_get old k) y)
      ∙ stands_last q n names ∙ apart ∙ sym (free_for_all q names (slice_get old k) here.0 here.1 here.2))
      (λ z. ap (stands_at q (names ++ n ∷ [])) (slot_now k ∙ cond-false (p == k) (Some (length names)) (slice_get old k) z)
      ∙ ⊎_elim (λ y. y) (λ y. y.0 ∙ apart ∙ sym y.1) (stands_by q n names (slice_get old k)))
      (cases_Bool (p == k))

  -- it is found by its slot
  stands_there : IsSlotOf old n p → stands n new (names ++ n ∷ []) ≡ true
  stands_there at = ⊎_elim
      (λ y. ap (λ (b : Bool). b || stands_in n new (names ++ n ∷ []) (beside (first_slot new n))) (stands_now (first_slot new n) (y ∙ sym (same_first n))))
      (λ y. other_one (stands_in n new (names ++ n ∷ []) (first_slot new n)) (stands_in n new (names ++ n ∷ []) (beside (first_slot new n)))
      (stands_now (beside (first_slot new n)) (y ∙ ap beside (sym (same_first n)))))
      at

  finds_by_slot : IsSlotOf old n p → IsFree old names p → Finds old others names → Finds new others (names ++ n ∷ [])
  finds_by_slot at free h q = ⊎_elim
      (λ y.
      let same : n ≡ q = sym ((bytes_eq-Decides q n).0 y) in
      let here : stands q new (names ++ n ∷ []) ≡ true = subst (λ (m : List ℕ). stands m new (names ++ n ∷ []) ≡ true) same (stands_there at) in
      ap (λ (b : Bool). b || contains_text others q) here
      ∙ sym (after q n names ∙ other_one (list_any (bytes_eq q) names) (bytes_eq q n) y))
      (λ z.
      let still : stands q new (names ++ n ∷ []) ≡ stands q old names =
      ap (λ (f : ℕ). stands_in q new (names ++ n ∷ []) f || stands_in q new (names ++ n ∷ []) (beside f)) (same_first q)
      ∙ ap (λ (b : Bool). b || stands_in q new (names ++ n ∷ []) (beside (first_slot old q))) (others_stand free q z (first_slot old q))
      ∙ ap (λ (b : Bool). stands_in q old names (first_slot old q) || b) (others_stand free q z (beside (first_slot old q))) in
      ap (λ (b : Bool). b || contains_text others q) still
      ∙ other_found (stands q old names) (contains_text others q) (list_any (bytes_eq q) names) (bytes_eq q n) z (h q) ∙ sym (after q n names))
      (cases_Bool (bytes_eq q n))

  -- a slot that is free was so
  was_free : (k : ℕ) → IsFree new (names ++ n ∷ []) k → IsFree old names k
  was_free k (x, was, free) =
      ⊎_elim
      (λ y.
      let here : Some (length names) ≡ Some x = sym (slot_now k ∙ cond-true (p == k) (Some (length names)) (slice_get old k) y) ∙ was in
      let same : length names ≡ x = ap (λ (o : Option ℕ). unwrap_or o x) here in
      let there : slice_get (names ++ n ∷ []) x ≡ Some n = subst (λ (l : ℕ). slice_get (names ++ n ∷ []) l ≡ Some n) same (last_there names n) in
      absurd (let bad : None ≡ Some n = sym free ∙ there in cc))
      (λ z. (x, sym (slot_now k ∙ cond-false (p == k) (Some (length names)) (slice_get old k) z) ∙ was, grown names n x free))
      (cases_Bool (p == k))

  behind_by_slot : IsBehind old others names → IsBehind new others (names ++ n ∷ [])
  behind_by_slot h q f =
      let here : IsFree new (names ++ n ∷ []) (first_slot old q) ⊎ IsFree new (names ++ n ∷ []) (beside (first_slot old q)) =
      subst (λ (k : ℕ). IsFree new (names ++ n ∷ []) k ⊎ IsFree new (names ++ n ∷ []) (beside k)) (same_first q) f in
      h q (⊎_elim (λ y. inl (was_free (first_slot old q) y)) (λ y. inr (was_free (beside (first_slot old q)) y)) here)

  pub holds_by_slot : IsSlotOf old n p → IsFree old names p → Holds old others names → Holds new others (names ++ n ∷ [])
  holds_by_slot at free h = (finds_by_slot at free h.0, behind_by_slot h.1)

module _ {Y : Type 0} (slots : List ℕ) (others more : BTreeSet (String Y)) (names : List (List ℕ)) (n : List ℕ) where
  -- a name whose slots others have is found in the set
  finds_by_set : ((q : List ℕ) → contains_text more q ≡ cond (bytes_eq n q) true (contains_text others q)) → Finds slots others names → Finds slots more (names ++ n ∷ [])
  finds_by_set m h q = ⊎_elim
      (λ y. other_one (stands q slots (names ++ n ∷ [])) (contains_text more q) (m q ∙ cond-true (bytes_eq n q) true (contains_text others q) (turned n q ∙ y))
      ∙ sym (after q n names ∙ other_one (list_any (bytes_eq q) names) (bytes_eq q n) y))
      (λ z.
      let still : (k : ℕ) → stands_in q slots (names ++ n ∷ []) k ≡ stands_in q slots names k =
      (λ k. ⊎_elim (λ y. y) (λ y. y.0 ∙ z ∙ sym y.1) (stands_by q n names (slice_get slots k))) in
      ap (λ (b : Bool). stands q slots (names ++ n ∷ []) || b) (m q ∙ cond-false (bytes_eq n q) true (contains_text others q) (turned n q ∙ z))
      ∙ ap (λ (b : Bool). (b || stands_in q slots (names ++ n ∷ []) (beside (first_slot slots q))) || contains_text others q) (still (first_slot slots q))
      ∙ ap (λ (b : Bool). (stands_in q slots names (first_slot slots q) || b) || contains_text others q) (still (beside (first_slot slots q)))
      ∙ other_found (stands q slots names) (contains_text others q) (list_any (bytes_eq q) names) (bytes_eq q n) z (h q) ∙ sym (after q n names))
      (cases_Bool (bytes_eq q n))

  behind_by_set : (HasFree slots names n → ⊥) → ((q : List ℕ) → contains_text more q ≡ cond (bytes_eq n q) true (contains_text others q)) → IsBehind slots others names
      → IsBehind slots more (names ++ n ∷ [])
  behind_by_set full m h q f =
      let shrunk : (k : ℕ) → IsFree slots (names ++ n ∷ []) k → IsFree slots names k = (λ k g. (g.0, g.1, grown names n g.0 g.2)) in
      let before : HasFree slots names q = ⊎_elim (λ y. inl (shrunk (first_slot slots q) y)) (λ y. inr (shrunk (beside (first_slot slots q)) y)) f in
      ⊎_elim
      (λ y. absurd (full (subst (HasFree slots names) (sym ((bytes_eq-Decides n q).0 y)) before)))
      (λ z. m q ∙ cond-false (bytes_eq n q) true (contains_text others q) z ∙ h q before)
      (cases_Bool (bytes_eq n q))

  pub holds_by_set : (HasFree slots names n → ⊥) → ((q : List ℕ) → contains_text more q ≡ cond (bytes_eq n q) true (contains_text others q)) → Holds slots others names
      → Holds slots more (names ++ n ∷ [])
  holds_by_set full m h = (finds_by_set m h.0, behind_by_set full m h.1)

  -- nothing was added
  pub holds_still : more.keys ≡ others.keys → Holds slots others names → Holds slots more names
  holds_still e h =
      let m : (q : List ℕ) → contains_text more q ≡ contains_text others q = (λ q. ap (λ (ks : List (String Y)). list_any (λ (k : String Y). is_at (λ (j : String Y). slice_cmp nat_cmp q (string_bytes j)) k) ks) e) in
      ((λ q. ap (λ (b : Bool). stands q slots names || b) (m q) ∙ h.0 q), (λ q f. m q ∙ h.1 q f))

-- ---- names one by one

-- without names nothing is found
holds_nothing_at : (n : List ℕ) (o : Option ℕ) → stands_at n [] o ≡ false
holds_nothing_at n None = refl
holds_nothing_at n (Some i) = refl

pub holds_nothing : {Y : Type 0} (slots : List ℕ) (others : BTreeSet (String Y)) → others.keys ≡ [] → Holds slots others []
holds_nothing {Y} slots others e =
    let empty : (n : List ℕ) → contains_text others n ≡ false = (λ n. ap (λ (ks : List (String Y)). list_any (λ (k : String Y). is_at (λ (j : String Y). slice_cmp nat_cmp n (string_bytes j)) k) ks) e) in (
      (λ n. ap (λ (b : Bool). b || contains_text others n) (none (stands_in n slots [] (first_slot slots n)) (stands_in n slots [] (beside (first_slot slots n)))
          (holds_nothing_at n (slice_get slots (first_slot slots n))) (holds_nothing_at n (slice_get slots (beside (first_slot slots n))))) ∙ empty n),
      (λ n f. empty n),
    )

-- an export further
pub one_further : (t : List ℕ) (xs : List KeptExport) (i : ℕ) (d : KeptExport) → i < length xs
    → names_of (exports_of t (take (i + 1) xs)) ≡ names_of (exports_of t (take i xs)) ++ name_at t (get_or xs i d).name ∷ []
one_further t xs i d h =
    let e = get_or xs i d in
    let r = there xs i d h in
    let named : List KeptExport → List (List ℕ) = (λ es. names_of (exports_of t es)) in
    ap named (take_more xs i e h) ∙ ap (λ (f : KeptExport). named (take i xs ++ f ∷ [])) (sym r) ∙ ap names_of (map-append (kept_of t) (take i xs) (e ∷ []))
    ∙ map-append (λ (x : ExportTree). x.name) (exports_of t (take i xs)) (kept_of t e ∷ [])

-- ---- whether a name is new

module _ {Y : Type 0} (slots : List ℕ) (others : BTreeSet (String Y)) (names : List (List ℕ)) (n : List ℕ) (h : Holds slots others names) where
  pub taken_by_set : contains_text others n ≡ true → IsNew n names → ⊥
  taken_by_set e = known_name n names (sym (h.0 n) ∙ other_one (stands n slots names) (contains_text others n) e)

  pub taken_by_slot : stands n slots names ≡ true → IsNew n names → ⊥
  taken_by_slot e = known_name n names (sym (h.0 n) ∙ ap (λ (b : Bool). b || contains_text others n) e)

  pub new_by_both : contains_text others n ≡ false → stands n slots names ≡ false → IsNew n names
  new_by_both e f = new_name n names (sym (h.0 n) ∙ ap (λ (b : Bool). b || contains_text others n) f ∙ e)

  pub new_by_slot : (p : ℕ) → IsSlotOf slots n p → IsFree slots names p → stands n slots names ≡ false → IsNew n names
  new_by_slot p at free e =
      let has : HasFree slots names n = ⊎_elim (λ y. inl (subst (IsFree slots names) y free)) (λ y. inr (subst (IsFree slots names) y free)) at in
      new_by_both (h.1 n has) e

module _ {Y : Type 0} (slots : List ℕ) (others more : BTreeSet (String Y)) (names : List (List ℕ)) (n : List ℕ) where
  -- what is done if the slots have other names
  pub settled : (t : Tried) → HasMet slots names n met.Other → HasNoted n others more t → Holds slots others names → HasSettled n names slots more t
  settled tried.Added m s h = (new_by_both slots others names n h s.0 m.0, holds_by_set slots others more names n m.1 s.1 h)
  settled tried.Taken m s h = (taken_by_set slots others names n h s.0, holds_still slots others more names n s.1 h)
  settled tried.NoMemory m s h = holds_still slots others more names n s h
