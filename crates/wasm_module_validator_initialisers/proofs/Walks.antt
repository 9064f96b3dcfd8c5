-- Values that are read one by one: what a step tells of those that are left.
use Rattle.std.proofs.Common.{◌≡◌, ◌↔◌, ℕ, zero, suc, ◌+◌, ◌<◌, List, [], ◌∷◌, length, refl, sym, ap, ◌∙◌, subst, arith, true, false, Some, Result, Ok, Err, inl, inr}
use Rattle.std.specs.Prelude.{◌⊎◌}
use Rattle.wasm_types.specs.settings.Settings.{Settings}
use Rattle.wasm_types.specs.decoding.Decoder.{State, Outcome, Done, Short, Fault, Decoder, continue_with, pure, ◌>>=◌, repeated}
use Rattle.wasm_types.specs.decoding.ExactLaws.{value_is, state_is}
use Rattle.wasm_types.specs.decoding.Denials.{Denies, UnlessMemory}
use Rattle.wasm_types.specs.decoding.DenialLaws.{denies_from}
use Rattle.wasm_types.specs.decoding.ErrorValue.{ErrorValue}
use Rattle.wasm_types.specs.decoding.declared.error.ErrorKind.{ErrorKind}
use Rattle.wasm_types.specs.decoding.declared.error.ErrorKind.TheVariants.{EndOfData, MissingFeature, OutOfMemory, Failed, Other}
use Rattle.wasm_types.specs.reader.Reading.{FailsAt}
use Rattle.wasm_sections_items.specs.limited.Walking.{Walk, IsTrailing, NextIn}
use Rattle.wasm_module_validator_checks.specs.rules.Valid.{Each}
use Rattle.wasm_module_validator_initialisers.specs.elements.Items.{AllLeft, Passes, IsUnread, StopsAmong}
use Rattle.wasm_module_validator_initialisers.specs.elements.Naming.{NamesEach, NamesLeft}

pub unless : (k : ErrorKind) (P : Type 0) → P → UnlessMemory k P
unless (EndOfData h) P p = p
unless (MissingFeature f) P p = p
unless OutOfMemory P p = tt
unless Failed P p = p
unless Other P p = p

-- what is read is not refused, unless memory ran out
denied : {A Q : Type 0} (k : ErrorKind) (p : ℕ) (o : Outcome A) → FailsAt k p o → (Q → (x : A) × (t : State) × (o ≡ Done x t)) → Denies k Q
denied (EndOfData h) p o f q = λ y. let r = q y in let e = sym f ∙ r.2 in cc
denied (MissingFeature w) p o f q = λ y. let r = q y in let e = sym f ∙ r.2 in cc
denied OutOfMemory p o f q = tt
denied Failed p o f q = absurd f
denied Other p o f q = λ y. let r = q y in let e = sym f ∙ r.2 in cc

module _ {A : Type 0} (P : A → Type 0) (d : Settings → Decoder A) where
  -- a value before those of an outcome
  abbrev before : A → Outcome (List A) → Outcome (List A)
  before x o = continue_with o (λ xs. pure (x ∷ xs))

  abbrev all : Walk → Outcome (List A)
  all w = repeated w.left (d w.reader.settings) w.reader

  first : (n : ℕ) (e : Decoder A) (s t : State) (x : A) → e s ≡ Done x t → repeated (suc n) e s ≡ before x (repeated n e t)
  unfolding repeated
  first n e s t x q = ap (λ (o : Outcome A). continue_with o (λ y. repeated n e >>= λ ys. pure (y ∷ ys))) q

  step : (w v : Walk) (x : A) → w.left ≡ v.left + 1 → d w.reader.settings w.reader ≡ Done x v.reader → v.reader.settings ≡ w.reader.settings → all w ≡ before x (all v)
  step w v x one read same =
      let left : w.left ≡ suc v.left = omega (arith, one) in
      ap (λ (n : ℕ). repeated n (d w.reader.settings) w.reader) left ∙ first v.left (d w.reader.settings) w.reader v.reader x read
      ∙ ap (λ (z : Settings). before x (repeated v.left (d z) v.reader)) (sym same)

  split : (x : A) (xs : List A) (t : State) (o : Outcome (List A)) → before x o ≡ Done xs t → (ys : List A) × (o ≡ Done ys t) × (x ∷ ys ≡ xs)
  split x xs t (Done ys u) e = (ys, ap (λ (s : State). Done ys s) (state_is (x ∷ ys) xs u t e), value_is (x ∷ ys) xs u t e)
  split x xs t (Short p h) e = absurd cc
  split x xs t (Fault k p) e = absurd cc

  -- a value that is read and all behind it
  pub more : (w v : Walk) (x : A) → w.left ≡ v.left + 1 → d w.reader.settings w.reader ≡ Done x v.reader → v.reader.settings ≡ w.reader.settings
      → AllLeft P d w ↔ P x × AllLeft P d v
  more w v x one read same = (ahead, back)
    where
      ahead : AllLeft P d w → P x × AllLeft P d v
      ahead (xs, t, e, none, each) =
          let r = split x xs t (all v) (sym (step w v x one read same) ∙ e) in
          let both : Each P (x ∷ r.0) = subst (Each P) (sym r.2) each in
          (both.0, (r.0, t, r.1, none, both.1))

      back : P x × AllLeft P d v → AllLeft P d w
      back (p, (ys, t, e, none, each)) = (x ∷ ys, t, step w v x one read same ∙ ap (before x) e, none, (p, each))

  pub nothing : (w : Walk) → w.left ≡ 0 → w.reader.rest ≡ [] → AllLeft P d w
  unfolding repeated
  nothing w left rest = ([], w.reader, ap (λ (n : ℕ). repeated n (d w.reader.settings) w.reader) left, rest, tt)

  pub trailing : (w : Walk) (e : ErrorValue) → IsTrailing w e → AllLeft P d w → ⊥
  unfolding repeated
  trailing w e h (xs, t, f, none, each) =
      let here : Done [] w.reader ≡ Done xs t = sym (ap (λ (n : ℕ). repeated n (d w.reader.settings) w.reader) h.0) ∙ f in
      let rest : w.reader.rest ≡ [] = ap (λ (s : State). s.rest) (state_is [] xs w.reader t here) ∙ none in
      omega (arith, h.1, ap length rest)

  begins : (n : ℕ) (e : Decoder A) (s t : State) (xs : List A) → repeated (suc n) e s ≡ Done xs t → (x : A) × (u : State) × (e s ≡ Done x u)
  unfolding repeated
  begins n e s t xs f = go (e s) refl f
    where
      go : (o : Outcome A) → e s ≡ o → continue_with o (λ y. repeated n e >>= λ ys. pure (y ∷ ys)) ≡ Done xs t → (x : A) × (u : State) × (e s ≡ Done x u)
      go (Done x u) q h = (x, u, q)
      go (Short p k) q h = absurd cc
      go (Fault k p) q h = absurd cc

  first_read : (w : Walk) (n : ℕ) → w.left ≡ n → 0 < w.left → AllLeft P d w → (x : A) × (u : State) × (d w.reader.settings w.reader ≡ Done x u)
  first_read w zero e lt h = absurd (omega (arith, e, lt))
  first_read w (suc n) e lt (xs, t, f, none, each) =
      begins n (d w.reader.settings) w.reader t xs (sym (ap (λ (m : ℕ). repeated m (d w.reader.settings) w.reader) e) ∙ f)

  -- where no value is read, not all are
  pub unread : (w : Walk) (e : ErrorValue) → IsUnread d w e → Denies e.kind (AllLeft P d w)
  unread w e (inl h) = subst (λ (k : ErrorKind). Denies k (AllLeft P d w)) (sym h.2) (trailing w e h)
  unread w e (inr h) = denied e.kind e.offset (d w.reader.settings w.reader) h.1 (first_read w w.left refl h.0)

  module _ (Refused : Walk → ErrorValue → Type 0) where
    pub stops_here : (w : Walk) (e : ErrorValue) → IsUnread d w e ⊎ Refused w e → StopsAmong P d Refused w e
    stops_here w e h = (zero, w, refl, h)

    pub stops_behind : (w v : Walk) (e : ErrorValue) → Passes P d w v → StopsAmong P d Refused v e → StopsAmong P d Refused w e
    stops_behind w v e p (n, u, to, h) = (suc n, u, (v, p, to), h)

-- ---- steps of a walk, by what came

module _ {X : Type 0} (reads : State → X → State → Type 0) (refuses : State → ErrorValue → Type 0) (w v : Walk) (r : Result X ErrorValue) where
  pub step_refused : (e : ErrorValue) → r ≡ Err e → NextIn reads refuses w (Some r) v → IsTrailing w e ⊎ ((0 < w.left) × refuses w.reader e)
  step_refused e q h = let k = subst (λ (y : Result X ErrorValue). NextIn reads refuses w (Some y) v) q h in k.2

  pub step_read : (x : X) → r ≡ Ok x → NextIn reads refuses w (Some r) v → (v.over ≡ false) × (w.left ≡ v.left + 1) × reads w.reader x v.reader
  step_read x q h = let k = subst (λ (y : Result X ErrorValue). NextIn reads refuses w (Some y) v) q h in (k.1, k.2, k.3)

-- ---- a walk that names

-- Where a walk over values stands, behind those that are so: what is left decides and stops as all of them, and names the rest of
-- what they name.
pub record Walked {A : Type 0} (P : A → Type 0) (N : A → List ℕ → List ℕ → Type 0) (d : Settings → Decoder A) (Refused : Walk → ErrorValue → Type 0)
    (first : Walk) (before : List ℕ) (w : Walk) (now : List ℕ) : Type 0 where
  pub going : w.over ≡ false
  pub same : AllLeft P d w ↔ AllLeft P d first
  pub stops : (e : ErrorValue) → StopsAmong P d Refused w e → StopsAmong P d Refused first e
  pub named : (after : List ℕ) → NamesLeft N d w now after → NamesLeft N d first before after

module _ {A : Type 0} (P : A → Type 0) (N : A → List ℕ → List ℕ → Type 0) (d : Settings → Decoder A) (Refused : Walk → ErrorValue → Type 0) where
  pub walked_first : (first : Walk) (before : List ℕ) → first.over ≡ false → Walked P N d Refused first before first before
  walked_first first before going = record { going = going; same = (λ h. h, λ h. h); stops = λ e h. h; named = λ after h. h }

  names_nothing : (w : Walk) (now : List ℕ) → w.left ≡ 0 → NamesLeft N d w now now
  unfolding repeated
  names_nothing w now left xs t e =
      let here : Done [] w.reader ≡ Done xs t = sym (ap (λ (n : ℕ). repeated n (d w.reader.settings) w.reader) left) ∙ e in
      subst (λ (ys : List A). NamesEach N ys now now) (value_is [] xs w.reader t here) refl

  module _ (first : Walk) (before : List ℕ) (w : Walk) (now : List ℕ) (h : Walked P N d Refused first before w now) where
    module _ (v : Walk) (x : A) (one : w.left ≡ v.left + 1) (read : d w.reader.settings w.reader ≡ Done x v.reader) (kept : v.reader.settings ≡ w.reader.settings) where
      names_behind : (then after : List ℕ) → N x now then → NamesLeft N d v then after → NamesLeft N d w now after
      names_behind then after n rest xs t e =
          let r = split P d x xs t (all P d v) (sym (step P d w v x one read kept) ∙ e) in
          subst (λ (ys : List A). NamesEach N ys now after) r.2 (then, n, rest r.0 t r.1)

      pub walked_behind : (then : List ℕ) → v.over ≡ false → P x → N x now then → Walked P N d Refused first before v then
      walked_behind then going p n =
          let m = more P d w v x one read kept in
          record {
            going = going;
            same = (λ k. h.same.0 (m.1 (p, k)), λ k. (m.0 (h.same.1 k)).1);
            stops = λ e k. h.stops e (stops_behind P d Refused w v e (record { value = x; one = one; read = read; is = p }) k);
            named = λ after k. h.named after (names_behind then after n k);
          }

      pub walked_denied : (k : ErrorKind) → Denies k (P x) → Denies k (AllLeft P d first)
      walked_denied k p = denies_from k (P x) (AllLeft P d first) (λ a. ((more P d w v x one read kept).0 (h.same.1 a)).0) p

    pub walked_refused : (e : ErrorValue) → Refused w e → StopsAmong P d Refused first e
    walked_refused e r = h.stops e (stops_here P d Refused w e (inr r))

    -- where no value is read
    pub unread_denied : (e : ErrorValue) → IsUnread d w e → Denies e.kind (AllLeft P d first)
    unread_denied e u = denies_from e.kind (AllLeft P d w) (AllLeft P d first) h.same.1 (unread P d w e u)

    unread_refused : (e : ErrorValue) → IsUnread d w e → StopsAmong P d Refused first e
    unread_refused e u = h.stops e (stops_here P d Refused w e (inl u))

    pub unread_unless : (e : ErrorValue) → IsUnread d w e → UnlessMemory e.kind (StopsAmong P d Refused first e)
    unread_unless e u = unless e.kind (StopsAmong P d Refused first e) (unread_refused e u)

    -- behind the last value
    pub walked_all : (w.over ≡ true) ⊎ ((w.left ≡ 0) × (w.reader.rest ≡ [])) → AllLeft P d first
    walked_all (inl over) = let e : true ≡ false = sym over ∙ h.going in absurd cc
    walked_all (inr (left, none)) = h.same.0 (nothing P d w left none)

    pub walked_named : (w.over ≡ true) ⊎ ((w.left ≡ 0) × (w.reader.rest ≡ [])) → NamesLeft N d first before now
    walked_named (inl over) = let e : true ≡ false = sym over ∙ h.going in absurd cc
    walked_named (inr (left, none)) = h.named now (names_nothing w now left)
