-- A walk over a section ends without an error exactly where the contents spell its items.
use Rattle.std.proofs.Common.{◌≡◌, ℕ, zero, suc, ◌+◌, ◌<◌, List, [], ◌∷◌, ◌++◌, length, map, refl, sym, ap, ◌∙◌, subst, arith, true, false, Option, Some, None, Result, Ok, Err, inl, inr}
use Rattle.std.specs.Iterator.{Drains}
use Rattle.wasm_types.specs.settings.Settings.{Settings}
use Rattle.wasm_types.specs.decoding.Decoder.{State, Outcome, Done, Decoder, Grammar, Takes, Decides, Many}
use Rattle.wasm_types.specs.decoding.ExactLaws.{value_is, state_is}
use Rattle.wasm_types.specs.decoding.Leb.{u32, IsUnsigned, IsListed}
use Rattle.wasm_types.specs.decoding.LebLaws.{decides-u32}
use Rattle.wasm_types.specs.decoding.declared.error.ErrorKind.{ErrorKind}
use Rattle.wasm_types.specs.decoding.declared.error.ErrorKind.TheVariants.{EndOfData, MissingFeature, OutOfMemory, Failed, Other}
use Rattle.wasm_types.specs.decoding.ErrorValue.{ErrorValue}
use Rattle.wasm_types.specs.reader.Reading.{FailsAt, Fails, IsNotMemory}
use Rattle.wasm_sections_items.specs.limited.Runs.{seen, Steps}
use Rattle.wasm_sections_items.specs.limited.Walking.{Walk, fresh, plainly, ok, NeverLacksMemory}

-- what was read is not refused, unless memory ran out
not_refused : {A : Type 0} (k : ErrorKind) (p : ℕ) (x : A) (t : State) (o : Outcome A) → o ≡ Done x t → FailsAt k p o → IsNotMemory k → ⊥
not_refused (EndOfData h) p x t o e f m = cc
not_refused (MissingFeature w) p x t o e f m = cc
not_refused OutOfMemory p x t o e f m = m
not_refused Failed p x t o e f m = f
not_refused Other p x t o e f m = cc

none_left : (n : ℕ) (text : List ℕ) → text ≡ [] → 0 < length text → ⊥
none_left n text e lt = omega (arith, ap length e, lt)

module _ {A : Type 0} (d : Decoder A) (g : Grammar A) (exact : Decides d g) where
  -- the values that a walk gave, and then nothing
  values_sound : (w : Walk) (xs : List A) → w.over ≡ false → Drains (plainly d) w (map ok xs) → Many g w.left xs w.reader.rest
  values_sound w [] going (u, (t, same, (inl over, after))) = absurd (let e : w.over ≡ true = ap (λ (v : Walk). v.over) same ∙ over in cc)
  values_sound w [] going (u, (t, same, (inr (none, rest), after))) =
      let left : w.left ≡ zero = ap (λ (v : Walk). v.left) same ∙ none in
      let bytes : w.reader.rest ≡ [] = ap (λ (v : Walk). v.reader.rest) same ∙ rest in
      subst (λ (n : ℕ). Many g n [] w.reader.rest) (sym left) bytes
  values_sound w (x ∷ xs) going (u, (t, (j, (o, p, one, read), run), last)) =
      let behind = values_sound j xs p (u, (t, run, last)) in
      let front = exact.sound w.reader j.reader x read in
      let left : w.left ≡ suc j.left = omega (arith, one) in
      subst (λ (n : ℕ). Many g n (x ∷ xs) w.reader.rest) (sym left) (front.0, j.reader.rest, front.2, behind, front.1.parts)

  pub walk_sound : (s t : State) (n : ℕ) (xs : List A) → u32 s ≡ Done n t → Drains (plainly d) (fresh n t) (map ok xs) → IsListed g xs s.rest
  walk_sound s t n xs counted run =
      let count = decides-u32.sound s t n counted in
      let items = values_sound (fresh n t) xs refl run in
      let many : n ≡ length xs = many_length n xs t.rest items in
      record {
        count = count.0;
        values = t.rest;
        counted = subst (λ (m : ℕ). IsUnsigned 32 m count.0) many count.2;
        each = subst (λ (m : ℕ). Many g m xs t.rest) many items;
        whole = count.1.parts;
      }
    where
      many_length : (m : ℕ) (ys : List A) (text : List ℕ) → Many g m ys text → m ≡ length ys
      many_length zero [] text h = refl
      many_length zero (y ∷ ys) text h = absurd h
      many_length (suc m) [] text h = absurd h
      many_length (suc m) (y ∷ ys) text h = ap suc (many_length m ys h.1 h.3)

  abbrev done : A → State → Outcome A
  done z v = Done z v

  -- where a reader stands behind some bytes
  abbrev behind : State → List ℕ → List ℕ → State
  behind s front back = record { rest = back; place = s.place + length front; settings = s.settings; start = s.start }

  taken : (s : State) (front back : List ℕ) → s.rest ≡ front ++ back → Takes s front (behind s front back)
  taken s front back e = record { parts = e; place = refl; settings = refl; start = refl }

  pub values_complete : (w : Walk) (n : ℕ) (xs : List A) → w.over ≡ false → w.left ≡ n → Many g n xs w.reader.rest → (items : List (Result A ErrorValue)) → Drains (plainly d) w items
      → NeverLacksMemory items → items ≡ map ok xs
  values_complete w zero [] going left h [] run memory = refl
  values_complete w zero [] going left h (Ok x ∷ items) (u, (t, (j, (o, p, one, read), run), last)) memory = absurd (omega (arith, left, one))
  values_complete w zero [] going left h (Err e ∷ items) (u, (t, (j, (o, p, inl trailing), run), last)) memory = absurd (none_left 0 w.reader.rest h trailing.1)
  values_complete w zero [] going left h (Err e ∷ items) (u, (t, (j, (o, p, inr refused), run), last)) memory = absurd (omega (arith, left, refused.0))
  values_complete w zero (x ∷ xs) going left h items run memory = absurd h
  values_complete w (suc n) [] going left h items run memory = absurd h
  values_complete w (suc n) (x ∷ xs) going left h [] (u, (t, same, (inl over, after))) memory = absurd (let e : w.over ≡ true = ap (λ (v : Walk). v.over) same ∙ over in cc)
  values_complete w (suc n) (x ∷ xs) going left h [] (u, (t, same, (inr (none, rest), after))) memory = absurd (omega (arith, left, ap (λ (v : Walk). v.left) same, none))
  values_complete w (suc n) (x ∷ xs) going left h (Ok y ∷ items) (u, (t, (j, (o, p, one, read), run), last)) memory =
      let here : d w.reader ≡ Done x (behind w.reader h.0 h.1) = exact.complete w.reader (behind w.reader h.0 h.1) x h.0 (taken w.reader h.0 h.1 h.4) h.2 in
      let both : done y j.reader ≡ done x (behind w.reader h.0 h.1) = sym read ∙ here in
      let value : y ≡ x = value_is y x j.reader (behind w.reader h.0 h.1) both in
      let state : j.reader ≡ behind w.reader h.0 h.1 = state_is y x j.reader (behind w.reader h.0 h.1) both in
      let rest : Many g n xs j.reader.rest = subst (λ (s : State). Many g n xs s.rest) (sym state) h.3 in
      let others = values_complete j n xs p (omega (arith, left, one)) rest items (u, (t, run, last)) memory.1 in
      λ i. ok (value i) ∷ others i
  values_complete w (suc n) (x ∷ xs) going left h (Err e ∷ items) (u, (t, (j, (o, p, inl trailing), run), last)) memory = absurd (omega (arith, left, trailing.0))
  values_complete w (suc n) (x ∷ xs) going left h (Err e ∷ items) (u, (t, (j, (o, p, inr refused), run), last)) memory =
      let here : d w.reader ≡ Done x (behind w.reader h.0 h.1) = exact.complete w.reader (behind w.reader h.0 h.1) x h.0 (taken w.reader h.0 h.1 h.4) h.2 in
      absurd (not_refused e.kind e.offset x (behind w.reader h.0 h.1) (d w.reader) here refused.1 memory.0)

  pub walk_complete : (s : State) (xs : List A) → IsListed g xs s.rest → (t : State) × (u32 s ≡ Done (length xs) t)
      × ((items : List (Result A ErrorValue)) → Drains (plainly d) (fresh (length xs) t) items → NeverLacksMemory items → items ≡ map ok xs)
  walk_complete s xs h =
      let t : State = behind s h.count h.values in (
        t,
        decides-u32.complete s t (length xs) h.count (taken s h.count h.values h.whole) h.counted,
        λ items run memory. values_complete (fresh (length xs) t) (length xs) xs refl refl h.each items run memory,
      )

-- ---- runs of the code's iterators

seen_ok : {X A : Type 0} (v : X → A) (xs : List X) → map (seen v) (map ok xs) ≡ map ok (map v xs)
seen_ok v [] = refl
seen_ok v (x ∷ xs) = ap (λ (rs : List (Result _ ErrorValue)). Ok (v x) ∷ rs) (seen_ok v xs)

seen_memory : {X A : Type 0} (v : X → A) (items : List (Result X ErrorValue)) → NeverLacksMemory items → NeverLacksMemory (map (seen v) items)
seen_memory v [] h = tt
seen_memory v (Ok x ∷ items) h = (tt, seen_memory v items h.1)
seen_memory v (Err e ∷ items) h = (h.0, seen_memory v items h.1)

-- An iterator of the code, where v is what an item is, and what R says of an item is that d reads it.
module _ {X A S : Type 0} (v : X → A) (d : Settings → Decoder A) (walk : S → Walk) (told : Option (Result X ErrorValue) → Type 0)
    (R : Settings → State → X → State → Type 0) (reads : (z : Settings) (b : State) (x : X) (c : State) → R z b x c → d z b ≡ Done (v x) c) where
  abbrev Told : S → Option (Result X ErrorValue) → S → Type 0
  Told = Steps d walk told R

  one_step : (z : Settings) (s t : S) (item : Result X ErrorValue) → (walk s).reader.settings ≡ z → Told s (Some item) t → plainly (d z) (walk s) (Some (seen v item)) (walk t)
  one_step z s t (Ok x) e ((o, p, l, read), m, k) = (
    o,
    p,
    l,
    subst (λ (y : Settings). d y (walk s).reader ≡ Done (v x) (walk t).reader) e (reads (walk s).reader.settings (walk s).reader x (walk t).reader read),
  )
  one_step z s t (Err f) e ((o, p, inl trailing), m, k) = (o, p, inl trailing)
  one_step z s t (Err f) e ((o, p, inr refused), m, k) = (o, p, inr (refused.0, subst (λ (y : Settings). Fails f (d y (walk s).reader)) e refused.1))

  -- a run of it is a walk over the values
  pub run_walks : (z : Settings) (s : S) (items : List (Result X ErrorValue)) → (walk s).reader.settings ≡ z → Drains Told s items → Drains (plainly (d z)) (walk s) (map (seen v) items)
  run_walks z s [] e (u, (t, same, last)) = (walk u, (walk t, ap walk same, last.0))
  run_walks z s (item ∷ items) e (u, (t, (j, step, run), last)) =
      let rest = run_walks z j items (step.2 ∙ e) (u, (t, run, last)) in
      (rest.0, (rest.1.0, (walk j, one_step z s j item e step, rest.1.1), rest.1.2))

  -- A run from the first item gives no error exactly where the contents spell the count and these items, and no byte after them.
  module _ (g : Settings → Grammar A) (exact : (z : Settings) → Decides (d z) (g z)) where
    pub run_sound : (b t : State) (n : ℕ) (s : S) (xs : List X) → u32 b ≡ Done n t → walk s ≡ fresh n t → Drains Told s (map ok xs) → IsListed (g t.settings) (map v xs) b.rest
    run_sound b t n s xs counted new run =
        let walked = run_walks t.settings s (map ok xs) (ap (λ (w : Walk). w.reader.settings) new) run in
        let values = subst (λ (rs : List (Result A ErrorValue)). Drains (plainly (d t.settings)) (walk s) rs) (seen_ok v xs) walked in
        walk_sound (d t.settings) (g t.settings) (exact t.settings) b t n (map v xs) counted (subst (λ (w : Walk). Drains (plainly (d t.settings)) w (map ok (map v xs))) new values)

    abbrev number : ℕ → State → Outcome ℕ
    number n t = Done n t

    pub run_complete : (b t : State) (n : ℕ) (s : S) (xs : List A) (items : List (Result X ErrorValue)) → u32 b ≡ Done n t → walk s ≡ fresh n t → IsListed (g t.settings) xs b.rest
        → Drains Told s items → NeverLacksMemory items → map (seen v) items ≡ map ok xs
    run_complete b t n s xs items counted new spelled run memory =
        let walked = run_walks t.settings s items (ap (λ (w : Walk). w.reader.settings) new) run in
        let there = walk_complete (d t.settings) (g t.settings) (exact t.settings) b xs spelled in
        let both : number n t ≡ number (length xs) there.0 = sym counted ∙ there.1 in
        let start : walk s ≡ fresh (length xs) there.0 = new ∙ (λ i. fresh (value_is n (length xs) t there.0 both i) (state_is n (length xs) t there.0 both i)) in
        there.2 (map (seen v) items) (subst (λ (w : Walk). Drains (plainly (d t.settings)) w (map (seen v) items)) start walked) (seen_memory v items memory)
