-- Items that are passed one by one, and what a section over them holds.
use Rattle.std.proofs.Common.{◌≡◌, ℕ, suc, ◌+◌, ◌-◌, ◌<◌, ◌≤◌, List, [], ◌∷◌, ◌++◌, length, take, refl, sym, ap, ◌∙◌, subst, arith, Result, Ok, Err}
use Rattle.std.specs.Prelude.{MatchResult, IfOk, IfErr}
use Rattle.std.proofs.lemmas.List.{append-nil, length-append}
use Rattle.wasm_types.specs.decoding.Decoder.{State, Outcome, Done, Short, Fault, Decoder, Grammar, continue_with, pure, bytes, repeated, Takes, Reaches, Decides, Many}
use Rattle.wasm_types.specs.settings.Settings.{Settings}
use Rattle.wasm_types.specs.decoding.ExactLaws.{value_is, state_is, done_then, decides-bytes, decides-repeated}
use Rattle.wasm_types.specs.decoding.Leb.{u32, listed, IsUnsigned, IsListed}
use Rattle.wasm_types.specs.decoding.LebLaws.{decides-u32, decides-listed}
use Rattle.wasm_types.specs.decoding.ErrorValue.{ErrorValue}
use Rattle.wasm_types.specs.decoding.declared.error.ErrorKind.{ErrorKind}
use Rattle.wasm_types.specs.decoding.declared.error.ErrorKind.TheVariants.{EndOfData, MissingFeature, OutOfMemory, Failed, Other}
use Rattle.wasm_types.specs.reader.Parts.{part_at}
use Rattle.wasm_types.specs.reader.Reading.{FailsAt, Fails, Gives, IsNotMemory}
use Rattle.wasm_types.specs.reader.ReadingLaws.{fails_then}
use Rattle.wasm_sections_items.specs.elements.Passing.{passed, passed_list, items_at, Holds}

-- what is read is not refused, unless memory ran out
pub not_refused : {A : Type 0} (k : ErrorKind) (p : ℕ) (x : A) (t : State) (o : Outcome A) → o ≡ Done x t → FailsAt k p o → IsNotMemory k → ⊥
not_refused (EndOfData h) p x t o e f m = cc
not_refused (MissingFeature w) p x t o e f m = cc
not_refused OutOfMemory p x t o e f m = m
not_refused Failed p x t o e f m = f
not_refused Other p x t o e f m = cc

module _ {A : Type 0} (d : Decoder A) where
  no_values : (o : Outcome (List A)) (x : A) → continue_with (continue_with o (λ xs. pure (x ∷ xs))) (λ xs. pure (tt {0})) ≡ continue_with o (λ xs. pure tt)
  no_values (Done xs t) x = refl
  no_values (Short p h) x = refl
  no_values (Fault k p) x = refl

  -- one more value is passed
  pub goes_on : (count i : ℕ) (s t : State) (x : A) (total : Outcome (Unit {0})) → passed (count - i) d s ≡ total → i < count → d s ≡ Done x t → passed (count - (i + 1)) d t ≡ total
  unfolding passed repeated
  goes_on count i s t x total so_far lt e =
      let k : count - i ≡ suc (count - (i + 1)) = omega arith in
      let one : passed (count - i) d s ≡ passed (count - (i + 1)) d t = rw (k, e) (no_values (repeated (count - (i + 1)) d t) x) in
      sym one ∙ so_far

  -- a value is refused
  pub ends : (count i : ℕ) (s : State) (total : Outcome (Unit {0})) (k : ErrorKind) (p : ℕ) → passed (count - i) d s ≡ total → i < count → FailsAt k p (d s) → FailsAt k p total
  unfolding passed repeated
  ends count i s total k p so_far lt h =
      let n : count - i ≡ suc (count - (i + 1)) = omega arith in
      let part : FailsAt k p (repeated (count - i) d s) = rw n (fails_then (d s) _ k p h) in
      rw so_far at (fails_then (repeated (count - i) d s) (λ xs. pure (tt {0})) k p part)

  -- all are passed
  pub is_done : (count i : ℕ) (s : State) (total : Outcome (Unit {0})) → passed (count - i) d s ≡ total → count ≤ i → total ≡ Done tt s
  unfolding passed repeated
  is_done count i s total so_far le =
      let k : count - i ≡ 0 = omega arith in
      let one : passed (count - i) d s ≡ Done tt s = rw k refl in
      sym so_far ∙ one

  -- ---- a list that is passed is one that is read, and the other way around

  abbrev done : {B : Type 0} → B → State → Outcome B
  done x s = Done x s

  abbrev counted : Outcome ℕ → Outcome (List A)
  counted o = continue_with o (λ n. repeated n d)

  pub list_passed : (s t : State) → passed_list d s ≡ Done tt t → (xs : List A) × (listed d s ≡ Done xs t)
  unfolding passed_list passed listed
  list_passed s t e =
      let m = done_then (u32 s) (λ n. passed n d) tt t e in
      let r = done_then (repeated m.0 d m.1) (λ xs. pure (tt {0})) tt t m.3 in
      let values : repeated m.0 d m.1 ≡ done r.0 t = r.2 ∙ ap (λ (u : State). done r.0 u) (state_is tt tt r.1 t r.3) in
      (r.0, ap counted m.2 ∙ values)

  unkept : (o : Outcome (List A)) (k : ErrorKind) (p : ℕ) → FailsAt k p (continue_with o (λ xs. pure (tt {0}))) → FailsAt k p o
  unkept (Done x s) (EndOfData m) p e = absurd cc
  unkept (Done x s) (MissingFeature m) p e = absurd cc
  unkept (Done x s) OutOfMemory p e = tt
  unkept (Done x s) Failed p e = e
  unkept (Done x s) Other p e = absurd cc
  unkept (Short q n) (EndOfData m) p e = cc
  unkept (Short q n) (MissingFeature m) p e = absurd cc
  unkept (Short q n) OutOfMemory p e = tt
  unkept (Short q n) Failed p e = e
  unkept (Short q n) Other p e = absurd cc
  unkept (Fault q n) (EndOfData m) p e = absurd cc
  unkept (Fault q n) (MissingFeature m) p e = cc
  unkept (Fault q n) OutOfMemory p e = tt
  unkept (Fault q n) Failed p e = e
  unkept (Fault q n) Other p e = cc

  uncounted : (o : Outcome ℕ) (k : ErrorKind) (p : ℕ) → FailsAt k p (continue_with o (λ n. passed n d)) → FailsAt k p (counted o)
  unfolding passed
  uncounted (Done n s) k p e = unkept (repeated n d s) k p e
  uncounted (Short q n) (EndOfData m) p e = cc
  uncounted (Short q n) (MissingFeature m) p e = absurd cc
  uncounted (Short q n) OutOfMemory p e = tt
  uncounted (Short q n) Failed p e = e
  uncounted (Short q n) Other p e = absurd cc
  uncounted (Fault q n) (EndOfData m) p e = absurd cc
  uncounted (Fault q n) (MissingFeature m) p e = cc
  uncounted (Fault q n) OutOfMemory p e = tt
  uncounted (Fault q n) Failed p e = e
  uncounted (Fault q n) Other p e = cc

  pub list_refused : (s : State) (k : ErrorKind) (p : ℕ) → FailsAt k p (passed_list d s) → FailsAt k p (listed d s)
  unfolding passed_list listed
  list_refused s k p e = uncounted (u32 s) k p e

  -- ---- a section over what was passed

  module _ (g : Grammar A) (exact : Decides d g) where
    -- behind some bytes of a part
    abbrev behind : State → List ℕ → List ℕ → State
    behind s front back = record { rest = back; place = s.place + length front; settings = s.settings; start = s.start }

    taken : (s : State) (front back : List ℕ) → s.rest ≡ front ++ back → Takes s front (behind s front back)
    taken s front back e = record { parts = e; place = refl; settings = refl; start = refl }

    pub section_over : (s t : State) → passed_list d s ≡ Done tt t → (n : ℕ) × (reader : State) × Holds d s t n reader × (listed d s ≡ Done (items_at d n reader) t) × (reader.settings ≡ s.settings)
    section_over s t e =
        let r = list_passed s t e in
        let front = (decides-listed g d exact).sound s t r.0 r.1 in
        let spelled = front.2 in
        let part : State = part_at s front.0 in
        let reader : State = behind part spelled.count spelled.values in
        let end : State = behind reader spelled.values [] in
        let count : u32 part ≡ Done (length r.0) reader = decides-u32.complete part reader (length r.0) spelled.count (taken part spelled.count spelled.values spelled.whole) spelled.counted in
        let values : repeated (length r.0) d reader ≡ Done r.0 end =
        (decides-repeated d g exact (length r.0)).complete reader end r.0 spelled.values (taken reader spelled.values [] (sym (append-nil spelled.values))) spelled.each in
        (length r.0, reader, record { text = front.0; items = r.0; end = end; taken = front.1; counted = count; read = values; none_left = refl }, rw values r.1, refl)

module _ {A : Type 0} (d : Settings → Decoder A) (g : Settings → Grammar A) (exact : (z : Settings) → Decides (d z) (g z)) where
  abbrev read_as : List A → State → Outcome (List A)
  read_as xs t = Done xs t

  -- a section over the bytes that were passed holds the list that was passed
  pub section_answers : {X : Type 0} (count : X → ℕ) (reader : X → State) (result : Result X ErrorValue) (s t u part : State) (front : List ℕ) →
      passed_list (d s.settings) s ≡ Done tt t →
      bytes (length s.rest - length t.rest) s ≡ Done front u →
      part ≡ part_at s front →
      MatchResult result (λ x. u32 part ≡ Done (count x) (reader x)) (λ e. Fails e (u32 part)) →
      IfErr result (λ e. IsNotMemory e.kind) →
      Gives (λ x. items_at (d (reader x).settings) (count x) (reader x)) result u (listed (d s.settings) s) × IfOk result (λ x. Holds (d s.settings) s u (count x) (reader x))
  section_answers count reader (Ok x) s t u part front passing taken same given memory =
      let over = section_over (d s.settings) (g s.settings) (exact s.settings) s t passing in
      let n : ℕ = over.0 in
      let r : State = over.1 in
      let text : List ℕ = over.2.text in
      let size : length text ≡ length s.rest - length t.rest = omega (arith, ap length over.2.taken.parts, length-append text t.rest) in
      let here = (decides-bytes (length s.rest - length t.rest)).complete s t text text over.2.taken (size, refl) in
      let fronts : text ≡ front = value_is text front t u (sym here ∙ taken) in
      let ends_at : t ≡ u = state_is text front t u (sym here ∙ taken) in
      let counts = sym over.2.counted ∙ ap (λ (z : List ℕ). u32 (part_at s z)) fronts ∙ ap u32 (sym same) ∙ given in
      let number : n ≡ count x = value_is n (count x) r (reader x) counts in
      let state : r ≡ reader x = state_is n (count x) r (reader x) counts in (
        over.3 ∙ ap (λ (z : Settings). read_as (items_at (d z) n r) t) (sym over.4) ∙ (λ i. read_as (items_at (d (state i).settings) (number i) (state i)) (ends_at i)),
        subst (λ (v : State). Holds (d s.settings) s v (count x) (reader x)) ends_at
            (subst (λ (v : State). Holds (d s.settings) s t (count x) v) state (subst (λ (k : ℕ). Holds (d s.settings) s t k r) number over.2)),
      )
  section_answers count reader (Err e) s t u part front passing taken same given memory =
      let over = section_over (d s.settings) (g s.settings) (exact s.settings) s t passing in
      let text : List ℕ = over.2.text in
      let size : length text ≡ length s.rest - length t.rest = omega (arith, ap length over.2.taken.parts, length-append text t.rest) in
      let here = (decides-bytes (length s.rest - length t.rest)).complete s t text text over.2.taken (size, refl) in
      let fronts : text ≡ front = value_is text front t u (sym here ∙ taken) in
      let counts = ap u32 same ∙ ap (λ (z : List ℕ). u32 (part_at s z)) (sym fronts) ∙ over.2.counted in
      absurd (not_refused e.kind e.offset over.0 over.1 (u32 part) counts given memory)
