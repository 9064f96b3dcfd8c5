-- How many bytes are needed where a parser stands: so many, and no fewer, can bring a frame or a refusal.
use Rattle.std.proofs.Common.{◌≡◌, ◌⊎◌, inl, inr, ℕ, zero, suc, ◌+◌, ◌-◌, ◌<◌, ◌≤◌, ◌^◌, List, [], ◌∷◌, ◌++◌, length, refl, sym, ap, ◌∙◌, subst, arith, cond, Bool, true, false}
use Rattle.std.proofs.Math.Nat.{pow-succ'}
use Rattle.std.specs.Prelude.{nat_lt, nat_le, replicate, take, drop, ◌==◌}
use Rattle.std.proofs.lemmas.Bool.{eqb-true, ltb-true, ltb-false, lt-ltb, le-ltb, le-leb}
use Rattle.std.proofs.lemmas.List.{length-append, length-replicate}
use Rattle.wasm_types.specs.settings.Settings.{Settings}
use Rattle.wasm_types.specs.decoding.declared.Refusal.TheVariants.{Other}
use Rattle.wasm_types.specs.decoding.Decoder.{State, extended, Outcome, Done, Short, Fault, Decoder, continue_with, ◌>>=◌, pure, refuse, bytes, GoesOn, IsLawful}
use Rattle.wasm_types.specs.decoding.Laws.{bytes-enough}
use Rattle.wasm_types.specs.decoding.Leb.{u32, unsigned}
use Rattle.wasm_types.specs.decoding.LebLaws.{lawful-unsigned}
use Rattle.wasm_types.specs.decoding.Lists.{refuse_at}
use Rattle.wasm_types.specs.decoding.Text.{little_endian, name}
use Rattle.wasm_types.specs.reader.Parts.{part_at, next_part}
use Rattle.wasm_sections_items.specs.frames.Outer.{Header}
use Rattle.wasm_sections_items.specs.frames.Decode.{is_magic, header_of, header_after, magic_after, header}
use Rattle.wasm_sections_parser.specs.declared.progress.Stage.{Stage}
use Rattle.wasm_sections_parser.specs.declared.progress.Stage.TheVariants as stages
use Rattle.wasm_sections_parser.specs.declared.progress.Progress.{Progress}
use Rattle.wasm_sections_parser.specs.declared.needs.Measured.{Measured}
use Rattle.wasm_sections_parser.specs.declared.needs.Measured.TheVariants.{Late, Section, Code, Body}
use Rattle.wasm_sections_parser.specs.Needs.{wanted, are_not_last, is_cut, low_of, least_within, measured_section, needed_of_section, needed_of_body, needed_at, needed}
use Rattle.wasm_sections_parser.specs.Steps.{version, entry, begun, is_late, one_less, kept, number_before, found, in_part, Next, is_announced, has_count, custom_next, section_next, announced, counted_next, contents_next, contents, code_next, start_next, code_start, ordered, next_section, body, next_entry, behind_code, next_header, at_stage, step}
use Rattle.wasm_sections_parser.specs.StepLaws.{lawful-number_before, lawful-next_section, lawful-next_entry, lawful-next_header}
use Rattle.wasm_sections_parser.specs.Parsing.{between}
use Rattle.wasm_sections_parser.specs.runs.hints.Hints.{AreBytes, AreNotLast, IsBegun, EndsWithinSize}
use Rattle.wasm_sections_parser.specs.runs.steps.BodyLaws.{kept_done}
use Rattle.wasm_sections_parser.specs.runs.hints.CutLaws.{IsSettled, short, done, not_settled, settled_if, settled_pure, need_is, short_then, stays, at, bytes_mended, number_cut, kept_short}
use Rattle.wasm_sections_parser.specs.runs.hints.NeedLaws.{IsBehind, code_few, cut_is, least_behind, cut_fewer, cut_enough, least_some, least_none, least_past, not_ended}

-- ---- sizes

positive : (n : ℕ) → (n == 0) ≡ false → 0 < n
positive zero f = absurd cc
positive (suc n) f = omega arith

is_cut_so : (size : List ℕ) → length size ≤ 4 → are_not_last size ≡ true → is_cut size ≡ true
is_cut_so size few begun = ap (λ (v : Bool). cond v false (are_not_last size)) (le-ltb 4 (length size) few) ∙ begun

not_cut : (size : List ℕ) (a : ℕ) (y : Settings) (b x : ℕ) (t : State) → u32 (at size a y b) ≡ done x t → is_cut size ≡ false
not_cut size a y b x t e = go (is_cut size) refl
  where
    go : (v : Bool) → is_cut size ≡ v → is_cut size ≡ false
    go true f = absurd (not_ended size a y b x t f e)
    go false f = f

unit_some : (size : List ℕ) → 0 < 128 ^ length size
unit_some [] = omega arith
unit_some (c ∷ size) = let some = unit_some size in omega (arith, some, pow-succ' 128 (length size))

-- ---- sections

-- so many bytes bring a frame or a refusal
abbrev Mends : Decoder Next → State → ℕ → Type 0
Mends d s h = (more : List ℕ) × AreBytes more × (length more ≡ h) × IsSettled (d (extended s more))

zero_bytes : (n : ℕ) → AreBytes (replicate n 0)
zero_bytes zero = tt
zero_bytes (suc n) = (omega arith, zero_bytes n)

found_settled : {A B : Type 0} (f : A → List ℕ → B) (t : State) (o : Outcome A) → IsSettled (found f t o)
found_settled f t (Done x u) = tt
found_settled f t (Short p h) = tt
found_settled f t (Fault k p) = tt

settled_then : {A B : Type 0} (o : Outcome A) (f : A → Decoder B) → IsSettled o → ((x : A) (t : State) → IsSettled (f x t)) → IsSettled (continue_with o f)
settled_then (Done x t) f s g = g x t
settled_then (Short p h) f s g = s
settled_then (Fault k p) f s g = tt

announced_settled : (id : ℕ) (x : Next) (t : State) → IsSettled (announced id x t)
announced_settled id x t = settled_if (is_announced id x.1) (pure x) (refuse Other 0) t tt tt

start_settled : (p : Progress) (n place k : ℕ) (t : State) → IsSettled (start_next p n place k t)
start_settled p n place k t = settled_if (p.functions == k) (pure (code_next p n (place + n) k)) (refuse_at Other place) t tt tt

module _ (z : Settings) (p : Progress) (id : ℕ) where
  contents_settled : (part t : State) → IsSettled (contents_next z p id part t)
  unfolding in_part
  contents_settled part t =
      settled_if (id == 0) (in_part (name z.limits.string_bytes) (custom_next p) part)
      (cond (has_count id) (counted_next p id part) (pure (section_next p id part.rest 0 []))) t
      (found_settled (custom_next p) t (name z.limits.string_bytes part))
      (settled_if (has_count id) (counted_next p id part) (pure (section_next p id part.rest 0 [])) t
      (settled_then (found (section_next p id part.rest) t (u32 part)) (announced id) (found_settled (section_next p id part.rest) t (u32 part)) (announced_settled id)) tt)

  -- behind a size of 0, with no byte more
  start_empty : (a : ℕ) (y : Settings) (b : ℕ) → IsSettled (code_start p 0 (at [] a y b))
  unfolding code_start number_before unsigned
  start_empty a y b = settled_if (nat_lt a (2 ^ 64 - 0)) (number_before (a + 0) >>= start_next p 0 a) (refuse_at Other a) (at [] a y b) (go (nat_lt a (a + 0)) refl) tt
    where
      go : (v : Bool) → nat_lt a (a + 0) ≡ v → IsSettled (continue_with (cond v (short {A = ℕ} a 1) (Fault Other a)) (start_next p 0 a))
      go true e = absurd (omega (arith, ltb-true _ _ e))
      go false e = tt

  contents_empty : (a : ℕ) (y : Settings) (b : ℕ) → IsSettled (contents z p id 0 (at [] a y b))
  unfolding contents
  contents_empty a y b = contents_settled (part_at (at [] a y b) (take 0 [])) (at (drop 0 []) (a + 0) y b)

  pub ordered_empty : (a : ℕ) (y : Settings) (b : ℕ) → IsSettled (ordered z p id 0 (at [] a y b))
  ordered_empty a y b =
      settled_if (is_late p id) (refuse Other 0) (cond (id == 10) (code_start p 0) (contents z p id 0)) (at [] a y b) tt
      (settled_if (id == 10) (code_start p 0) (contents z p id 0) (at [] a y b) (start_empty a y b) (contents_empty a y b))

  -- behind any size
  contents_mends : (n : ℕ) (w : State) (q h : ℕ) → contents z p id n w ≡ short q h → Mends (contents z p id n) w h
  unfolding contents
  contents_mends n w q h e = elim (short_then (next_part n w) (contents_next z p id) q h e) [
    | inl f ↦ elim (short_then (bytes n w) (λ text. pure (part_at w text)) q h f) [
      | inl g ↦
          let m = bytes_mended n w q h g in
          let u : State = extended w (replicate h 0) in (
            replicate h 0,
            zero_bytes h,
            length-replicate {A = ℕ} h 0,
            subst (λ (o : Outcome (List ℕ)). IsSettled (continue_with (continue_with o (λ text. pure (part_at u text))) (contents_next z p id))) (sym m.2) (contents_settled (part_at u m.0) m.1),
          )
      | inr d ↦ let no : done (part_at w d.0) d.1 ≡ short q h = d.3 in absurd cc
    ]
    | inr d ↦ absurd (not_settled (contents_next z p id d.0 d.1) q h (contents_settled d.0 d.1) d.3)
  ]

  start_mends : (n : ℕ) (w : State) (q h : ℕ) → code_start p n w ≡ short q h → Mends (code_start p n) w h
  unfolding code_start number_before
  start_mends n w q h e = go (nat_lt w.place (2 ^ 64 - n)) e
    where
      last : (value : ℕ) (there : State) (v : Bool) → IsSettled (continue_with (cond v (Fault Other w.place) (done value there)) (start_next p n w.place))
      last value there true = tt
      last value there false = start_settled p n w.place value there

      go : (v : Bool) → cond v (number_before (w.place + n) >>= start_next p n w.place) (refuse_at Other w.place) w ≡ short q h
          → Mends (cond v (number_before (w.place + n) >>= start_next p n w.place) (refuse_at Other w.place)) w h
      go true f = elim (short_then (number_before (w.place + n) w) (start_next p n w.place) q h f) [
        | inl g ↦
            let c = number_cut 4 w.rest w.place w.settings w.start q h (kept_short (w.place + n) w.place q h (u32 w) g).0 in (
              0 ∷ [],
              (omega arith, tt),
              sym c.one,
              subst (λ (o : Outcome ℕ). IsSettled (continue_with (kept (w.place + n) w.place o) (start_next p n w.place))) (sym c.mended)
                  (last c.value c.there (nat_lt (w.place + n) c.there.place)),
            )
        | inr d ↦ absurd (not_settled (start_next p n w.place d.0 d.1) q h (start_settled p n w.place d.0 d.1) d.3)
      ]
      go false f = absurd cc

  ordered_mends : (n : ℕ) (w : State) (q h : ℕ) → ordered z p id n w ≡ short q h → Mends (ordered z p id n) w h
  ordered_mends n w q h e = late (is_late p id) e
    where
      ten : (v : Bool) → cond v (code_start p n) (contents z p id n) w ≡ short q h → Mends (cond v (code_start p n) (contents z p id n)) w h
      ten true f = start_mends n w q h f
      ten false f = contents_mends n w q h f

      late : (v : Bool) → cond v (refuse Other 0) (cond (id == 10) (code_start p n) (contents z p id n)) w ≡ short q h
          → Mends (cond v (refuse Other 0) (cond (id == 10) (code_start p n) (contents z p id n))) w h
      late true f = absurd cc
      late false f = ten (id == 10) f

  -- ---- what is wanted behind a size

  contents_wants : (limit : ℕ) → IsBehind Section limit (contents z p id)
  unfolding contents
  contents_wants limit = record {
    fewer = λ n place rest y b s. few n place rest y b (nat_lt (length rest) n) refl s;
    enough = λ n place y b. (replicate n 0, zero_bytes n, length-replicate {A = ℕ} n 0, whole n place y b);
  }
    where
      few : (n place : ℕ) (rest : List ℕ) (y : Settings) (b : ℕ) (v : Bool) → nat_lt (length rest) n ≡ v
          → IsSettled (continue_with (continue_with (cond v (short place (n - length rest)) (done (take n rest) (at (drop n rest) (place + n) y b))) (λ text. pure (part_at (at rest place y b) text))) (contents_next z p id))
          → n ≤ length rest
      few n place rest y b true e s = absurd s
      few n place rest y b false e s = ltb-false _ _ e

      whole : (n place : ℕ) (y : Settings) (b : ℕ) → IsSettled (contents z p id n (at (replicate n 0) place y b))
      whole n place y b =
          let w : State = at (replicate n 0) place y b in
          subst (λ (o : Outcome (List ℕ)). IsSettled (continue_with (continue_with o (λ text. pure (part_at w text))) (contents_next z p id)))
          (sym (bytes-enough n w (omega (arith, length-replicate {A = ℕ} n 0))))
          (contents_settled (part_at w (take n (replicate n 0))) (at (drop n (replicate n 0)) (place + n) y b))

  start_wants : IsBehind Code (2 ^ 64 - 1) (code_start p)
  unfolding code_start number_before unsigned
  start_wants = record { fewer = few; enough = λ n place y b. some n place y b (nat_lt (2 ^ 64 - 1 - place) n) refl (n == 0) refl }
    where
      begins : (n place : ℕ) → Decoder Next
      begins n place = number_before (place + n) >>= start_next p n place

      -- a size of some bytes that has room, with no byte of the count
      no_count : (n place : ℕ) (y : Settings) (b : ℕ) (v w : Bool) → nat_lt (2 ^ 64 - 1 - place) n ≡ v → (n == 0) ≡ w
          → IsSettled (cond (nat_lt place (2 ^ 64 - n)) (begins n place) (refuse_at Other place) (at [] place y b)) → cond v 0 (cond w 0 1) ≤ 0
      no_count n place y b true w e f s = omega arith
      no_count n place y b false true e f s = omega arith
      no_count n place y b false false e f s =
          let large = positive n f in
          let room = ltb-false _ _ e in
          let fits : nat_lt place (2 ^ 64 - n) ≡ true = lt-ltb place (2 ^ 64 - n) (omega (arith, room, large)) in
          let inside : nat_lt place (place + n) ≡ true = lt-ltb place (place + n) (omega (arith, large)) in
          let s' = subst (λ (t : Bool). IsSettled (cond t (begins n place) (refuse_at {A = Next} Other place) (at [] place y b))) fits s in
          absurd (subst (λ (t : Bool). IsSettled (continue_with (cond t (short {A = ℕ} place 1) (Fault Other place)) (start_next p n place))) inside s')

      few : (n place : ℕ) (rest : List ℕ) (y : Settings) (b : ℕ) → IsSettled (code_start p n (at rest place y b)) → wanted Code (2 ^ 64 - 1 - place) n ≤ length rest
      few n place [] y b s = no_count n place y b (nat_lt (2 ^ 64 - 1 - place) n) (n == 0) refl refl s
      few n place (c ∷ rest) y b s = let one = code_few (2 ^ 64 - 1 - place) n in omega (arith, one)

      counted : (n place : ℕ) (y : Settings) (b : ℕ) (v : Bool) → IsSettled (continue_with (cond v (Fault Other place) (done 0 (at [] (place + 1) y b))) (start_next p n place))
      counted n place y b true = tt
      counted n place y b false = start_settled p n place 0 (at [] (place + 1) y b)

      some : (n place : ℕ) (y : Settings) (b : ℕ) (v : Bool) → nat_lt (2 ^ 64 - 1 - place) n ≡ v → (w : Bool) → (n == 0) ≡ w
          → (rest : List ℕ) × AreBytes rest × (length rest ≡ cond v 0 (cond w 0 1)) × IsSettled (cond (nat_lt place (2 ^ 64 - n)) (begins n place) (refuse_at Other place) (at rest place y b))
      some n place y b true e w f =
          let past : nat_lt place (2 ^ 64 - n) ≡ false = le-ltb place (2 ^ 64 - n) (omega (arith, ltb-true _ _ e)) in
          ([], tt, refl, subst (λ (t : Bool). IsSettled (cond t (begins n place) (refuse_at {A = Next} Other place) (at [] place y b))) (sym past) tt)
      some n place y b false e true f =
          ([], tt, refl, subst (λ (k : ℕ). IsSettled (cond (nat_lt place (2 ^ 64 - k)) (begins k place) (refuse_at {A = Next} Other place) (at [] place y b))) (sym (eqb-true n 0 f)) (start_empty place y b))
      some n place y b false e false f = (
        0 ∷ [],
        (omega arith, tt),
        refl,
        settled_if (nat_lt place (2 ^ 64 - n)) (begins n place) (refuse_at {A = Next} Other place) (at (0 ∷ []) place y b) (counted n place y b (nat_lt (place + n) (place + 1))) tt,
      )

  ordered_wants : IsBehind (measured_section p id) (2 ^ 64 - 1) (ordered z p id)
  ordered_wants = go (is_late p id) (id == 10)
    where
      go : (v w : Bool) → IsBehind (cond v Late (cond w Code Section)) (2 ^ 64 - 1) (λ n. cond v (refuse Other 0) (cond w (code_start p n) (contents z p id n)))
      go true w = record { fewer = λ n place rest y b s. omega arith; enough = λ n place y b. ([], tt, refl, tt) }
      go false true = start_wants
      go false false = contents_wants (2 ^ 64 - 1)

  -- the bytes end behind the size, and so many bring a frame or a refusal; or within it
  section_cut : (text : List ℕ) (a : ℕ) (y : Settings) (b q h : ℕ) → next_section z p (at (id ∷ text) a y b) ≡ short q h
      → ((is_cut text ≡ false) × Mends (next_section z p) (at (id ∷ text) a y b) h) ⊎ ((is_cut text ≡ true) × (h ≡ 1))
  unfolding next_section
  section_cut text a y b q h e = elim (short_then (u32 (at text (a + 1) y b)) (ordered z p id) q h e) [
    | inl f ↦ let c = number_cut 4 text (a + 1) y b q h f in inr (is_cut_so text c.few c.begun, c.one)
    | inr d ↦
        let m = ordered_mends d.0 d.1 q h d.3 in
        let read = stays d.0 d.1 m.0 (u32 (at text (a + 1) y b)) (u32 (at (text ++ m.0) (a + 1) y b)) d.2 ((lawful-unsigned 4 4).steady (at text (a + 1) y b) m.0) in
        inl (not_cut text (a + 1) y b d.0 d.1 d.2, (m.0, m.1, m.2, subst (λ (o : Outcome ℕ). IsSettled (continue_with o (ordered z p id))) (sym read) m.3))
  ]

-- ---- bodies

module _ (p : Progress) (left end : ℕ) where
  body_mends : (n : ℕ) (w : State) (q h : ℕ) → body p left end n w ≡ short q h → Mends (body p left end n) w h
  body_mends n w q h e = go (nat_lt (end - w.place) n) e
    where
      go : (v : Bool) → cond v (refuse_at {A = Next} Other w.place) (bytes n >>= λ text. pure (entry text, one_less p left end)) w ≡ short q h
          → Mends (cond v (refuse_at {A = Next} Other w.place) (bytes n >>= λ text. pure (entry text, one_less p left end))) w h
      go true f = absurd cc
      go false f = elim (short_then (bytes n w) (λ text. pure (entry text, one_less p left end)) q h f) [
        | inl g ↦
            let m = bytes_mended n w q h g in
            (replicate h 0, zero_bytes h, length-replicate {A = ℕ} h 0, subst (λ (o : Outcome (List ℕ)). IsSettled {A = Next} (continue_with o (λ text. pure (entry text, one_less p left end)))) (sym m.2) tt)
        | inr d ↦ let no : done {A = Next} (entry d.0, one_less p left end) d.1 ≡ short q h = d.3 in absurd cc
      ]

  -- a body behind its size, which is refused where it ends past the section
  body_from : ℕ → ℕ → Decoder Next
  body_from a n s = cond (nat_lt end s.place) (Fault Other a) (body p left end n s)

  body_wants : (a : ℕ) → IsBehind Body end (body_from a)
  unfolding body_from
  body_wants a = record {
    fewer = λ n place rest y b s. past n place rest y b (nat_lt end place) refl s;
    enough = λ n place y b. some n place y b (nat_lt (end - place) n) refl;
  }
    where
      few : (n place : ℕ) (rest : List ℕ) (y : Settings) (b : ℕ) (v : Bool) → nat_lt (length rest) n ≡ v
          → IsSettled {A = Next} (continue_with (cond v (short place (n - length rest)) (done (take n rest) (at (drop n rest) (place + n) y b))) (λ text. pure (entry text, one_less p left end))) → n ≤ length rest
      few n place rest y b true e s = absurd s
      few n place rest y b false e s = ltb-false _ _ e

      room : (n place : ℕ) (rest : List ℕ) (y : Settings) (b : ℕ) (v : Bool)
          → IsSettled (cond v (refuse_at {A = Next} Other place) (bytes n >>= λ text. pure (entry text, one_less p left end)) (at rest place y b)) → cond v 0 n ≤ length rest
      room n place rest y b true s = omega arith
      room n place rest y b false s = few n place rest y b (nat_lt (length rest) n) refl s

      none : (n place : ℕ) (v : Bool) → nat_lt (end - place) n ≡ v → end < place → cond v 0 n ≤ 0
      none n place true e lt = omega arith
      none n place false e lt = let le = ltb-false _ _ e in omega (arith, le, lt)

      past : (n place : ℕ) (rest : List ℕ) (y : Settings) (b : ℕ) (v : Bool) → nat_lt end place ≡ v → IsSettled (cond v (Fault Other a) (body p left end n (at rest place y b)))
          → wanted Body (end - place) n ≤ length rest
      past n place rest y b true e s = let le = none n place (nat_lt (end - place) n) refl (ltb-true _ _ e) in omega (arith, le)
      past n place rest y b false e s = room n place rest y b (nat_lt (end - place) n) s

      whole : (n place : ℕ) (y : Settings) (b : ℕ) → IsSettled {A = Next} (continue_with (bytes n (at (replicate n 0) place y b)) (λ text. pure (entry text, one_less p left end)))
      whole n place y b =
          subst (λ (o : Outcome (List ℕ)). IsSettled {A = Next} (continue_with o (λ text. pure (entry text, one_less p left end))))
          (sym (bytes-enough n (at (replicate n 0) place y b) (omega (arith, length-replicate {A = ℕ} n 0)))) tt

      if_past : (v : Bool) (o : Outcome Next) → IsSettled o → IsSettled (cond v (Fault Other a) o)
      if_past true o s = tt
      if_past false o s = s

      some : (n place : ℕ) (y : Settings) (b : ℕ) (v : Bool) → nat_lt (end - place) n ≡ v
          → (rest : List ℕ) × AreBytes rest × (length rest ≡ cond v 0 n) × IsSettled (cond (nat_lt end place) (Fault Other a) (body p left end n (at rest place y b)))
      some n place y b true e = (
        [],
        tt,
        refl,
        if_past (nat_lt end place) (body p left end n (at [] place y b))
            (subst (λ (t : Bool). IsSettled (cond t (refuse_at {A = Next} Other place) (bytes n >>= λ text. pure (entry text, one_less p left end)) (at [] place y b))) (sym e) tt),
      )
      some n place y b false e = (
        replicate n 0,
        zero_bytes n,
        length-replicate {A = ℕ} n 0,
        if_past (nat_lt end place) (body p left end n (at (replicate n 0) place y b))
            (subst (λ (t : Bool). IsSettled (cond t (refuse_at {A = Next} Other place) (bytes n >>= λ text. pure (entry text, one_less p left end)) (at (replicate n 0) place y b))) (sym e) (whole n place y b)),
      )

  -- a number that ends before an offset, and the body behind it
  kept_settles : (a : ℕ) (o : Outcome ℕ) → IsSettled (continue_with o (body_from a)) → IsSettled (continue_with (kept end a o) (body p left end))
  unfolding body_from
  kept_settles a (Done n t) s = go (nat_lt end t.place) s
    where
      go : (v : Bool) → IsSettled (cond v (Fault Other a) (body p left end n t)) → IsSettled (continue_with (cond v (Fault Other a) (done n t)) (body p left end))
      go true g = tt
      go false g = g
  kept_settles a (Short q h) s = absurd s
  kept_settles a (Fault k q) s = go (nat_lt q end)
    where
      go : (v : Bool) → IsSettled (continue_with (cond v (Fault k q) (Fault Other a)) (body p left end))
      go true = tt
      go false = tt

  settles_kept : (a : ℕ) (o : Outcome ℕ) → IsSettled (continue_with (kept end a o) (body p left end))
      → IsSettled (continue_with o (body_from a)) ⊎ ((q : ℕ) × (h : ℕ) × (o ≡ short q h) × (end ≤ q))
  unfolding body_from
  settles_kept a (Done n t) s = inl (go (nat_lt end t.place) s)
    where
      go : (v : Bool) → IsSettled (continue_with (cond v (Fault Other a) (done n t)) (body p left end)) → IsSettled (cond v (Fault Other a) (body p left end n t))
      go true g = tt
      go false g = g
  settles_kept a (Short q h) s = go (nat_lt q end) refl s
    where
      go : (v : Bool) → nat_lt q end ≡ v → IsSettled (continue_with (cond v (short {A = ℕ} q h) (Fault Other a)) (body p left end))
          → ⊥ ⊎ ((r : ℕ) × (g : ℕ) × (short {A = ℕ} q h ≡ short r g) × (end ≤ r))
      go true e g = absurd g
      go false e g = inr (q, h, refl, ltb-false _ _ e)
  settles_kept a (Fault k q) s = inl tt

  -- the bytes end behind the size, and so many bring a frame or a refusal; or within it, and within the section
  entry_cut : (text : List ℕ) (a : ℕ) (y : Settings) (b q h : ℕ) → next_entry p left end (at text a y b) ≡ short q h
      → ((is_cut text ≡ false) × Mends (next_entry p left end) (at text a y b) h) ⊎ ((is_cut text ≡ true) × (h ≡ 1) × (a + length text < end))
  unfolding next_entry number_before
  entry_cut text a y b q h e = elim (short_then (number_before end (at text a y b)) (body p left end) q h e) [
    | inl f ↦
        let k = kept_short end a q h (u32 (at text a y b)) f in
        let c = number_cut 4 text a y b q h k.0 in
        inr (is_cut_so text c.few c.begun, c.one, omega (arith, c.behind, k.1))
    | inr d ↦
        let m = body_mends d.0 d.1 q h d.3 in
        let read = stays d.0 d.1 m.0 (number_before end (at text a y b)) (number_before end (at (text ++ m.0) a y b)) d.2 ((lawful-number_before end).steady (at text a y b) m.0) in
        inl (not_cut text a y b d.0 d.1 (kept_done end a d.0 d.1 (u32 (at text a y b)) d.2).0, (m.0, m.1, m.2, subst (λ (o : Outcome ℕ). IsSettled (continue_with o (body p left end))) (sym read) m.3))
  ]

  entry_fewer : (size : List ℕ) (a : ℕ) (y : Settings) (b : ℕ) → is_cut size ≡ true → a + length size < end → (more : List ℕ) → AreBytes more
      → IsSettled (next_entry p left end (at (size ++ more) a y b)) → least_behind Body end size a ≤ length more
  unfolding next_entry number_before
  entry_fewer size a y b cut lt more bytes s = elim (settles_kept a (u32 (at (size ++ more) a y b)) s) [
    | inl t ↦ cut_fewer Body end (body_from a) (body_wants a) size cut a y b more bytes t
    | inr t ↦
        let c = number_cut 4 (size ++ more) a y b t.0 t.1 t.2 in
        let long = length-append size more in
        least_past (4 - length size) (low_of size) (low_of size) (128 ^ length size) (a + length size) (length more) end (unit_some size)
        (omega (arith, lt, t.3, c.behind, long)) (omega (arith, t.3, c.behind, long))
  ]

  entry_enough : (size : List ℕ) (a : ℕ) (y : Settings) (b : ℕ) → is_cut size ≡ true → Mends (next_entry p left end) (at size a y b) (least_behind Body end size a)
  unfolding next_entry number_before
  entry_enough size a y b cut =
      let m = cut_enough Body end (body_from a) (body_wants a) size cut a y b in
      (m.0, m.1, m.2, kept_settles a (u32 (at (size ++ m.0) a y b)) m.3)

-- ---- the header

-- four bytes that end in 0 are not the magic number
no_magic : (a b c : ℕ) → is_magic (a ∷ b ∷ c ∷ 0 ∷ []) ≡ false
no_magic a b c = go (a == 0x00) (b == 0x61) (c == 0x73)
  where
    go : (x y w : Bool) → cond x (cond y (cond w false false) false) false ≡ false
    go false y w = refl
    go true false w = refl
    go true true false = refl
    go true true true = refl

after_settled : (m : List ℕ) (t : State) → IsSettled (header_after m t)
after_settled m t = settled_if (nat_lt 1 (little_endian (drop 2 m))) (refuse Other 4) (pure (header_of m)) t tt tt

four_read : (c d e f : ℕ) (rest : List ℕ) (a : ℕ) (y : Settings) (b : ℕ) → bytes 4 (at (c ∷ d ∷ e ∷ f ∷ rest) a y b) ≡ done (c ∷ d ∷ e ∷ f ∷ []) (at rest (a + 4) y b)
four_read c d e f rest a y b = bytes-enough 4 (at (c ∷ d ∷ e ∷ f ∷ rest) a y b) (omega arith)

refused_there : (c d e : ℕ) (a : ℕ) (y : Settings) (b : ℕ) → IsSettled (magic_after (c ∷ d ∷ e ∷ 0 ∷ []) (at [] a y b))
refused_there c d e a y b = subst (λ (v : Bool). IsSettled (cond v (bytes 4 >>= header_after) (refuse Other 4) (at [] a y b))) (sym (no_magic c d e)) tt

header_mends : (text : List ℕ) (a : ℕ) (y : Settings) (b q h : ℕ) → header (at text a y b) ≡ short q h
    → (more : List ℕ) × AreBytes more × (length more ≡ h) × IsSettled (header (at (text ++ more) a y b))
unfolding header
header_mends [] a y b q h e = (0 ∷ 0 ∷ 0 ∷ 0 ∷ [], zero_bytes 4, need_is {A = Header} a q 4 h e, refused_there 0 0 0 (a + 4) y b)
header_mends (c ∷ []) a y b q h e = (0 ∷ 0 ∷ 0 ∷ [], zero_bytes 3, need_is {A = Header} a q 3 h e, refused_there c 0 0 (a + 4) y b)
header_mends (c ∷ d ∷ []) a y b q h e = (0 ∷ 0 ∷ [], zero_bytes 2, need_is {A = Header} a q 2 h e, refused_there c d 0 (a + 4) y b)
header_mends (c ∷ d ∷ x ∷ []) a y b q h e = (0 ∷ [], zero_bytes 1, need_is {A = Header} a q 1 h e, refused_there c d x (a + 4) y b)
header_mends (c ∷ d ∷ x ∷ f ∷ rest) a y b q h e = go (is_magic (c ∷ d ∷ x ∷ f ∷ [])) (sym (ap (λ (o : Outcome (List ℕ)). continue_with o magic_after) (four_read c d x f rest a y b)) ∙ e)
  where
    whole : (more : List ℕ) → IsSettled (magic_after (c ∷ d ∷ x ∷ f ∷ []) (at (rest ++ more) (a + 4) y b)) → IsSettled (header (at (c ∷ d ∷ x ∷ f ∷ (rest ++ more)) a y b))
    whole more s = subst (λ (o : Outcome (List ℕ)). IsSettled (continue_with o magic_after)) (sym (four_read c d x f (rest ++ more) a y b)) s

    go : (v : Bool) → cond v (bytes 4 >>= header_after) (refuse Other 4) (at rest (a + 4) y b) ≡ short q h
        → (more : List ℕ) × AreBytes more × (length more ≡ h) × IsSettled (header (at ((c ∷ d ∷ x ∷ f ∷ rest) ++ more) a y b))
    go true g = elim (short_then (bytes 4 (at rest (a + 4) y b)) header_after q h g) [
      | inl k ↦
          let m = bytes_mended 4 (at rest (a + 4) y b) q h k in
          let more : List ℕ = replicate h 0 in (
            more,
            zero_bytes h,
            length-replicate {A = ℕ} h 0,
            whole more (settled_if (is_magic (c ∷ d ∷ x ∷ f ∷ [])) (bytes 4 >>= header_after) (refuse Other 4) (at (rest ++ more) (a + 4) y b)
                (subst (λ (o : Outcome (List ℕ)). IsSettled (continue_with o header_after)) (sym m.2) (after_settled m.0 m.1)) tt),
          )
      | inr k ↦ absurd (not_settled (header_after k.0 k.1) q h (after_settled k.0 k.1) k.3)
    ]
    go false g = absurd cc

header_cut : (p : Progress) (text : List ℕ) (a : ℕ) (y : Settings) (b q h : ℕ) → next_header p (at text a y b) ≡ short q h → Mends (next_header p) (at text a y b) h
unfolding next_header
header_cut p text a y b q h e = elim (short_then (header (at text a y b)) (λ k. pure (version k, begun p)) q h e) [
  | inl f ↦ let m = header_mends text a y b q h f in (m.0, m.1, m.2, settled_pure (header (at (text ++ m.0) a y b)) (λ k. (version k, begun p)) m.3)
  | inr d ↦ let no : done {A = Next} (version d.0, begun p) d.1 ≡ short q h = d.3 in absurd cc
]

-- ---- steps

-- What is needed behind these bytes, where the decoder lacks h: so many more and no fewer bring a frame or a refusal, and they are h
-- but within a size.
pub record Needs (g : Stage) (text : List ℕ) (a : ℕ) (answer : List ℕ → Outcome Next) (h n : ℕ) : Type 0 where
  pub fewer : (more : List ℕ) → AreBytes more → IsSettled (answer more) → n ≤ length more
  pub enough : (more : List ℕ) × AreBytes more × (length more ≡ n) × IsSettled (answer more)
  pub lacking : h ≤ n
  pub same : (EndsWithinSize g a text → ⊥) → n ≡ h

-- what a lawful decoder lacks is no fewer
lawful_fewer : (d : Decoder Next) (law : IsLawful d) (s : State) (q h : ℕ) → d s ≡ short q h → (more : List ℕ) → IsSettled (d (extended s more)) → h ≤ length more
lawful_fewer d law s q h e more settled = go (nat_lt (length more) h) refl
  where
    on : GoesOn (short q h) more (d (extended s more))
    on = subst (λ (o : Outcome Next). GoesOn o more (d (extended s more))) e (law.steady s more)

    go : (v : Bool) → nat_lt (length more) h ≡ v → h ≤ length more
    go true f = absurd (not_settled (d (extended s more)) q (h - length more) settled (on.0 (ltb-true _ _ f)))
    go false f = ltb-false _ _ f

begun_so : (bs : List ℕ) → are_not_last bs ≡ true → AreNotLast bs
begun_so [] e = tt
begun_so (b ∷ bs) e = go (begun_so bs) (nat_lt b 128) refl e
  where
    go : (are_not_last bs ≡ true → AreNotLast bs) → (v : Bool) → nat_lt b 128 ≡ v → cond v false (are_not_last bs) ≡ true → AreNotLast (b ∷ bs)
    go rest true f g = absurd cc
    go rest false f g = (ltb-false _ _ f, rest g)

is_begun : (b : ℕ) (bs : List ℕ) → is_cut (b ∷ bs) ≡ true → IsBegun (b ∷ bs)
is_begun b bs e = begun_so (b ∷ bs) (cut_is (b ∷ bs) e).1

module _ (z : Settings) (p : Progress) (text : List ℕ) (a : ℕ) (y : Settings) (b q h : ℕ) where
  abbrev Needed : Decoder Next → Stage → ℕ → Type 0
  Needed d g n = Needs g text a (λ more. d (at (text ++ more) a y b)) h n

  -- where the bytes end elsewhere than within a size
  plain : (d : Decoder Next) (g : Stage) → IsLawful d → d (at text a y b) ≡ short q h → Mends d (at text a y b) h → Needed d g h
  plain d g law e m = record {
    fewer = λ more bytes s. lawful_fewer d law (at text a y b) q h e more s;
    enough = m;
    lacking = omega arith;
    same = λ w. refl;
  }

  -- within one
  within : (d : Decoder Next) (g : Stage) (m : Measured) (size : List ℕ) (room : ℕ) → h ≡ 1 → ((c : ℕ) (cs : List ℕ) → size ≡ c ∷ cs → EndsWithinSize g a text)
      → ((more : List ℕ) → AreBytes more → IsSettled (d (at (text ++ more) a y b)) → least_within m (4 - length size) (low_of size) (low_of size) (128 ^ length size) room ≤ length more)
      → Mends d (at text a y b) (least_within m (4 - length size) (low_of size) (low_of size) (128 ^ length size) room)
      → Needed d g (least_within m (4 - length size) (low_of size) (low_of size) (128 ^ length size) room)
  within d g m size room one ends few enough = record {
    fewer = few;
    enough = enough;
    lacking = let some = least_some m (4 - length size) (low_of size) (low_of size) (128 ^ length size) room in omega (arith, one, some);
    same = λ w. go size ends w;
  }
    where
      go : (size : List ℕ) → ((c : ℕ) (cs : List ℕ) → size ≡ c ∷ cs → EndsWithinSize g a text) → (EndsWithinSize g a text → ⊥)
          → least_within m (4 - length size) (low_of size) (low_of size) (128 ^ length size) room ≡ h
      go [] f w = least_none m room ∙ sym one
      go (c ∷ cs) f w = absurd (w (f c cs refl))

  section_needs : (g : Stage) → between g a ≡ true → (id : ℕ) (size : List ℕ) → text ≡ id ∷ size → next_section z p (at text a y b) ≡ short q h
      → Needed (next_section z p) g (needed_of_section p a (id ∷ size) h)
  unfolding next_section
  section_needs g here id size f e = elim (section_cut z p id size a y b q h (subst (λ (x : List ℕ). next_section z p (at x a y b) ≡ short q h) f e)) [
    | inl m ↦ subst (λ (v : Bool). Needed (next_section z p) g (cond v least h)) (sym m.0)
        (plain (next_section z p) g (lawful-next_section z p) e (subst (λ (x : List ℕ). Mends (next_section z p) (at x a y b) h) (sym f) m.1))
    | inr m ↦ subst (λ (v : Bool). Needed (next_section z p) g (cond v least h)) (sym m.0)
        (within (next_section z p) g (measured_section p id) size (2 ^ 64 - 1 - (a + 1 + length size)) m.1
        (λ c cs i. inl (here, (id, c ∷ cs, f ∙ ap (λ (x : List ℕ). id ∷ x) i, is_begun c cs (sym (ap is_cut i) ∙ m.0))))
        (λ more bytes s. cut_fewer (measured_section p id) (2 ^ 64 - 1) (ordered z p id) (ordered_wants z p id) size m.0 (a + 1) y b more bytes
        (subst (λ (x : List ℕ). IsSettled (next_section z p (at (x ++ more) a y b))) f s))
        (subst (λ (x : List ℕ). Mends (next_section z p) (at x a y b) least) (sym f)
        (cut_enough (measured_section p id) (2 ^ 64 - 1) (ordered z p id) (ordered_wants z p id) size m.0 (a + 1) y b)))
  ]
    where
      least : ℕ
      least = least_behind (measured_section p id) (2 ^ 64 - 1) size (a + 1)

  between_needs : (g : Stage) → between g a ≡ true → (text ≡ [] → ⊥) → next_section z p (at text a y b) ≡ short q h → Needed (next_section z p) g (needed_of_section p a text h)
  between_needs g here some e = go text refl
    where
      go : (k : List ℕ) → text ≡ k → Needed (next_section z p) g (needed_of_section p a k h)
      go [] f = absurd (some f)
      go (id ∷ size) f = section_needs g here id size f e

  entry_needs : (left end : ℕ) → 0 < left → next_entry p left end (at text a y b) ≡ short q h → Needed (next_entry p left end) (stages.Code left end) (needed_of_body end a text h)
  entry_needs left end some e = elim (entry_cut p left end text a y b q h e) [
    | inl m ↦ subst (λ (v : Bool). Needed (next_entry p left end) (stages.Code left end) (cond v (least_behind Body end text a) h)) (sym m.0)
        (plain (next_entry p left end) (stages.Code left end) (lawful-next_entry p left end) e m.1)
    | inr m ↦ subst (λ (v : Bool). Needed (next_entry p left end) (stages.Code left end) (cond v (least_behind Body end text a) h)) (sym m.0)
        (within (next_entry p left end) (stages.Code left end) Body text (end - (a + length text)) m.1
        (λ c cs i. inr (left, end, refl, some, subst IsBegun (sym i) (is_begun c cs (sym (ap is_cut i) ∙ m.0))))
        (λ more bytes s. entry_fewer p left end text a y b m.0 m.2 more bytes s) (entry_enough p left end text a y b m.0))
  ]

  stage_needs : (g : Stage) → (between g a ≡ true → text ≡ [] → ⊥) → at_stage z p g (at text a y b) ≡ short q h → Needed (at_stage z p g) g (needed_at p g a text h)
  unfolding behind_code
  stage_needs stages.Header some e = plain (next_header p) stages.Header (lawful-next_header p) e (header_cut p text a y b q h e)
  stage_needs stages.Sections some e = between_needs stages.Sections refl (some refl) e
  stage_needs (stages.Code left end) some e = go (left == 0) refl e
    where
      here : (left == 0) ≡ true → nat_lt a end ≡ false → between (stages.Code left end) a ≡ true
      here none f = ap (λ (v : Bool). cond v (nat_le end a) false) none ∙ le-leb end a (ltb-false _ _ f)

      behind : (left == 0) ≡ true → (v : Bool) → nat_lt a end ≡ v → cond v (refuse_at {A = Next} Other a) (next_section z p) (at text a y b) ≡ short q h
          → Needed (cond v (refuse_at {A = Next} Other a) (next_section z p)) (stages.Code left end) (needed_of_section p a text h)
      behind none true f g = absurd cc
      behind none false f g = between_needs (stages.Code left end) (here none f) (some (here none f)) g

      go : (v : Bool) → (left == 0) ≡ v → cond v (behind_code z p end) (next_entry p left end) (at text a y b) ≡ short q h
          → Needed (cond v (behind_code z p end) (next_entry p left end)) (stages.Code left end) (cond v (needed_of_section p a text h) (needed_of_body end a text h))
      go true f g = behind f (nat_lt a end) refl g
      go false f g = entry_needs left end (positive left f) g
  stage_needs stages.Ended some e = absurd cc
  stage_needs stages.Failed some e = absurd cc

  pub step_needs : (between p.stage a ≡ true → text ≡ [] → ⊥) → step z p (at text a y b) ≡ short q h → Needed (step z p) p.stage (needed p a text h)
  unfolding step needed
  step_needs some e = stage_needs p.stage some e
