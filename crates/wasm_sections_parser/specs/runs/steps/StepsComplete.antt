-- Where a section is spelled, in order and with a readable count, that is what a parser gives next.
use Rattle.std.proofs.Common.{◌≡◌, ℕ, ◌+◌, ◌-◌, ◌<◌, ◌≤◌, ◌^◌, List, ◌∷◌, ◌++◌, length, refl, sym, ap, ◌∙◌, subst, append_assoc, arith, cond, Bool, true, false}
use Rattle.std.specs.Prelude.{nat_lt, ◌==◌}
use Rattle.std.proofs.lemmas.Bool.{eqb-true, eq-eqb, le-ltb, lt-ltb, false_from_ne_true}
use Rattle.std.proofs.lemmas.List.{length-append}
use Rattle.wasm_types.specs.settings.Settings.{Settings}
use Rattle.wasm_types.specs.decoding.declared.Refusal.TheVariants.{Other}
use Rattle.wasm_types.specs.decoding.Decoder.{State, Outcome, Done, Fault, ◌>>=◌, continue_with, pure, first_of_rest, bytes, Takes}
use Rattle.wasm_types.specs.decoding.ExactLaws.{decides-bytes}
use Rattle.wasm_types.specs.decoding.Leb.{u32, IsUnsigned}
use Rattle.wasm_types.specs.decoding.LebLaws.{decides-u32}
use Rattle.wasm_types.specs.decoding.Lists.{refuse_at}
use Rattle.wasm_types.specs.decoding.Text.{name}
use Rattle.wasm_types.specs.decoding.TextLaws.{decides-name}
use Rattle.wasm_types.specs.reader.Parts.{part_at}
use Rattle.wasm_sections_items.specs.frames.Outer as outer
use Rattle.wasm_sections_items.specs.frames.Outer.{SpelledPart, SpelledEntry, Counts}
use Rattle.wasm_sections_parser.specs.declared.progress.Stage.{Stage}
use Rattle.wasm_sections_parser.specs.declared.progress.Stage.TheVariants as stages
use Rattle.wasm_sections_parser.specs.declared.progress.Progress.{Progress}
use Rattle.wasm_sections_parser.specs.Steps.{
  custom,
  section,
  code,
  entry,
  counted,
  in_code,
  one_less,
  is_late,
  found,
  in_part,
  Next,
  has_count,
  custom_next,
  section_next,
  is_announced,
  announced,
  contents_next,
  contents,
  start_next,
  code_start,
  number_before,
  kept,
  body,
  behind_code,
  next_entry,
  ordered,
  next_section,
  at_stage,
  step,
}
use Rattle.wasm_sections_parser.specs.runs.steps.AnnouncedLaws.{announced_so}

abbrev given : Next → State → Outcome Next
given y t = Done y t

-- ---- behind an id and a size

module _ (z : Settings) (p : Progress) (s t : State) (i n : ℕ) (size content : List ℕ) (taken : Takes s (i ∷ (size ++ content)) t) (sized : IsUnsigned 32 n size) where
  abbrev behind_id : State
  behind_id = record { rest = (size ++ content) ++ t.rest; place = s.place + 1; settings = s.settings; start = s.start }

  abbrev behind_size : State
  behind_size = record { rest = content ++ t.rest; place = s.place + 1 + length size; settings = s.settings; start = s.start }

  size_read : u32 behind_id ≡ Done n behind_size
  size_read = decides-u32.complete behind_id behind_size n size (record { parts = append_assoc size content t.rest; place = refl; settings = refl; start = refl }) sized

  to_order : next_section z p s ≡ ordered z p i n behind_size
  unfolding next_section
  to_order = ap (λ (r : List ℕ). continue_with (first_of_rest r s) (λ id. u32 >>= ordered z p id)) taken.parts ∙ ap (λ (o : Outcome ℕ). continue_with o (ordered z p i)) size_read

  content_taken : Takes behind_size content t
  content_taken = record { parts = refl; place = omega (arith, taken.place, length-append size content); settings = taken.settings; start = taken.start }

  in_time : is_late p i ≡ false → ordered z p i n behind_size ≡ cond (i == 10) (code_start p n) (contents z p i n) behind_size
  in_time late = rw late refl

  -- a whole section
  to_contents : is_late p i ≡ false → (i == 10) ≡ false → n ≡ length content → next_section z p s ≡ contents_next z p i (part_at behind_size content) t
  unfolding contents
  to_contents late ten long =
      let read : bytes n behind_size ≡ Done content t = (decides-bytes n).complete behind_size t content content content_taken (sym long, refl) in
      to_order ∙ in_time late ∙ ap (λ (b : Bool). cond b (code_start p n) (contents z p i n) behind_size) ten
      ∙ ap (λ (o : Outcome (List ℕ)). continue_with (continue_with o (λ text. pure (part_at behind_size text))) (contents_next z p i)) read

-- ---- whole sections

module _ (z : Settings) (p : Progress) (s t : State) where
  pub custom_next_is : (n c text : List ℕ) → Takes s text t → SpelledPart z (outer.custom n c) text → next_section z p s ≡ given (custom n c, counted p 0 0) t
  unfolding in_part
  custom_next_is n c text taken h =
      let size : List ℕ = h.2.size in
      let content : List ℕ = h.2.content in
      let here : Takes s (0 ∷ (size ++ content)) t = subst (λ (x : List ℕ). Takes s x t) (h.1 ∙ ap (λ (x : List ℕ). 0 ∷ x) h.2.whole) taken in
      let part : State = part_at (behind_size z p s t 0 (length content) size content here h.2.counted) content in
      let rest : State = record { rest = c; place = part.place + length h.2.spelled.name_text; settings = part.settings; start = part.start } in
      let read : name z.limits.string_bytes part ≡ Done n rest =
      (decides-name z.limits.string_bytes).complete part rest n h.2.spelled.name_text
      (record { parts = h.2.spelled.whole; place = refl; settings = refl; start = refl }) h.2.spelled.named in
      to_contents z p s t 0 (length content) size content here h.2.counted refl refl refl ∙ ap (found (custom_next p) t) read

  section_next_is : (id : ℕ) (c : List ℕ) (part : State) → part.rest ≡ c → (has_count id ≡ true → (k : ℕ) × Counts k c)
      → ((k : ℕ) → (has_count id ≡ true → Counts k c) → is_announced id (counted p id k) ≡ true) → (id == 0) ≡ false → (k : ℕ) × (has_count id ≡ true → Counts k c)
      × (contents_next z p id part t ≡ given (section id c, counted p id k) t)
  unfolding in_part
  section_next_is id c part e h agreed nought = go (has_count id) refl
    where
      text_is : (x : ℕ) → given (section id part.rest, counted p id x) t ≡ given (section id c, counted p id x) t
      text_is x = ap (λ (y : List ℕ). given (section id y, counted p id x) t) e

      go : (b : Bool) → has_count id ≡ b → (k : ℕ) × (has_count id ≡ true → Counts k c) × (contents_next z p id part t ≡ given (section id c, counted p id k) t)
      go false f = (0, (λ g. absurd cc), rw (nought, f) (text_is 0))
      go true f =
          let n = h f in
          let rest : State = record { rest = n.1.items; place = part.place + length n.1.count; settings = part.settings; start = part.start } in
          let read : u32 part ≡ Done n.0 rest = decides-u32.complete part rest n.0 n.1.count (record { parts = e ∙ n.1.whole; place = refl; settings = refl; start = refl }) n.1.counted in
          let said = announced_so id (section_next p id part.rest n.0 rest.rest) t (agreed n.0 (λ g. n.1)) in
          (n.0, (λ g. n.1), rw (nought, f) (ap (λ (o : Outcome ℕ). continue_with (found (section_next p id part.rest) t o) (announced id)) read ∙ said ∙ text_is n.0))

  pub section_next_at : (id : ℕ) (c text : List ℕ) → Takes s text t → SpelledPart z (outer.section id c) text
      → is_late p id ≡ false → (has_count id ≡ true → (k : ℕ) × Counts k c)
      → ((k : ℕ) → (has_count id ≡ true → Counts k c) → is_announced id (counted p id k) ≡ true) → (k : ℕ) × (has_count id ≡ true → Counts k c) × (next_section z p s ≡ given (section id c, counted p id k) t)
  section_next_at id c text taken h late count agreed =
      let sized = h.2.2 in
      let here : Takes s (id ∷ (sized.size ++ sized.content)) t = subst (λ (x : List ℕ). Takes s x t) (h.2.1 ∙ ap (λ (x : List ℕ). id ∷ x) sized.whole) taken in
      let part : State = part_at (behind_size z p s t id (length sized.content) sized.size sized.content here sized.counted) sized.content in
      let nought : (id == 0) ≡ false = false_from_ne_true (id == 0) (λ e. h.0 (eqb-true _ _ e)) in
      let ten : (id == 10) ≡ false = false_from_ne_true (id == 10) (λ e. h.1 (eqb-true _ _ e)) in
      let v = section_next_is id c part (sym sized.spelled) count agreed nought in
      (v.0, v.1, to_contents z p s t id (length sized.content) sized.size sized.content here sized.counted late ten refl ∙ v.2)

  -- the start of the code section
  pub start_next_is : (n k : ℕ) (size count : List ℕ) → Takes s (outer.code_id ∷ (size ++ count)) t → IsUnsigned 32 k size
      → IsUnsigned 32 n count → length count ≤ k → s.place + 1 + length size + k < 2 ^ 64 → is_late p outer.code_id ≡ false → p.functions ≡ n
      → next_section z p s ≡ given (code n k, in_code p n (s.place + 1 + length size + k)) t
  unfolding code_start number_before
  start_next_is n k size count taken sized counts inside room late agreed =
      let w : State = behind_size z p s t outer.code_id k size count taken sized in
      let read : u32 w ≡ Done n t = decides-u32.complete w t n count (content_taken z p s t outer.code_id k size count taken sized) counts in
      let fits : nat_lt (w.place + k) t.place ≡ false = le-ltb (w.place + k) t.place (omega (arith, taken.place, length-append size count, inside)) in
      let low : nat_lt w.place (2 ^ 64 - k) ≡ true = lt-ltb w.place (2 ^ 64 - k) (omega (arith, room)) in
      to_order z p s t outer.code_id k size count taken sized ∙ in_time z p s t outer.code_id k size count taken sized late
      ∙ rw low (ap (λ (o : Outcome ℕ). continue_with (kept (w.place + k) w.place o) (start_next p k w.place)) read ∙ rw (fits, eq-eqb p.functions n agreed) refl)

-- ---- bodies

module _ (z : Settings) (end : ℕ) where
  entry_next_is : (p : Progress) (left : ℕ) (s t : State) (c text : List ℕ) → Takes s text t → SpelledEntry c text → t.place ≤ end → next_entry p left end s ≡ given (entry c, one_less p left end) t
  unfolding next_entry number_before
  entry_next_is p left s t c text taken h le =
      let w : State = record { rest = h.content ++ t.rest; place = s.place + length h.size; settings = s.settings; start = s.start } in
      let read : u32 s ≡ Done (length h.content) w =
      decides-u32.complete s w (length h.content) h.size
      (record {
        parts = taken.parts ∙ ap (λ (x : List ℕ). x ++ t.rest) h.whole ∙ append_assoc h.size h.content t.rest;
        place =
            refl;
        settings = refl;
        start = refl;
      }) h.counted in
      let long : length text ≡ length h.size + length h.content = ap length h.whole ∙ length-append h.size h.content in
      let there : Takes w h.content t = record { parts = refl; place = omega (arith, taken.place, long); settings = taken.settings; start = taken.start } in
      let all : bytes (length h.content) w ≡ Done c t = (decides-bytes (length h.content)).complete w t c h.content there (ap length h.spelled, sym h.spelled) in
      let fits : nat_lt end w.place ≡ false = le-ltb end w.place (omega (arith, taken.place, long, le)) in
      let inside : nat_lt (end - w.place) (length h.content) ≡ false = le-ltb (end - w.place) (length h.content) (omega (arith, taken.place, long, le)) in
      ap (λ (o : Outcome ℕ). continue_with (kept end s.place o) (body p left end)) read
      ∙ ap (λ (b : Bool). continue_with (cond b (Fault Other s.place) (Done (length h.content) w)) (body p left end)) fits
      ∙ ap (λ (b : Bool). cond b (refuse_at {A = Next} Other w.place) (bytes (length h.content) >>= λ x. pure (entry x, one_less p left end)) w) inside
      ∙ ap (λ (o : Outcome (List ℕ)). continue_with o (λ x. pure (entry x, one_less p left end))) all

  -- one body of those left
  pub entry_step : (p : Progress) (left : ℕ) (s t : State) (c text : List ℕ) → p.stage ≡ stages.Code left end → 0 < left
      → Takes s text t → SpelledEntry c text → t.place ≤ end → step z p s ≡ given (entry c, one_less p left end) t
  unfolding step
  entry_step p left s t c text g some taken h le =
      let more : (left == 0) ≡ false = false_from_ne_true (left == 0) (λ e. omega (arith, eqb-true _ _ e, some)) in
      ap (λ (v : Stage). at_stage z p v s) g ∙ ap (λ (b : Bool). cond b (behind_code z p end) (next_entry p left end) s) more ∙ entry_next_is p left s t c text taken h le
