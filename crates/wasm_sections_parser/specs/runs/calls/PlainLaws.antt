-- What comes next does not depend on where the reader's data began.
use Rattle.std.proofs.Common.{◌≡◌, ℕ, zero, suc, ◌+◌, ◌-◌, ◌^◌, List, [], ◌∷◌, length, take, drop, refl, sym, ap, ◌∙◌, cond, Bool, true, false}
use Rattle.std.specs.Prelude.{nat_lt, ◌==◌, if◌then◌else◌}
use Rattle.wasm_types.specs.settings.Settings.{Settings}
use Rattle.wasm_types.specs.decoding.declared.Refusal.{Refusal}
use Rattle.wasm_types.specs.decoding.declared.Refusal.TheVariants.{Other}
use Rattle.wasm_types.specs.decoding.Decoder.{State, Outcome, Done, Short, Fault, Decoder, continue_with, ◌>>=◌, pure, refuse, first_of_rest, byte, bytes}
use Rattle.wasm_types.specs.decoding.ExactLaws.{value_is}
use Rattle.wasm_types.specs.decoding.Leb.{u32, unsigned}
use Rattle.wasm_types.specs.decoding.Lists.{refuse_at}
use Rattle.wasm_types.specs.decoding.Text.{name, text_of, counted_within, if_utf8, little_endian}
use Rattle.wasm_types.specs.reader.Parts.{part_at, next_part}
use Rattle.std.specs.Str.{is_utf8}
use Rattle.wasm_sections_items.specs.frames.Decode.{is_magic, header_of, header_after, magic_after, header}
use Rattle.wasm_sections_parser.specs.declared.progress.Stage.{Stage}
use Rattle.wasm_sections_parser.specs.declared.progress.Stage.TheVariants as stages
use Rattle.wasm_sections_parser.specs.declared.progress.Progress.{Progress}
use Rattle.wasm_sections_parser.specs.Steps.{
  version,
  entry,
  Next,
  begun,
  is_late,
  one_less,
  kept,
  number_before,
  found,
  in_part,
  is_announced,
  has_count,
  custom_next,
  section_next,
  announced,
  contents_next,
  contents,
  code_next,
  start_next,
  code_start,
  ordered,
  next_section,
  body,
  next_entry,
  behind_code,
  next_header,
  at_stage,
  step,
}

-- the same bytes, with another beginning
abbrev pub restart : ℕ → State → State
restart n s = record { rest = s.rest; place = s.place; settings = s.settings; start = n }

abbrev pub restarted : {A : Type 0} → ℕ → Outcome A → Outcome A
restarted n (Done x t) = Done x (restart n t)
restarted n (Short p h) = Short p h
restarted n (Fault k p) = Fault k p

abbrev pub IsPlain : {A : Type 0} → Decoder A → Type 0
IsPlain d = (n : ℕ) (s : State) → d (restart n s) ≡ restarted n (d s)

then_plain : {A B : Type 0} (f : A → Decoder B) → ((x : A) → IsPlain (f x)) → (n : ℕ) (o : Outcome A) → continue_with (restarted n o) f ≡ restarted n (continue_with o f)
then_plain f pf n (Done x t) = pf x n t
then_plain f pf n (Short p h) = refl
then_plain f pf n (Fault k p) = refl

plain->>= : {A B : Type 0} (d : Decoder A) (f : A → Decoder B) → IsPlain d → ((x : A) → IsPlain (f x)) → IsPlain (d >>= f)
plain->>= {A} d f pd pf n s = ap (λ (o : Outcome A). continue_with o f) (pd n s) ∙ then_plain f pf n (d s)

plain-pure : {A : Type 0} (x : A) → IsPlain (pure x)
plain-pure x n s = refl

plain-refuse : {A : Type 0} (k : Refusal) (back : ℕ) → IsPlain (refuse {A = A} k back)
plain-refuse k back n s = refl

plain-refuse_at : {A : Type 0} (k : Refusal) (place : ℕ) → IsPlain (refuse_at {A = A} k place)
plain-refuse_at k place n s = refl

plain-if : {A : Type 0} (b : Bool) (d e : Decoder A) → IsPlain d → IsPlain e → IsPlain (if b then d else e)
plain-if true d e pd pe = pd
plain-if false d e pd pe = pe

plain-byte : IsPlain byte
plain-byte n s = go s.rest
  where
    go : (rest : List ℕ) → first_of_rest rest (restart n s) ≡ restarted n (first_of_rest rest s)
    go [] = refl
    go (b ∷ rest) = refl

plain-bytes : (k : ℕ) → IsPlain (bytes k)
plain-bytes k n s = go (nat_lt (length s.rest) k)
  where
    go : (b : Bool) → cond b (Short s.place (k - length s.rest)) (Done (take k s.rest) (record { rest = drop k s.rest; place = s.place + k; settings = s.settings; start = n }))
        ≡ restarted n (cond b (Short s.place (k - length s.rest)) (Done (take k s.rest) (record { rest = drop k s.rest; place = s.place + k; settings = s.settings; start = s.start })))
    go true = refl
    go false = refl

plain-unsigned : (k r : ℕ) → IsPlain (unsigned k r)
unfolding unsigned
plain-unsigned zero r = plain->>= byte _ plain-byte (λ b. plain-if (nat_lt b (2 ^ r)) _ _ (plain-pure b) (plain-refuse Other 1))
plain-unsigned (suc k) r = plain->>= byte _ plain-byte (λ b. plain-if (nat_lt b 128) _ _ (plain-pure b) (plain->>= (unsigned k r) _ (plain-unsigned k r) (λ m. plain-pure _)))

plain-name : (limit : ℕ) → IsPlain (name limit)
unfolding counted_within text_of
plain-name limit = plain->>= u32 _ (plain-unsigned 4 4)
    (λ n. plain-if (nat_lt limit n) _ _ (plain-refuse Other 1)
    (plain->>= (bytes n) if_utf8 (plain-bytes n) (λ c. plain-if (is_utf8 c) _ _ (plain-pure c) (plain-refuse Other 1))))

plain-header : IsPlain header
unfolding header
plain-header = plain->>= (bytes 4) magic_after (plain-bytes 4) (λ m. plain-if (is_magic m) _ _
    (plain->>= (bytes 4) header_after (plain-bytes 4) (λ t. plain-if (nat_lt 1 (little_endian (drop 2 t))) _ _ (plain-refuse Other 4) (plain-pure (header_of t))))
    (plain-refuse Other 4))

plain-next_part : (k : ℕ) → IsPlain (next_part k)
plain-next_part k n s = ap (λ (o : Outcome (List ℕ)). continue_with o (λ text. pure (part_at s text))) (plain-bytes k n s)
    ∙ then_plain (λ text. pure (part_at s text)) (λ text. plain-pure (part_at s text)) n (bytes k s)

abbrev short : ℕ → ℕ → Outcome ℕ
short p h = Short p h

abbrev fault : Refusal → ℕ → Outcome ℕ
fault k p = Fault k p

plain-number_before : (end : ℕ) → IsPlain (number_before end)
unfolding number_before
plain-number_before end n s = ap (kept end s.place) (plain-unsigned 4 4 n s) ∙ go (u32 s)
  where
    go : (o : Outcome ℕ) → kept end s.place (restarted n o) ≡ restarted n (kept end s.place o)
    go (Done x t) = late (nat_lt end t.place)
      where
        late : (b : Bool) → cond b (Fault Other s.place) (Done x (restart n t)) ≡ restarted n (cond b (Fault Other s.place) (Done x t))
        late true = refl
        late false = refl
    go (Short p h) = late (nat_lt p end)
      where
        late : (b : Bool) → cond b (short p h) (Fault Other s.place) ≡ restarted n (cond b (short p h) (Fault Other s.place))
        late true = refl
        late false = refl
    go (Fault k p) = late (nat_lt p end)
      where
        late : (b : Bool) → cond b (fault k p) (Fault Other s.place) ≡ restarted n (cond b (fault k p) (Fault Other s.place))
        late true = refl
        late false = refl

plain-in_part : {A B : Type 0} (d : Decoder A) (f : A → List ℕ → B) (part : State) → IsPlain (in_part d f part)
unfolding in_part
plain-in_part {A} d f part n s = go (d part)
  where
    go : (o : Outcome A) → found f (restart n s) o ≡ restarted n (found f s o)
    go (Done x t) = refl
    go (Short p h) = refl
    go (Fault k p) = refl

-- ---- steps

plain-announced : (id : ℕ) (x : Next) → IsPlain (announced id x)
plain-announced id x = plain-if (is_announced id x.1) _ _ (plain-pure x) (plain-refuse Other 0)

module _ (z : Settings) (p : Progress) where
  plain-contents : (id k : ℕ) → IsPlain (contents z p id k)
  unfolding contents
  plain-contents id k = plain->>= (next_part k) (contents_next z p id) (plain-next_part k) (λ part.
      plain-if (id == 0) _ _ (plain-in_part (name z.limits.string_bytes) (custom_next p) part)
      (plain-if (has_count id) _ _ (plain->>= (in_part u32 (section_next p id part.rest) part) (announced id) (plain-in_part u32 (section_next p id part.rest) part) (plain-announced id))
      (plain-pure (section_next p id part.rest 0 []))))

  plain-code_start : (k : ℕ) → IsPlain (code_start p k)
  unfolding code_start
  plain-code_start k n s = plain-if (nat_lt s.place (2 ^ 64 - k)) _ _
      (plain->>= (number_before (s.place + k)) (start_next p k s.place) (plain-number_before (s.place + k))
      (λ m. plain-if (p.functions == m) _ _ (plain-pure (code_next p k (s.place + k) m)) (plain-refuse_at Other s.place))) (plain-refuse_at Other s.place) n s

  plain-next_section : IsPlain (next_section z p)
  unfolding next_section
  plain-next_section = plain->>= byte _ plain-byte (λ id. plain->>= u32 (ordered z p id) (plain-unsigned 4 4) (λ k.
      plain-if (is_late p id) _ _ (plain-refuse Other 0) (plain-if (id == 10) _ _ (plain-code_start k) (plain-contents id k))))

  plain-next_entry : (left end : ℕ) → IsPlain (next_entry p left end)
  unfolding next_entry
  plain-next_entry left end = plain->>= (number_before end) (body p left end) (plain-number_before end) (λ k n s.
      plain-if (nat_lt (end - s.place) k) _ _ (plain-refuse_at Other s.place) (plain->>= (bytes k) _ (plain-bytes k) (λ text. plain-pure (entry text, one_less p left end))) n s)

  plain-behind_code : (end : ℕ) → IsPlain (behind_code z p end)
  unfolding behind_code
  plain-behind_code end n s = plain-if (nat_lt s.place end) _ _ (plain-refuse_at Other s.place) plain-next_section n s

  plain-at_stage : (g : Stage) → IsPlain (at_stage z p g)
  unfolding next_header
  plain-at_stage stages.Header = plain->>= header _ plain-header (λ h. plain-pure (version h, begun p))
  plain-at_stage stages.Sections = plain-next_section
  plain-at_stage (stages.Code left end) = plain-if (left == 0) _ _ (plain-behind_code end) (plain-next_entry left end)
  plain-at_stage stages.Ended = plain-refuse Other 0
  plain-at_stage stages.Failed = plain-refuse Other 0

  pub plain-step : IsPlain (step z p)
  unfolding step
  plain-step = plain-at_stage p.stage

-- a step that succeeds from another beginning succeeds from this one
pub restart_done : (z : Settings) (p : Progress) (n : ℕ) (s t : State) (y : Next) → step z p (restart n s) ≡ Done y t → (u : State) × (step z p s ≡ Done y u)
restart_done z p n s t y e = go (step z p s) (sym (plain-step z p n s) ∙ e)
  where
    go : (o : Outcome Next) → restarted n o ≡ Done y t → (u : State) × (o ≡ Done y u)
    go (Done x u) f = (u, ap (λ (v : Next). Done v u) (value_is x y (restart n u) t f))
    go (Short a h) f = absurd cc
    go (Fault k a) f = absurd cc
