-- The header and each whole section that a parser gives is spelled by exactly the bytes that it took.
use Rattle.std.proofs.Common.{◌≡◌, ℕ, ◌+◌, ◌^◌, List, [], refl, ap, ◌∙◌, cond, Bool, true, false}
use Rattle.std.specs.Prelude.{nat_lt, ◌-◌, ◌==◌}
use Rattle.wasm_types.specs.settings.Settings.{Settings}
use Rattle.wasm_types.specs.decoding.declared.Refusal.TheVariants.{Other}
use Rattle.wasm_types.specs.decoding.Decoder.{State, Outcome, Done, Short, Fault, ◌>>=◌, pure, refuse, byte, bytes, Takes}
use Rattle.wasm_types.specs.decoding.ExactLaws.{value_is, state_is, done_then}
use Rattle.wasm_types.specs.decoding.Leb.{u32}
use Rattle.wasm_types.specs.decoding.Lists.{refuse_at}
use Rattle.wasm_types.specs.decoding.Text.{name}
use Rattle.wasm_types.specs.reader.Parts.{part_at, next_part}
use Rattle.wasm_sections_items.specs.frames.Outer as outer
use Rattle.wasm_sections_items.specs.frames.Outer.{Header, Part, SpelledHeader, SpelledPart}
use Rattle.wasm_sections_items.specs.frames.Decode.{header, counted_bytes, part_after, part}
use Rattle.wasm_sections_items.specs.frames.PartLaws.{decides-header, decides-part}
use Rattle.wasm_sections_parser.specs.declared.progress.Progress.{Progress}
use Rattle.wasm_sections_parser.specs.Steps.{
  Shape,
  version,
  custom,
  section,
  code,
  entry,
  the_end,
  begun,
  counted,
  is_late,
  found,
  in_part,
  Next,
  has_count,
  custom_next,
  section_next,
  counted_next,
  contents_next,
  contents,
  code_next,
  start_next,
  code_start,
  number_before,
  ordered,
  next_section,
  next_header,
}
use Rattle.wasm_sections_parser.specs.runs.steps.AnnouncedLaws.{counted_done, start_done}

abbrev given : Shape → Progress → State → Outcome Next
given x q t = Done (x, q) t

-- what a shape is, if it is a header or a section
abbrev id_in : Shape → ℕ
id_in (section id c) = id
id_in (version h) = 0
id_in (custom n c) = 0
id_in (code n k) = 0
id_in (entry c) = 0
id_in the_end = 0

abbrev bytes_in : Shape → List ℕ
bytes_in (section id c) = c
bytes_in (version h) = []
bytes_in (custom n c) = []
bytes_in (code n k) = []
bytes_in (entry c) = []
bytes_in the_end = []

abbrev header_in : Header → Shape → Header
header_in other (version h) = h
header_in other (section id c) = other
header_in other (custom n c) = other
header_in other (code n k) = other
header_in other (entry c) = other
header_in other the_end = other

-- ---- the header

header_read : (p q : Progress) (s t : State) (h : Header) → next_header p s ≡ Done (version h, q) t → header s ≡ Done h t
unfolding next_header
header_read p q s t h e =
    let m = done_then (header s) (λ k. pure (version k, begun p)) (version h, q) t e in
    let value : m.0 ≡ h = ap (λ (v : Next). header_in h v.0) (value_is (version m.0, begun p) (version h, q) m.1 t m.3) in
    let state : m.1 ≡ t = state_is (version m.0, begun p) (version h, q) m.1 t m.3 in
    m.2 ∙ (λ i. Done (value i) (state i))

pub header_spelled : (p q : Progress) (s t : State) (h : Header) → next_header p s ≡ Done (version h, q) t → (text : List ℕ) × Takes s text t × SpelledHeader h text
header_spelled p q s t h e = decides-header.sound s t h (header_read p q s t h e)

-- ---- sections

module _ (z : Settings) (p q : Progress) (s t : State) (id : ℕ) (c : List ℕ) where
  abbrev whole : ℕ → List ℕ → Part
  whole i x = outer.section i x

  -- what is read of the contents, and where
  same_value : (i : ℕ) (x : List ℕ) (r : Progress) (u : State) → given (section i x) r u ≡ given (section id c) q t → (i ≡ id) × (x ≡ c) × (u ≡ t)
  same_value i x r u e =
      let v : (section i x, r) ≡ (section id c, q) = value_is (section i x, r) (section id c, q) u t e in
      (ap (λ (k : Next). id_in k.0) v, ap (λ (k : Next). bytes_in k.0) v, state_is (section i x, r) (section id c, q) u t e)

  no_custom : (u : State) (o : Outcome (List ℕ)) → found (custom_next p) u o ≡ given (section id c) q t → ⊥
  no_custom u (Done n w) e = let v = ap (λ (k : Next). is_custom k.0) (value_is _ _ u t e) in cc
    where
      is_custom : Shape → Bool
      is_custom (custom n c) = true
      is_custom (version h) = false
      is_custom (section i c) = false
      is_custom (code n k) = false
      is_custom (entry c) = false
      is_custom the_end = false
  no_custom u (Short a h) e = cc
  no_custom u (Fault k a) e = cc

  contents_value : (i : ℕ) (r u : State) → contents_next z p i r u ≡ given (section id c) q t → ((i == 0) ≡ false) × (i ≡ id) × (r.rest ≡ c) × (u ≡ t)
  unfolding in_part
  contents_value i r u e = go (i == 0) refl e
    where
      counts : (b : Bool) → cond b (counted_next p i r) (pure (section_next p i r.rest 0 [])) u ≡ given (section id c) q t → (i ≡ id) × (r.rest ≡ c) × (u ≡ t)
      counts true f = let d = counted_done p i r u t (section id c, q) f in same_value i r.rest (counted p i d.0) u d.3
      counts false f = same_value i r.rest _ u f

      go : (b : Bool) → (i == 0) ≡ b → cond b (in_part (name z.limits.string_bytes) (custom_next p) r)
          (cond (has_count i) (counted_next p i r) (pure (section_next p i r.rest 0 []))) u ≡ given
          (section id c) q t → ((i == 0) ≡ false) × (i ≡ id) × (r.rest ≡ c) × (u ≡ t)
      go true k f = absurd (no_custom u (name z.limits.string_bytes r) f)
      go false k f = inner (has_count i) f
        where
          inner : (b : Bool) → cond b (counted_next p i r) (pure (section_next p i r.rest 0 [])) u ≡ given
              (section id c) q t → ((i == 0) ≡ false) × (i ≡ id) × (r.rest ≡ c) × (u ≡ t)
          inner true f' = let v = counts true f' in (k, v.0, v.1, v.2)
          inner false f' = let v = counts false f' in (k, v.0, v.1, v.2)

  no_code : (n : ℕ) (u : State) → code_start p n u ≡ given (section id c) q t → ⊥
  unfolding code_start
  no_code n u e = go (nat_lt u.place (2 ^ 64 - n)) e
    where
      is_code : Shape → Bool
      is_code (code n k) = true
      is_code (custom n c) = false
      is_code (version h) = false
      is_code (section i c) = false
      is_code (entry c) = false
      is_code the_end = false

      go : (b : Bool) → cond b (number_before (u.place + n) >>= start_next p n u.place) (refuse_at Other u.place) u ≡ given (section id c) q t → ⊥
      go true f =
          let m = done_then (number_before (u.place + n) u) (start_next p n u.place) (section id c, q) t f in
          let d = start_done p n u.place m.0 m.1 t (section id c, q) m.3 in
          let v = ap (λ (k : Next). is_code k.0) (value_is (code_next p n (u.place + n) m.0) (section id c, q) m.1 t d.1) in
          cc
      go false f = cc

  -- a section as `part` reads it, behind its id and size
  abbrev read_so : ℕ → State → Type 0
  read_so i u = part_after z i u ≡ Done (whole id c) t

  ordered_value : (i n : ℕ) (u w : State) → u32 u ≡ Done n w → ordered z p i n w ≡ given (section id c) q t → read_so i u
  unfolding contents counted_bytes
  ordered_value i n u w size e = late (is_late p i) e
    where
      there : (i == 10) ≡ false → contents z p i n w ≡ given (section id c) q t → read_so i u
      there ten f =
          let m = done_then (next_part n w) (contents_next z p i) (section id c, q) t f in
          let b = done_then (bytes n w) (λ text. pure (part_at w text)) m.0 m.1 m.2 in
          let v = contents_value i m.0 m.1 m.3 in
          let text : b.0 ≡ m.0.rest = ap (λ (r : State). r.rest) (value_is (part_at w b.0) m.0 b.1 m.1 b.3) in
          let state : b.1 ≡ t = state_is (part_at w b.0) m.0 b.1 m.1 b.3 ∙ v.3 in
          rw (v.0, ten, size, b.2) (λ k. Done (whole (v.1 k) ((text ∙ v.2) k)) (state k))

      ten : (b : Bool) → (i == 10) ≡ b → cond b (code_start p n) (contents z p i n) w ≡ given (section id c) q t → read_so i u
      ten true k f = absurd (no_code n w f)
      ten false k f = there k f

      late : (b : Bool) → cond b (refuse Other 0) (cond (i == 10) (code_start p n) (contents z p i n)) w ≡ given (section id c) q t → read_so i u
      late true f = absurd cc
      late false f = ten (i == 10) refl f

  section_read : next_section z p s ≡ given (section id c) q t → part z s ≡ Done (whole id c) t
  unfolding next_section part
  section_read e =
      let m = done_then (byte s) (λ i. u32 >>= ordered z p i) (section id c, q) t e in
      let n = done_then (u32 m.1) (ordered z p m.0) (section id c, q) t m.3 in
      rw m.2 (ordered_value m.0 n.0 m.1 n.1 n.2 n.3)

pub section_spelled : (z : Settings) (p q : Progress) (s t : State) (id : ℕ) (c : List ℕ)
    → next_section z p s ≡ Done (section id c, q) t → (text : List ℕ) × Takes s text t × SpelledPart z (outer.section id c) text
section_spelled z p q s t id c e = (decides-part z).sound s t (outer.section id c) (section_read z p q s t id c e)
