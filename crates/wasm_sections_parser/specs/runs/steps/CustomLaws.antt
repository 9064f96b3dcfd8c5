-- Each custom section that a parser gives is spelled by exactly the bytes that it took.
use Rattle.std.proofs.Common.{◌≡◌, ℕ, ◌+◌, ◌^◌, List, [], ◌∷◌, ◌++◌, length, refl, sym, ap, ◌∙◌, subst, cond, Bool, true, false}
use Rattle.std.specs.Prelude.{nat_lt, ◌-◌, ◌==◌}
use Rattle.std.proofs.lemmas.Bool.{eqb-true}
use Rattle.wasm_types.specs.settings.Settings.{Settings}
use Rattle.wasm_types.specs.decoding.declared.Refusal.TheVariants.{Other}
use Rattle.wasm_types.specs.decoding.Decoder.{State, Outcome, Done, Short, Fault, ◌>>=◌, pure, refuse, byte, first_of_rest, bytes, Takes}
use Rattle.wasm_types.specs.decoding.Laws.{Takes-then}
use Rattle.wasm_types.specs.decoding.ExactLaws.{value_is, state_is, done_then, decides-bytes}
use Rattle.wasm_types.specs.decoding.Leb.{u32, IsUnsigned}
use Rattle.wasm_types.specs.decoding.LebLaws.{decides-u32}
use Rattle.wasm_types.specs.decoding.Lists.{refuse_at}
use Rattle.wasm_types.specs.decoding.Text.{name}
use Rattle.wasm_types.specs.decoding.TextLaws.{decides-name}
use Rattle.wasm_types.specs.reader.Parts.{part_at, next_part}
use Rattle.wasm_sections_items.specs.frames.Outer as outer
use Rattle.wasm_sections_items.specs.frames.Outer.{SpelledPart}
use Rattle.wasm_sections_parser.specs.declared.progress.Progress.{Progress}
use Rattle.wasm_sections_parser.specs.Steps.{
  Shape,
  version,
  custom,
  section,
  code,
  entry,
  the_end,
  is_late,
  found,
  in_part,
  Next,
  has_count,
  custom_next,
  section_next,
  counted_next,
  contents_next,
  contents,
  code_next,
  start_next,
  code_start,
  number_before,
  ordered,
  next_section,
}
use Rattle.wasm_sections_parser.specs.runs.steps.AnnouncedLaws.{counted_done, start_done}

abbrev given : Shape → Progress → State → Outcome Next
given x q t = Done (x, q) t

abbrev name_in : Shape → List ℕ
name_in (custom n c) = n
name_in (version h) = []
name_in (section i c) = []
name_in (code n k) = []
name_in (entry c) = []
name_in the_end = []

abbrev rest_in : Shape → List ℕ
rest_in (custom n c) = c
rest_in (version h) = []
rest_in (section i c) = []
rest_in (code n k) = []
rest_in (entry c) = []
rest_in the_end = []

abbrev is_custom : Shape → Bool
is_custom (custom n c) = true
is_custom (version h) = false
is_custom (section i c) = false
is_custom (code n k) = false
is_custom (entry c) = false
is_custom the_end = false

-- the byte that was read is the one that was taken
pub byte_takes : (s t : State) (i : ℕ) → byte s ≡ Done i t → Takes s (i ∷ []) t
byte_takes s t i e = go s.rest refl e
  where
    go : (text : List ℕ) → s.rest ≡ text → first_of_rest text s ≡ Done i t → Takes s (i ∷ []) t
    go [] r f = absurd cc
    go (b ∷ rest) r f =
        let v : b ≡ i = value_is b i _ t f in
        let state = state_is b i _ t f in
        record {
          parts = r ∙ (λ k. v k ∷ (ap (λ (u : State). u.rest) state) k);
          place = sym (ap (λ (u : State). u.place) state);
          settings = sym (ap (λ (u : State). u.settings) state);
          start = sym (ap (λ (u : State). u.start) state);
        }

module _ (z : Settings) (p q : Progress) (s t : State) (n c : List ℕ) where
  no_section : (i : ℕ) (x : List ℕ) (u : State) (k : ℕ) (rest : List ℕ) → Done (section_next p i x k rest) u ≡ given (custom n c) q t → ⊥
  no_section i x u k rest e = let v = ap (λ (y : Next). is_custom y.0) (value_is _ _ u t e) in cc

  named : (u : State) (o : Outcome (List ℕ)) → found (custom_next p) u o ≡ given (custom n c) q t → (w : State) × (o ≡ Done n w) × (w.rest ≡ c) × (u ≡ t)
  named u (Done m w) e =
      let v = value_is (custom_next p m w.rest) (custom n c, q) u t e in
      (w, (λ k. Done ((ap (λ (y : Next). name_in y.0) v) k) w), ap (λ (y : Next). rest_in y.0) v, state_is (custom_next p m w.rest) (custom n c, q) u t e)
  named u (Short a h) e = absurd cc
  named u (Fault k a) e = absurd cc

  contents_named : (i : ℕ) (r u : State) → contents_next z p i r u ≡ given (custom n c) q t → (i ≡ 0) × ((w : State) × (name z.limits.string_bytes r ≡ Done n w) × (w.rest ≡ c) × (u ≡ t))
  unfolding in_part
  contents_named i r u e = go (i == 0) refl e
    where
      counts : (b : Bool) → cond b (counted_next p i r) (pure (section_next p i r.rest 0 [])) u ≡ given (custom n c) q t → ⊥
      counts true f = let d = counted_done p i r u t (custom n c, q) f in no_section i r.rest u d.0 d.1.rest d.3
      counts false f = no_section i r.rest u 0 [] f

      go : (b : Bool) → (i == 0) ≡ b → cond b (in_part (name z.limits.string_bytes) (custom_next p) r)
          (cond (has_count i) (counted_next p i r) (pure (section_next p i r.rest 0 []))) u ≡ given
          (custom n c) q t → (i ≡ 0) × ((w : State) × (name z.limits.string_bytes r ≡ Done n w) × (w.rest ≡ c) × (u ≡ t))
      go true k f = (eqb-true _ _ k, named u (name z.limits.string_bytes r) f)
      go false k f = absurd (counts (has_count i) f)

  no_code : (k : ℕ) (u : State) → code_start p k u ≡ given (custom n c) q t → ⊥
  unfolding code_start
  no_code k u e = go (nat_lt u.place (2 ^ 64 - k)) e
    where
      go : (b : Bool) → cond b (number_before (u.place + k) >>= start_next p k u.place) (refuse_at Other u.place) u ≡ given (custom n c) q t → ⊥
      go true f =
          let m = done_then (number_before (u.place + k) u) (start_next p k u.place) (custom n c, q) t f in
          let d = start_done p k u.place m.0 m.1 t (custom n c, q) m.3 in
          let v = ap (λ (y : Next). is_custom y.0) (value_is (code_next p k (u.place + k) m.0) (custom n c, q) m.1 t d.1) in
          cc
      go false f = cc

  ordered_contents : (i k : ℕ) (w : State) → ordered z p i k w ≡ given (custom n c) q t → contents z p i k w ≡ given (custom n c) q t
  ordered_contents i k w e = late (is_late p i) e
    where
      ten : (b : Bool) → cond b (code_start p k) (contents z p i k) w ≡ given (custom n c) q t → contents z p i k w ≡ given (custom n c) q t
      ten true f = absurd (no_code k w f)
      ten false f = f

      late : (b : Bool) → cond b (refuse Other 0) (cond (i == 10) (code_start p k) (contents z p i k)) w ≡ given (custom n c) q t → contents z p i k w ≡ given (custom n c) q t
      late true f = absurd cc
      late false f = ten (i == 10) f

  pub custom_spelled : next_section z p s ≡ Done (custom n c, q) t → (text : List ℕ) × Takes s text t × SpelledPart z (outer.custom n c) text
  unfolding next_section contents
  custom_spelled e =
      let m = done_then (byte s) (λ i. u32 >>= ordered z p i) (custom n c, q) t e in
      let k = done_then (u32 m.1) (ordered z p m.0) (custom n c, q) t m.3 in
      let r = done_then (next_part k.0 k.1) (contents_next z p m.0) (custom n c, q) t (ordered_contents m.0 k.0 k.1 k.3) in
      let b = done_then (bytes k.0 k.1) (λ text. pure (part_at k.1 text)) r.0 r.1 r.2 in
      let v = contents_named m.0 r.0 r.1 r.3 in
      let size = decides-u32.sound m.1 k.1 k.0 k.2 in
      let text = (decides-bytes k.0).sound k.1 b.1 b.0 b.2 in
      let there : part_at k.1 b.0 ≡ r.0 = value_is (part_at k.1 b.0) r.0 b.1 r.1 b.3 in
      let behind : b.1 ≡ t = state_is (part_at k.1 b.0) r.0 b.1 r.1 b.3 ∙ v.1.3 in
      let front = (decides-name z.limits.string_bytes).sound r.0 v.1.0 n v.1.1 in
      let first = subst (λ (i : ℕ). Takes s (i ∷ []) m.1) v.0 (byte_takes s m.1 m.0 m.2) in
      let last = subst (λ (u : State). Takes k.1 text.0 u) behind text.1 in
      let parts : text.0 ≡ front.0 ++ c = text.2.1 ∙ ap (λ (u : State). u.rest) there ∙ front.1.parts ∙ ap (λ (y : List ℕ). front.0 ++ y) v.1.2 in
      let count : IsUnsigned 32 (length text.0) size.0 = subst (λ (y : ℕ). IsUnsigned 32 y size.0) (sym (ap length text.2.1 ∙ text.2.0)) size.2 in (
        0 ∷ (size.0 ++ text.0),
        Takes-then s m.1 t (0 ∷ []) (size.0 ++ text.0) first (Takes-then m.1 k.1 t size.0 text.0 size.1 last),
        (size.0 ++ text.0, refl, record { size = size.0; content = text.0; counted = count; spelled = record { name_text = front.0; named = front.2; whole = parts }; whole = refl }),
      )
