-- What `next_section` gives, by what it is: the section and what is remembered.
use Rattle.std.proofs.Common.{◌≡◌, ℕ, ◌+◌, ◌≤◌, ◌^◌, List, [], ◌∷◌, ◌++◌, length, refl, sym, ap, ◌∙◌, subst, arith, cond, Bool, true, false}
use Rattle.std.specs.Prelude.{nat_lt, ◌-◌, ◌==◌}
use Rattle.std.proofs.lemmas.Bool.{eqb-true}
use Rattle.wasm_types.specs.settings.Settings.{Settings}
use Rattle.wasm_types.specs.decoding.declared.Refusal.TheVariants.{Other}
use Rattle.wasm_types.specs.decoding.Decoder.{State, Outcome, Done, Short, Fault, ◌>>=◌, pure, refuse, byte, Takes}
use Rattle.wasm_types.specs.decoding.Laws.{Takes-then}
use Rattle.wasm_types.specs.decoding.ExactLaws.{value_is, state_is, done_then}
use Rattle.wasm_types.specs.decoding.Leb.{u32, IsUnsigned}
use Rattle.wasm_types.specs.decoding.LebLaws.{decides-u32}
use Rattle.wasm_types.specs.decoding.Lists.{refuse_at}
use Rattle.wasm_types.specs.decoding.Text.{name}
use Rattle.wasm_types.specs.reader.Parts.{next_part}
use Rattle.wasm_sections_items.specs.frames.Outer as outer
use Rattle.wasm_sections_items.specs.frames.Outer.{SpelledPart, Counts}
use Rattle.wasm_sections_parser.specs.declared.progress.Progress.{Progress}
use Rattle.wasm_sections_parser.specs.Steps.{
  Shape,
  version,
  custom,
  section,
  code,
  entry,
  the_end,
  counted,
  in_code,
  is_late,
  found,
  in_part,
  Next,
  has_count,
  is_announced,
  custom_next,
  section_next,
  counted_next,
  contents_next,
  contents,
  code_next,
  start_next,
  code_start,
  number_before,
  kept,
  ordered,
  next_section,
}
use Rattle.wasm_sections_parser.specs.runs.steps.AnnouncedLaws.{counted_done, none_announced, start_done}
use Rattle.wasm_sections_parser.specs.runs.steps.SpelledLaws.{section_spelled}
use Rattle.wasm_sections_parser.specs.runs.steps.CustomLaws.{byte_takes, custom_spelled}
use Rattle.wasm_sections_parser.specs.runs.steps.BodyLaws.{kept_done}

-- the start of a code section of n bodies and k bytes, which ends there
pub record Start (p : Progress) (s : State) (n k : ℕ) (q : Progress) (t : State) : Type 0 where
  pub size : List ℕ
  pub count : List ℕ
  pub end : ℕ
  pub sized : IsUnsigned 32 k size
  pub counted : IsUnsigned 32 n count
  pub taken : Takes s (outer.code_id ∷ (size ++ count)) t
  pub ends : end ≡ s.place + 1 + length size + k
  pub inside : t.place ≤ end
  pub agreed : p.functions ≡ n
  pub noted : q ≡ in_code p n end

abbrev pub Given : Settings → Progress → State → Shape → Progress → State → Type 0
Given z p s (version h) q t = ⊥
Given z p s (custom n c) q t = (q ≡ counted p 0 0) × ((text : List ℕ) × Takes s text t × SpelledPart z (outer.custom n c) text)
Given z p s (section id c) q t = (is_late p id ≡ false) × ((k : ℕ) × (has_count id ≡ true → Counts k c) × (q ≡ counted p id k) × (is_announced id (counted p id k) ≡ true))
    × ((text : List ℕ) × Takes s text t × SpelledPart z (outer.section id c) text)
Given z p s (code n k) q t = (is_late p outer.code_id ≡ false) × Start p s n k q t
Given z p s (entry c) q t = ⊥
Given z p s the_end q t = ⊥

abbrev given : Next → State → Outcome Next
given y t = Done y t

module _ (z : Settings) (p : Progress) (s t : State) where
  abbrev Out : Next → Type 0
  Out y = Given z p s y.0 y.1 t

  -- a whole section
  from_section : (i k : ℕ) (x rest : List ℕ) (u : State) (y : Next) → is_late p i ≡ false → (has_count i ≡ true → Counts k x)
      → is_announced i (counted p i k) ≡ true → given (section_next p i x k rest) u ≡ given y t → next_section z p s ≡ given y t → Out y
  from_section i k x rest u y late h a f e =
      let v = value_is (section_next p i x k rest) y u t f in
      subst Out v (late, (k, h, refl, a), section_spelled z p (counted p i k) s t i x (e ∙ ap (λ (n : Next). given n t) (sym v)))

  from_count : (i : ℕ) (r u : State) (y : Next) → is_late p i ≡ false → counted_next p i r u ≡ given y t → next_section z p s ≡ given y t → Out y
  from_count i r u y late f e =
      let d = counted_done p i r u t y f in
      let front = decides-u32.sound r d.1 d.0 d.2 in
      from_section i d.0 r.rest d.1.rest u y late (λ h. record { count = front.0; items = d.1.rest; counted = front.2; whole = front.1.parts }) d.4 d.3 e

  from_name : (u : State) (y : Next) (o : Outcome (List ℕ)) → found (custom_next p) u o ≡ given y t → next_section z p s ≡ given y t → Out y
  from_name u y (Done n w) f e =
      let v = value_is (custom_next p n w.rest) y u t f in
      subst Out v (refl, custom_spelled z p (counted p 0 0) s t n w.rest (e ∙ ap (λ (k : Next). given k t) (sym v)))
  from_name u y (Short a h) f e = absurd cc
  from_name u y (Fault k a) f e = absurd cc

  from_contents : (i : ℕ) (r u : State) (y : Next) → is_late p i ≡ false → contents_next z p i r u ≡ given y t → next_section z p s ≡ given y t → Out y
  unfolding in_part
  from_contents i r u y late f e = go (i == 0) f
    where
      counts : (b : Bool) → has_count i ≡ b → cond b (counted_next p i r) (pure (section_next p i r.rest 0 [])) u ≡ given y t → Out y
      counts true h g = from_count i r u y late g e
      counts false h g = from_section i 0 r.rest [] u y late (λ k. absurd cc) (none_announced i (counted p i 0) h) g e

      go : (b : Bool) → cond b (in_part (name z.limits.string_bytes) (custom_next p) r)
          (cond (has_count i) (counted_next p i r) (pure (section_next p i r.rest 0 []))) u ≡ given y t
          → Out y
      go true g = from_name u y (name z.limits.string_bytes r) g e
      go false g = counts (has_count i) refl g

  -- the start of the code section
  from_start : (k : ℕ) (m w : State) (y : Next) → Takes s (outer.code_id ∷ []) m → u32 m ≡ Done k w → is_late p outer.code_id ≡ false → code_start p k w ≡ given y t → Out y
  unfolding code_start number_before
  from_start k m w y first size late f = go (nat_lt w.place (2 ^ 64 - k)) f
    where
      go : (b : Bool) → cond b (number_before (w.place + k) >>= start_next p k w.place) (refuse_at Other w.place) w ≡ given y t → Out y
      go true g =
          let n = done_then (kept (w.place + k) w.place (u32 w)) (start_next p k w.place) y t g in
          let b = start_done p k w.place n.0 n.1 t y n.3 in
          let q = kept_done (w.place + k) w.place n.0 n.1 (u32 w) n.2 in
          let v = value_is (code_next p k (w.place + k) n.0) y n.1 t b.1 in
          let there : n.1 ≡ t = state_is (code_next p k (w.place + k) n.0) y n.1 t b.1 in
          let a = decides-u32.sound m w k size in
          let c = decides-u32.sound w n.1 n.0 q.0 in
          let d = subst (λ (u : State). Takes w c.0 u) there c.1 in
          subst Out v (
            late,
            record {
              size = a.0;
              count = c.0;
              end = w.place + k;
              sized = a.2;
              counted = c.2;
              taken = Takes-then s m t (outer.code_id ∷ []) (a.0 ++ c.0) first (Takes-then m w t a.0 c.0 a.1 d);
              ends = omega (arith, a.1.place, first.place);
              inside = subst (λ (u : State). u.place ≤ w.place + k) there q.1;
              agreed = b.0;
              noted = refl;
            },
          )
      go false g = absurd cc

  from_ordered : (i k : ℕ) (m w : State) (y : Next) → Takes s (i ∷ []) m → u32 m ≡ Done k w → ordered z p i k w ≡ given y t → next_section z p s ≡ given y t → Out y
  unfolding contents
  from_ordered i k m w y first size f e = go (is_late p i) refl f
    where
      ten : (b : Bool) → (i == 10) ≡ b → is_late p i ≡ false → cond b (code_start p k) (contents z p i k) w ≡ given y t → Out y
      ten true h late g =
          let ten : i ≡ outer.code_id = eqb-true _ _ h in
          from_start k m w y (subst (λ (n : ℕ). Takes s (n ∷ []) m) ten first) size (subst (λ (n : ℕ). is_late p n ≡ false) ten late) g
      ten false h late g =
          let r = done_then (next_part k w) (contents_next z p i) y t g in
          from_contents i r.0 r.1 y late r.3 e

      go : (b : Bool) → is_late p i ≡ b → cond b (refuse Other 0) (cond (i == 10) (code_start p k) (contents z p i k)) w ≡ given y t → Out y
      go true late g = absurd cc
      go false late g = ten (i == 10) refl late g

  pub section_given : (y : Next) → next_section z p s ≡ given y t → Given z p s y.0 y.1 t
  unfolding next_section
  section_given y e =
      let m = done_then (byte s) (λ i. u32 >>= ordered z p i) y t e in
      let k = done_then (u32 m.1) (ordered z p m.0) y t m.3 in
      from_ordered m.0 k.0 m.1 k.1 y (byte_takes s m.1 m.0 m.2) k.2 k.3 e
