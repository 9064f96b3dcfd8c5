-- What a step gives, by where the parser stands: between sections, in the code section, before the header.
use Rattle.std.proofs.Common.{◌≡◌, ℕ, suc, zero, ◌-◌, ◌<◌, ◌≤◌, List, refl, sym, ap, ◌∙◌, arith, cond, Bool, true, false}
use Rattle.std.specs.Prelude.{nat_lt, nat_le, ◌==◌}
use Rattle.std.proofs.lemmas.Bool.{leb-true, leb-false, ltb-false, le-ltb}
use Rattle.wasm_types.specs.settings.Settings.{Settings}
use Rattle.wasm_types.specs.decoding.declared.Refusal.TheVariants.{Other}
use Rattle.wasm_types.specs.decoding.Decoder.{State, Outcome, Done, ◌>>=◌, pure, bytes, Takes}
use Rattle.wasm_types.specs.decoding.ExactLaws.{value_is, state_is, done_then}
use Rattle.wasm_types.specs.decoding.Lists.{refuse_at}
use Rattle.wasm_sections_items.specs.frames.Decode.{header}
use Rattle.wasm_sections_items.specs.frames.Outer.{Header, SpelledEntry}
use Rattle.wasm_sections_parser.specs.declared.progress.Stage.{Stage}
use Rattle.wasm_sections_parser.specs.declared.progress.Stage.TheVariants as stages
use Rattle.wasm_sections_parser.specs.declared.progress.Progress.{Progress}
use Rattle.wasm_sections_parser.specs.Steps.{Shape, version, entry, the_end, one_less, begun, Next, number_before, body, behind_code, next_section, next_entry, next_header, at_stage, step}
use Rattle.wasm_sections_parser.specs.Parsing.{between}
use Rattle.wasm_sections_parser.specs.runs.steps.BodyLaws.{body_spelled}
use Rattle.wasm_sections_parser.specs.runs.steps.SectionCases.{section_given}

abbrev given : Next → State → Outcome Next
given y t = Done y t

-- ---- where a parser stands

between_at : (z : Settings) (p : Progress) (s : State) (g : Stage) → between g s.place ≡ true → at_stage z p g s ≡ next_section z p s
unfolding behind_code
between_at z p s stages.Header b = absurd cc
between_at z p s stages.Sections b = refl
between_at z p s (stages.Code left end) b = go (left == 0) b
  where
    go : (k : Bool) → cond k (nat_le end s.place) false ≡ true → cond k (behind_code z p end) (next_entry p left end) s ≡ next_section z p s
    go true e = rw (le-ltb s.place end (leb-true _ _ e)) refl
    go false e = absurd cc
between_at z p s stages.Ended b = absurd cc
between_at z p s stages.Failed b = absurd cc

pub step_between : (z : Settings) (p : Progress) (s : State) → between p.stage s.place ≡ true → step z p s ≡ next_section z p s
unfolding step
step_between z p s b = between_at z p s p.stage b

-- ---- a body

-- behind one body of those that are left
pub record Behind (p : Progress) (left end : ℕ) (s : State) (x : Shape) (q : Progress) (t : State) : Type 0 where
  pub bytes : List ℕ
  pub text : List ℕ
  pub some : 0 < left
  pub shape : x ≡ entry bytes
  pub taken : Takes s text t
  pub spelled : SpelledEntry bytes text
  pub place : t.place ≤ end
  pub noted : q ≡ one_less p left end

module _ (p : Progress) (left end : ℕ) where
  body_is : (n : ℕ) (u t : State) (y : Next) → body p left end n u ≡ given y t → (c : List ℕ) × ((entry c, one_less p left end) ≡ y)
  body_is n u t y e = go (nat_lt (end - u.place) n) e
    where
      go : (b : Bool) → cond b (refuse_at {A = Next} Other u.place) (bytes n >>= λ text. pure (entry text, one_less p left end)) u ≡ given y t → (c : List ℕ) × ((entry c, one_less p left end) ≡ y)
      go true f = absurd cc
      go false f =
          let m = done_then (bytes n u) (λ text. pure (entry text, one_less p left end)) y t f in
          (m.0, value_is (entry m.0, one_less p left end) y m.1 t m.3)

  pub entry_is : (s t : State) (y : Next) → next_entry p left end s ≡ given y t → (c : List ℕ) × ((entry c, one_less p left end) ≡ y)
  unfolding next_entry
  entry_is s t y e =
      let m = done_then (number_before end s) (body p left end) y t e in
      body_is m.0 m.1 t y m.3

  behind_entry : (s t : State) (x : Shape) (q : Progress) → 0 < left → next_entry p left end s ≡ given (x, q) t → Behind p left end s x q t
  behind_entry s t x q some e =
      let c = entry_is s t (x, q) e in
      let b = body_spelled p (one_less p left end) left end s t c.0 (e ∙ ap (λ (y : Next). given y t) (sym c.1)) in
      record {
        bytes = c.0;
        text = b.0;
        some = some;
        shape = sym (ap (λ (y : Next). y.0) c.1);
        taken = b.1;
        spelled = b.2;
        place = b.3;
        noted = sym (ap (λ (y : Next). y.1) c.1);
      }

  pub inside_at : (z : Settings) (s t : State) (x : Shape) (q : Progress) → between (stages.Code left end) s.place ≡ false
      → at_stage z p (stages.Code left end) s ≡ given (x, q) t → Behind p left end s x q t
  unfolding behind_code
  inside_at z s t x q b e = go (left == 0) refl b e
    where
      none : (k : Bool) → nat_lt s.place end ≡ k → nat_le end s.place ≡ false → cond k (refuse_at {A = Next} Other s.place) (next_section z p) s ≡ given (x, q) t → Behind p left end s x q t
      none true h f g = absurd cc
      none false h f g = absurd (omega (arith, ltb-false _ _ h, leb-false _ _ f))

      go : (k : Bool) → (left == 0) ≡ k → cond k (nat_le end s.place) false ≡ false → cond k (behind_code z p end) (next_entry p left end) s ≡ given (x, q) t → Behind p left end s x q t
      go true h f g = none (nat_lt s.place end) refl f g
      go false h f g = behind_entry s t x q (some left h) g
        where
          some : (n : ℕ) → (n == 0) ≡ false → 0 < n
          some zero k = absurd cc
          some (suc n) k = omega arith

-- ---- the header

pub header_given : (p : Progress) (s t : State) (y : Next) → next_header p s ≡ given y t → (h : Header) × ((version h, begun p) ≡ y) × (header s ≡ Done h t)
unfolding next_header
header_given p s t y e =
    let m = done_then (header s) (λ k. pure (version k, begun p)) y t e in
    (m.0, value_is (version m.0, begun p) y m.1 t m.3, m.2 ∙ ap (λ (u : State). Done m.0 u) (state_is (version m.0, begun p) y m.1 t m.3))

-- ---- the end

-- no step gives the end
module _ (z : Settings) (p r : Progress) (s t : State) where
  no_version : (h : Header) → version h ≡ the_end → ⊥
  no_version h e = cc

  no_entry : (c : List ℕ) → entry c ≡ the_end → ⊥
  no_entry c e = cc

  no_end_at : (g : Stage) → at_stage z p g s ≡ given (the_end, r) t → ⊥
  unfolding behind_code
  no_end_at stages.Header e = let h = header_given p s t (the_end, r) e in no_version h.0 (ap (λ (y : Next). y.0) h.1)
  no_end_at stages.Sections e = section_given z p s t (the_end, r) e
  no_end_at (stages.Code left end) e = go (left == 0) e
    where
      behind : (b : Bool) → cond b (refuse_at {A = Next} Other s.place) (next_section z p) s ≡ given (the_end, r) t → ⊥
      behind true f = cc
      behind false f = section_given z p s t (the_end, r) f

      go : (b : Bool) → cond b (behind_code z p end) (next_entry p left end) s ≡ given (the_end, r) t → ⊥
      go true f = behind (nat_lt s.place end) f
      go false f = let c = entry_is p left end s t (the_end, r) f in no_entry c.0 (ap (λ (y : Next). y.0) c.1)
  no_end_at stages.Ended e = cc
  no_end_at stages.Failed e = cc

  pub no_end : step z p s ≡ given (the_end, r) t → ⊥
  unfolding step
  no_end e = no_end_at p.stage e
