-- Each body that a parser gives is spelled by exactly the bytes that it took, which lie within the code section.
use Rattle.std.proofs.Common.{◌≡◌, ℕ, ◌-◌, ◌≤◌, List, [], ◌++◌, length, refl, sym, ap, ◌∙◌, subst, arith, cond, Bool, true, false}
use Rattle.std.specs.Prelude.{nat_lt}
use Rattle.std.proofs.lemmas.Bool.{ltb-false}
use Rattle.wasm_types.specs.decoding.declared.Refusal.TheVariants.{Other}
use Rattle.wasm_types.specs.decoding.Decoder.{State, Outcome, Done, Short, Fault, ◌>>=◌, pure, bytes, Takes}
use Rattle.wasm_types.specs.decoding.Laws.{Takes-then}
use Rattle.wasm_types.specs.decoding.ExactLaws.{value_is, state_is, done_then, decides-bytes}
use Rattle.wasm_types.specs.decoding.Leb.{u32, IsUnsigned}
use Rattle.wasm_types.specs.decoding.LebLaws.{decides-u32}
use Rattle.wasm_types.specs.decoding.Lists.{refuse_at}
use Rattle.wasm_sections_items.specs.frames.Outer.{SpelledEntry}
use Rattle.wasm_sections_parser.specs.declared.progress.Progress.{Progress}
use Rattle.wasm_sections_parser.specs.Steps.{Shape, version, custom, section, code, entry, the_end, one_less, kept, number_before, Next, body, next_entry}

abbrev body_in : Shape → List ℕ
body_in (entry c) = c
body_in (custom n c) = []
body_in (version h) = []
body_in (section i c) = []
body_in (code n k) = []
body_in the_end = []

abbrev number : ℕ → State → Outcome ℕ
number n u = Done n u

pub kept_done : (end start n : ℕ) (u : State) (o : Outcome ℕ) → kept end start o ≡ Done n u → (o ≡ Done n u) × (u.place ≤ end)
kept_done end start n u (Done m v) e = go (nat_lt end v.place) refl e
  where
    go : (b : Bool) → nat_lt end v.place ≡ b → cond b (Fault Other start) (number m v) ≡ number n u → (number m v ≡ number n u) × (u.place ≤ end)
    go true k f = absurd cc
    go false k f = (f, subst (λ (w : State). w.place ≤ end) (state_is m n v u f) (ltb-false _ _ k))
kept_done end start n u (Short p h) e = go (nat_lt p end) e
  where
    go : (b : Bool) → cond b (Short p h) (Fault Other start) ≡ number n u → (Short p h ≡ number n u) × (u.place ≤ end)
    go true f = absurd cc
    go false f = absurd cc
kept_done end start n u (Fault k p) e = absurd (go (nat_lt p end) e)
  where
    go : (b : Bool) → cond b (Fault k p) (Fault Other start) ≡ number n u → ⊥
    go true f = cc
    go false f = cc

module _ (p q : Progress) (left end : ℕ) (s t : State) (c : List ℕ) where
  body_bytes : (n : ℕ) (u : State) → body p left end n u ≡ Done (entry c, q) t → (n ≤ end - u.place) × (bytes n u ≡ Done c t)
  body_bytes n u e = go (nat_lt (end - u.place) n) refl e
    where
      go : (b : Bool) → nat_lt (end - u.place) n ≡ b
          → cond b (refuse_at {A = Next} Other u.place) (bytes n >>= λ text. pure (entry text, one_less p left end)) u ≡ Done
          (entry c, q) t → (n ≤ end - u.place) × (bytes n u ≡ Done c t)
      go true k f = absurd cc
      go false k f =
          let m = done_then (bytes n u) (λ text. pure (entry text, one_less p left end)) (entry c, q) t f in
          let value : m.0 ≡ c = ap (λ (y : Next). body_in y.0) (value_is (entry m.0, one_less p left end) (entry c, q) m.1 t m.3) in
          let state : m.1 ≡ t = state_is (entry m.0, one_less p left end) (entry c, q) m.1 t m.3 in
          (ltb-false _ _ k, m.2 ∙ (λ i. Done (value i) (state i)))

  pub body_spelled : next_entry p left end s ≡ Done (entry c, q) t → (text : List ℕ) × Takes s text t × SpelledEntry c text × (t.place ≤ end)
  unfolding next_entry number_before
  body_spelled e =
      let m = done_then (kept end s.place (u32 s)) (body p left end) (entry c, q) t e in
      let k = kept_done end s.place m.0 m.1 (u32 s) m.2 in
      let b = body_bytes m.0 m.1 m.3 in
      let size = decides-u32.sound s m.1 m.0 k.0 in
      let text = (decides-bytes m.0).sound m.1 t c b.1 in
      let count : IsUnsigned 32 (length text.0) size.0 = subst (λ (y : ℕ). IsUnsigned 32 y size.0) (sym (ap length text.2.1 ∙ text.2.0)) size.2 in (
        size.0 ++ text.0,
        Takes-then s m.1 t size.0 text.0 size.1 text.1,
        record { size = size.0; content = text.0; counted = count; spelled = sym text.2.1; whole = refl },
        omega (arith, b.0, k.1, text.1.place, ap length text.2.1, text.2.0),
      )
