-- What a section and the start of the code section give where a count is compared.
use Rattle.std.proofs.Common.{◌≡◌, ℕ, ◌+◌, refl, sym, ap, ◌∙◌, subst, cond, Bool, true, false}
use Rattle.std.specs.Prelude.{◌==◌}
use Rattle.std.proofs.lemmas.Bool.{eqb-true}
use Rattle.wasm_types.specs.decoding.declared.Refusal.TheVariants.{Other}
use Rattle.wasm_types.specs.decoding.Decoder.{State, Outcome, Done, Short, Fault, pure, refuse}
use Rattle.wasm_types.specs.decoding.ExactLaws.{value_is, done_then}
use Rattle.wasm_types.specs.decoding.Leb.{u32}
use Rattle.wasm_types.specs.decoding.Lists.{refuse_at}
use Rattle.wasm_sections_parser.specs.declared.progress.Progress.{Progress}
use Rattle.wasm_sections_parser.specs.Steps.{counted, said, found, in_part, Next, has_count, section_next, is_announced, announced, counted_next, code_next, start_next}

abbrev given : Next → State → Outcome Next
given y t = Done y t

-- ---- a section with a count

module _ (i : ℕ) (x : Next) where
  announced_done : (u t : State) (y : Next) → announced i x u ≡ given y t → (given x u ≡ given y t) × (is_announced i x.1 ≡ true)
  announced_done u t y e = go (is_announced i x.1) refl e
    where
      go : (b : Bool) → is_announced i x.1 ≡ b → cond b (pure x) (refuse Other 0) u ≡ given y t → (given x u ≡ given y t) × (is_announced i x.1 ≡ true)
      go true s f = (f, s)
      go false s f = absurd cc

  pub announced_so : (t : State) → is_announced i x.1 ≡ true → announced i x t ≡ given x t
  announced_so t e = ap (λ (b : Bool). cond b (pure x) (refuse Other 0) t) e

-- what was counted, where it succeeds
pub counted_done : (p : Progress) (i : ℕ) (r u t : State) (y : Next) → counted_next p i r u ≡ given y t
    → (k : ℕ) × (w : State) × (u32 r ≡ Done k w) × (given (section_next p i r.rest k w.rest) u ≡ given y t) × (is_announced i (counted p i k) ≡ true)
unfolding in_part
counted_done p i r u t y e =
    let m = done_then (found (section_next p i r.rest) u (u32 r)) (announced i) y t e in
    go (u32 r) refl m.0 m.1 m.2 m.3
  where
    go : (o : Outcome ℕ) → u32 r ≡ o → (x : Next) (v : State) → found (section_next p i r.rest) u o ≡ given x v → announced i x v ≡ given y t
        → (k : ℕ) × (w : State) × (u32 r ≡ Done k w) × (given (section_next p i r.rest k w.rest) u ≡ given y t) × (is_announced i (counted p i k) ≡ true)
    go (Done k w) c x v f a =
        let b = announced_done i x v t y a in
        let same = value_is (section_next p i r.rest k w.rest) x u v f in
        (k, w, c, f ∙ b.0, subst (λ (n : Next). is_announced i n.1 ≡ true) (sym same) b.1)
    go (Short q h) c x v f a = absurd cc
    go (Fault k q) c x v f a = absurd cc

-- a section without a count is not the data section
pub none_announced : (i : ℕ) (p : Progress) → has_count i ≡ false → is_announced i p ≡ true
none_announced i p h = go (i == 11) refl
  where
    go : (b : Bool) → (i == 11) ≡ b → cond b (said p.data_count p.segments) true ≡ true
    go true e = let v : true ≡ false = sym (ap has_count (eqb-true i 11 e)) ∙ h in absurd cc
    go false e = refl

-- ---- the start of the code section

pub start_done : (p : Progress) (n place k : ℕ) (u t : State) (y : Next) → start_next p n place k u ≡ given y t → (p.functions ≡ k) × (given (code_next p n (place + n) k) u ≡ given y t)
start_done p n place k u t y e = go (p.functions == k) refl e
  where
    go : (b : Bool) → (p.functions == k) ≡ b → cond b (pure (code_next p n (place + n) k)) (refuse_at Other place) u ≡ given y t
        → (p.functions ≡ k) × (given (code_next p n (place + n) k) u ≡ given y t)
    go true h f = (eqb-true _ _ h, f)
    go false h f = absurd cc
