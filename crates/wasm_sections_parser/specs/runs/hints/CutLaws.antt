-- Outcomes that are cut short: where bytes that are missing, or a number that is cut, begin and end.
use Rattle.std.proofs.Common.{◌≡◌, ◌⊎◌, inl, inr, ℕ, zero, suc, ◌+◌, ◌-◌, ◌*◌, ◌<◌, ◌≤◌, ◌^◌, List, [], ◌∷◌, ◌++◌, length, refl, sym, ap, ◌∙◌, subst, arith, cond, Bool, true, false}
use Rattle.std.specs.Prelude.{nat_lt, replicate, take, drop}
use Rattle.std.proofs.lemmas.Bool.{ltb-true}
use Rattle.std.proofs.lemmas.List.{length-append, length-replicate}
use Rattle.wasm_types.specs.settings.Settings.{Settings}
use Rattle.wasm_types.specs.decoding.declared.Refusal.TheVariants.{Other}
use Rattle.wasm_types.specs.decoding.Decoder.{State, extended, Outcome, Done, Short, Fault, Decoder, continue_with, ◌>>=◌, pure, refuse, bytes, GoesOn}
use Rattle.wasm_types.specs.decoding.Laws.{bytes-enough}
use Rattle.wasm_types.specs.decoding.Leb.{unsigned}
use Rattle.wasm_sections_parser.specs.Needs.{are_not_last}
use Rattle.wasm_sections_parser.specs.Steps.{kept}

-- ---- outcomes

-- a value or a fault
abbrev pub IsSettled : {A : Type 0} → Outcome A → Type 0
IsSettled (Done x t) = Unit {0}
IsSettled (Short p h) = ⊥
IsSettled (Fault k p) = Unit {0}

abbrev pub short : {A : Type 0} → ℕ → ℕ → Outcome A
short p h = Short p h

abbrev pub done : {A : Type 0} → A → State → Outcome A
done x t = Done x t

pub not_settled : {A : Type 0} (o : Outcome A) (p h : ℕ) → IsSettled o → o ≡ short p h → ⊥
not_settled (Done x t) p h s e = absurd cc
not_settled (Short q g) p h s e = s
not_settled (Fault k q) p h s e = absurd cc

pub settled_if : {A : Type 0} (b : Bool) (d e : Decoder A) (s : State) → IsSettled (d s) → IsSettled (e s) → IsSettled (cond b d e s)
settled_if true d e s sd se = sd
settled_if false d e s sd se = se

pub settled_pure : {A B : Type 0} (o : Outcome A) (f : A → B) → IsSettled o → IsSettled (continue_with o (λ x. pure (f x)))
settled_pure (Done x t) f s = tt
settled_pure (Short p h) f s = s
settled_pure (Fault k p) f s = tt

pub need_is : {A : Type 0} (p q g h : ℕ) → short {A = A} p g ≡ short q h → g ≡ h
need_is p q g h e = cc

pub place_is : {A : Type 0} (p q g h : ℕ) → short {A = A} p g ≡ short q h → p ≡ q
place_is p q g h e = cc

-- where the bytes end in one after the other
pub short_then : {A B : Type 0} (o : Outcome A) (f : A → Decoder B) (p h : ℕ) → continue_with o f ≡ short p h
    → (o ≡ short p h) ⊎ ((x : A) × (u : State) × (o ≡ done x u) × (f x u ≡ short p h))
short_then (Done x u) f p h e = inr (x, u, refl, e)
short_then (Short q g) f p h e = inl ((λ i. Short (place_is q p g h e i) (need_is q p g h e i)))
short_then (Fault k q) f p h e = absurd cc

-- a value stays where more bytes come
pub stays : {A : Type 0} (x : A) (t : State) (more : List ℕ) (o after : Outcome A) → o ≡ done x t → GoesOn o more after → after ≡ done x (extended t more)
stays {A} x t more o after e g = subst (λ (v : Outcome A). GoesOn v more after) e g

-- ---- bytes and numbers

-- a reader of these bytes
abbrev pub at : List ℕ → ℕ → Settings → ℕ → State
at rest a y b = record { rest = rest; place = a; settings = y; start = b }

-- bytes that are missing are there once as many stand behind
pub bytes_mended : (k : ℕ) (s : State) (p h : ℕ) → bytes k s ≡ short p h → (x : List ℕ) × (t : State) × (bytes k (extended s (replicate h 0)) ≡ done x t)
bytes_mended k s p h e = go (nat_lt (length s.rest) k) refl e
  where
    go : (b : Bool) → nat_lt (length s.rest) k ≡ b
        → cond b (Short s.place (k - length s.rest)) (Done (take k s.rest) (record { rest = drop k s.rest; place = s.place + k; settings = s.settings; start = s.start })) ≡ short p h
        → (x : List ℕ) × (t : State) × (bytes k (extended s (replicate h 0)) ≡ done x t)
    go true lt g = (
      take k (s.rest ++ replicate h 0),
      record { rest = drop k (s.rest ++ replicate h 0); place = s.place + k; settings = s.settings; start = s.start },
      bytes-enough k (extended s (replicate h 0)) (omega (
        arith,
        ltb-true _ _ lt,
        need_is {A = List ℕ} s.place p (k - length s.rest) h g,
        length-append s.rest (replicate h 0),
        length-replicate {A = ℕ} h 0,
      )),
    )
    go false lt g = absurd cc

-- a number that the bytes end within
pub record Cut (k : ℕ) (text : List ℕ) (a : ℕ) (y : Settings) (b p h : ℕ) : Type 0 where
  pub one : h ≡ 1
  pub behind : p ≡ a + length text
  pub few : length text ≤ k
  pub begun : are_not_last text ≡ true
  pub value : ℕ
  pub there : State
  pub mended : unsigned k 4 (at (text ++ 0 ∷ []) a y b) ≡ done value there

-- one byte more ends it
pub number_cut : (k : ℕ) (text : List ℕ) (a : ℕ) (y : Settings) (b p h : ℕ) → unsigned k 4 (at text a y b) ≡ short p h → Cut k text a y b p h
unfolding unsigned
number_cut zero [] a y b p h e = record { one = sym (need_is {A = ℕ} a p 1 h e); behind = sym (place_is {A = ℕ} a p 1 h e) ∙ omega arith; few = omega arith; begun = refl; value = 0; there = at [] (a + 1) y b; mended = refl }
number_cut zero (c ∷ text) a y b p h e = absurd (ended (nat_lt c (2 ^ 4)) e)
  where
    ended : (v : Bool) → cond v (pure c) (refuse Other 1) (at text (a + 1) y b) ≡ short {A = ℕ} p h → ⊥
    ended true g = cc
    ended false g = cc
number_cut (suc k) [] a y b p h e = record { one = sym (need_is {A = ℕ} a p 1 h e); behind = sym (place_is {A = ℕ} a p 1 h e) ∙ omega arith; few = omega arith; begun = refl; value = 0; there = at [] (a + 1) y b; mended = refl }
number_cut (suc k) (c ∷ text) a y b p h e = go (number_cut k text (a + 1) y b p h) (nat_lt c 128) refl e
  where
    go : (unsigned k 4 (at text (a + 1) y b) ≡ short p h → Cut k text (a + 1) y b p h) → (v : Bool) → nat_lt c 128 ≡ v
        → cond v (pure c) (unsigned k 4 >>= λ m. pure (128 * m + (c - 128))) (at text (a + 1) y b) ≡ short p h → Cut (suc k) (c ∷ text) a y b p h
    go rest true f g = absurd cc
    go rest false f g = elim (short_then (unsigned k 4 (at text (a + 1) y b)) (λ m. pure (128 * m + (c - 128))) p h g) [
      | inl i ↦ let r = rest i in record {
        one = r.one;
        behind = omega (arith, r.behind);
        few = omega (arith, r.few);
        begun = ap (λ (v : Bool). cond v false (are_not_last text)) f ∙ r.begun;
        value = 128 * r.value + (c - 128);
        there = r.there;
        mended = ap (λ (v : Bool). cond v (pure c) (unsigned k 4 >>= λ m. pure (128 * m + (c - 128))) (at (text ++ 0 ∷ []) (a + 1) y b)) f
            ∙ ap (λ (o : Outcome ℕ). continue_with o (λ m. pure (128 * m + (c - 128)))) r.mended;
      }
      | inr d ↦ let no : done (128 * d.0 + (c - 128)) d.1 ≡ short p h = d.3 in absurd cc
    ]

-- what ends before an offset ends too early only where the number does, and before that offset
pub kept_short : (end start p h : ℕ) (o : Outcome ℕ) → kept end start o ≡ short p h → (o ≡ short p h) × (p < end)
kept_short end start p h (Done x t) e = absurd (go (nat_lt end t.place) e)
  where
    go : (v : Bool) → cond v (Fault Other start) (done x t) ≡ short {A = ℕ} p h → ⊥
    go true g = cc
    go false g = cc
kept_short end start p h (Short q g) e = go (nat_lt q end) refl e
  where
    go : (v : Bool) → nat_lt q end ≡ v → cond v (short {A = ℕ} q g) (Fault Other start) ≡ short p h → (short {A = ℕ} q g ≡ short p h) × (p < end)
    go true f i = (i, subst (λ (x : ℕ). x < end) (place_is {A = ℕ} q p g h i) (ltb-true _ _ f))
    go false f i = absurd cc
kept_short end start p h (Fault k q) e = absurd (go (nat_lt q end) e)
  where
    go : (v : Bool) → cond v (Fault k q) (Fault Other start) ≡ short {A = ℕ} p h → ⊥
    go true g = cc
    go false g = cc
