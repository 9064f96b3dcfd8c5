-- Steps up to the last are lawful and exact where each step is, and each but the last takes a byte.
use Rattle.std.proofs.Common.{◌≡◌, ℕ, zero, suc, ◌-◌, ◌<◌, List, ◌++◌, length, take, refl, sym, ap, ◌∙◌, subst, append_assoc, arith}
use Rattle.std.proofs.lemmas.List.{length-append, take_at}
use Rattle.wasm_types.specs.decoding.declared.Refusal.TheVariants.{Other}
use Rattle.wasm_types.specs.decoding.Decoder as decoder
use Rattle.wasm_types.specs.decoding.Decoder.{State, extended, Outcome, Done, Short, Fault, Decoder, Grammar, Then, continue_with, ◌>>=◌, pure, refuse, Takes, IsBeyond, GoesForward, IsLawful, Decides}
use Rattle.wasm_types.specs.decoding.Laws.{lawful->>=, lawful-pure, lawful-refuse}
use Rattle.wasm_types.specs.decoding.ExactLaws.{value_is, state_is, done_then, decides->>=, decides-pure, decides-refuse}
use Rattle.wasm_operators_encoding.specs.Until.{Next, Again, Last, go_on, steps, until, taken_by, GoesOn, Steps, Until, TextBy}

-- ---- steps up to the last

module _ {X B : Type 0} (step : X → Decoder (Next X B)) where
  -- each step but the last takes a byte
  abbrev pub TakesBytes : Type 0
  TakesBytes = (x y : X) (s t : State) → step x s ≡ Done (Again y) t → length t.rest < length s.rest

  module _ (lawful : (x : X) → IsLawful (step x)) where
    lawful-go_on : (f : X → Decoder B) → ((x : X) → IsLawful (f x)) → (next : Next X B) → IsLawful (go_on f next)
    lawful-go_on f l (Again y) = l y
    lawful-go_on f l (Last b) = lawful-pure b

    lawful-steps : (n : ℕ) (x : X) → IsLawful (steps step n x)
    unfolding steps
    lawful-steps zero x = lawful-refuse Other 0
    lawful-steps (suc n) x = lawful->>= (step x) (go_on (steps step n)) (lawful x) (lawful-go_on (steps step n) (lawful-steps n))

  module _ (takes : TakesBytes) where
    -- more steps than bytes are enough
    abbrev Same : ℕ → ℕ → Type 0
    Same n m = (x : X) (s : State) → length s.rest < n → length s.rest < m → steps step n x s ≡ steps step m x s

    same_next : (n m : ℕ) → Same n m → (x : X) (s : State) (o : Outcome (Next X B)) → step x s ≡ o → length s.rest < suc n → length s.rest < suc m
        → continue_with o (go_on (steps step n)) ≡ continue_with o (go_on (steps step m))
    same_next n m later x s (Done (Again y) t) e p q = let fewer = takes x y s t e in later y t (omega (arith, p, fewer)) (omega (arith, q, fewer))
    same_next n m later x s (Done (Last b) t) e p q = refl
    same_next n m later x s (Short l h) e p q = refl
    same_next n m later x s (Fault k l) e p q = refl

    enough : (n m : ℕ) → Same n m
    unfolding steps
    enough zero m x s p q = absurd (omega (arith, p))
    enough (suc n) zero x s p q = absurd (omega (arith, q))
    enough (suc n) (suc m) x s p q = same_next n m (enough n m) x s (step x s) refl p q

    -- what so many steps answer is the answer
    abbrev Answers : ℕ → ℕ → Type 0
    Answers n m = (x : X) (s t : State) (b : B) → length s.rest < m → steps step n x s ≡ Done b t → steps step m x s ≡ Done b t

    done_next : (n m : ℕ) → Answers n m → (x : X) (s t : State) (b : B) (o : Outcome (Next X B)) → step x s ≡ o → length s.rest < suc m
        → continue_with o (go_on (steps step n)) ≡ Done b t → continue_with o (go_on (steps step m)) ≡ Done b t
    done_next n m later x s t b (Done (Again y) u) f q g = let fewer = takes x y s u f in later y u t b (omega (arith, q, fewer)) g
    done_next n m later x s t b (Done (Last c) u) f q g = g
    done_next n m later x s t b (Short l h) f q g = absurd cc
    done_next n m later x s t b (Fault k l) f q g = absurd cc

    done_enough : (n m : ℕ) → Answers n m
    unfolding steps
    done_enough zero m x s t b q e = absurd cc
    done_enough (suc n) zero x s t b q e = absurd (omega (arith, q))
    done_enough (suc n) (suc m) x s t b q e = done_next n m (done_enough n m) x s t b (step x s) refl q e

    then_until : (x : X) (s : State) (o : Outcome (Next X B)) → step x s ≡ o → continue_with o (go_on (steps step (length s.rest))) ≡ continue_with o (go_on (until step))
    unfolding until
    then_until x s (Done (Again y) t) e = enough (length s.rest) (suc (length t.rest)) y t (takes x y s t e) (omega arith)
    then_until x s (Done (Last b) t) e = refl
    then_until x s (Short l h) e = refl
    then_until x s (Fault k l) e = refl

    -- by its first step
    pub until_step : (x : X) (s : State) (o : Outcome (Next X B)) → step x s ≡ o → until step x s ≡ continue_with o (go_on (until step))
    unfolding steps until
    until_step x s o e = ap (λ (r : Outcome (Next X B)). continue_with r (go_on (steps step (length s.rest)))) e ∙ then_until x s o e

    pub lawful-until : ((x : X) → IsLawful (step x)) → (x : X) → IsLawful (until step x)
    unfolding until
    lawful-until lawful x = record {
      forward = λ s. (lawful-steps lawful (suc (length s.rest)) x).forward s;
      steady = λ s more.
          let n = suc (length (s.rest ++ more)) in
          let same = enough (suc (length s.rest)) n x s (omega arith) (omega (arith, length-append s.rest more)) in
          subst (λ (o : Outcome B). decoder.GoesOn o more (steps step n x (extended s more))) (sym same) ((lawful-steps lawful n x).steady s more);
    }

    module _ (g : X → Grammar (Next X B)) (exact : (x : X) → Decides (step x) (g x)) where
      decides-go_on : (f : X → Decoder B) (h : X → Grammar B) → ((x : X) → Decides (f x) (h x)) → (next : Next X B) → Decides (go_on f next) (GoesOn h next)
      decides-go_on f h d (Again y) = d y
      decides-go_on f h d (Last b) = decides-pure b (GoesOn h (Last b)) (refl, refl) (λ y text e. e)

      decides-steps : (n : ℕ) (x : X) → Decides (steps step n x) (Steps g n x)
      unfolding steps
      decides-steps zero x = decides-refuse Other 0 (Steps g zero x) (λ y text e. e)
      decides-steps (suc n) x = decides->>= (step x) (go_on (steps step n)) (g x) (GoesOn (Steps g n)) (exact x) (decides-go_on (steps step n) (Steps g n) (decides-steps n))

      pub decides-until : (x : X) → Decides (until step x) (Until g x)
      unfolding until
      decides-until x = record {
        sound = λ s t b e. let read = (decides-steps (suc (length s.rest)) x).sound s t b e in (read.0, read.1, (suc (length s.rest), read.2));
        complete = λ s t b text p h. done_enough h.0 (suc (length s.rest)) x s t b (omega arith) ((decides-steps h.0 x).complete s t b text p h.1);
      }

-- ---- the bytes that a decoder takes

-- what was taken is what is not left
cut : (text rest all : List ℕ) → all ≡ text ++ rest → take (length all - length rest) all ≡ text
cut text rest all e = rw e (take_at text rest (length (text ++ rest) - length rest) (omega (arith, length-append text rest)))

module _ {A : Type 0} where
  -- the bytes before those that are left
  abbrev text_before : State → A → Decoder (List ℕ)
  text_before s x t = Done (take (length s.rest - length t.rest) s.rest) t

  taken_forward : (s : State) (o : Outcome A) → GoesForward s o → GoesForward s (continue_with o (text_before s))
  taken_forward s (Done x t) f = f
  taken_forward s (Short p h) f = f
  taken_forward s (Fault k p) f = f

  taken_beyond : (s : State) (p : ℕ) (o : Outcome A) → IsBeyond p o → IsBeyond p (continue_with o (text_before s))
  taken_beyond s p (Done x t) f = f
  taken_beyond s p (Short q h) f = f
  taken_beyond s p (Fault k q) f = f

  taken_steady : (s : State) (more : List ℕ) (o after : Outcome A) → GoesForward s o → decoder.GoesOn o more after
      → decoder.GoesOn (continue_with o (text_before s)) more (continue_with after (text_before (extended s more)))
  taken_steady s more (Done x t) after f g =
      let here = cut f.0 t.rest s.rest f.1.parts in
      let there = cut f.0 (t.rest ++ more) (s.rest ++ more) (ap (λ (z : List ℕ). z ++ more) f.1.parts ∙ append_assoc f.0 t.rest more) in
      rw g (ap (λ (text : List ℕ). Done text (extended t more)) (there ∙ sym here))
  taken_steady s more (Short p h) after f g = (λ lt. rw (g.0 lt) refl, λ le. taken_beyond (extended s more) p after (g.1 le))
  taken_steady s more (Fault k p) after f g = rw g refl

  pub lawful-taken_by : (d : Decoder A) → IsLawful d → IsLawful (taken_by d)
  unfolding taken_by
  lawful-taken_by d l = record {
    forward = λ s. taken_forward s (d s) (l.forward s);
    steady = λ s more. taken_steady s more (d s) (d (extended s more)) (l.forward s) (l.steady s more);
  }

  pub decides-taken_by : (d : Decoder A) (g : Grammar A) → Decides d g → Decides (taken_by d) (TextBy g)
  unfolding taken_by
  decides-taken_by d g dg = record {
    sound = λ s t x e.
        let (a, u, read, ended) = done_then (d s) (text_before s) x t e in
        let (text, taken, spelled) = dg.sound s u a read in
        let same = value_is (take (length s.rest - length u.rest) s.rest) x u t ended in
        let is : text ≡ x = sym (cut text u.rest s.rest taken.parts) ∙ same in
        (text, subst (λ (v : State). Takes s text v) (state_is (take (length s.rest - length u.rest) s.rest) x u t ended) taken, (is, (a, spelled)));
    complete = λ s t x text p h.
        ap (λ (o : Outcome A). continue_with o (text_before s)) (dg.complete s t h.1.0 text p h.1.1)
        ∙ ap (λ (z : List ℕ). Done z t) (cut text t.rest s.rest p.parts ∙ h.0);
  }
