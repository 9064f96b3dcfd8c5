-- Values one after the other, as a loop reads them.
use Rattle.std.proofs.Common.{◌≡◌, ℕ, suc, ◌+◌, ◌-◌, ◌<◌, ◌≤◌, List, [], ◌∷◌, ◌++◌, refl, sym, ap, ◌∙◌, append_assoc, arith}
use Rattle.std.proofs.lemmas.List.{append-nil}
use Rattle.wasm_types_decoding.specs.Decoder.{State, Outcome, Done, Short, Fault, Decoder, continue_with, pure, repeated}
use Rattle.wasm_types_decoding.specs.declared.error.ErrorKind.{ErrorKind}
use Rattle.wasm_types_reader.specs.ReadingLaws.{fails_then}
use Rattle.wasm_types_decoding.specs.ErrorValue.{ErrorValue}
use Rattle.std.specs.Prelude.{Result, Ok, Err, Some, None}
use Rattle.wasm_types_reader.specs.Reading.{FailsAt, Fails, NextItem}

module _ {A : Type 0} where
  -- what was read before, and what is still read
  abbrev pub with_front : List A → Outcome (List A) → Outcome (List A)
  with_front front o = continue_with o (λ xs. pure (front ++ xs))

  regroup : (front : List A) (x : A) (o : Outcome (List A)) → with_front front (continue_with o (λ xs. pure (x ∷ xs))) ≡ with_front (front ++ x ∷ []) o
  regroup front x (Done xs t) = ap (λ (ys : List A). Done ys t) (simp append_assoc)
  regroup front x (Short p h) = refl
  regroup front x (Fault k p) = refl

  module _ (d : Decoder A) (front : List A) (count i : ℕ) (s : State) (total : Outcome (List A)) (so_far : with_front front (repeated (count - i) d s) ≡ total) where
    pub goes_on : (x : A) (t : State) → i < count → d s ≡ Done x t → with_front (front ++ x ∷ []) (repeated (count - (i + 1)) d t) ≡ total
    unfolding repeated
    goes_on x t lt e =
        let k : count - i ≡ suc (count - (i + 1)) = omega arith in
        let one : with_front front (repeated (count - i) d s) ≡ with_front (front ++ x ∷ []) (repeated (count - (i + 1)) d t) = rw (k, e) (regroup front x (repeated (count - (i + 1)) d t)) in
        sym one ∙ so_far

    pub ends : (e : ErrorKind) (p : ℕ) → i < count → FailsAt e p (d s) → FailsAt e p total
    unfolding repeated
    ends e p lt h =
        let k : count - i ≡ suc (count - (i + 1)) = omega arith in
        let part : FailsAt e p (repeated (count - i) d s) = rw k (fails_then (d s) _ e p h) in
        rw so_far at (fails_then (repeated (count - i) d s) (λ xs. pure (front ++ xs)) e p part)

    pub is_done : count ≤ i → total ≡ Done front s
    unfolding repeated
    is_done le =
        let k : count - i ≡ 0 = omega arith in
        let one : with_front front (repeated (count - i) d s) ≡ Done front s = rw k (ap (λ (xs : List A). Done xs s) (append-nil front)) in
        sym so_far ∙ one

-- ---- by an iterator

module _ {X A : Type 0} (view : X → A) (d : Decoder A) (front : List A) (n : ℕ) (s : State) (total : Outcome (List A)) (so_far : with_front front (repeated n d s) ≡ total)
    (m : ℕ) (t : State) where
  pub next_ok : (item : Result X ErrorValue) (x : X) → NextItem view d n s (Some item) m t → item ≡ Ok x → with_front (front ++ view x ∷ []) (repeated m d t) ≡ total
  unfolding repeated
  next_ok item x h e =
      let h' : NextItem view d n s (Some (Ok x)) m t = rw e at h in
      let k : n ≡ suc m = omega (arith, h'.0) in
      let one : with_front front (repeated n d s) ≡ with_front (front ++ view x ∷ []) (repeated m d t) = rw (k, h'.1) (regroup front (view x) (repeated m d t)) in
      sym one ∙ so_far

  pub next_err : (item : Result X ErrorValue) (e : ErrorValue) → NextItem view d n s (Some item) m t → item ≡ Err e → Fails e total
  next_err item e h q =
      let h' : NextItem view d n s (Some (Err e)) m t = rw q at h in
      let z : n - 0 ≡ n = omega arith in
      let so : with_front front (repeated (n - 0) d s) ≡ total = rw z so_far in
      ends d front n 0 s total so e.kind e.offset h'.0 h'.2

  pub next_none : NextItem view d n s None m t → total ≡ Done front t
  next_none h =
      let z : n - 0 ≡ n = omega arith in
      let so : with_front front (repeated (n - 0) d s) ≡ total = rw z so_far in
      is_done d front n 0 s total so (omega (arith, h.0)) ∙ ap (λ (u : State). Done front u) (sym h.2)
