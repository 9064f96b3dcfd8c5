-- Two operands taken off and one put on, where the lower of the two is replaced.
use Rattle.std.proofs.Common.{◌≡◌, ◌≤◌, ◌<◌, ◌-◌, ◌+◌, ◌∙◌, ℕ, zero, suc, List, [], ◌∷◌, ◌++◌, Bool, true, false, Some, sym, ap, arith, length, take, reverse, get_or, slice_get}
use Rattle.std.proofs.lemmas.List.{length-reverse, length_push}
use Rattle.wasm_types.specs.values.declared.value.ValType.{ValType}
use Rattle.wasm_operator_validator_rules.specs.Operands.{known, stack}
use Rattle.wasm_operator_validator_state.specs.resources.Meaning.{Meaning, type_in}
use Rattle.wasm_operator_validator_state.specs.declared.operand.MaybeType.{MaybeType}
use Rattle.wasm_operator_validator_state.specs.declared.operand.MaybeType.TheVariants as maybe
use Rattle.wasm_operator_validator_state.specs.declared.frame.Frame.{Frame}
use Rattle.wasm_operator_validator_state.specs.State.{State, types_in}
use Rattle.wasm_operator_validator_state.specs.Steps.{PoppedAny, PushedAny, Popped, Exchanged}
use Rattle.wasm_operator_validator_locals.specs.tape.Kept.{ReplacesLast}
use Rattle.wasm_operator_validator_stacks.specs.Layout.{Layered}
use Rattle.wasm_operator_validator_stacks.specs.Peeking.{or_any, operand_at}
use Rattle.wasm_operator_validator_stacks.proofs.Layers.{Fixed, seen, held, Sound, seen_pop, seen_push, reverse_last}
use Rattle.wasm_operator_validator_stacks.proofs.Peeks.{held_peek}
use Rattle.wasm_operator_validator_stacks.proofs.Popping.{same_trans, popped_same, pushed_one, exchanged}

-- two known operands of one type are taken off, and one of another is put on
combined : (m : Meaning) (σ ρ π τ : State) (t u : ValType) → PoppedAny m σ (maybe.Known t) ρ → PoppedAny m ρ (maybe.Known t) π → PushedAny m π (maybe.Known u) τ
    → Exchanged m σ (types_in m (t ∷ t ∷ [])) (types_in m (u ∷ [])) τ
combined m σ ρ π τ t u p q r =
    let a = popped_same m σ ρ t p in
    let b = popped_same m ρ π t q in
    let both : Popped m σ (stack (types_in m (t ∷ t ∷ []))) π = record {
      same = same_trans σ ρ π a.same b.same;
      stacks = λ s. (λ c. (b.stacks s).0 ((a.stacks (known (type_in m t) ∷ s)).0 c), λ c. (a.stacks (known (type_in m t) ∷ s)).1 ((b.stacks s).1 c));
    } in
    exchanged m σ π τ (types_in m (t ∷ t ∷ [])) (types_in m (u ∷ [])) both (pushed_one m π τ u r)

-- where two known operands lie on top, the innermost frame has both
both_own : (b : Bool) (k : ℕ) (y z : MaybeType) (ns : List MaybeType) (t : ValType) → or_any b (slice_get (take k (y ∷ z ∷ ns)) 0) ≡ Some (maybe.Known t)
    → or_any b (slice_get (take k (y ∷ z ∷ ns)) 1) ≡ Some (maybe.Known t) → (y ≡ maybe.Known t) × (z ≡ maybe.Known t) × (2 ≤ k)
both_own true zero y z ns t d e = cc
both_own false zero y z ns t d e = cc
both_own true (suc zero) y z ns t d e = cc
both_own false (suc zero) y z ns t d e = cc
both_own b (suc (suc k)) y z ns t d e = (cc, cc, omega arith)

seen_combine : (μ : Meaning) (w : Fixed) (f : Frame) (fs : List Frame) (y z : MaybeType) (ns : List MaybeType) (inits : List ℕ) (t u : ValType)
    → operand_at (seen w (f ∷ fs) (y ∷ z ∷ ns) inits).opens 0 ≡ Some (maybe.Known t) → operand_at (seen w (f ∷ fs) (y ∷ z ∷ ns) inits).opens 1 ≡ Some (maybe.Known t)
    → Exchanged μ (seen w (f ∷ fs) (y ∷ z ∷ ns) inits) (types_in μ (t ∷ t ∷ [])) (types_in μ (u ∷ [])) (seen w (f ∷ fs) (maybe.Known u ∷ ns) inits) × (f.height ≤ length ns)
seen_combine μ w f fs y z ns inits t u d e =
    let (a, b, k) = both_own f.unreachable (length (y ∷ z ∷ ns) - f.height) y z ns t d e in
    let low : f.height ≤ length ns = omega (arith, k) in
    let more : f.height ≤ length (z ∷ ns) = omega (arith, low) in
    let p : PoppedAny μ (seen w (f ∷ fs) (y ∷ z ∷ ns) inits) (maybe.Known t) (seen w (f ∷ fs) (z ∷ ns) inits) = rw a (seen_pop μ w f fs (maybe.Known t) (z ∷ ns) inits more) in
    let q : PoppedAny μ (seen w (f ∷ fs) (z ∷ ns) inits) (maybe.Known t) (seen w (f ∷ fs) ns inits) = rw b (seen_pop μ w f fs (maybe.Known t) ns inits low) in (
      combined μ (seen w (f ∷ fs) (y ∷ z ∷ ns) inits) (seen w (f ∷ fs) (z ∷ ns) inits) (seen w (f ∷ fs) ns inits)
          (seen w (f ∷ fs) (maybe.Known u ∷ ns) inits) t u p q (seen_push μ w f fs (maybe.Known u) ns inits low),
      low,
    )

-- where an operand lies under another there are two
two_there : (b : Bool) (k : ℕ) (xs : List MaybeType) (t : ValType) → or_any b (slice_get (take k xs) 1) ≡ Some (maybe.Known t) → 2 ≤ length xs
two_there true zero xs t e = cc
two_there false zero xs t e = cc
two_there true (suc k) [] t e = cc
two_there false (suc k) [] t e = cc
two_there true (suc zero) (x ∷ []) t e = cc
two_there false (suc zero) (x ∷ []) t e = cc
two_there true (suc (suc k)) (x ∷ []) t e = cc
two_there false (suc (suc k)) (x ∷ []) t e = cc
two_there b (suc k) (x ∷ y ∷ xs) t e = omega arith

-- and the frame began below it
under_top : (b : Bool) (k : ℕ) (xs : List MaybeType) (t : ValType) → or_any b (slice_get (take k xs) 1) ≡ Some (maybe.Known t) → 2 ≤ k
under_top true zero xs t e = cc
under_top false zero xs t e = cc
under_top true (suc zero) [] t e = cc
under_top false (suc zero) [] t e = cc
under_top true (suc zero) (x ∷ xs) t e = cc
under_top false (suc zero) (x ∷ xs) t e = cc
under_top b (suc (suc k)) xs t e = omega arith

-- so one is left when one was taken off
pub one_left : (w : Fixed) (cs : List Frame) (ms ns : List MaybeType) (inits : List ℕ) (y : MaybeType) (t : ValType) → operand_at (held w cs ms inits).opens 1 ≡ Some (maybe.Known t)
    → ms ≡ ns ++ y ∷ [] → 0 < length ns
one_left w cs ms ns inits y t e h =
    let k = at (reverse cs) (reverse ms) e in
    let l = length-reverse ms in
    let n = ap length h ∙ length_push ns y in
    omega (arith, k, l, n)
  where
    at : (fs : List Frame) (xs : List MaybeType) → operand_at (seen w fs xs inits).opens 1 ≡ Some (maybe.Known t) → 2 ≤ length xs
    at [] xs e = cc
    at (f ∷ fs) xs e = two_there f.unreachable (length xs - f.height) xs t e

pub held_combine : (μ : Meaning) (w : Fixed) (cs : List Frame) (ms ns os : List MaybeType) (inits : List ℕ) (y : MaybeType) (t u : ValType)
    → operand_at (held w cs ms inits).opens 0 ≡ Some (maybe.Known t) → operand_at (held w cs ms inits).opens 1 ≡ Some (maybe.Known t) → Sound cs ms inits
    → ms ≡ ns ++ y ∷ [] → ReplacesLast (maybe.Known u) ns os
    → Exchanged μ (held w cs ms inits) (types_in μ (t ∷ t ∷ [])) (types_in μ (u ∷ [])) (held w cs os inits) × Sound cs os inits
held_combine μ w cs ms ns os inits y t u d e l h (front, z, i, j) =
    let a : reverse ms ≡ y ∷ z ∷ reverse front = rw (h, i) (reverse_last (front ++ z ∷ []) y ∙ ap (λ (xs : List MaybeType). y ∷ xs) (reverse_last front z)) in
    let b : reverse os ≡ maybe.Known u ∷ reverse front = rw j (reverse_last front (maybe.Known u)) in
    let n : length os ≡ length (reverse front) + 1 = ap length j ∙ length_push front (maybe.Known u) ∙ ap (λ (k : ℕ). k + 1) (sym (length-reverse front)) in
    rw (a, b, n) (at (reverse cs) (rw a at d) (rw a at e) l)
  where
    at : (fs : List Frame) → operand_at (seen w fs (y ∷ z ∷ reverse front) inits).opens 0 ≡ Some (maybe.Known t)
        → operand_at (seen w fs (y ∷ z ∷ reverse front) inits).opens 1 ≡ Some (maybe.Known t) → Layered fs (length ms) (length inits)
        → Exchanged μ (seen w fs (y ∷ z ∷ reverse front) inits) (types_in μ (t ∷ t ∷ [])) (types_in μ (u ∷ [])) (seen w fs (maybe.Known u ∷ reverse front) inits)
        × Layered fs (length (reverse front) + 1) (length inits)
    at [] d e l = cc
    at (f ∷ fs) d e l =
        let (c, low) = seen_combine μ w f fs y z (reverse front) inits t u d e in
        (c, (omega (arith, low), l.1, l.2))

-- where the other could not be replaced
pub sound_halfway : (w : Fixed) (cs : List Frame) (ms ns : List MaybeType) (inits : List ℕ) (y : MaybeType) (t : ValType)
    → operand_at (held w cs ms inits).opens 1 ≡ Some (maybe.Known t) → Sound cs ms inits → ms ≡ ns ++ y ∷ [] → Sound cs ns inits
sound_halfway w cs ms ns inits y t e l h =
    let n = ap length h ∙ length_push ns y in
    let r = length-reverse ms in
    at (reverse cs) (reverse ms) e l (omega (arith, n, r))
  where
    at : (fs : List Frame) (xs : List MaybeType) → operand_at (seen w fs xs inits).opens 1 ≡ Some (maybe.Known t) → Layered fs (length ms) (length inits) → length xs ≡ length ns + 1
        → Layered fs (length ns) (length inits)
    at [] xs e l n = cc
    at (f ∷ fs) xs e l n = let k = under_top f.unreachable (length xs - f.height) xs t e in (omega (arith, k, n), l.1, l.2)

-- what was read at a place is known of an operand
pub known_at : (w : Fixed) (cs : List Frame) (ms xs : List MaybeType) (inits : List ℕ) (f : Frame) (n i : ℕ) (a d : MaybeType) (t : ValType) → slice_get cs (length cs - 1) ≡ Some f → xs ≡ ms
    → i ≡ length xs - 1 - n → n < length xs → f.height ≤ i → a ≡ get_or xs i d → a ≡ maybe.Known t → operand_at (held w cs ms inits).opens n ≡ Some (maybe.Known t)
known_at w cs ms xs inits f n i a d t e x j h k g s =
    let k' : f.height ≤ length xs - 1 - n = rw j at k in
    let g' : a ≡ get_or xs (length xs - 1 - n) d = rw j at g in
    sym (held_peek w cs ms xs inits f n a d e x h k' g') ∙ ap Some s
