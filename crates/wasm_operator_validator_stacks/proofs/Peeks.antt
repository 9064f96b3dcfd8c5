-- Operands of the innermost frame, as they lie in memory.
use Rattle.std.proofs.Common.{◌≡◌, ◌≤◌, ◌<◌, ◌-◌, ◌∙◌, ℕ, zero, suc, List, [], ◌∷◌, Some, None, refl, sym, ap, arith, length, take, reverse, get_or, slice_get}
use Rattle.std.proofs.lemmas.List.{length-reverse, get_or-reverse}
use Rattle.std.proofs.lemmas.Option.{slice_get-get_or, slice_get_past}
use Rattle.wasm_operator_validator_state.specs.declared.operand.MaybeType.{MaybeType}
use Rattle.wasm_operator_validator_state.specs.declared.frame.Frame.{Frame}
use Rattle.wasm_operator_validator_stacks.specs.Peeking.{or_any, operand_at}
use Rattle.wasm_operator_validator_stacks.proofs.Layers.{Fixed, held, top_frame}

get_front : (k n : ℕ) (xs : List MaybeType) → n < k → slice_get (take k xs) n ≡ slice_get xs n
get_front zero n xs h = absurd (omega (arith, h))
get_front (suc k) n [] h = refl
get_front (suc k) zero (x ∷ xs) h = refl
get_front (suc k) (suc n) (x ∷ xs) h = get_front k n xs (omega (arith, h))

short_front : (k : ℕ) (xs : List MaybeType) → length (take k xs) ≤ k
short_front zero xs = omega arith
short_front (suc k) [] = omega arith
short_front (suc k) (x ∷ xs) = let h = short_front k xs in omega (arith, h)

no_front : (k n : ℕ) (xs : List MaybeType) → k ≤ n → slice_get (take k xs) n ≡ None
no_front k n xs h = let i = short_front k xs in slice_get_past (take k xs) n (omega (arith, h, i))

pub held_own : (w : Fixed) (cs : List Frame) (ms : List MaybeType) (inits : List ℕ) (f : Frame) (n : ℕ) → slice_get cs (length cs - 1) ≡ Some f
    → operand_at (held w cs ms inits).opens n ≡ or_any f.unreachable (slice_get (take (length ms - f.height) (reverse ms)) n)
held_own w cs ms inits f n e = let (fs, h, g) = top_frame cs f e in rw (h, length-reverse) refl

pub held_past : (w : Fixed) (cs : List Frame) (ms : List MaybeType) (inits : List ℕ) (f : Frame) (n : ℕ) → slice_get cs (length cs - 1) ≡ Some f → length ms - f.height ≤ n
    → or_any f.unreachable None ≡ operand_at (held w cs ms inits).opens n
held_past w cs ms inits f n e h = sym (held_own w cs ms inits f n e ∙ ap (or_any f.unreachable) (no_front (length ms - f.height) n (reverse ms) h))

pub held_peek : (w : Fixed) (cs : List Frame) (ms xs : List MaybeType) (inits : List ℕ) (f : Frame) (n : ℕ) (a d : MaybeType) → slice_get cs (length cs - 1) ≡ Some f → xs ≡ ms
    → n < length xs → f.height ≤ length xs - 1 - n → a ≡ get_or xs (length xs - 1 - n) d → Some a ≡ operand_at (held w cs ms inits).opens n
held_peek w cs ms xs inits f n a d e x h k g =
    let r = length-reverse xs in
    let i : n < length (reverse xs) = omega (arith, r, h) in
    let b : n < length xs - f.height = omega (arith, h, k) in
    rw (← x)
    (sym (held_own w cs xs inits f n e ∙ ap (or_any f.unreachable) (get_front (length xs - f.height) n (reverse xs) b ∙ slice_get-get_or (reverse xs) n d i ∙ ap Some (get_or-reverse xs n d h ∙ sym g))))
