-- Operators one after the other, with an `end`, are a constant expression.
use Rattle.std.proofs.Common.{◌≡◌, ◌≤◌, ◌<◌, ◌∙◌, ℕ, suc, zero, ◌+◌, ◌-◌, List, [], ◌∷◌, ◌++◌, refl, sym, ap, subst, arith, length, take, drop, get_or}
use Rattle.std.proofs.lemmas.List.{drop_more}
use Rattle.std.proofs.Math.Seq.{take-append_seam}
use Rattle.wasm_types.specs.settings.Settings.{Settings}
use Rattle.wasm_types.specs.trees.Below.{Below}
use Rattle.wasm_operators_immediates.specs.declared.frames.FrameKind.TheVariants.{Block}
use Rattle.wasm_operators_enums.specs.declared.control.ControlOperator.TheVariants as control
use Rattle.wasm_operators_enums.specs.Op as op
use Rattle.wasm_operators_enums.specs.Op.{Op}
use Rattle.wasm_operators_encoding.specs.Ends.{EndsOnce}
use Rattle.wasm_operators_encoding.specs.Operators.{SpelledOperator}
use Rattle.wasm_operators_encoding.specs.expressions.Code.{Code, plain, close, walk, IsIn}
use Rattle.wasm_operators_encoding.specs.expressions.Spelling.{SpelledOperators}
use Rattle.wasm_operator_validator_rules.specs.Operands.{ValueType, all_known}
use Rattle.wasm_operator_validator_rules.specs.Context.{Frame, Module, Initialised, initialised_at_first}
use Rattle.wasm_operator_validator_rules.specs.Row.{after}
use Rattle.wasm_operator_validator_rules.specs.Typed.{Typed}
use Rattle.wasm_operator_validator_rules.specs.constants.Constants.{AreConstantOperators}
use Rattle.wasm_module_validator_resources.specs.rules_in_order.Between.{IsBetween}
use Rattle.wasm_module_validator_resources.specs.rules_in_order.BetweenLaws.{InTurn, in_turn, between_so}
use Rattle.wasm_module_validator_checks.specs.rules.Spaces.{referred_in}
use Rattle.wasm_module_validator_fast_constants.specs.Steps.{within_constant, Goes, IsShortConstant}

-- what stands between two offsets are the bytes from the one to the other
pub between_is : (P : List ℕ → Type 0) (text : List ℕ) (i j : ℕ) (b : IsBetween P text i j) → take (j - i) (drop i text) ≡ b.front
between_is P text i j b =
    let n : j - i ≡ length b.front = omega (arith, b.place) in
    ap (λ (k : ℕ). take k (drop i text)) n ∙ ap (take (length b.front)) b.whole ∙ take-append_seam b.front (drop j text)

module _ (bits : ℕ) (g : Module) (text : List ℕ) (i : ℕ) where
  -- the operators, and more code behind them
  abbrev code_of : (n j : ℕ) (s : List ValueType) → Goes bits g text n i j s → Code → Code
  code_of zero j s h c = c
  code_of (suc n) j s (k, r, h, x) c = code_of n k r h (plain x.op c)

  in_code : (n j : ℕ) (s : List ValueType) (h : Goes bits g text n i j s) (c : Code) → IsIn Block c → IsIn Block (code_of n j s h c)
  in_code zero j s h c is = is
  in_code (suc n) j s (k, r, h, x) c is = in_code n k r h (plain x.op c) (rw x.plain refl, is)

  constant_code : (count n j : ℕ) (s : List ValueType) (h : Goes bits g text n i j s) (c : Code) → AreConstantOperators bits g count (walk c)
      → AreConstantOperators bits g count (walk (code_of n j s h c))
  constant_code count zero j s h c are = are
  constant_code count (suc n) j s (k, r, h, x) c are = constant_code count n k r h (plain x.op c) (x.constant count, are)

  typed_code : (t : ValueType) (f : Frame) (n j : ℕ) (s : List ValueType) (h : Goes bits g text n i j s) (c : Code)
      → ((set : Initialised) → Typed (within_constant bits g t) f set c (all_known s)) → (set : Initialised) → Typed (within_constant bits g t) f set (code_of n j s h c) []
  typed_code t f zero j s h c typed set = subst (λ (r : List ValueType). Typed (within_constant bits g t) f set c (all_known r)) h.1 (typed set)
  typed_code t f (suc n) j s (k, r, h, x) c typed set =
      typed_code t f n k r h (plain x.op c) (λ set. (all_known s, x.typed t set, typed (after x.op set))) set

  spelled_code : (z : Settings) (n j e : ℕ) (s : List ValueType) (h : Goes bits g text n i j s) (c : Code) → IsBetween (SpelledOperators z (walk c)) text j e
      → IsBetween (SpelledOperators z (walk (code_of n j s h c))) text i e
  spelled_code z zero j e s h c b = subst (λ (k : ℕ). IsBetween (SpelledOperators z (walk c)) text k e) h.0 b
  spelled_code z (suc n) j e s (k, r, h, x) c b =
      spelled_code z n k e r h (plain x.op c)
      (between_so (InTurn (SpelledOperator z x.op) (SpelledOperators z (walk c))) (SpelledOperators z (x.op ∷ walk c)) text k e (λ t spelled. spelled)
      (in_turn (SpelledOperator z x.op) (SpelledOperators z (walk c)) text k j e (x.spelled z) b))

  once_code : (n j : ℕ) (s : List ValueType) (h : Goes bits g text n i j s) (c : Code) → EndsOnce (walk c) → EndsOnce (walk (code_of n j s h c))
  once_code zero j s h c once = once
  once_code (suc n) j s (k, r, h, x) c once =
      once_code n k r h (plain x.op c)
      (record { front = x.op ∷ once.front; last = once.last; whole = ap (λ (os : List Op). x.op ∷ os) once.whole; none = (rw x.plain refl, once.none); ended = once.ended })

  named_code : (n j : ℕ) (s : List ValueType) (h : Goes bits g text n i j s) (c : Code) → referred_in (code_of n j s h c) ≡ referred_in c
  named_code zero j s h c = refl
  named_code (suc n) j s (k, r, h, x) c = named_code n k r h (plain x.op c) ∙ ap (λ (xs : List ℕ). xs ++ referred_in c) x.quiet

  -- ---- the end

  ending : Code
  ending = close (op.Control control.End)

  end_there : (z : Settings) (j : ℕ) → j < length text → get_or text j 0 ≡ 0x0b → IsBetween (SpelledOperators z (op.Control control.End ∷ [])) text j (j + 1)
  end_there z j inside last = record {
    front = 0x0b ∷ [];
    whole = drop_more text j 0 inside ∙ ap (λ (b : ℕ). b ∷ drop (j + 1) text) last;
    place = omega arith;
    inside = omega (arith, inside);
    such = (0x0b ∷ [], [], record { canonical = refl; front = 0x0b ∷ []; back = []; opcode = (refl, refl); carried = refl; whole = refl }, refl, refl);
  }

  pub accepted : (t u : ValueType) (n j : ℕ) → Goes bits g text n i j (u ∷ []) → i ≤ j → j < length text → get_or text j 0 ≡ 0x0b → Below u t
      → IsShortConstant bits g t text i (j + 1) []
  accepted t u n j h forward inside last below =
      let c = code_of n j (u ∷ []) h (close (op.Control control.End)) in
      let is : IsIn Block c = in_code n j (u ∷ []) h (close (op.Control control.End)) refl in
      let f : Frame = record { kind = Block; block = record { params = []; results = t ∷ [] }; before = initialised_at_first 0 [] } in
      record {
        code = c;
        forward = omega (arith, forward);
        inside = omega (arith, inside);
        spelled = λ z.
            let b = spelled_code z n j (j + 1) (u ∷ []) h (close (op.Control control.End)) (end_there z j inside last) in
            record { expression = is; spelled = subst (λ (r : List ℕ). SpelledOperators z (walk c) r) (sym (between_is (SpelledOperators z (walk c)) text i (j + 1) b)) b.such };
        once = once_code n j (u ∷ []) h (close (op.Control control.End)) (record { front = []; last = op.Control control.End; whole = refl; none = tt; ended = refl });
        constant = λ count. record {
          operators = constant_code count n j (u ∷ []) h (close (op.Control control.End)) (tt, tt);
          typed = record { expression = is; typed = typed_code t f n j (u ∷ []) h (close (op.Control control.End)) (λ set. ((below, tt), tt, tt)) (initialised_at_first 0 []) };
        };
        named = named_code n j (u ∷ []) h (close (op.Control control.End));
      }
