-- The same of a visitor that holds a validator, by what its visits promise.
use Rattle.std.proofs.Common.{◌≡◌, ◌+◌, ℕ, length, [], Some, None, Result, Ok, Err, true, false, refl, sym, subst}
use Rattle.wasm_types.specs.decoding.Decoder.{State as Bytes}
use Rattle.wasm_types.specs.decoding.ErrorValue.{ErrorValue}
use Rattle.wasm_types.specs.decoding.declared.error.ErrorKind.{ErrorKind}
use Rattle.wasm_types.specs.decoding.declared.error.ErrorKind.TheVariants as kinds
use Rattle.wasm_types.specs.reader.Reading.{IsNotMemory}
use Rattle.wasm_operators_enums.specs.Op.{Op}
use Rattle.wasm_operators_encoding.specs.expressions.Code.{Code, walk}
use Rattle.wasm_operators_encoding.specs.expressions.Spelling.{SpelledExpression}
use Rattle.wasm_operators_reader.specs.Standing.{Standing, at_start}
use Rattle.wasm_operators_reader.specs.Walking.{VisitsAll}
use Rattle.wasm_operators_reader.specs.walks.Whole.{TellsTo, TellsUntilAt, Stops}
use Rattle.wasm_operator_validator_state.specs.resources.Meaning.{Meaning}
use Rattle.wasm_operator_validator_state.specs.Refusals.{OfContent, kind_of}
use Rattle.wasm_operator_validator_state.specs.declared.refusal.Refusal.{Refusal}
use Rattle.wasm_operator_validator_state.specs.State.{State, Visits}
use Rattle.wasm_operator_validator_expression.specs.declared.validating.Refused.{Refused}
use Rattle.wasm_operator_validator_expression.specs.Validating.{Validates, refused_for}
use Rattle.wasm_operator_validator_expression.specs.laws.Walked.{all_of_state, walk_of_state, until_of_state}
use Rattle.wasm_operator_validator_expression.specs.laws.Ways.{stopped_at_once, stopped_reading, stopped_at_operator, stopped_at_end, accepted_to_end}

-- the answer of a visitor
abbrev pub Answer : Type 0
Answer = Result (Unit {0}) Refused

module _ {V : Type 0} (visits : V → Op → Answer → V → Type 0) (meaning : V → Meaning) (state : V → State) (why : V → Refusal) (keeps : V → V → Type 0)
    (visited : (v : V) (o : Op) (a : Answer) (w : V) → visits v o a w → Visits (meaning v) (state v) o (refused_for (why w) a) (state w) × keeps v w)
    (kept : (v w : V) → keeps v w → meaning w ≡ meaning v) (stays : (v : V) → keeps v v) (through : (u v w : V) → keeps u v → keeps v w → keeps u w)
    (s : Bytes) (v : V) where
  holds : (u : V) (o : Op) (a : Answer) (w : V) → keeps v u → visits u o a w → Visits (meaning v) (state u) o (refused_for (why w) a) (state w) × keeps v w
  holds u o a w k h =
      let one = visited u o a w h in
      (subst (λ (m : Meaning). Visits m (state u) o (refused_for (why w) a) (state w)) (kept v u k) one.0, through v u w k one.1)

  -- what is promised where this is answered and left
  abbrev pub Ends : Result (Unit {0}) ErrorValue → V → Type 0
  Ends answer w = Validates (meaning v) (state v) s answer (state w) × keeps v w

  pub ends_at_once : (e : ErrorValue) → (state v).failed ≡ true → e.kind ≡ kinds.Failed → e.offset ≡ s.place → Ends (Err e) v
  ends_at_once e f k at = (stopped_at_once (meaning v) (state v) s e f k at, stays v)

  module _ (going : (state v).failed ≡ false) where
    pub ends_reading : (w x : V) (e : ErrorValue) → (IsNotMemory e.kind → (c : Code) → SpelledExpression s.settings c s.rest → ⊥)
        → ((t : Standing) × TellsTo visits (Ok tt) (at_start s) v t w × Stops t e) → state x ≡ record (state w) { failed = true } → keeps w x → Ends (Err e) x
    ends_reading w x e unspelled (t, walked, stops) i k =
        let of = walk_of_state visits (meaning v) state (λ a w. refused_for (why w) a) (keeps v) holds (Ok tt) (λ w. refl) (at_start s) t v w (stays v) walked in
        (stopped_reading (meaning v) (state v) s going (state w) (state x) e unspelled t of.0 stops i, through v w x of.1 k)

    pub ends_at_operator : (w : V) (r : Refused) (e : ErrorValue) (place : ℕ) → TellsUntilAt visits (Ok tt) (at_start s) v (Err r) w place → e.kind ≡ kind_of (why w)
        → OfContent e.kind (e.offset ≡ place) → Ends (Err e) w
    ends_at_operator w r e place until k at =
        let of = until_of_state visits (meaning v) state (λ a w. refused_for (why w) a) (keeps v) holds (Ok tt) (λ w. refl) (at_start s) v w (Err r) place (stays v) until in
        let told : TellsUntilAt (Visits (meaning v)) None (at_start s) (state v) (Some e.kind) (state w) place =
        subst (λ (y : ErrorKind). TellsUntilAt (Visits (meaning v)) None (at_start s) (state v) (Some y) (state w) place) (sym k) of.0 in
        (stopped_at_operator (meaning v) (state v) s going (state w) e place told at, of.1)

    -- a visitor was told of an expression, to the end of the bytes
    abbrev pub Whole : V → Type 0
    Whole w = (c : Code) × SpelledExpression s.settings c s.rest × VisitsAll visits (Ok tt) v (walk c) w

    pub ends_at_end : (w x : V) (e : ErrorValue) → Whole w → ((state w).opens ≡ [] → ⊥) → e.kind ≡ kinds.Other → e.offset ≡ s.place + length s.rest
        → state x ≡ record (state w) { failed = true } → keeps w x → Ends (Err e) x
    ends_at_end w x e (c, h, all) still kind at i k =
        let of = all_of_state visits (meaning v) state (λ a w. refused_for (why w) a) (keeps v) holds (Ok tt) (λ w. refl) (walk c) v w (stays v) all in
        (stopped_at_end (meaning v) (state v) s going c h (state w) of.0 (state x) e still kind at i, through v w x of.1 k)

    pub ends_well : (w : V) → Whole w → (state w).opens ≡ [] → Ends (Ok tt) w
    ends_well w (c, h, all) closed =
        let of = all_of_state visits (meaning v) state (λ a w. refused_for (why w) a) (keeps v) holds (Ok tt) (λ w. refl) (walk c) v w (stays v) all in
        (accepted_to_end (meaning v) (state v) s going c h (state w) of.0 closed, of.1)
