-- The same of a visitor that holds a validator, and judges by what stays.
use Rattle.std.proofs.Common.{◌≡◌, ◌∙◌, ◌+◌, ℕ, length, [], Option, Some, None, inl, inr, Result, Ok, Err, true, false, refl, sym, subst}
use Rattle.wasm_types.specs.decoding.Decoder.{State as Bytes}
use Rattle.wasm_types.specs.decoding.ErrorValue.{ErrorValue}
use Rattle.wasm_types.specs.decoding.declared.error.ErrorKind.{ErrorKind}
use Rattle.wasm_types.specs.decoding.declared.error.ErrorKind.TheVariants as kinds
use Rattle.wasm_types.specs.reader.Reading.{IsNotMemory}
use Rattle.wasm_operators_enums.specs.Op.{Op}
use Rattle.wasm_operators_encoding.specs.expressions.Code.{Code, walk}
use Rattle.wasm_operators_encoding.specs.expressions.Spelling.{SpelledExpression}
use Rattle.wasm_operators_reader.specs.Standing.{Standing, at_start}
use Rattle.wasm_operators_reader.specs.Walking.{VisitsAll}
use Rattle.wasm_operators_reader.specs.walks.Whole.{TellsTo, TellsUntilAt, Stops}
use Rattle.wasm_operator_validator_rules.specs.constants.Constants.{IsConstantOperator}
use Rattle.wasm_operator_validator_state.specs.resources.Meaning.{Meaning}
use Rattle.wasm_operator_validator_state.specs.Refusals.{OfContent}
use Rattle.wasm_operator_validator_state.specs.State.{State, Visits}
use Rattle.wasm_operator_validator_constants.specs.declared.refusal.ConstantRefusal.{ConstantRefusal}
use Rattle.wasm_operator_validator_constants.specs.Refusals.{kind_of_constant, refused_constant}
use Rattle.wasm_operator_validator_constants.specs.Checked.{Surroundings, RefusedWith, VisitsConstant, ValidatesConstant}
use Rattle.wasm_operator_validator_constants.specs.Operators.{RefusesOperator}
use Rattle.wasm_operator_validator_constants.specs.laws.Operators.{refusal_denies, refusal_not_memory}
use Rattle.wasm_operator_validator_constants.specs.laws.Mapped.{all_by_state, walk_by_state, until_by_state}
use Rattle.wasm_operator_validator_constants.specs.laws.Tested.{stopped_reading, stopped_at_operator, stopped_at_end, accepted_to_end}

-- what is judged by is the same where its parts are
pub same_around : (a b : ℕ) (m n : Meaning) (x y : ℕ) → a ≡ b → m ≡ n → x ≡ y
    → ◌≡◌ {A = Surroundings} (record { bits = a; meaning = m; imported = x }) (record { bits = b; meaning = n; imported = y })
same_around a b m n x y p q r = rw (p, q, r) refl

-- ---- one operator

-- an operator is refused by the test
pub refused_visit : (w : Surroundings) (σ τ : State) (o : Op) (r : ConstantRefusal) → RefusesOperator w.bits w.meaning.«module» w.imported o r
    → τ ≡ record σ { failed = true } → VisitsConstant w σ o (Some (kind_of_constant r)) τ
refused_visit w σ τ o r why e =
    let not_memory = refusal_not_memory w.bits w.meaning.«module» w.imported o r why in
    inr (refusal_denies w.bits w.meaning.«module» w.imported o r why, (not_memory, (r, why, refl)), e)

-- one that is constant is validated
pub passed_visit : (w : Surroundings) (σ τ : State) (o : Op) (k : Option ErrorKind) → IsConstantOperator w.bits w.meaning.«module» w.imported o
    → Visits w.meaning σ o k τ → VisitsConstant w σ o k τ
passed_visit w σ τ o k p v = inl (p, v)

-- ---- all of them

-- the answer of a visitor
abbrev pub Answer : Type 0
Answer = Result (Unit {0}) ConstantRefusal

module _ {V : Type 0} (visits : V → Op → Answer → V → Type 0) (around : V → Surroundings) (state : V → State)
    (visited : (v : V) (o : Op) (a : Answer) (w : V) → visits v o a w → VisitsConstant (around v) (state v) o (refused_constant a) (state w) × (around w ≡ around v))
    (s : Bytes) (v : V) (going : (state v).failed ≡ false) where
  abbrev keeps : V → Type 0
  keeps u = around u ≡ around v

  holds : (u : V) (o : Op) (a : Answer) (w : V) → keeps u → visits u o a w → VisitsConstant (around v) (state u) o (refused_constant a) (state w) × keeps w
  holds u o a w k h =
      let one = visited u o a w h in
      (subst (λ (x : Surroundings). VisitsConstant x (state u) o (refused_constant a) (state w)) k one.0, one.1 ∙ k)

  -- the test of this constant
  abbrev Passes : Op → Type 0
  Passes = IsConstantOperator (around v).bits (around v).meaning.«module» (around v).imported

  pub ends_reading : (w : V) (e : ErrorValue) → (IsNotMemory e.kind → (c : Code) → SpelledExpression s.settings c s.rest → ⊥)
      → ((t : Standing) × TellsTo visits (Ok tt) (at_start s) v t w × Stops t e) → ValidatesConstant (around v) (state v) s (Err e)
  ends_reading w e unspelled (t, walked, stops) =
      let of = walk_by_state visits (VisitsConstant (around v)) state refused_constant keeps holds (Ok tt) None refl (at_start s) t v w refl walked in
      stopped_reading Passes (RefusedWith (around v)) (around v).meaning (state v) s going (state w) e unspelled t of.0 stops

  pub ends_at_operator : (w : V) (r : ConstantRefusal) (e : ErrorValue) (place : ℕ) → TellsUntilAt visits (Ok tt) (at_start s) v (Err r) w place → e.kind ≡ kind_of_constant r
      → OfContent e.kind (e.offset ≡ place) → ValidatesConstant (around v) (state v) s (Err e)
  ends_at_operator w r e place until k at =
      let of = until_by_state visits (VisitsConstant (around v)) state refused_constant keeps holds (Ok tt) None refl (at_start s) v w (Err r) place refl until in
      let told : TellsUntilAt (VisitsConstant (around v)) None (at_start s) (state v) (Some e.kind) (state w) place =
      subst (λ (y : ErrorKind). TellsUntilAt (VisitsConstant (around v)) None (at_start s) (state v) (Some y) (state w) place) (sym k) of in
      stopped_at_operator Passes (RefusedWith (around v)) (around v).meaning (state v) s going (state w) e place told at

  -- a visitor was told of an expression, to the end of the bytes
  abbrev pub Whole : V → Type 0
  Whole w = (c : Code) × SpelledExpression s.settings c s.rest × VisitsAll visits (Ok tt) v (walk c) w

  pub ends_at_end : (w : V) (e : ErrorValue) → Whole w → ((state w).opens ≡ [] → ⊥) → e.kind ≡ kinds.Other → e.offset ≡ s.place + length s.rest
      → ValidatesConstant (around v) (state v) s (Err e)
  ends_at_end w e (c, h, all) still kind at =
      let of = all_by_state visits (VisitsConstant (around v)) state refused_constant keeps holds (Ok tt) None refl (walk c) v w refl all in
      stopped_at_end Passes (RefusedWith (around v)) (around v).meaning (state v) s going c h (state w) of.0 e still kind at

  pub ends_well : (w : V) → Whole w → (state w).opens ≡ [] → ValidatesConstant (around v) (state v) s (Ok tt)
  ends_well w (c, h, all) closed =
      let of = all_by_state visits (VisitsConstant (around v)) state refused_constant keeps holds (Ok tt) None refl (walk c) v w refl all in
      accepted_to_end Passes (RefusedWith (around v)) (around v).meaning (state v) s going c h (state w) of.0 closed
