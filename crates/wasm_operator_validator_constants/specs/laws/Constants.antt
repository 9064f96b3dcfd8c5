-- Where a constant begins, what is accepted with each operator constant is a constant expression.
use Rattle.std.proofs.Common.{◌≡◌, ◌↔◌, ℕ, List, [], ◌∷◌, Result, Ok, Err, false, refl, sym, subst}
use Rattle.wasm_types.specs.decoding.Decoder.{State as Bytes}
use Rattle.wasm_types.specs.decoding.Denials.{Tells, UnlessMemory}
use Rattle.wasm_types.specs.decoding.DenialLaws.{denies_from}
use Rattle.wasm_types.specs.decoding.ErrorValue.{ErrorValue}
use Rattle.wasm_types.specs.decoding.declared.error.ErrorKind.{ErrorKind}
use Rattle.wasm_types.specs.decoding.declared.error.ErrorKind.TheVariants as kinds
use Rattle.wasm_types.specs.values.declared.value.ValType.{ValType}
use Rattle.wasm_operators_immediates.specs.declared.block.BlockType.TheVariants as block
use Rattle.wasm_operators_enums.specs.Op.{Op}
use Rattle.wasm_operators_encoding.specs.expressions.Code.{Code, walk}
use Rattle.wasm_operators_encoding.specs.expressions.Spelling.{SpelledOperators, SpelledExpression}
use Rattle.wasm_operator_validator_rules.specs.constants.Constants.{IsConstantOperator, AreConstantOperators, IsConstant}
use Rattle.wasm_operator_validator_rules.specs.Context.{Module}
use Rattle.wasm_operator_validator_state.specs.laws.Bodies.{bodies_are_accepted}
use Rattle.wasm_operator_validator_state.specs.State.{Given}
use Rattle.wasm_operator_validator_stacks.specs.Layout.{none_saved}
use Rattle.wasm_operator_validator_constants.specs.Beginning.{constant_begins}
use Rattle.wasm_operator_validator_constants.specs.Tested.{EachPasses, AcceptsTested, ValidatesTested}
use Rattle.wasm_operator_validator_constants.specs.Checked.{Surroundings, ValidatesConstant, SpellsConstant, ChecksConstant, StopsConstant}

module _ (bits : ℕ) (g : Module) (count : ℕ) where
  each_constant : (os : List Op) → EachPasses (IsConstantOperator bits g count) os ↔ AreConstantOperators bits g count os
  each_constant [] = (λ u. tt, λ u. tt)
  each_constant (o ∷ os) = let more = each_constant os in (λ h. (h.0, more.0 h.1), λ h. (h.0, more.1 h.1))

module _ (w : Surroundings) (t : ValType) (s : Bytes) where
  abbrev Passes : Op → Type 0
  Passes = IsConstantOperator w.bits w.meaning.«module» w.imported

  abbrev known : Given
  known = record { bits = w.bits; locals = []; params = 0; shared = false }

  -- what is accepted is a constant expression
  ahead : AcceptsTested Passes w.meaning (constant_begins w.bits t) s → SpellsConstant w t s
  ahead (c, h, a, p) =
      let (d, body, e) = (bodies_are_accepted w.meaning known (block.Val t) none_saved (walk c)).0 a in (
        d,
        record { expression = body.expression; spelled = subst (λ (os : List Op). SpelledOperators s.settings os s.rest) e h.spelled },
        record {
          operators = subst (AreConstantOperators w.bits w.meaning.«module» w.imported) e ((each_constant w.bits w.meaning.«module» w.imported (walk c)).0 p);
          typed = body;
        },
      )

  back : SpellsConstant w t s → AcceptsTested Passes w.meaning (constant_begins w.bits t) s
  back (c, h, k) =
      (c, h, (bodies_are_accepted w.meaning known (block.Val t) none_saved (walk c)).1 (c, k.typed, refl), (each_constant w.bits w.meaning.«module» w.imported (walk c)).1 k.operators)

  tells : (answer : Result (Unit {0}) ErrorValue) → Tells answer (AcceptsTested Passes w.meaning (constant_begins w.bits t) s) → Tells answer (SpellsConstant w t s)
  tells (Ok x) h = ahead h
  tells (Err e) h = denies_from e.kind (AcceptsTested Passes w.meaning (constant_begins w.bits t) s) (SpellsConstant w t s) back h

  unless : (k : ErrorKind) (P : Type 0) → P → UnlessMemory k P
  unless (kinds.EndOfData h) P p = p
  unless (kinds.MissingFeature f) P p = p
  unless kinds.OutOfMemory P p = tt
  unless kinds.Failed P p = p
  unless kinds.Other P p = p

  -- what the validation of the operators promises is what the check does
  pub checks_constant : (answer : Result (Unit {0}) ErrorValue) → ValidatesConstant w (constant_begins w.bits t) s answer → ChecksConstant w t s answer
  checks_constant (Ok x) v = record { exact = tells (Ok x) v.exact; stops = tt }
  checks_constant (Err e) v = record { exact = tells (Err e) v.exact; stops = unless e.kind (StopsConstant w t s e) v.stops }

  -- without memory for a frame nothing is said
  pub checks_without_memory : (e : ErrorValue) → e.kind ≡ kinds.OutOfMemory → ChecksConstant w t s (Err e)
  checks_without_memory e k = record { exact = rw k tt; stops = rw k tt }
