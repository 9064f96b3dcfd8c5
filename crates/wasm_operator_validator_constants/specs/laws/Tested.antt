-- Each way in which the validation of an expression ends whose operators are tested.
use Rattle.std.proofs.Common.{◌≡◌, ◌↔◌, ◌+◌, ℕ, length, List, [], ◌∷◌, ◌++◌, Some, None, Ok, Err, false, inl, inr, sym, subst, append-nil}
use Rattle.wasm_types.specs.decoding.Decoder.{State as Bytes}
use Rattle.wasm_types.specs.decoding.Denials.{Denies}
use Rattle.wasm_types.specs.decoding.DenialLaws.{denies, denies_from}
use Rattle.wasm_types.specs.decoding.ErrorValue.{ErrorValue}
use Rattle.wasm_types.specs.decoding.declared.error.ErrorKind.{ErrorKind}
use Rattle.wasm_types.specs.decoding.declared.error.ErrorKind.TheVariants as kinds
use Rattle.wasm_types.specs.reader.Reading.{IsNotMemory}
use Rattle.wasm_operators_enums.specs.Op.{Op}
use Rattle.wasm_operators_encoding.specs.expressions.Code.{Code, walk}
use Rattle.wasm_operators_encoding.specs.expressions.Spelling.{SpelledExpression}
use Rattle.wasm_operators_encoding.specs.expressions.SpellingLaws.{one_expression}
use Rattle.wasm_operators_reader.specs.Standing.{Standing, at_start}
use Rattle.wasm_operators_reader.specs.RunLaws.{expression_run}
use Rattle.wasm_operators_reader.specs.MeetLaws.{meets_end}
use Rattle.wasm_operators_reader.specs.Walking.{VisitsAll}
use Rattle.wasm_operators_reader.specs.walks.Whole.{TellsTo, TellsUntilAt, Stops}
use Rattle.wasm_operator_validator_state.specs.resources.Meaning.{Meaning}
use Rattle.wasm_operator_validator_state.specs.Refusals.{OfContent}
use Rattle.wasm_operator_validator_state.specs.State.{State, Accepts, Visits}
use Rattle.wasm_operator_validator_state.specs.laws.Accepting.{accepts_nothing}
use Rattle.wasm_operator_validator_expression.specs.laws.Walked.{all_stay, accepted_on}
use Rattle.wasm_operator_validator_constants.specs.Tested.{IsRefused, VisitsTested, EachPasses, AcceptsTested, ValidatesTested}

denies_but : (k : ErrorKind) (P : Type 0) → (IsNotMemory k → P → ⊥) → Denies k P
denies_but (kinds.EndOfData h) P n = n tt
denies_but (kinds.MissingFeature f) P n = n tt
denies_but kinds.OutOfMemory P n = tt
denies_but kinds.Failed P n = n tt
denies_but kinds.Other P n = n tt

module _ (Passes : Op → Type 0) (Why : Op → ErrorKind → Type 0) (m : Meaning) where
  -- each operator that was accepted passed, and the validator accepted it
  pub all_passed : (os : List Op) (σ τ : State) → VisitsAll (VisitsTested Passes Why m) None σ os τ → EachPasses Passes os × VisitsAll (Visits m) None σ os τ
  all_passed [] σ τ e = (tt, e)
  all_passed (o ∷ os) σ τ (ρ, inl (p, v), more) = let rest = all_passed os ρ τ more in ((p, rest.0), (ρ, v, rest.1))
  all_passed (o ∷ os) σ τ (ρ, inr (n, r, i), more) = absurd r

  -- an operator among those that pass does
  passes_at : (os : List Op) (o : Op) (more : List Op) → EachPasses Passes (os ++ o ∷ more) → Passes o
  passes_at [] o more e = e.0
  passes_at (x ∷ os) o more e = passes_at os o more e.1

  -- an operator was refused by the test, or by the validator
  refused_denies : (σ τ : State) (o : Op) (k : ErrorKind) → VisitsTested Passes Why m σ o (Some k) τ → Denies k (Passes o × ((ps : List Op) × Accepts m σ (o ∷ ps)))
  refused_denies σ τ o k (inl (p, v)) = denies_from k ((ps : List Op) × Accepts m σ (o ∷ ps)) (Passes o × ((ps : List Op) × Accepts m σ (o ∷ ps))) (λ x. x.1) v.decides
  refused_denies σ τ o k (inr (n, r, i)) = denies k (Passes o × ((ps : List Op) × Accepts m σ (o ∷ ps))) (λ x. n x.0)

module _ (Passes : Op → Type 0) (Why : Op → ErrorKind → Type 0) (m : Meaning) (σ : State) (s : Bytes) (going : σ.failed ≡ false) where
  -- the bytes spell no expression
  pub stopped_reading : (ρ : State) (e : ErrorValue) → (IsNotMemory e.kind → (c : Code) → SpelledExpression s.settings c s.rest → ⊥)
      → (t : Standing) → TellsTo (VisitsTested Passes Why m) None (at_start s) σ t ρ → Stops t e → ValidatesTested Passes Why m σ s (Err e)
  stopped_reading ρ e unspelled t walked stops = record {
    exact = denies_but e.kind (AcceptsTested Passes m σ s) (λ n (c, h, a, p). unspelled n c h);
    stops = inl (t, ρ, walked, stops);
  }

  -- an operator was refused
  pub stopped_at_operator : (τ : State) (e : ErrorValue) (place : ℕ) → TellsUntilAt (VisitsTested Passes Why m) None (at_start s) σ (Some e.kind) τ place
      → OfContent e.kind (e.offset ≡ place) → ValidatesTested Passes Why m σ s (Err e)
  stopped_at_operator τ e place (t, n, (os, run, all), o, u, read, v, at) offset =
      let met : AcceptsTested Passes m σ s → Passes o × ((ps : List Op) × Accepts m n (o ∷ ps)) =
      λ (c, h, a, p). (let whole = expression_run s c h in let meets = meets_end os (walk c) (at_start s) t whole.0 u o run read whole.1 whole.2.frames in (
        passes_at Passes Why m os o meets.0 (subst (EachPasses Passes) meets.1 p),
        (meets.0, (accepted_on m os (o ∷ meets.0) σ n (all_passed Passes Why m os σ n all).1).0 (subst (Accepts m σ) meets.1 a)),
      )) in
      record {
        exact = denies_from e.kind (Passes o × ((ps : List Op) × Accepts m n (o ∷ ps))) (AcceptsTested Passes m σ s) met (refused_denies Passes Why m n τ o e.kind v);
        stops = inr (inl (place, τ, (t, n, (os, run, all), o, u, read, v, at), offset));
      }

  module _ (c : Code) (h : SpelledExpression s.settings c s.rest) (ρ : State) (all : VisitsAll (VisitsTested Passes Why m) None σ (walk c) ρ) where
    -- what was accepted to the end of the bytes is an expression exactly where no frame is open then
    whole : Accepts m σ (walk c) ↔ Accepts m ρ []
    whole = subst (λ (os : List Op). Accepts m σ os ↔ Accepts m ρ []) (append-nil (walk c)) (accepted_on m (walk c) [] σ ρ (all_passed Passes Why m (walk c) σ ρ all).1)

    pub stopped_at_end : (e : ErrorValue) → (ρ.opens ≡ [] → ⊥) → e.kind ≡ kinds.Other → e.offset ≡ s.place + length s.rest → ValidatesTested Passes Why m σ s (Err e)
    stopped_at_end e still kind at = record {
      exact = denies e.kind (AcceptsTested Passes m σ s)
          (λ (d, g, a, p). still ((accepts_nothing m ρ).0 (whole.0 (subst (λ (x : Code). Accepts m σ (walk x)) (one_expression s.settings d c s.rest g h) a))).1);
      stops = inr (inr (c, ρ, h, all, still, kind, at));
    }

    pub accepted_to_end : ρ.opens ≡ [] → ValidatesTested Passes Why m σ s (Ok tt)
    accepted_to_end closed =
        let passed = all_passed Passes Why m (walk c) σ ρ all in
        record {
          exact = (c, h, whole.1 ((accepts_nothing m ρ).1 ((all_stay m (walk c) σ ρ passed.1).failed going, closed)), passed.0);
          stops = tt;
        }
