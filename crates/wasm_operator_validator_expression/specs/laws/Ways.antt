-- Each way in which a validation of an expression ends.
use Rattle.std.proofs.Common.{◌≡◌, ◌↔◌, ◌∙◌, ◌+◌, ℕ, length, List, [], ◌∷◌, ◌++◌, Some, None, Ok, Err, Bool, true, false, inl, inr, refl, sym, ap, subst, append-nil}
use Rattle.wasm_types.specs.decoding.Decoder.{State as Bytes}
use Rattle.wasm_types.specs.decoding.Denials.{Denies}
use Rattle.wasm_types.specs.decoding.DenialLaws.{denies, denies_from}
use Rattle.wasm_types.specs.decoding.ErrorValue.{ErrorValue}
use Rattle.wasm_types.specs.decoding.declared.error.ErrorKind.{ErrorKind}
use Rattle.wasm_types.specs.decoding.declared.error.ErrorKind.TheVariants as kinds
use Rattle.wasm_types.specs.reader.Reading.{IsNotMemory}
use Rattle.wasm_operators_enums.specs.Op.{Op}
use Rattle.wasm_operators_encoding.specs.expressions.Code.{Code, walk}
use Rattle.wasm_operators_encoding.specs.expressions.Spelling.{SpelledOperators, SpelledExpression}
use Rattle.wasm_operators_encoding.specs.expressions.SpellingLaws.{one_expression}
use Rattle.wasm_operators_reader.specs.Standing.{Standing, at_start}
use Rattle.wasm_operators_reader.specs.RunLaws.{expression_run}
use Rattle.wasm_operators_reader.specs.MeetLaws.{meets_end}
use Rattle.wasm_operators_reader.specs.Walking.{VisitsAll}
use Rattle.wasm_operators_reader.specs.walks.Whole.{TellsTo, TellsUntilAt, Stops}
use Rattle.wasm_operator_validator_state.specs.resources.Meaning.{Meaning}
use Rattle.wasm_operator_validator_state.specs.Refusals.{OfContent}
use Rattle.wasm_operator_validator_state.specs.State.{State, Accepts, Visits}
use Rattle.wasm_operator_validator_state.specs.Bodies.{fresh}
use Rattle.wasm_operator_validator_state.specs.laws.Bodies.{bodies_are_accepted}
use Rattle.wasm_operator_validator_state.specs.laws.Accepting.{accepts_nothing, accepts_not_failed}
use Rattle.wasm_operator_validator_expression.specs.Validating.{AcceptsExpression, SpellsTypedBody, BodiesAreExpressions, Validates}
use Rattle.wasm_operator_validator_expression.specs.laws.Walked.{all_stay, accepted_on}

-- ---- where a body begins

pub bodies_are_expressions : BodiesAreExpressions
bodies_are_expressions m w b saved s = (ahead, back)
  where
    ahead : AcceptsExpression m (fresh w b saved) s → SpellsTypedBody m w b s
    ahead (c, h, a) =
        let (d, body, e) = (bodies_are_accepted m w b saved (walk c)).0 a in
        (d, record { expression = body.expression; spelled = subst (λ (os : List Op). SpelledOperators s.settings os s.rest) e h.spelled }, body)

    back : SpellsTypedBody m w b s → AcceptsExpression m (fresh w b saved) s
    back (c, h, body) = (c, h, (bodies_are_accepted m w b saved (walk c)).1 (c, body, refl))

-- ---- refusals

denies_but : (k : ErrorKind) (P : Type 0) → (IsNotMemory k → P → ⊥) → Denies k P
denies_but (kinds.EndOfData h) P n = n tt
denies_but (kinds.MissingFeature f) P n = n tt
denies_but kinds.OutOfMemory P n = tt
denies_but kinds.Failed P n = n tt
denies_but kinds.Other P n = n tt

not_both : (b : Bool) → b ≡ false → b ≡ true → ⊥
not_both b e f = let x : false ≡ true = sym e ∙ f in cc

-- an operator was refused before
pub stopped_at_once : (m : Meaning) (σ : State) (s : Bytes) (e : ErrorValue) → σ.failed ≡ true → e.kind ≡ kinds.Failed → e.offset ≡ s.place → Validates m σ s (Err e) σ
stopped_at_once m σ s e f k at = record {
  exact = denies e.kind (AcceptsExpression m σ s) (λ (c, h, a). accepts_not_failed m σ (walk c) f a);
  stopped = λ g. ap Some k;
  stops = inl (f, k, at);
  ended = tt;
  given = refl;
  failed = f;
  saved = refl;
}

module _ (m : Meaning) (σ : State) (s : Bytes) (going : σ.failed ≡ false) where
  -- the bytes spell no expression
  pub stopped_reading : (ρ τ : State) (e : ErrorValue) → (IsNotMemory e.kind → (c : Code) → SpelledExpression s.settings c s.rest → ⊥)
      → (t : Standing) → TellsTo (Visits m) None (at_start s) σ t ρ → Stops t e → τ ≡ record ρ { failed = true } → Validates m σ s (Err e) τ
  stopped_reading ρ τ e unspelled t walked stops i =
      let stay = all_stay m walked.0 σ ρ walked.2 in
      record {
        exact = denies_but e.kind (AcceptsExpression m σ s) (λ n (c, h, a). unspelled n c h);
        stopped = λ f. absurd (not_both σ.failed going f);
        stops = inr (inl (t, ρ, walked, stops));
        ended = tt;
        given = ap (λ (x : State). x.given) i ∙ stay.given;
        failed = ap (λ (x : State). x.failed) i;
        saved = ap (λ (x : State). x.saved) i ∙ stay.saved;
      }

  -- what was refused does not come in what is accepted
  no_operator : (t u : Standing) (n : State) (os : List Op) (o : Op) → VisitsAll (Visits m) None σ os n → (c : Code) → Accepts m σ (walk c)
      → (more : List Op) → walk c ≡ os ++ o ∷ more → (ps : List Op) × Accepts m n (o ∷ ps)
  no_operator t u n os o all c a more e = (more, (accepted_on m os (o ∷ more) σ n all).0 (subst (Accepts m σ) e a))

  -- an operator was refused
  pub stopped_at_operator : (τ : State) (e : ErrorValue) (place : ℕ) → TellsUntilAt (Visits m) None (at_start s) σ (Some e.kind) τ place → OfContent e.kind (e.offset ≡ place)
      → Validates m σ s (Err e) τ
  stopped_at_operator τ e place (t, n, (os, run, all), o, u, read, v, at) offset =
      let stay = all_stay m os σ n all in
      let met : AcceptsExpression m σ s → (ps : List Op) × Accepts m n (o ∷ ps) =
      λ (c, h, a). (let whole = expression_run s c h in let meets = meets_end os (walk c) (at_start s) t whole.0 u o run read whole.1 whole.2.frames in
      no_operator t u n os o all c a meets.0 meets.1) in
      record {
        exact = denies_from e.kind ((ps : List Op) × Accepts m n (o ∷ ps)) (AcceptsExpression m σ s) met v.decides;
        stopped = λ f. absurd (not_both σ.failed going f);
        stops = inr (inr (inl (place, (t, n, (os, run, all), o, u, read, v, at), offset)));
        ended = tt;
        given = v.given ∙ stay.given;
        failed = v.failed;
        saved = v.saved ∙ stay.saved;
      }

  module _ (c : Code) (h : SpelledExpression s.settings c s.rest) (ρ : State) (all : VisitsAll (Visits m) None σ (walk c) ρ) where
    -- what was accepted to the end of the bytes is an expression exactly where no frame is open then
    whole : Accepts m σ (walk c) ↔ Accepts m ρ []
    whole = subst (λ (os : List Op). Accepts m σ os ↔ Accepts m ρ []) (append-nil (walk c)) (accepted_on m (walk c) [] σ ρ all)

    pub stopped_at_end : (τ : State) (e : ErrorValue) → (ρ.opens ≡ [] → ⊥) → e.kind ≡ kinds.Other → e.offset ≡ s.place + length s.rest → τ ≡ record ρ { failed = true }
        → Validates m σ s (Err e) τ
    stopped_at_end τ e still kind at i =
        let stay = all_stay m (walk c) σ ρ all in
        record {
          exact = denies e.kind (AcceptsExpression m σ s)
              (λ (d, g, a). still ((accepts_nothing m ρ).0 (whole.0 (subst (λ (x : Code). Accepts m σ (walk x)) (one_expression s.settings d c s.rest g h) a))).1);
          stopped = λ f. absurd (not_both σ.failed going f);
          stops = inr (inr (inr (c, ρ, h, all, still, kind, at)));
          ended = tt;
          given = ap (λ (x : State). x.given) i ∙ stay.given;
          failed = ap (λ (x : State). x.failed) i;
          saved = ap (λ (x : State). x.saved) i ∙ stay.saved;
        }

    pub accepted_to_end : ρ.opens ≡ [] → Validates m σ s (Ok tt) ρ
    accepted_to_end closed =
        let stay = all_stay m (walk c) σ ρ all in
        record {
          exact = (c, h, whole.1 ((accepts_nothing m ρ).1 (stay.failed going, closed)));
          stopped = λ f. absurd (not_both σ.failed going f);
          stops = tt;
          ended = closed;
          given = stay.given;
          failed = stay.failed going;
          saved = stay.saved;
        }
