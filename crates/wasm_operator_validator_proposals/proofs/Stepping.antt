-- Operands that are taken above others.
use Rattle.std.proofs.Common.{◌≡◌, ◌↔◌, ◌∙◌, List, [], ◌∷◌, ◌++◌, Option, Some, None, refl, sym, subst, append_assoc}
use Rattle.std.proofs.lemmas.List.{reverse-append, map-append}
use Rattle.wasm_types.specs.decoding.declared.error.ErrorKind.{ErrorKind}
use Rattle.wasm_types.specs.decoding.Denials.{Denies}
use Rattle.wasm_types.specs.decoding.DenialLaws.{denies_from}
use Rattle.wasm_operator_validator_rules.specs.Operands.{ValueType, Operand, AllBelow, stack}
use Rattle.wasm_operator_validator_resources.specs.Meaning.{Meaning}
use Rattle.wasm_operator_validator_state.specs.Refusals.{Does}
use Rattle.wasm_operator_validator_state.specs.State.{State}
use Rattle.wasm_operator_validator_state.specs.Steps.{Stacks, MayPop, Popped, Exchanged}
use Rattle.wasm_operator_validator_stacks.specs.determined.laws.Same.{same_trans}

under_above : (ts us : List ValueType) (rest : List Operand) → stack (ts ++ us) ++ rest ≡ stack us ++ (stack ts ++ rest)
under_above ts us rest = rw (map-append, reverse-append, append_assoc) refl

-- what lies above may be taken, if all may
may_above : (m : Meaning) (σ : State) (ts us : List ValueType) → MayPop m σ (stack (ts ++ us)) → MayPop m σ (stack us)
may_above m σ ts us (rest, d) = (stack ts ++ rest, subst (λ (v : List Operand). Stacks m σ v) (under_above ts us rest) d)

-- and what lies under it, once that is off
may_under : (m : Meaning) (σ ρ : State) (ts us : List ValueType) → Popped m σ (stack us) ρ → MayPop m σ (stack (ts ++ us)) → MayPop m ρ (stack ts)
may_under m σ ρ ts us p (rest, d) = (rest, (p.stacks (stack ts ++ rest)).0 (subst (λ (v : List Operand). Stacks m σ v) (under_above ts us rest) d))

pub denied_above : (k : ErrorKind) (m : Meaning) (σ : State) (ts us : List ValueType) → Denies k (MayPop m σ (stack us)) → Denies k (MayPop m σ (stack (ts ++ us)))
denied_above k m σ ts us d = denies_from k _ _ (may_above m σ ts us) d

pub denied_under : (k : ErrorKind) (m : Meaning) (σ ρ : State) (ts us : List ValueType) → Popped m σ (stack us) ρ → Denies k (MayPop m ρ (stack ts))
    → Denies k (MayPop m σ (stack (ts ++ us)))
denied_under k m σ ρ ts us p d = denies_from k _ _ (may_under m σ ρ ts us p) d

-- what is under it is exchanged
pub exchanged_under : (r : Option ErrorKind) (m : Meaning) (σ ρ τ : State) (ts us vs : List ValueType) → Popped m σ (stack us) ρ
    → Does r (Exchanged m ρ ts vs τ) (MayPop m ρ (stack ts)) → Does r (Exchanged m σ (ts ++ us) vs τ) (MayPop m σ (stack (ts ++ us)))
exchanged_under None m σ ρ τ ts us vs p x = record {
  same = same_trans σ ρ τ p.same x.same;
  stacks = λ s. (
    λ c. (
        let (rest, d, b) = (x.stacks s).0 c in
        (rest, subst (λ (v : List Operand). Stacks m σ v) (sym (under_above ts us rest)) ((p.stacks (stack ts ++ rest)).1 d), b)
        ),
    λ (rest, d, b). (
        let d' : Stacks m σ (stack us ++ (stack ts ++ rest)) = subst (λ (v : List Operand). Stacks m σ v) (under_above ts us rest) d in
        (x.stacks s).1 (rest, (p.stacks (stack ts ++ rest)).0 d', b)
        ),
  );
}
exchanged_under (Some e) m σ ρ τ ts us vs p x = denied_under e m σ ρ ts us p x
