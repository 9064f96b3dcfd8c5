-- Clauses of `try_table` against their labels.
use Rattle.std.proofs.Common.{◌≡◌, ◌↔◌, ◌∙◌, ℕ, List, [], ◌∷◌, ◌++◌, false, Option, Some, None, Result, Ok, Err, length, map, slice_get, refl, ap, subst}
use Rattle.std.proofs.lemmas.List.{map-append}
use Rattle.wasm_types.specs.trees.Below.{Below}
use Rattle.wasm_types.specs.values.declared.value.ValType.{ValType}
use Rattle.wasm_operators_immediates.specs.declared.handlers.Catch.TheVariants as clause
use Rattle.wasm_operator_validator_rules.specs.Operands.{ValueType, AllBelow, known, all_known}
use Rattle.wasm_operator_validator_rules.specs.Context.{Context}
use Rattle.wasm_operator_validator_rules.specs.Exceptions.{exception, Carries, Catches}
use Rattle.wasm_operator_validator_state.specs.resources.Meaning.{Meaning, type_in}
use Rattle.wasm_operator_validator_state.specs.declared.refusal.Refusal.{Refusal}
use Rattle.wasm_operator_validator_state.specs.State.{State, types_in, label, context}
use Rattle.wasm_operator_validator_control.specs.Clauses.{IsTagIn}
use Rattle.wasm_operator_validator_control.specs.Fitting.{Answers}
use Rattle.wasm_operator_validator_control.specs.laws.Labels.{one_label, not_labelled}
use Rattle.wasm_operator_validator_control.proofs.Tags.{one_tag}

abbrev pub here : Meaning → State → Context
here m σ = context m σ.given σ.opens

-- what a label takes
abbrev LabelIs : Meaning → State → ℕ → Option (List ValueType) → Type 0
LabelIs m σ l o = slice_get (map (label m) σ.opens) l ≡ o

-- ---- values against a label

pub no_label : (m : Meaning) (σ : State) (ts : List ValueType) (l : ℕ) → LabelIs m σ l None → Carries (here m σ) ts l → ⊥
no_label m σ ts l e (us, f, b) = not_labelled us (slice_get (map (label m) σ.opens) l) e f

pub not_carried : (m : Meaning) (σ : State) (ts us : List ValueType) (l : ℕ) → LabelIs m σ l (Some us) → (AllBelow (all_known ts) (all_known us) → ⊥) → Carries (here m σ) ts l → ⊥
not_carried m σ ts us l e n (vs, f, b) =
    n (subst (λ (v : List ValueType). AllBelow (all_known ts) (all_known v)) (one_label us vs (slice_get (map (label m) σ.opens) l) e f) b)

pub carried : (m : Meaning) (σ : State) (ts us : List ValueType) (l : ℕ) → LabelIs m σ l (Some us) → AllBelow (all_known ts) (all_known us) → Carries (here m σ) ts l
carried m σ ts us l e b = (us, e, b)

-- ---- the same with one more behind them

never_empty : (us : List ValueType) (u : ValueType) → AllBelow [] (all_known (us ++ u ∷ [])) → ⊥
never_empty [] u b = b
never_empty (v ∷ us) u b = b

pub never_more : (ts : List ValueType) (t : ValueType) → AllBelow (all_known (ts ++ t ∷ [])) [] → ⊥
never_more [] t b = b
never_more (v ∷ ts) t b = b

pub below_ended : (ts us : List ValueType) (t u : ValueType) → AllBelow (all_known (ts ++ t ∷ [])) (all_known (us ++ u ∷ [])) ↔ (AllBelow (all_known ts) (all_known us) × Below t u)
below_ended [] [] t u = (λ b. (tt, b.0), λ b. (b.1, tt))
below_ended [] (v ∷ us) t u = (λ b. absurd (never_empty us u b.1), λ b. absurd b.0)
below_ended (v ∷ ts) [] t u = (λ b. absurd (never_more ts t b.1), λ b. absurd b.0)
below_ended (v ∷ ts) (w ∷ us) t u =
    let e = below_ended ts us t u in
    (λ b. (let c = e.0 b.1 in ((b.0, c.0), c.1)), λ b. (b.0.0, e.1 (b.0.1, b.1)))

types_ended : (m : Meaning) (xs ys : List ValType) (x : ValType) → xs ≡ ys ++ x ∷ [] → types_in m xs ≡ types_in m ys ++ type_in m x ∷ []
types_ended m xs ys x e = rw (e, map-append) refl

no_types : (m : Meaning) (xs : List ValType) → length xs ≡ 0 → types_in m xs ≡ []
no_types m [] e = refl
no_types m (x ∷ xs) e = cc

-- values and a reference to the exception behind them, against a label as the code looks it up
abbrev pub FitsReference : Meaning → List ValueType → List ValType → ValType → Type 0
FitsReference m ts ys x = AllBelow (all_known ts) (all_known (types_in m ys)) × Below (exception false) (type_in m x)

pub no_reference_carried : (m : Meaning) (σ : State) (ts : List ValueType) (l : ℕ) (xs : List ValType) → LabelIs m σ l (Some (types_in m xs)) → length xs ≡ 0
    → Carries (here m σ) (ts ++ exception false ∷ []) l → ⊥
no_reference_carried m σ ts l xs e n =
    not_carried m σ (ts ++ exception false ∷ []) [] l (e ∙ ap Some (no_types m xs n)) (never_more ts (exception false))

pub reference_not_carried : (m : Meaning) (σ : State) (ts : List ValueType) (l : ℕ) (xs ys : List ValType) (x : ValType) → LabelIs m σ l (Some (types_in m xs)) → xs ≡ ys ++ x ∷ []
    → (FitsReference m ts ys x → ⊥) → Carries (here m σ) (ts ++ exception false ∷ []) l → ⊥
reference_not_carried m σ ts l xs ys x e f n =
    not_carried m σ (ts ++ exception false ∷ []) (types_in m ys ++ type_in m x ∷ []) l (e ∙ ap Some (types_ended m xs ys x f))
    (λ b. n ((below_ended ts (types_in m ys) (exception false) (type_in m x)).0 b))

pub reference_carried : (m : Meaning) (σ : State) (ts : List ValueType) (l : ℕ) (xs ys : List ValType) (x : ValType) → LabelIs m σ l (Some (types_in m xs)) → xs ≡ ys ++ x ∷ []
    → FitsReference m ts ys x → Carries (here m σ) (ts ++ exception false ∷ []) l
reference_carried m σ ts l xs ys x e f b =
    carried m σ (ts ++ exception false ∷ []) (types_in m ys ++ type_in m x ∷ []) l (e ∙ ap Some (types_ended m xs ys x f))
    ((below_ended ts (types_in m ys) (exception false) (type_in m x)).1 b)

-- ---- clauses

-- a tag is known, and what it carries was compared
pub one_answered : (r : Result (Unit {0}) Refusal) (m : Meaning) (σ : State) (x l : ℕ) (ts : List ValueType) → IsTagIn m x ts → Answers r (Carries (here m σ) ts l)
    → Answers r (Catches (here m σ) (clause.One x l))
one_answered (Ok y) m σ x l ts t a = (ts, t, a)
one_answered (Err y) m σ x l ts t a = λ (us, u, c). a (subst (λ (v : List ValueType). Carries (here m σ) v l) (one_tag m x ts us t u) c)

pub one_ref_answered : (r : Result (Unit {0}) Refusal) (m : Meaning) (σ : State) (x l : ℕ) (ts : List ValueType) → IsTagIn m x ts → Answers r (Carries (here m σ) (ts ++ exception false ∷ []) l)
    → Answers r (Catches (here m σ) (clause.OneRef x l))
one_ref_answered (Ok y) m σ x l ts t a = (ts, t, a)
one_ref_answered (Err y) m σ x l ts t a =
    λ (us, u, c). a (subst (λ (v : List ValueType). Carries (here m σ) (v ++ exception false ∷ []) l) (one_tag m x ts us t u) c)

pub one_unnamed : (m : Meaning) (σ : State) (x l : ℕ) → ((ts : List ValueType) → IsTagIn m x ts → ⊥) → Catches (here m σ) (clause.One x l) → ⊥
one_unnamed m σ x l n (ts, t, c) = n ts t

pub one_ref_unnamed : (m : Meaning) (σ : State) (x l : ℕ) → ((ts : List ValueType) → IsTagIn m x ts → ⊥) → Catches (here m σ) (clause.OneRef x l) → ⊥
one_ref_unnamed m σ x l n (ts, t, c) = n ts t
