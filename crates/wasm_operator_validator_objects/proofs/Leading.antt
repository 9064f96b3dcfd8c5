-- Operands of many fields and elements taken off.
use Rattle.std.proofs.Common.{◌≡◌, ◌↔◌, ◌∙◌, ℕ, zero, suc, List, [], ◌∷◌, ◌++◌, length, replicate, reverse, refl, sym, ap, subst}
use Rattle.std.proofs.lemmas.List.{reverse-append, map-append}
use Rattle.wasm_types.specs.decoding.declared.error.ErrorKind.{ErrorKind}
use Rattle.wasm_types.specs.decoding.Denials.{Denies}
use Rattle.wasm_types.specs.decoding.DenialLaws.{denies_from}
use Rattle.wasm_types.specs.fields.declared.field.FieldType.{FieldType}
use Rattle.wasm_operator_validator_rules.specs.Operands.{ValueType, Operand, known, all_known, stack}
use Rattle.wasm_operator_validator_resources.specs.Meaning.{Meaning, type_in}
use Rattle.wasm_operator_validator_state.specs.State.{Open, State, types_in}
use Rattle.wasm_operator_validator_state.specs.Steps.{StacksOf, Stacks, IsOpen, Same, MayPop, Popped}
use Rattle.wasm_operator_validator_stacks.specs.determined.laws.Same.{same_refl, same_trans}
use Rattle.wasm_operator_validator_objects.specs.Found.{unpacked_field, unpacked_fields, LiesOnAnything}

-- what was taken off so far leaves these operands to take off
pub record Leads (m : Meaning) (σ : State) (xs : List Operand) (τ : State) (ys : List Operand) : Type 0 where
  pub same : Same σ τ
  pub stacks : (s : List Operand) → Stacks m σ (xs ++ s) ↔ Stacks m τ (ys ++ s)

pub leads_first : (m : Meaning) (σ : State) (xs : List Operand) → IsOpen σ.opens → Leads m σ xs σ xs
leads_first m σ xs i = record { same = same_refl σ i; stacks = λ s. (λ c. c, λ c. c) }

leads_more : (m : Meaning) (σ ρ τ : State) (xs zs ys : List Operand) (y : Operand) → zs ≡ y ∷ ys → Leads m σ xs ρ zs → Popped m ρ (y ∷ []) τ → Leads m σ xs τ ys
leads_more m σ ρ τ xs zs ys y e l p = record {
  same = same_trans σ ρ τ l.same p.same;
  stacks = λ s. (
    λ c. let d : Stacks m ρ ((y ∷ ys) ++ s) = rw e at ((l.stacks s).0 c) in (p.stacks (ys ++ s)).0 d,
    λ c. (l.stacks s).1 (rw e ((p.stacks (ys ++ s)).1 c)),
  );
}

leads_nowhere : (k : ErrorKind) (m : Meaning) (σ ρ : State) (xs zs ys : List Operand) (y : Operand) → zs ≡ y ∷ ys → Leads m σ xs ρ zs → Denies k (MayPop m ρ (y ∷ []))
    → Denies k (MayPop m σ xs)
leads_nowhere k m σ ρ xs zs ys y e l d =
    denies_from k _ _ (λ (s, c). let d : Stacks m ρ ((y ∷ ys) ++ s) = rw e at ((l.stacks s).0 c) in (ys ++ s, d)) d

leads_all : (m : Meaning) (σ τ : State) (xs : List Operand) → Leads m σ xs τ [] → Popped m σ xs τ
leads_all m σ τ xs l = record { same = l.same; stacks = l.stacks }

-- ---- fields

abbrev pub of_fields : Meaning → List FieldType → List Operand
of_fields m fs = stack (types_in m (unpacked_fields fs))

last_field : (m : Meaning) (left rest : List FieldType) (f : FieldType) → left ≡ rest ++ f ∷ [] → of_fields m left ≡ known (type_in m (unpacked_field f)) ∷ of_fields m rest
last_field m left rest f e = rw (e, map-append, map-append, map-append, reverse-append) refl

pub fields_more : (m : Meaning) (σ ρ τ : State) (fs left rest : List FieldType) (f : FieldType) → Leads m σ (of_fields m fs) ρ (of_fields m left) → left ≡ rest ++ f ∷ []
    → Popped m ρ (known (type_in m (unpacked_field f)) ∷ []) τ → Leads m σ (of_fields m fs) τ (of_fields m rest)
fields_more m σ ρ τ fs left rest f l e p = leads_more m σ ρ τ (of_fields m fs) (of_fields m left) (of_fields m rest) (known (type_in m (unpacked_field f))) (last_field m left rest f e) l p

pub fields_nowhere : (k : ErrorKind) (m : Meaning) (σ ρ : State) (fs left rest : List FieldType) (f : FieldType) → Leads m σ (of_fields m fs) ρ (of_fields m left) → left ≡ rest ++ f ∷ []
    → Denies k (MayPop m ρ (known (type_in m (unpacked_field f)) ∷ [])) → Denies k (MayPop m σ (of_fields m fs))
fields_nowhere k m σ ρ fs left rest f l e d = leads_nowhere k m σ ρ (of_fields m fs) (of_fields m left) (of_fields m rest) (known (type_in m (unpacked_field f))) (last_field m left rest f e) l d

pub fields_all : (m : Meaning) (σ τ : State) (fs left : List FieldType) → Leads m σ (of_fields m fs) τ (of_fields m left) → length left ≡ 0 → Popped m σ (of_fields m fs) τ
fields_all m σ τ fs [] l e = leads_all m σ τ (of_fields m fs) l
fields_all m σ τ fs (f ∷ left) l e = cc

-- ---- operands of one type

abbrev pub of_one : ℕ → ValueType → List Operand
of_one n t = stack (replicate n t)

append_one : (n : ℕ) (t : Operand) → replicate n t ++ t ∷ [] ≡ t ∷ replicate n t
append_one zero t = refl
append_one (suc n) t = ap (λ (xs : List Operand). t ∷ xs) (append_one n t)

reversed_one : (n : ℕ) (t : Operand) → reverse (replicate n t) ≡ replicate n t
reversed_one zero t = refl
reversed_one (suc n) t = reverse-append (t ∷ []) (replicate n t) ∙ ap (λ (xs : List Operand). xs ++ t ∷ []) (reversed_one n t) ∙ append_one n t

known_one : (n : ℕ) (t : ValueType) → all_known (replicate n t) ≡ replicate n (known t)
known_one zero t = refl
known_one (suc n) t = ap (λ (xs : List Operand). known t ∷ xs) (known_one n t)

one_more : (n : ℕ) (t : ValueType) → of_one (suc n) t ≡ known t ∷ of_one n t
one_more n t =
    let e : (k : ℕ) → of_one k t ≡ replicate k (known t) = λ k. ap (λ (xs : List Operand). reverse xs) (known_one k t) ∙ reversed_one k (known t) in
    e (suc n) ∙ ap (λ (xs : List Operand). known t ∷ xs) (sym (e n))

left_one : (n k : ℕ) (t : ValueType) → n ≡ suc k → of_one n t ≡ known t ∷ of_one k t
left_one n k t e = ap (λ (i : ℕ). of_one i t) e ∙ one_more k t

pub same_more : (m : Meaning) (σ ρ τ : State) (n left k : ℕ) (t : ValueType) → Leads m σ (of_one n t) ρ (of_one left t) → left ≡ suc k → Popped m ρ (known t ∷ []) τ → Leads m σ (of_one n t) τ (of_one k t)
same_more m σ ρ τ n left k t l e p = leads_more m σ ρ τ (of_one n t) (of_one left t) (of_one k t) (known t) (left_one left k t e) l p

pub same_nowhere : (k : ErrorKind) (m : Meaning) (σ ρ : State) (n left i : ℕ) (t : ValueType) → Leads m σ (of_one n t) ρ (of_one left t) → left ≡ suc i → Denies k (MayPop m ρ (known t ∷ []))
    → Denies k (MayPop m σ (of_one n t))
same_nowhere k m σ ρ n left i t l e d = leads_nowhere k m σ ρ (of_one n t) (of_one left t) (of_one i t) (known t) (left_one left i t e) l d

pub same_all : (m : Meaning) (σ τ : State) (n left : ℕ) (t : ValueType) → Leads m σ (of_one n t) τ (of_one left t) → left ≡ 0 → Popped m σ (of_one n t) τ
same_all m σ τ n left t l e = leads_all m σ τ (of_one n t) (subst (λ (k : ℕ). Leads m σ (of_one n t) τ (of_one k t)) e l)

-- below unreachable code lies anything
on_anything : (m : Meaning) (os : List Open) → LiesOnAnything os → (s : List Operand) → StacksOf m os s
on_anything m [] i s = absurd i
on_anything m (o ∷ outer) i s = rw (i.0, i.1) tt

pub same_anything : (m : Meaning) (σ τ : State) (n left : ℕ) (t : ValueType) → Leads m σ (of_one n t) τ (of_one left t) → LiesOnAnything τ.opens → Popped m σ (of_one n t) τ
same_anything m σ τ n left t l i = record {
  same = l.same;
  stacks = λ s. (λ c. on_anything m τ.opens i s, λ c. (l.stacks s).1 (on_anything m τ.opens i (of_one left t ++ s)));
}
