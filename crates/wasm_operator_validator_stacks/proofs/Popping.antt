-- Several operands taken off and put on.
use Rattle.std.proofs.Common.{arith, ◌≡◌, ◌↔◌, ◌<◌, ◌+◌, ◌-◌, ℕ, List, [], ◌∷◌, ◌++◌, Bool, true, false, refl, sym, ◌∙◌, ap, subst, take, length, get_or, slice_get, Result, Ok, Err, Option, Some, None, IsTrue, MatchOption}
use Rattle.std.proofs.lemmas.List.{reverse-append, map-append, take_more, length_push}
use Rattle.wasm_types.specs.decoding.Denials.{Denies}
use Rattle.wasm_operator_validator_state.specs.Refusals.{Does, kind_of, refused}
use Rattle.wasm_operator_validator_state.specs.declared.refusal.Refusal.{Refusal}
use Rattle.wasm_types.specs.values.declared.value.ValType.{ValType}
use Rattle.wasm_operator_validator_rules.specs.Operands.{ValueType, Operand, known, AllBelow, stack}
use Rattle.wasm_operator_validator_state.specs.laws.Operands.{operand_refl, all_below_refl, all_below_trans, all_below_under}
use Rattle.wasm_operator_validator_state.specs.resources.Meaning.{Meaning, type_in}
use Rattle.wasm_types.specs.decoding.DenialLaws.{denies_from}
use Rattle.wasm_operator_validator_state.specs.declared.operand.MaybeType.{MaybeType}
use Rattle.wasm_operator_validator_state.specs.declared.operand.MaybeType.TheVariants as maybe
use Rattle.wasm_operator_validator_state.specs.State.{Open, State, Stands, types_in}
use Rattle.wasm_operator_validator_state.specs.Steps.{Stacks, IsOpen, SameFrames, Same, MayPopAny, PoppedAny, PushedAny, Popped, MayPop, Pushed, Exchanged}
use Rattle.wasm_operator_validator_state.specs.laws.Accepting.{stacks_below}

pub frames_refl : (os : List Open) → IsOpen os → SameFrames os os
frames_refl [] i = i
frames_refl (o ∷ outer) i = (refl, refl, refl, refl)

pub frames_trans : (os ps qs : List Open) → SameFrames os ps → SameFrames ps qs → SameFrames os qs
frames_trans [] ps qs b c = absurd b
frames_trans (o ∷ outer) [] qs b c = absurd b
frames_trans (o ∷ outer) (p ∷ others) [] b c = absurd c
frames_trans (o ∷ outer) (p ∷ others) (q ∷ more) b c = (c.0 ∙ b.0, c.1 ∙ b.1, c.2 ∙ b.2, c.3 ∙ b.3)

pub same_refl : (σ : State) → IsOpen σ.opens → Same σ σ
same_refl σ i = record { given = refl; inits = refl; frames = frames_refl σ.opens i; failed = refl; saved = refl }

pub same_trans : (σ ρ τ : State) → Same σ ρ → Same ρ τ → Same σ τ
same_trans σ ρ τ a b = record { given = b.given ∙ a.given; inits = b.inits ∙ a.inits; frames = frames_trans σ.opens ρ.opens τ.opens a.frames b.frames; failed = b.failed ∙ a.failed; saved = b.saved ∙ a.saved }

-- one known operand
pub popped_known : (m : Meaning) (σ τ : State) (a : MaybeType) (t : ValueType) (b : Bool) → PoppedAny m σ a τ → IsTrue b ↔ Stands m a (known t) → b ≡ true → Popped m σ (known t ∷ []) τ
popped_known m σ τ a t b p i e = record {
  same = p.same;
  stacks = λ s. (λ c. ((p.stacks (known t) s).0 c).1, λ c. (p.stacks (known t) s).1 (i.0 e, c));
}

pub not_popped : (m : Meaning) (σ τ : State) (a : MaybeType) (t : ValueType) (b : Bool) → PoppedAny m σ a τ → IsTrue b ↔ Stands m a (known t) → b ≡ false → MayPop m σ (known t ∷ []) → ⊥
not_popped m σ τ a t b p i e (s, c) = let x : b ≡ true = i.1 ((p.stacks (known t) s).0 c).0 in let y : false ≡ true = sym e ∙ x in cc

-- one of this very type
pub popped_same : (m : Meaning) (σ τ : State) (v : ValType) → PoppedAny m σ (maybe.Known v) τ → Popped m σ (known (type_in m v) ∷ []) τ
popped_same m σ τ v p = record {
  same = p.same;
  stacks = λ s. (λ c. ((p.stacks (known (type_in m v)) s).0 c).1, λ c. (p.stacks (known (type_in m v)) s).1 (operand_refl (known (type_in m v)), c));
}

-- what stands last
pushed_last : {X : Type 0} (ys : List X) (x : X) → slice_get (ys ++ x ∷ []) (length ys) ≡ Some x
pushed_last [] x = refl
pushed_last (z ∷ ys) x = pushed_last ys x

pub last_is : {X : Type 0} (xs ys : List X) (x y : X) → xs ≡ ys ++ x ∷ [] → Some y ≡ slice_get xs (length xs - 1) → xs ≡ ys ++ y ∷ []
last_is xs ys x y d e =
    let k : length xs - 1 ≡ length ys = let l = ap length d ∙ length_push ys x in omega (arith, l) in
    let f : Some y ≡ Some x = e ∙ rw (k, d) (pushed_last ys x) in
    let h : x ≡ y = cc in
    rw (← h) d

pub nothing_to_pop : (m : Meaning) (σ : State) (t : ValueType) → (MayPopAny m σ → ⊥) → MayPop m σ (known t ∷ []) → ⊥
nothing_to_pop m σ t n (s, c) = n (known t, s, c)

pub pushed_one : (m : Meaning) (σ τ : State) (v : ValType) → PushedAny m σ (maybe.Known v) τ → Pushed m σ (known (type_in m v) ∷ []) τ
pushed_one m σ τ v p = record { same = p.same; stacks = λ s. (ahead s, back s) }
  where
    ahead : (s : List Operand) → Stacks m τ s → (rest : List Operand) × Stacks m σ rest × AllBelow (known (type_in m v) ∷ rest) s
    ahead [] c = absurd ((p.stacks []).0 c)
    ahead (t ∷ s) c = let d = (p.stacks (t ∷ s)).0 c in (s, d.1, (d.0, all_below_refl s))

    back : (s : List Operand) → (rest : List Operand) × Stacks m σ rest × AllBelow (known (type_in m v) ∷ rest) s → Stacks m τ s
    back [] (rest, c, b) = absurd b
    back (t ∷ s) (rest, c, b) = (p.stacks (t ∷ s)).1 (b.0, stacks_below m σ.opens rest s c b.1)

-- what was taken off so far leaves these types to take off
pub record Leads (m : Meaning) (σ : State) (ts : List ValType) (τ : State) (left : List ValType) : Type 0 where
  pub same : Same σ τ
  pub stacks : (s : List Operand) → Stacks m σ (stack (types_in m ts) ++ s) ↔ Stacks m τ (stack (types_in m left) ++ s)

pub stack_last : (m : Meaning) (ts : List ValType) (t : ValType) → stack (types_in m (ts ++ t ∷ [])) ≡ known (type_in m t) ∷ stack (types_in m ts)
stack_last m ts t = rw (map-append, map-append, reverse-append) refl

pub leads_more : (m : Meaning) (σ ρ τ : State) (ts left rest : List ValType) (t : ValType) → Leads m σ ts ρ left → left ≡ rest ++ t ∷ [] → Popped m ρ (known (type_in m t) ∷ []) τ → Leads m σ ts τ rest
leads_more m σ ρ τ ts left rest t l e p =
    let f : stack (types_in m left) ≡ known (type_in m t) ∷ stack (types_in m rest) = rw e (stack_last m rest t) in
    record {
      same = same_trans σ ρ τ l.same p.same;
      stacks = λ s. (
        λ c. let d : Stacks m ρ ((known (type_in m t) ∷ stack (types_in m rest)) ++ s) = rw f at ((l.stacks s).0 c) in (p.stacks (stack (types_in m rest) ++ s)).0 d,
        λ c. (l.stacks s).1 (rw f ((p.stacks (stack (types_in m rest) ++ s)).1 c)),
      );
    }

pub leads_nowhere : {X : Type 0} (r : Result X Refusal) (m : Meaning) (σ ρ τ : State) (ts left rest : List ValType) (t : ValType) → Leads m σ ts ρ left → left ≡ rest ++ t ∷ []
    → Does (refused r) (Popped m ρ (known (type_in m t) ∷ []) τ) (MayPop m ρ (known (type_in m t) ∷ [])) → (e : Refusal) → r ≡ Err e → Denies (kind_of e) (MayPop m σ (stack (types_in m ts)))
leads_nowhere (Ok x) m σ ρ τ ts left rest t l e d v h = cc
leads_nowhere (Err u) m σ ρ τ ts left rest t l e d v h =
    let g : u ≡ v = cc in
    let f : stack (types_in m left) ≡ known (type_in m t) ∷ stack (types_in m rest) = rw e (stack_last m rest t) in
    denies_from (kind_of v) _ _
    (λ (s, c). let d : Stacks m ρ ((known (type_in m t) ∷ stack (types_in m rest)) ++ s) = rw f at ((l.stacks s).0 c) in (stack (types_in m rest) ++ s, d))
    (subst (λ (x : Refusal). Denies (kind_of x) (MayPop m ρ (known (type_in m t) ∷ []))) g d)

pub leads_all : (m : Meaning) (σ τ : State) (ts left : List ValType) → Leads m σ ts τ left → length left ≡ 0 → Popped m σ (stack (types_in m ts)) τ
leads_all m σ τ ts [] l e = record { same = l.same; stacks = l.stacks }
leads_all m σ τ ts (t ∷ left) l e = cc

pub leads_first : (m : Meaning) (σ : State) (ts : List ValType) → IsOpen σ.opens → Leads m σ ts σ ts
leads_first m σ ts i = record { same = same_refl σ i; stacks = λ s. (λ c. c, λ c. c) }

pub pushed_none : (m : Meaning) (σ : State) → IsOpen σ.opens → Pushed m σ [] σ
pushed_none m σ i = record {
  same = same_refl σ i;
  stacks = λ s. (λ c. (s, c, all_below_refl s), λ (rest, c, b). stacks_below m σ.opens rest s c b);
}

pub pushed_more : (m : Meaning) (σ ρ τ : State) (xs : List Operand) (t : Operand) → Pushed m σ xs ρ → Pushed m ρ (t ∷ []) τ → Pushed m σ (t ∷ xs) τ
pushed_more m σ ρ τ xs t p q =
    record {
      same = same_trans σ ρ τ p.same q.same;
      stacks = λ s. (
        λ c. let (mid, d, b) = (q.stacks s).0 c in
            let (rest, e, l) = (p.stacks mid).0 d in
            (rest, e, all_below_trans (t ∷ (xs ++ rest)) (t ∷ mid) s (all_below_under (t ∷ []) (xs ++ rest) mid l) b),
        λ (rest, d, b). (q.stacks s).1 (xs ++ rest, (p.stacks (xs ++ rest)).1 (rest, d, all_below_refl (xs ++ rest)), b),
      );
    }

pub pushed_next : (m : Meaning) (σ ρ τ : State) (ts : List ValType) (i : ℕ) (t : ValType) → i < length ts → t ≡ get_or ts i t
    → Pushed m σ (stack (types_in m (take i ts))) ρ → PushedAny m ρ (maybe.Known t) τ
    → Pushed m σ (stack (types_in m (take (i + 1) ts))) τ
pushed_next m σ ρ τ ts i t h e p q =
    let f : take (i + 1) ts ≡ take i ts ++ t ∷ [] = take_more ts i t h ∙ ap (λ (x : ValType). take i ts ++ x ∷ []) (sym e) in
    rw (f, stack_last m (take i ts) t) (pushed_more m σ ρ τ (stack (types_in m (take i ts))) (known (type_in m t)) p (pushed_one m ρ τ t q))

pub exchanged : (m : Meaning) (σ ρ τ : State) (ts us : List ValueType) → Popped m σ (stack ts) ρ → Pushed m ρ (stack us) τ → Exchanged m σ ts us τ
exchanged m σ ρ τ ts us p q =
    record {
      same = same_trans σ ρ τ p.same q.same;
      stacks = λ s. (
        λ c. let (rest, d, b) = (q.stacks s).0 c in (rest, (p.stacks rest).1 d, b),
        λ (rest, d, b). (q.stacks s).1 (rest, (p.stacks rest).0 d, b),
      );
    }

pub pushed_open : (m : Meaning) (σ τ : State) (xs : List Operand) → Pushed m σ xs τ → IsOpen τ.opens
pushed_open m σ τ xs p = both σ.opens τ.opens p.same.frames
  where
    both : (os ps : List Open) → SameFrames os ps → IsOpen ps
    both [] ps b = absurd b
    both (o ∷ outer) [] b = absurd b
    both (o ∷ outer) (p ∷ others) b = tt

-- the arms of an option
pub when_none : {A : Type 0} (r : Option A) (P : Type 0) (Q : A → Type 0) → ((x : A) → r ≡ Some x → ⊥) → MatchOption r P Q → P
when_none None P Q n m = m
when_none (Some x) P Q n m = absurd (n x refl)

pub when_some : {A : Type 0} (r : Option A) (x : A) (P : Type 0) (Q : A → Type 0) → r ≡ Some x → MatchOption r P Q → Q x
when_some None x P Q e m = cc
when_some (Some y) x P Q e m = let f : y ≡ x = cc in subst Q f m
