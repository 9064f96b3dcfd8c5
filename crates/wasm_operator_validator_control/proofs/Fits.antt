-- Operands against several labels.
use Rattle.std.proofs.Common.{
  ◌≡◌,
  ◌↔◌,
  ◌∙◌,
  ◌<◌,
  ℕ,
  zero,
  suc,
  List,
  [],
  ◌∷◌,
  ◌++◌,
  Bool,
  true,
  false,
  IsTrue,
  Option,
  Some,
  None,
  Result,
  Ok,
  Err,
  length,
  reverse,
  slice_get,
  refl,
  sym,
  ap,
  subst,
  arith,
}
use Rattle.std.proofs.lemmas.List.{reverse-reverse}
use Rattle.wasm_types.specs.values.declared.heap.AbstractHeapType.{AbstractHeapType}
use Rattle.wasm_operator_validator_rules.specs.Operands.{ValueType, Operand, bottom, some_reference, known, OperandBelow, AllBelow, all_known, stack}
use Rattle.wasm_operator_validator_state.specs.resources.Meaning.{Meaning, type_in}
use Rattle.wasm_operator_validator_state.specs.declared.operand.MaybeType.{MaybeType}
use Rattle.wasm_operator_validator_state.specs.declared.operand.MaybeType.TheVariants as maybe
use Rattle.wasm_operator_validator_state.specs.declared.refusal.Refusal.{Refusal}
use Rattle.wasm_operator_validator_state.specs.State.{State, Stands}
use Rattle.wasm_operator_validator_state.specs.Steps.{Stacks, IsOpen, MayPop}
use Rattle.wasm_operator_validator_state.specs.laws.Operands.{operand_refl, operand_trans, all_below_refl}
use Rattle.wasm_operator_validator_state.specs.laws.Accepting.{stacks_below}
use Rattle.wasm_operator_validator_stacks.specs.Peeking.{operand_at}
use Rattle.wasm_operator_validator_control.specs.laws.Labels.{one_label}
use Rattle.wasm_operator_validator_control.specs.laws.Turned.{below_append, below_reverse}
use Rattle.wasm_operator_validator_control.specs.Fitting.{labels_of, EachBelow, MayBranch, EachSuits, FitsAt, EachFitsAt, a_reference, either_shared, SharesOne, AgreesAt, AllAgree, Answers}
use Rattle.wasm_operator_validator_control.proofs.Places.{some_is, IsIn, is_in, all_in, below_at, all_below_at, chosen, length-stack, place_in, popped_in}

-- ---- what a reference fits

pub fits_at : (ls : List (List ValueType)) (i l : ℕ) (ts : List ValueType) (v p : Operand) (b : Bool) → slice_get ls l ≡ Some ts → slice_get (stack ts) i ≡ Some v → IsTrue b ↔ OperandBelow p v
    → IsTrue b ↔ FitsAt ls i p l
fits_at ls i l ts v p b e f q = (λ x. (ts, v, e, f, q.0 x), λ (us, u, g, h, x). q.1 (same us u g h x))
  where
    same : (us : List ValueType) (u : Operand) → slice_get ls l ≡ Some us → slice_get (stack us) i ≡ Some u → OperandBelow p u → OperandBelow p v
    same us u g h x =
        let k : us ≡ ts = one_label ts us _ e g in
        let h' : slice_get (stack ts) i ≡ Some u = subst (λ (y : List ValueType). slice_get (stack y) i ≡ Some u) k h in
        subst (OperandBelow p) (some_is u v (sym h' ∙ f)) x

-- shared where it does not fit as one that is not
pub by_sharing : (ls : List (List ValueType)) (i : ℕ) (labels : List ℕ) (a : AbstractHeapType) (o : Option AbstractHeapType) (b c : Bool) → Some a ≡ o
    → IsTrue b ↔ EachFitsAt ls i (a_reference false a) labels → b ≡ false → IsTrue c ↔ EachFitsAt ls i (a_reference true a) labels → IsTrue c ↔ SharesOne ls i o labels
by_sharing ls i labels a o b c e p n q = subst (λ (x : Option AbstractHeapType). IsTrue c ↔ SharesOne ls i x labels) e (λ x. (true, q.0 x), one)
  where
    one : SharesOne ls i (Some a) labels → IsTrue c
    one (true, x) = q.1 x
    one (false, x) = let y : false ≡ true = sym n ∙ p.1 x in cc

-- ---- what operands that fit all labels show

as_long : (s : List Operand) (ts : List ValueType) → AllBelow s (all_known ts) → length ts ≡ length s
as_long [] [] b = refl
as_long [] (t ∷ ts) b = absurd b
as_long (y ∷ s) [] b = absurd b
as_long (y ∷ s) (t ∷ ts) b = ap suc (as_long s ts b.1)

suits : (m : Meaning) (σ : State) (s rest : List Operand) (labels : List ℕ) → EachBelow (labels_of m σ) s labels → Stacks m σ (reverse s ++ rest) → EachSuits m σ (length s) labels
suits m σ s rest [] x c = tt
suits m σ s rest (l ∷ more) ((ts, e, b), x) c = (
  (
    ts,
    e,
    as_long s ts b,
    (
      rest,
      stacks_below m σ.opens (reverse s ++ rest) (stack ts ++ rest) c
          (below_append (reverse s) (stack ts) rest rest (below_reverse s (all_known ts) b) (all_below_refl rest)),
    ),
  ),
  suits m σ s rest more x c,
)

-- all take what the first takes
pub each_suits : (m : Meaning) (σ : State) (n l : ℕ) (ts : List ValueType) (more : List ℕ) → slice_get (labels_of m σ) l ≡ Some ts → n ≡ length ts → MayBranch m σ (l ∷ more)
    → EachSuits m σ n (l ∷ more)
each_suits m σ n l ts more e k (s, rest, x, c) =
    let ((us, f, b), y) = x in
    let g : us ≡ ts = one_label ts us _ e f in
    let h : length s ≡ n = sym (as_long s us b) ∙ ap length g ∙ sym k in
    subst (λ (v : ℕ). EachSuits m σ v (l ∷ more)) h (suits m σ s rest (l ∷ more) x c)

pub no_targets : (m : Meaning) (σ : State) (n l : ℕ) (ts : List ValueType) (more : List ℕ) → slice_get (labels_of m σ) l ≡ Some ts → n ≡ length ts → (EachSuits m σ n more → ⊥)
    → MayBranch m σ (l ∷ more) → ⊥
no_targets m σ n l ts more e k never x = never (each_suits m σ n l ts more e k x).1

pub no_default : (m : Meaning) (σ : State) (l : ℕ) (ts : List ValueType) (more : List ℕ) → slice_get (labels_of m σ) l ≡ Some ts → (MayPop m σ (stack ts) → ⊥) → MayBranch m σ (l ∷ more) → ⊥
no_default m σ l ts more e never x =
    let ((us, f, k, p), y) = each_suits m σ (length ts) l ts more e refl x in
    never (subst (λ (v : List ValueType). MayPop m σ (stack v)) (one_label ts us _ e f) p)

each_fits : (ls : List (List ValueType)) (i : ℕ) (p t : Operand) (s : List Operand) (labels : List ℕ) → EachBelow ls s labels → slice_get (reverse s) i ≡ Some t → OperandBelow p t
    → EachFitsAt ls i p labels
each_fits ls i p t s [] x e b = tt
each_fits ls i p t s (l ∷ more) ((ts, f, c), x) e b =
    let (u, g, d) = below_at (reverse s) (stack ts) i t (below_reverse s (all_known ts) c) e in
    ((ts, u, f, g, operand_trans p t u b d), each_fits ls i p t s more x e b)

either_is : (o : Option MaybeType) (a : AbstractHeapType) → either_shared o ≡ Some a → o ≡ Some (maybe.UnknownRef (Some a))
either_is None a e = cc
either_is (Some maybe.Bottom) a e = cc
either_is (Some (maybe.UnknownRef x)) a e = ap (λ (v : Option AbstractHeapType). Some (maybe.UnknownRef v)) e
either_is (Some (maybe.Known v)) a e = cc

shares_one : (m : Meaning) (σ : State) (i : ℕ) (t : Operand) (s rest : List Operand) (labels : List ℕ) (o : Option AbstractHeapType) → EachBelow (labels_of m σ) s labels
    → slice_get (reverse s) i ≡ Some t → IsIn m σ.opens i t → either_shared (operand_at σ.opens i) ≡ o → SharesOne (labels_of m σ) i o labels
shares_one m σ i t s rest labels None x e q f = tt
shares_one m σ i t s rest labels (Some a) x e (b, g, c) f =
    let k : b ≡ maybe.UnknownRef (Some a) = some_is b (maybe.UnknownRef (Some a)) (sym g ∙ either_is (operand_at σ.opens i) a f) in
    let (w, d) = subst (λ (v : MaybeType). Stands m v t) k c in
    (w, each_fits (labels_of m σ) i (a_reference w a) t s labels x e d)

pub all_agree : (m : Meaning) (σ : State) (l : ℕ) (ts : List ValueType) (more : List ℕ) → slice_get (labels_of m σ) l ≡ Some ts → MayBranch m σ (l ∷ more) → (i : ℕ) → i < length ts
    → AgreesAt m σ i (l ∷ more)
all_agree m σ l ts more e (s, rest, x, c) i h =
    let ((us, f, b), y) = x in
    let n = as_long s us b in
    let j : i < length us = subst (λ (v : List ValueType). i < length v) (sym (one_label ts us _ e f)) h in
    let (t, g) = at (reverse s) (stack us) i (below_reverse s (all_known us) b) (subst (λ (v : ℕ). i < v) (sym (length-stack us)) j) in
    shares_one m σ i t s rest (l ∷ more) _ x g (is_in m σ.opens (reverse s ++ rest) i t c (front (reverse s) i t g)) refl
  where
    at : (xs ys : List Operand) (i : ℕ) → AllBelow xs ys → i < length ys → (t : Operand) × (slice_get xs i ≡ Some t)
    at [] [] i b h = absurd (omega (arith, h))
    at [] (y ∷ ys) i b h = absurd b
    at (x ∷ xs) [] i b h = absurd b
    at (x ∷ xs) (y ∷ ys) zero b h = (x, refl)
    at (x ∷ xs) (y ∷ ys) (suc i) b h = at xs ys i b.1 (omega (arith, h))

    front : (xs : List Operand) (i : ℕ) (t : Operand) → slice_get xs i ≡ Some t → slice_get (xs ++ rest) i ≡ Some t
    front [] i t e = cc
    front (x ∷ xs) zero t e = e
    front (x ∷ xs) (suc i) t e = front xs i t e

-- ---- operands are there that fit all

-- what is below all that is stood for fits all labels
each_stood : (m : Meaning) (σ : State) (n i : ℕ) (a : MaybeType) (p : Operand) (labels : List ℕ) → operand_at σ.opens i ≡ Some a → i < n → ((u : Operand) → Stands m a u → OperandBelow p u)
    → EachSuits m σ n labels → EachFitsAt (labels_of m σ) i p labels
each_stood m σ n i a p [] e h q x = tt
each_stood m σ n i a p (l ∷ more) e h q ((ts, f, k, c), x) =
    let (u, g) = place_in ts i (omega (arith, h, k)) in
    let (b, d, s) = popped_in m σ (stack ts) i u c g in
    let s' : Stands m a u = subst (λ (v : MaybeType). Stands m v u) (some_is b a (sym d ∙ e)) s in
    ((ts, u, f, g, q u s'), each_stood m σ n i a p more e h q x)

-- an operand that is stood for in a place and fits all labels there
abbrev pub Fitting : Meaning → State → List ℕ → ℕ → Operand → Type 0
Fitting m σ labels i t = IsIn m σ.opens i t × EachFitsAt (labels_of m σ) i t labels

some_fits : (m : Meaning) (σ : State) (n i : ℕ) (a : MaybeType) (labels : List ℕ) → operand_at σ.opens i ≡ Some a → i < n → EachSuits m σ n labels
    → SharesOne (labels_of m σ) i (either_shared (Some a)) labels → (t : Operand) × Fitting m σ labels i t
some_fits m σ n i maybe.Bottom labels e h x y = (bottom, ((maybe.Bottom, e, tt), each_stood m σ n i maybe.Bottom bottom labels e h (λ u s. tt) x))
some_fits m σ n i (maybe.UnknownRef None) labels e h x y =
    (some_reference, ((maybe.UnknownRef None, e, operand_refl some_reference), each_stood m σ n i (maybe.UnknownRef None) some_reference labels e h (λ u s. s) x))
some_fits m σ n i (maybe.UnknownRef (Some a)) labels e h x (s, f) =
    (a_reference s a, ((maybe.UnknownRef (Some a), e, (s, operand_refl (a_reference s a))), f))
some_fits m σ n i (maybe.Known v) labels e h x y =
    (known (type_in m v), ((maybe.Known v, e, operand_refl (known (type_in m v))), each_stood m σ n i (maybe.Known v) (known (type_in m v)) labels e h (λ u s. s) x))

each_below : (n : ℕ) (m : Meaning) (σ : State) (ys : List Operand) (labels : List ℕ) → length ys ≡ n → EachSuits m σ n labels
    → ((i : ℕ) (t : Operand) → slice_get ys i ≡ Some t → EachFitsAt (labels_of m σ) i t labels) → EachBelow (labels_of m σ) (reverse ys) labels
each_below n m σ ys [] k x f = tt
each_below n m σ ys (l ∷ more) k ((ts, e, h, c), x) f =
    let g = length-stack ts in
    let b : AllBelow ys (stack ts) = all_below_at ys (stack ts) (omega (arith, k, h, g)) (λ i t d. at i t (f i t d).0) in
    let b' : AllBelow (reverse ys) (all_known ts) = rw reverse-reverse at (below_reverse ys (stack ts) b) in
    ((ts, e, b'), each_below n m σ ys more k x (λ i t d. (f i t d).1))
  where
    at : (i : ℕ) (t : Operand) → FitsAt (labels_of m σ) i t l → (u : Operand) × (slice_get (stack ts) i ≡ Some u) × OperandBelow t u
    at i t (us, u, e', f', b) = (u, subst (λ (v : List ValueType). slice_get (stack v) i ≡ Some u) (one_label ts us _ e e') f', b)

pub may_branch : (m : Meaning) (σ : State) (n l : ℕ) (more : List ℕ) → IsOpen σ.opens → EachSuits m σ n (l ∷ more) → ((i : ℕ) → i < n → AgreesAt m σ i (l ∷ more)) → MayBranch m σ (l ∷ more)
may_branch m σ n l more o x f =
    let (ys, k, q) = chosen (Fitting m σ (l ∷ more)) n at in
    let (rest, c) = all_in m σ.opens ys o (λ i t e. (q i t e).0) in
    (reverse ys, rest, each_below n m σ ys (l ∷ more) k x (λ i t e. (q i t e).1), rw reverse-reverse c)
  where
    at : (i : ℕ) → i < n → (t : Operand) × Fitting m σ (l ∷ more) i t
    at i h =
        let ((ts, e, k, c), y) = x in
        let (u, g) = place_in ts i (omega (arith, h, k)) in
        let (a, d, s) = popped_in m σ (stack ts) i u c g in
        some_fits m σ n i a (l ∷ more) d h x (subst (λ (v : Option MaybeType). SharesOne (labels_of m σ) i (either_shared v) (l ∷ more)) d (f i h))

-- what is asked at the end decides
pub agreed : (r : Result (Unit {0}) Refusal) (m : Meaning) (σ : State) (n l : ℕ) (ts : List ValueType) (more : List ℕ) → IsOpen σ.opens → slice_get (labels_of m σ) l ≡ Some ts → n ≡ length ts
    → EachSuits m σ n more → MayPop m σ (stack ts)
    → Answers r (AllAgree m σ n (l ∷ more)) → Answers r (MayBranch m σ (l ∷ more))
agreed (Ok u) m σ n l ts more o e k x p f = may_branch m σ n l more o ((ts, e, sym k, p), x) f
agreed (Err r) m σ n l ts more o e k x p f = λ y. f (λ i h. all_agree m σ l ts more e y i (subst (λ (v : ℕ). i < v) k h))
