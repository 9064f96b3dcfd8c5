-- Stacks by their places, which count from the top.
use Rattle.std.proofs.Common.{
  ◌≡◌,
  ◌∙◌,
  ◌<◌,
  ◌-◌,
  ◌+◌,
  ℕ,
  zero,
  suc,
  List,
  [],
  ◌∷◌,
  ◌++◌,
  Bool,
  true,
  false,
  Option,
  Some,
  None,
  map,
  length,
  reverse,
  get_or,
  slice_get,
  refl,
  sym,
  ap,
  subst,
  arith,
  ◌⊎◌,
  inl,
  inr,
  ⊎_elim,
}
use Rattle.std.proofs.lemmas.List.{length-reverse, length-map, get_or-reverse}
use Rattle.std.proofs.Math.ListN.{get_or-map}
use Rattle.std.proofs.lemmas.Option.{slice_get-get_or}
use Rattle.wasm_types.specs.values.declared.value.ValType.{ValType}
use Rattle.wasm_operator_validator_rules.specs.Operands.{ValueType, Operand, known, OperandBelow, AllBelow, all_known, stack}
use Rattle.wasm_operator_validator_state.specs.resources.Meaning.{Meaning, type_in}
use Rattle.wasm_operator_validator_state.specs.declared.operand.MaybeType.{MaybeType}
use Rattle.wasm_operator_validator_state.specs.declared.operand.MaybeType.TheVariants as maybe
use Rattle.wasm_operator_validator_state.specs.State.{Open, State, Stands, Covers, types_in}
use Rattle.wasm_operator_validator_state.specs.Steps.{StacksOf, IsOpen, MayPop}
use Rattle.wasm_operator_validator_stacks.specs.Peeking.{or_any, operand_at}
use Rattle.wasm_operator_validator_control.specs.laws.Jumping.{stacks_some}

pub some_is : {A : Type 0} (x y : A) → ◌≡◌ {A = Option A} (Some x) (Some y) → x ≡ y
some_is x y e = cc

pub not_some : {A : Type 0} (y : A) → ◌≡◌ {A = Option A} None (Some y) → ⊥
not_some y e = cc

-- ---- a stack that is stood for

-- what is known of the operand in a place stands for this one
abbrev pub IsIn : Meaning → List Open → ℕ → Operand → Type 0
IsIn m opens i t = (a : MaybeType) × (operand_at opens i ≡ Some a) × Stands m a t

abbrev pub IsInOwn : Meaning → Bool → List MaybeType → ℕ → Operand → Type 0
IsInOwn m u ks i t = (a : MaybeType) × (or_any u (slice_get ks i) ≡ Some a) × Stands m a t

own_at : (m : Meaning) (u : Bool) (ks : List MaybeType) (s : List Operand) (i : ℕ) (t : Operand) → Covers m u ks s → slice_get s i ≡ Some t → IsInOwn m u ks i t
own_at m true [] s i t c e = (maybe.Bottom, refl, tt)
own_at m false [] [] i t c e = absurd (not_some t e)
own_at m false [] (x ∷ s) i t c e = absurd c
own_at m u (a ∷ ks) [] i t c e = absurd c
own_at m u (a ∷ ks) (x ∷ s) zero t c e = (a, refl, subst (Stands m a) (some_is x t e) c.0)
own_at m u (a ∷ ks) (x ∷ s) (suc i) t c e = own_at m u ks s i t c.1 e

pub is_in : (m : Meaning) (opens : List Open) (s : List Operand) (i : ℕ) (t : Operand) → StacksOf m opens s → slice_get s i ≡ Some t → IsIn m opens i t
is_in m [] s i t c e = absurd c
is_in m (o ∷ outer) s i t c e = own_at m o.unreachable o.operands s i t c e

some_own : (m : Meaning) (o : Open) → (s : List Operand) × Covers m o.unreachable o.operands s
some_own m o = stacks_some m (o ∷ []) tt

own_all : (m : Meaning) (o : Open) (u : Bool) (ks : List MaybeType) (xs : List Operand) → ((i : ℕ) (t : Operand) → slice_get xs i ≡ Some t → IsInOwn m u ks i t)
    → (rest : List Operand) × Covers m u ks (xs ++ rest)
own_all m o u ks [] f = some_own m (record o { operands = ks; unreachable = u })
own_all m o true [] (x ∷ xs) f = ([], tt)
own_all m o false [] (x ∷ xs) f = let (a, e, s) = f 0 x refl in absurd (not_some a e)
own_all m o u (k ∷ ks) (x ∷ xs) f =
    let (rest, c) = own_all m o u ks xs (λ i t e. f (suc i) t e) in
    let (a, e, s) = f 0 x refl in
    (rest, (subst (λ (v : MaybeType). Stands m v x) (sym (some_is k a e)) s, c))

-- operands of which each is stood for in its place are there
pub all_in : (m : Meaning) (opens : List Open) (xs : List Operand) → IsOpen opens → ((i : ℕ) (t : Operand) → slice_get xs i ≡ Some t → IsIn m opens i t)
    → (rest : List Operand) × StacksOf m opens (xs ++ rest)
all_in m [] xs i f = absurd i
all_in m (o ∷ outer) xs i f = own_all m o o.unreachable o.operands xs f

-- ---- a stack below another

pub below_at : (xs ys : List Operand) (i : ℕ) (t : Operand) → AllBelow xs ys → slice_get xs i ≡ Some t → (u : Operand) × (slice_get ys i ≡ Some u) × OperandBelow t u
below_at [] ys i t b e = absurd (not_some t e)
below_at (x ∷ xs) [] i t b e = absurd b
below_at (x ∷ xs) (y ∷ ys) zero t b e = (y, refl, subst (λ (v : Operand). OperandBelow v y) (some_is x t e) b.0)
below_at (x ∷ xs) (y ∷ ys) (suc i) t b e = below_at xs ys i t b.1 e

pub all_below_at : (xs ys : List Operand) → length xs ≡ length ys → ((i : ℕ) (t : Operand) → slice_get xs i ≡ Some t → (u : Operand) × (slice_get ys i ≡ Some u) × OperandBelow t u)
    → AllBelow xs ys
all_below_at [] [] e f = tt
all_below_at [] (y ∷ ys) e f = cc
all_below_at (x ∷ xs) [] e f = cc
all_below_at (x ∷ xs) (y ∷ ys) e f =
    let (u, g, b) = f 0 x refl in
    (subst (λ (v : Operand). OperandBelow x v) (sym (some_is y u g)) b, all_below_at xs ys (omega (arith, e)) (λ i t h. f (suc i) t h))

-- operands that are known place by place are a stack
pub chosen : (Q : ℕ → Operand → Type 0) (n : ℕ) → ((i : ℕ) → i < n → (t : Operand) × Q i t)
    → (xs : List Operand) × (length xs ≡ n) × ((i : ℕ) (t : Operand) → slice_get xs i ≡ Some t → Q i t)
chosen Q zero f = ([], refl, λ i t e. absurd (not_some t e))
chosen Q (suc n) f =
    let (x, q) = f 0 (omega arith) in
    let (xs, l, r) = chosen (λ i t. Q (suc i) t) n (λ i h. f (suc i) (omega (arith, h))) in
    (x ∷ xs, ap suc l, each x xs q r)
  where
    each : (x : Operand) (xs : List Operand) → Q 0 x → ((i : ℕ) (t : Operand) → slice_get xs i ≡ Some t → Q (suc i) t) → (i : ℕ) (t : Operand) → slice_get (x ∷ xs) i ≡ Some t → Q i t
    each x xs q r zero t e = subst (Q 0) (some_is x t e) q
    each x xs q r (suc i) t e = r i t e

-- ---- the types of a label as a stack

pub length-stack : (ts : List ValueType) → length (stack ts) ≡ length ts
length-stack ts = length-reverse (all_known ts) ∙ length-map ts known

pub place_in : (ts : List ValueType) (i : ℕ) → i < length ts → (u : Operand) × (slice_get (stack ts) i ≡ Some u)
place_in ts i h =
    let l = length-stack ts in
    let k : i < length (stack ts) = omega (arith, l, h) in
    (get_or (stack ts) i (known (first ts i h)), slice_get-get_or (stack ts) i (known (first ts i h)) k)
  where
    first : (ts : List ValueType) (i : ℕ) → i < length ts → ValueType
    first [] i h = absurd (omega (arith, h))
    first (t ∷ ts) i h = t

-- the type of the code in a place
pub type_at : (m : Meaning) (types : List ValType) (i : ℕ) (t d : ValType) → i < length types → t ≡ get_or types (length types - 1 - i) d
    → slice_get (stack (types_in m types)) i ≡ Some (known (type_in m t))
type_at m types i t d h e =
    let l : length (map known (types_in m types)) ≡ length types = length-map (types_in m types) known ∙ length-map types (type_in m) in
    let r = length-reverse (map known (types_in m types)) in
    let k : i < length (map known (types_in m types)) = omega (arith, l, h) in
    let k' : i < length (reverse (map known (types_in m types))) = omega (arith, r, k) in
    let x = slice_get-get_or (reverse (map known (types_in m types))) i (known (type_in m d)) k' in
    let y = get_or-reverse (map known (types_in m types)) i (known (type_in m d)) k in
    let z = get_or-map known (types_in m types) (length (map known (types_in m types)) - 1 - i) (type_in m d) in
    let w = get_or-map (type_in m) types (length (map known (types_in m types)) - 1 - i) d in
    let v : get_or types (length (map known (types_in m types)) - 1 - i) d ≡ t = rw l (sym e) in
    x ∙ ap Some (y ∙ z ∙ ap known (w ∙ ap (type_in m) v))

-- each of the first so many operands is there
abbrev pub AreInUpTo : Meaning → List Open → List Operand → ℕ → Type 0
AreInUpTo m opens xs n = (i : ℕ) (t : Operand) → i < n → slice_get xs i ≡ Some t → IsIn m opens i t

pub in_more : (m : Meaning) (opens : List Open) (xs : List Operand) (n : ℕ) (a : MaybeType) (u : Operand) → AreInUpTo m opens xs n → slice_get xs n ≡ Some u → operand_at opens n ≡ Some a
    → Stands m a u → AreInUpTo m opens xs (n + 1)
in_more m opens xs n a u f e g s i t h k = by (nat_cases i n (omega (arith, h)))
  where
    nat_cases : (i n : ℕ) → i < suc n → (i < n) ⊎ (i ≡ n)
    nat_cases zero zero h = inr refl
    nat_cases zero (suc n) h = inl (omega arith)
    nat_cases (suc i) zero h = absurd (omega (arith, h))
    nat_cases (suc i) (suc n) h = ⊎_elim (λ x. inl (omega (arith, x))) (λ x. inr (ap suc x)) (nat_cases i n (omega (arith, h)))

    by : (i < n) ⊎ (i ≡ n) → IsIn m opens i t
    by (inl x) = f i t x k
    by (inr x) =
        let k' : slice_get xs n ≡ Some t = subst (λ (v : ℕ). slice_get xs v ≡ Some t) x k in
        subst (λ (v : ℕ). IsIn m opens v t) (sym x) (a, g, subst (Stands m a) (some_is u t (sym e ∙ k')) s)

pub could_be_popped : (m : Meaning) (σ : State) (ts : List ValueType) (n : ℕ) → IsOpen σ.opens → AreInUpTo m σ.opens (stack ts) n → (n < length ts → ⊥) → MayPop m σ (stack ts)
could_be_popped m σ ts n i f h = all_in m σ.opens (stack ts) i (λ j t e. f j t (bound j t e) e)
  where
    within : (xs : List Operand) (j : ℕ) (t : Operand) → slice_get xs j ≡ Some t → j < length xs
    within [] j t e = absurd (not_some t e)
    within (x ∷ xs) zero t e = omega arith
    within (x ∷ xs) (suc j) t e = let k = within xs j t e in omega (arith, k)

    bound : (j : ℕ) (t : Operand) → slice_get (stack ts) j ≡ Some t → j < n
    bound j t e = let k = within (stack ts) j t e in let l = length-stack ts in omega (arith, k, l, h)

-- what could be popped stands in each place
pub popped_in : (m : Meaning) (σ : State) (xs : List Operand) (i : ℕ) (t : Operand) → MayPop m σ xs → slice_get xs i ≡ Some t → IsIn m σ.opens i t
popped_in m σ xs i t (s, c) e = is_in m σ.opens (xs ++ s) i t c (front xs i e)
  where
    front : (xs : List Operand) (i : ℕ) → slice_get xs i ≡ Some t → slice_get (xs ++ s) i ≡ Some t
    front [] i e = absurd (not_some t e)
    front (x ∷ xs) zero e = e
    front (x ∷ xs) (suc i) e = front xs i e

pub not_there : (m : Meaning) (σ : State) (xs : List Operand) (i : ℕ) (t : Operand) → slice_get xs i ≡ Some t → operand_at σ.opens i ≡ None → MayPop m σ xs → ⊥
not_there m σ xs i t e f p = let (a, g, s) = popped_in m σ xs i t p e in not_some a (sym f ∙ g)

pub not_fitting : (m : Meaning) (σ : State) (xs : List Operand) (i : ℕ) (t : Operand) (a : MaybeType) → slice_get xs i ≡ Some t → operand_at σ.opens i ≡ Some a → (Stands m a t → ⊥)
    → MayPop m σ xs → ⊥
not_fitting m σ xs i t a e f n p =
    let (b, g, s) = popped_in m σ xs i t p e in n (subst (λ (v : MaybeType). Stands m v t) (some_is b a (sym g ∙ f)) s)
