-- Locals that have a value, and one more that has.
use Rattle.std.proofs.Common.{◌≡◌, ◌∙◌, ◌≤◌, ◌<◌, ◌==◌, ◌||◌, ◌++◌, ◌∷◌, [], ℕ, zero, suc, Bool, true, false, List, length, reverse, get_or, slice_get, if◌then◌else◌, refl, ap, subst, arith, ⊎_elim}
use Rattle.std.specs.List.{list_any}
use Rattle.std.proofs.lemmas.Bool.{lt-ltb, le-ltb, cases_lt}
use Rattle.wasm_types.specs.values.declared.value.ValType.{ValType}
use Rattle.wasm_types.specs.values.declared.value.ValType.TheVariants as vals
use Rattle.wasm_types.specs.values.ValueKinds.{is_defaultable_type}
use Rattle.wasm_operator_validator_rules.specs.Context.{defaultable, is_defaulted, initialised_at_first}
use Rattle.wasm_operator_validator_state.specs.resources.Meaning.{Meaning, type_in}
use Rattle.wasm_operator_validator_locals.specs.inits.Inits.{is_among}
use Rattle.wasm_operator_validator_state.specs.declared.operand.MaybeType.{MaybeType}
use Rattle.wasm_operator_validator_state.specs.declared.frame.Frame.{Frame}
use Rattle.wasm_operator_validator_state.specs.State.{types_in}
use Rattle.wasm_operator_validator_stacks.specs.Layout.{Layered, first_of}
use Rattle.wasm_operator_validator_stacks.proofs.Layers.{Fixed, held}
use Rattle.wasm_operator_validator_stacks.proofs.Leaving.{opens_set, layered_set}

pub length-first : (n : ℕ) (ts : List ValType) → length (first_of n ts) ≡ length ts
length-first n [] = refl
length-first zero (t ∷ ts) = ap suc (length-first zero ts)
length-first (suc n) (t ∷ ts) = ap suc (length-first n ts)

by_type : (m : Meaning) (t : ValType) → is_defaultable_type t ≡ defaultable (type_in m t)
unfolding type_in
by_type m vals.I32 = refl
by_type m vals.I64 = refl
by_type m vals.F32 = refl
by_type m vals.F64 = refl
by_type m vals.V128 = refl
by_type m (vals.Ref r) = refl

param_first : (n : ℕ) (ts : List ValType) (x : ℕ) → x < n → x < length ts → get_or (first_of n ts) x false ≡ true
param_first n [] x h l = absurd (omega arith)
param_first zero (t ∷ ts) x h l = absurd (omega arith)
param_first (suc n) (t ∷ ts) zero h l = refl
param_first (suc n) (t ∷ ts) (suc x) h l = param_first n ts x (omega arith) (omega arith)

other_first : (m : Meaning) (n : ℕ) (ts : List ValType) (x : ℕ) → n ≤ x → x < length ts → get_or (first_of n ts) x false ≡ is_defaulted (slice_get (types_in m ts) x)
other_first m n [] x h l = absurd (omega arith)
other_first m zero (t ∷ ts) zero h l = by_type m t
other_first m zero (t ∷ ts) (suc x) h l = other_first m zero ts x (omega arith) (omega arith)
other_first m (suc n) (t ∷ ts) zero h l = absurd (omega arith)
other_first m (suc n) (t ∷ ts) (suc x) h l = other_first m n ts x (omega arith) (omega arith)

first_get : (m : Meaning) (n : ℕ) (ts : List ValType) (x : ℕ) → x < length ts → get_or (first_of n ts) x false ≡ initialised_at_first n (types_in m ts) x
first_get m n ts x l = ⊎_elim
    (λ h. rw (lt-ltb x n h) (param_first n ts x h l))
    (λ h. rw (le-ltb x n h) (other_first m n ts x h l))
    (cases_lt x n)

-- whether a local has a value, as it is known and as the state says it
pub value_by : (m : Meaning) (n : ℕ) (ts : List ValType) (first : List Bool) (set : List ℕ) (x : ℕ) → first ≡ first_of n ts → x < length ts
    → (is_among set x || get_or first x false) ≡ (list_any (λ k. k == x) set || initialised_at_first n (types_in m ts) x)
value_by m n ts first set x e l = ap (λ (b : Bool). is_among set x || b) (ap (λ (bs : List Bool). get_or bs x false) e ∙ first_get m n ts x l)

pub inside_first : (n : ℕ) (ts : List ValType) (first : List Bool) (x : ℕ) → first ≡ first_of n ts → x < length ts → x < length first
inside_first n ts first x e l = let k = ap length e ∙ length-first n ts in omega (arith, k)

-- ---- one more local has a value

pub layered_if : (b : Bool) (fs : List Frame) (inits : List ℕ) (x height : ℕ) → Layered fs height (length inits) → Layered fs height (length (if b then inits else inits ++ x ∷ []))
layered_if true fs inits x height l = l
layered_if false fs inits x height l = layered_set fs inits x height l

pub held_set : (w : Fixed) (cs : List Frame) (ms : List MaybeType) (inits : List ℕ) (x height : ℕ) (b c : Bool) → b ≡ c → Layered (reverse cs) height (length inits)
    → held w cs ms (if b then inits else inits ++ x ∷ []) ≡ record (held w cs ms inits) { inits = if c then inits else inits ++ x ∷ [] }
held_set w cs ms inits x height b c e l = subst (λ (d : Bool). held w cs ms (if b then inits else inits ++ x ∷ []) ≡ record (held w cs ms inits) { inits = if d then inits else inits ++ x ∷ [] }) e (at b)
  where
    at : (b : Bool) → held w cs ms (if b then inits else inits ++ x ∷ []) ≡ record (held w cs ms inits) { inits = if b then inits else inits ++ x ∷ [] }
    at true = refl
    at false = rw (opens_set (reverse cs) (reverse ms) inits x height l) refl
