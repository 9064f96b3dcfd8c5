-- What the validation of one body tells of it, and what the bodies that were judged tell of all.
use Rattle.std.proofs.Common.{◌≡◌, ◌∙◌, ◌≤◌, ℕ, zero, suc, ◌+◌, List, [], ◌∷◌, length, drop, Result, Ok, Err, Option, Some, None, slice_get, sym, ap, subst, add-one, arith}
use Rattle.wasm_types.specs.decoding.Decoder.{State as Bytes}
use Rattle.wasm_types.specs.settings.Settings.{Settings}
use Rattle.wasm_types.specs.settings.declared.Limits.{Limits}
use Rattle.wasm_types.specs.decoding.Denials.{Denies, Tells}
use Rattle.wasm_types.specs.decoding.DenialLaws.{denies_from}
use Rattle.wasm_types.specs.decoding.ErrorValue.{ErrorValue}
use Rattle.wasm_types.specs.decoding.declared.error.ErrorKind.{ErrorKind}
use Rattle.wasm_operator_validator_arity.specs.resources.Meaning.{Meaning}
use Rattle.wasm_operator_validator_state.specs.State.{State}
use Rattle.wasm_operator_validator_stacks.specs.Functions.{Begins, MayBegin}
use Rattle.wasm_module_validator_section_order.specs.rules.Valid.{Each}
use Rattle.wasm_module_validator_function_bodies.specs.Locals.{judged_by}
use Rattle.wasm_module_validator_function_bodies.specs.Functions.{SpellsValidFunction, ValidatesFunction}
use Rattle.wasm_module_validator_function_bodies.specs.laws.Functions.{functions_are}
use Rattle.wasm_module_validator_section_order.specs.items.Bodies.{IsReadBy}
use Rattle.wasm_module_validator_function_bodies.specs.code.Code.{IsFunctionOf}

tells_same : {X : Type 0} (answer : Result X ErrorValue) (P Q : Type 0) → (P → Q) → (Q → P) → Tells answer P → Tells answer Q
tells_same (Ok u) P Q to from h = to h
tells_same (Err e) P Q to from h = denies_from e.kind P Q from h

module _ (z : Settings) (m : Meaning) (bits : ℕ) (l : Limits) (x : ℕ) (s : Bytes) (held : z.limits ≡ l) (r : IsReadBy z bits s) where
  by_these : judged_by bits l ≡ z
  by_these = ap (λ (n : ℕ). judged_by n l) (sym r.features) ∙ ap (judged_by z.features) (sym held)

  may_begin : IsFunctionOf z m.«module» x s.rest → MayBegin m l.locals x
  may_begin (f, spelled, (t, at, v)) =
      let within = v.within in
      let same = ap (λ (y : Limits). y.locals) held in
      (t, v.signature, record { at = at; function = v.function }, omega (arith, within, same))

  -- where no validator begins, the bytes spell no valid function
  pub none_begins : (k : ErrorKind) → Denies k (MayBegin m l.locals x) → Denies k (IsFunctionOf z m.«module» x s.rest)
  none_begins k d = denies_from k _ _ may_begin d

  -- what a validator that was just made answers, at the same module
  pub judged : (n : Meaning) (σ τ : State) (answer : Result (Unit {0}) ErrorValue) → n ≡ m → Begins m bits x σ → ValidatesFunction n l s σ answer τ
      → Tells answer (IsFunctionOf z m.«module» x s.rest)
  judged n σ τ answer same b w =
      let v : ValidatesFunction m l s σ answer τ = subst (λ (k : Meaning). ValidatesFunction k l s σ answer τ) same w in
      let same_bits : σ.given.bits ≡ bits = ap (λ (ν : State). ν.given.bits) b.state in
      let begun : Begins m σ.given.bits x σ = subst (λ (n : ℕ). Begins m n x σ) (sym same_bits) b in
      let under : judged_by σ.given.bits l ≡ z = ap (λ (n : ℕ). judged_by n l) same_bits ∙ by_these in
      let rules = functions_are z m.«module» x s.rest r.within in
      tells_same answer _ _ rules.0 rules.1 (subst (λ (y : Settings). Tells answer (SpellsValidFunction y m.«module» x s.rest)) under (v.exact x begun))

  -- what is judged valid by these features and limits
  pub accepted : SpellsValidFunction (judged_by bits l) m.«module» x s.rest → IsFunctionOf z m.«module» x s.rest
  accepted v = (functions_are z m.«module» x s.rest r.within).0 (subst (λ (y : Settings). SpellsValidFunction y m.«module» x s.rest) by_these v)

-- ---- all of them

abbrev got : {A : Type 0} → A → Option A → A
got d None = d
got d (Some x) = x

module _ {A : Type 0} (P : A → Type 0) where
  -- what holds of each holds of the one at an index
  pub each_at : (xs : List A) (i : ℕ) (x : A) → slice_get xs i ≡ Some x → Each P xs → P x
  each_at [] i x e all = absurd cc
  each_at (y ∷ xs) zero x e all = subst P (ap (got y) e) all.0
  each_at (y ∷ xs) (suc i) x e all = each_at xs i x e all.1

  each_from : (xs : List A) (i : ℕ) (x : A) → slice_get xs i ≡ Some x → P x → Each P (drop (suc i) xs) → Each P (drop i xs)
  each_from [] i x e h rest = absurd cc
  each_from (y ∷ xs) zero x e h rest = (subst P (sym (ap (got y) e)) h, rest)
  each_from (y ∷ xs) (suc i) x e h rest = each_from xs i x e h rest

  -- what holds of the one at an index and of each behind it holds of each from there
  pub each_next : (xs : List A) (i : ℕ) (x : A) → slice_get xs i ≡ Some x → P x → Each P (drop (i + 1) xs) → Each P (drop i xs)
  each_next xs i x e h rest = each_from xs i x e h (subst (λ (n : ℕ). Each P (drop n xs)) (add-one i) rest)

  -- behind the last there is none
  pub each_none : (xs : List A) (i : ℕ) → length xs ≤ i → Each P (drop i xs)
  each_none [] zero h = tt
  each_none [] (suc i) h = tt
  each_none (x ∷ xs) zero h = absurd (omega (arith, h))
  each_none (x ∷ xs) (suc i) h = each_none xs i (omega (arith, h))
