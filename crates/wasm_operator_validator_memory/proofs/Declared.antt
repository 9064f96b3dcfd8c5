-- Locals that a body declares.
use Rattle.std.proofs.Common.{◌≡◌, ◌∙◌, ◌≤◌, ◌<◌, ◌+◌, ◌==◌, ◌||◌, ◌++◌, ◌∷◌, [], ℕ, zero, suc, true, List, Option, Some, length, replicate, slice_get, option_map, refl, sym, ap, arith}
use Rattle.std.specs.Prelude.{if◌then◌else◌, nat_lt}
use Rattle.std.specs.List.{list_any}
use Rattle.std.proofs.lemmas.Bool.{le-ltb}
use Rattle.std.proofs.lemmas.Option.{slice_get-map}
use Rattle.wasm_types.specs.values.declared.value.ValType.{ValType}
use Rattle.wasm_operator_validator_rules.specs.Operands.{ValueType}
use Rattle.wasm_operator_validator_rules.specs.Context.{defaultable, is_defaulted}
use Rattle.wasm_operator_validator_state.specs.resources.Meaning.{Meaning, type_in}
use Rattle.wasm_operator_validator_state.specs.State.{State, types_in, initialised}
use Rattle.wasm_operator_validator_stacks.specs.Defining.{with_locals}

in_run : (k i : ℕ) (t : ValType) → i < k → slice_get (replicate k t) i ≡ Some t
in_run zero i t h = absurd (omega arith)
in_run (suc k) zero t h = refl
in_run (suc k) (suc i) t h = in_run k i t (omega arith)

at_end : (ts : List ValType) (k j : ℕ) (t : ValType) → length ts ≤ j → j < length ts + k → slice_get (ts ++ replicate k t) j ≡ Some t
at_end [] k j t l h = in_run k j t (omega (arith, h))
at_end (u ∷ ts) k zero t l h = absurd (omega (arith, l))
at_end (u ∷ ts) k (suc j) t l h = at_end ts k j t (omega (arith, l)) (omega (arith, h))

before_end : (ts us : List ValType) (x : ℕ) → x < length ts → slice_get (ts ++ us) x ≡ slice_get ts x
before_end [] us x h = absurd (omega arith)
before_end (t ∷ ts) us zero h = refl
before_end (t ∷ ts) us (suc x) h = before_end ts us x (omega arith)

pub declared_starts : (m : Meaning) (σ : State) (count : ℕ) (t : ValType) (i : ℕ) → σ.given.params ≤ length σ.given.locals → i < count
    → initialised m (with_locals σ count t).given [] (length σ.given.locals + i) ≡ defaultable (type_in m t)
declared_starts m σ count t i p h =
    let ts = σ.given.locals in
    let l : σ.given.params ≤ length ts + i = omega (arith, p) in
    rw (le-ltb (length ts + i) σ.given.params l)
    (ap is_defaulted (slice_get-map (type_in m) (ts ++ replicate count t) (length ts + i) ∙ ap (option_map (type_in m)) (at_end ts count (length ts + i) t (omega arith) (omega (arith, h)))))

pub earlier_stay : (m : Meaning) (σ : State) (count : ℕ) (t : ValType) (x : ℕ) → x < length σ.given.locals
    → initialised m (with_locals σ count t).given σ.inits x ≡ initialised m σ.given σ.inits x
earlier_stay m σ count t x h =
    let ts = σ.given.locals in
    let e : slice_get (types_in m (ts ++ replicate count t)) x ≡ slice_get (types_in m ts) x =
    slice_get-map (type_in m) (ts ++ replicate count t) x ∙ ap (option_map (type_in m)) (before_end ts (replicate count t) x h) ∙ sym (slice_get-map (type_in m) ts x) in
    ap (λ (o : Option ValueType). list_any (λ k. k == x) σ.inits || (if nat_lt x σ.given.params then true else is_defaulted o)) e
