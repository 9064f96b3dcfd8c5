-- More locals at the end, and those again that there were.
use Rattle.std.proofs.Common.{◌≡◌, ◌∙◌, ◌≤◌, ◌++◌, ◌∷◌, [], ℕ, zero, suc, Bool, true, List, length, replicate, refl, sym, ap, subst, arith}
use Rattle.std.proofs.lemmas.List.{length-append}
use Rattle.wasm_types.specs.decoding.Denials.{Denies}
use Rattle.wasm_types.specs.decoding.DenialLaws.{denies_from}
use Rattle.wasm_types.specs.decoding.declared.error.ErrorKind.{ErrorKind}
use Rattle.wasm_types.specs.values.declared.value.ValType.{ValType}
use Rattle.wasm_types.specs.values.ValueKinds.{is_defaultable_type}
use Rattle.wasm_operator_validator_rules.specs.Operands.{ValueType}
use Rattle.wasm_operator_validator_rules.specs.Context.{IsType}
use Rattle.wasm_operator_validator_state.specs.resources.Meaning.{Meaning, type_in}
use Rattle.wasm_operator_validator_stacks.specs.Layout.{first_of, AreFirst}
use Rattle.wasm_operator_validator_stacks.specs.laws.Written.{is_written}

first_replicated : (k : ℕ) (t : ValType) → first_of 0 (replicate k t) ≡ replicate k (is_defaultable_type t)
first_replicated zero t = refl
first_replicated (suc k) t = ap (λ (bs : List Bool). is_defaultable_type t ∷ bs) (first_replicated k t)

first_more : (n : ℕ) (ts : List ValType) (k : ℕ) (t : ValType) → n ≤ length ts → first_of n (ts ++ replicate k t) ≡ first_of n ts ++ replicate k (is_defaultable_type t)
first_more zero [] k t h = first_replicated k t
first_more (suc n) [] k t h = absurd (omega arith)
first_more zero (u ∷ ts) k t h = ap (λ (bs : List Bool). is_defaultable_type u ∷ bs) (first_more zero ts k t (omega arith))
first_more (suc n) (u ∷ ts) k t h = ap (λ (bs : List Bool). true ∷ bs) (first_more n ts k t (omega arith))

pub more_first : (n : ℕ) (ts us : List ValType) (first news : List Bool) (k : ℕ) (t : ValType) → us ≡ ts ++ replicate k t → news ≡ first ++ replicate k (is_defaultable_type t)
    → AreFirst n ts first → AreFirst n us news
more_first n ts us first news k t e f (g, h) =
    let l = ap length e in
    let a = length-append ts (replicate k t) in (
      f ∙ ap (λ (bs : List Bool). bs ++ replicate k (is_defaultable_type t)) g ∙ sym (first_more n ts k t h) ∙ ap (first_of n) (sym e),
      omega (arith, h, l, a),
    )

-- a type that was refused
pub not_written : (k : ErrorKind) (m : Meaning) (bits : ℕ) (written named : ValType) → named ≡ written → Denies k (IsType bits m.«module» written (type_in m named))
    → Denies k ((t : ValueType) × IsType bits m.«module» written t)
not_written k m bits written named e d =
    denies_from k _ _ (λ (t, i). subst (λ (u : ValType). IsType bits m.«module» written (type_in m u)) (sym e) (is_written m bits written t i)) d
