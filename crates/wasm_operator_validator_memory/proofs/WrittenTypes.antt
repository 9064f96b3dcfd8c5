-- Choices of a written type.
use Rattle.std.proofs.Common.{◌≡◌, ◌↔◌, ◌∙◌, List, [], ◌∷◌, Bool, true, false, IsTrue, refl, sym, subst}
use Rattle.wasm_types.specs.decoding.declared.error.ErrorKind.{ErrorKind}
use Rattle.wasm_types.specs.decoding.Denials.{Denies}
use Rattle.wasm_types.specs.decoding.DenialLaws.{denies_from}
use Rattle.wasm_types.specs.trees.Below.{value_is_shared}
use Rattle.wasm_types.specs.values.declared.value.ValType.{ValType}
use Rattle.wasm_types.specs.values.declared.value.ValType.TheVariants as vals
use Rattle.wasm_operators_immediates.specs.declared.proposal.Proposal.TheVariants.{ReferenceTypes}
use Rattle.wasm_operators_enums.specs.Op as op
use Rattle.wasm_operators_enums.specs.Op.{Op}
use Rattle.wasm_operator_validator_rules.specs.Operands.{ValueType, Operand}
use Rattle.wasm_operator_validator_rules.specs.Context.{IsType}
use Rattle.wasm_operator_validator_rules.specs.InstructionTypes.{i32_type}
use Rattle.wasm_operator_validator_rules.specs.Row.{Takes, GroupRow}
use Rattle.wasm_operator_validator_state.specs.resources.Meaning.{Meaning, type_in}
use Rattle.wasm_operator_validator_state.specs.State.{State, initialised, context, types_in, Accepts}
use Rattle.wasm_operator_validator_state.specs.laws.Rows.{some_row}
use Rattle.wasm_operator_validator_state.specs.Entering.{MayBegin}
use Rattle.wasm_operator_validator_stacks.specs.determined.Operators.{IsPlain, MayUseIn}
use Rattle.wasm_operator_validator_stacks.specs.determined.laws.Types.{i32_in, is_written}
use Rattle.wasm_operator_validator_stacks.specs.determined.laws.Determined.{no_row}

abbrev pub typed_op : ValType → Op
typed_op t = op.Parametric (op.TypedSelect t)

pub typed_is : (t : ValType) → IsPlain (typed_op t) ReferenceTypes false
typed_is t = record { of = refl; named = refl; plain = refl }

pub multi_is : (ts : List ValType) → IsPlain (op.Parametric (op.TypedSelectMulti ts)) ReferenceTypes false
multi_is ts = record { of = refl; named = refl; plain = refl }

-- ---- the row

abbrev TypedRow : Meaning → State → ValType → List Operand → List Operand → Type 0
TypedRow m σ t popped pushed = GroupRow (context m σ.given σ.opens) (initialised m σ.given σ.inits) (typed_op t) popped pushed

pub typed_row : (m : Meaning) (σ : State) (t n : ValType) → IsType σ.given.bits m.«module» t (type_in m n) → MayUseIn σ (value_is_shared (type_in m n))
    → (popped pushed : List Operand) → TypedRow m σ t popped pushed ↔ Takes (types_in m (n ∷ n ∷ vals.I32 ∷ [])) (types_in m (n ∷ [])) popped pushed
typed_row m σ t n i u popped pushed = rw (i32_in m) (
  λ (v, j, w, k). let e : v ≡ type_in m n = j.is ∙ sym i.is in
      subst (λ (x : ValueType). Takes (x ∷ x ∷ i32_type ∷ []) (x ∷ []) popped pushed) e k,
  λ k. (type_in m n, i, u, k),
)

-- the type may not be written
pub not_typed : (k : ErrorKind) (m : Meaning) (σ : State) (t n : ValType) → MayBegin σ ReferenceTypes false → n ≡ t
    → Denies k (IsType σ.given.bits m.«module» t (type_in m n)) → Denies k ((os : List Op) × Accepts m σ (typed_op t ∷ os))
not_typed k m σ t n b e d =
    let d' : Denies k (IsType σ.given.bits m.«module» t (type_in m t)) = subst (λ (x : ValType). Denies k (IsType σ.given.bits m.«module» t (type_in m x))) e d in
    denies_from k _ _ (λ (os, y). let (popped, pushed, rest, (en, (v, j, w, c)), s) = some_row m σ (typed_op t) os refl b.framed y in
    is_written m σ.given.bits t v j) d'

-- the function may not use it
pub not_used : (m : Meaning) (σ : State) (t n : ValType) (x : Bool) → MayBegin σ ReferenceTypes false → IsType σ.given.bits m.«module» t (type_in m n)
    → IsTrue x ↔ MayUseIn σ (value_is_shared (type_in m n)) → x ≡ false → (os : List Op) × Accepts m σ (typed_op t ∷ os) → ⊥
not_used m σ t n x b i j h =
    no_row m σ (typed_op t) ReferenceTypes false (typed_is t) b
    (λ popped pushed (v, k, w, c).
    let e : v ≡ type_in m n = k.is ∙ sym i.is in
    let y : x ≡ true = j.1 (subst (λ (z : ValueType). MayUseIn σ (value_is_shared z)) e w) in
    let z : false ≡ true = sym h ∙ y in cc)

pub not_multi : (m : Meaning) (σ : State) (ts : List ValType) → MayBegin σ ReferenceTypes false → (os : List Op) × Accepts m σ (op.Parametric (op.TypedSelectMulti ts) ∷ os) → ⊥
not_multi m σ ts b = no_row m σ (op.Parametric (op.TypedSelectMulti ts)) ReferenceTypes false (multi_is ts) b (λ popped pushed r. r)
