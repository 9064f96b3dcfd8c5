-- `ref.is_null`.
use Rattle.std.proofs.Common.{◌≡◌, List, [], ◌∷◌, true, false, Option, Some, None, refl, subst}
use Rattle.wasm_types.specs.decoding.declared.error.ErrorKind.{ErrorKind}
use Rattle.wasm_types.specs.decoding.Denials.{Denies}
use Rattle.wasm_types.specs.decoding.DenialLaws.{denies, denies_from}
use Rattle.wasm_types.specs.trees.Types.{number, ref, abstract}
use Rattle.wasm_types.specs.values.declared.value.ValType.TheVariants as vals
use Rattle.wasm_types.specs.values.Trees.{abstract_of}
use Rattle.wasm_operators_immediates.specs.declared.proposal.Proposal.TheVariants.{ReferenceTypes}
use Rattle.wasm_operators_enums.specs.declared.bulk.BulkOperator.TheVariants as bulk
use Rattle.wasm_operators_enums.specs.Op as op
use Rattle.wasm_operators_enums.specs.Op.{Op}
use Rattle.wasm_operator_validator_rules.specs.Operands.{ValueType, Operand, bottom, some_reference, known, IsReference, stack}
use Rattle.wasm_operator_validator_rules.specs.InstructionTypes.{i32_type}
use Rattle.wasm_operator_validator_state.specs.resources.Meaning.{Meaning, type_in}
use Rattle.wasm_operator_validator_state.specs.Refusals.{Does}
use Rattle.wasm_operator_validator_state.specs.declared.operand.MaybeType.{MaybeType}
use Rattle.wasm_operator_validator_state.specs.declared.operand.MaybeType.TheVariants as maybe
use Rattle.wasm_operator_validator_state.specs.State.{State, Stands, Accepts, Decides, Checks, types_in}
use Rattle.wasm_operator_validator_state.specs.Steps.{Stacks, MayPopAny, PoppedAny, Pushed}
use Rattle.wasm_operator_validator_state.specs.laws.Operands.{operand_refl, all_below_refl}
use Rattle.wasm_operator_validator_state.specs.laws.Rows.{by_row, some_row}
use Rattle.wasm_operator_validator_state.specs.Entering.{MayBegin}
use Rattle.wasm_operator_validator_state.specs.laws.Entering.{enabled}
use Rattle.wasm_operator_validator_state.specs.laws.Checks.{checks_going}
use Rattle.wasm_operator_validator_stacks.specs.determined.Operators.{Stays}
use Rattle.wasm_operator_validator_stacks.specs.determined.laws.Types.{i32_in}
use Rattle.wasm_operator_validator_stacks.specs.determined.laws.Same.{same_trans, stays_same, stays_trans}
use Rattle.wasm_operator_validator_stacks.specs.determined.laws.Determined.{refused_then}
use Rattle.wasm_operator_validator_memory.specs.Tables.{may_refer}

abbrev pub is_null : Op
is_null = op.Bulk bulk.RefIsNull

some_referred : (m : Meaning) (a : MaybeType) → may_refer a ≡ true → (t : Operand) × IsReference t × Stands m a t
unfolding type_in
some_referred m maybe.Bottom e = (some_reference, tt, tt)
some_referred m (maybe.UnknownRef None) e = (some_reference, tt, operand_refl some_reference)
some_referred m (maybe.UnknownRef (Some a)) e =
    (known (ref false (abstract false (abstract_of a))), tt, (false, operand_refl (known (ref false (abstract false (abstract_of a))))))
some_referred m (maybe.Known vals.I32) e = cc
some_referred m (maybe.Known vals.I64) e = cc
some_referred m (maybe.Known vals.F32) e = cc
some_referred m (maybe.Known vals.F64) e = cc
some_referred m (maybe.Known vals.V128) e = cc
some_referred m (maybe.Known (vals.Ref r)) e = (known (type_in m (vals.Ref r)), tt, operand_refl (known (type_in m (vals.Ref r))))

none_referred : (m : Meaning) (a : MaybeType) (t : Operand) → may_refer a ≡ false → IsReference t → Stands m a t → ⊥
unfolding type_in
none_referred m maybe.Bottom t e i s = cc
none_referred m (maybe.UnknownRef a) t e i s = cc
none_referred m (maybe.Known v) bottom e i s = absurd i
none_referred m (maybe.Known v) some_reference e i s = absurd s
none_referred m (maybe.Known v) (known (number n)) e i s = absurd i
none_referred m (maybe.Known vals.I32) (known (ref n h)) e i s = absurd s
none_referred m (maybe.Known vals.I64) (known (ref n h)) e i s = absurd s
none_referred m (maybe.Known vals.F32) (known (ref n h)) e i s = absurd s
none_referred m (maybe.Known vals.F64) (known (ref n h)) e i s = absurd s
none_referred m (maybe.Known vals.V128) (known (ref n h)) e i s = absurd s
none_referred m (maybe.Known (vals.Ref r)) (known (ref n h)) e i s = cc

done : (k : Option ErrorKind) (m : Meaning) (σ ρ τ : State) (a : MaybeType) → MayBegin σ ReferenceTypes false → PoppedAny m σ a ρ → may_refer a ≡ true
    → Does k (Pushed m ρ (stack (types_in m (vals.I32 ∷ []))) τ) (Unit {0}) → Decides m σ is_null k τ
done None m σ ρ τ a b p e x =
    let (t, i, s) = some_referred m a e in
    let y : Pushed m ρ (known i32_type ∷ []) τ = subst (λ (v : ValueType). Pushed m ρ (known v ∷ []) τ) (i32_in m) x in
    by_row m σ τ is_null refl (λ set. refl) (same_trans σ ρ τ p.same y.same)
    (λ n c. let (rest, d, l) = (y.stacks n).0 c in
    (t ∷ [], known i32_type ∷ [], rest, (enabled σ is_null ReferenceTypes false (refl, refl) b, (t, i, refl, refl)), (p.stacks t rest).1 (s, d), l))
    (λ popped pushed rest (u, (v, j, f, g)) d.
    let d' : Stacks m σ (v ∷ rest) = rw f at d in
    rw g ((y.stacks (known i32_type ∷ rest)).1 (rest, ((p.stacks v rest).0 d').1, all_below_refl (known i32_type ∷ rest))))
done (Some k) m σ ρ τ a b p e x = denies_from k _ _ (λ y. tt) x

pub tested : (k : Option ErrorKind) (m : Meaning) (σ ρ τ : State) (a : MaybeType) → MayBegin σ ReferenceTypes false → PoppedAny m σ a ρ → may_refer a ≡ true
    → Does k (Pushed m ρ (stack (types_in m (vals.I32 ∷ []))) τ) (Unit {0}) → Stays ρ τ → Checks m σ is_null k τ
tested k m σ ρ τ a b p e x s =
    let z = stays_trans σ ρ τ (stays_same σ ρ p.same) s in
    checks_going k m σ τ is_null ReferenceTypes false b (done k m σ ρ τ a b p e x) z.given z.failed z.saved

-- where it comes there is a reference
at_reference : (m : Meaning) (σ : State) → MayBegin σ ReferenceTypes false → (os : List Op) × Accepts m σ (is_null ∷ os)
    → (t : Operand) × (rest : List Operand) × IsReference t × Stacks m σ (t ∷ rest)
at_reference m σ b (os, y) =
    let (popped, pushed, rest, (u, (v, j, f, g)), c) = some_row m σ is_null os refl b.framed y in
    let c' : Stacks m σ (v ∷ rest) = rw f at c in (v, rest, j, c')

pub nothing_tested : (k : ErrorKind) (m : Meaning) (σ τ : State) → MayBegin σ ReferenceTypes false → Denies k (MayPopAny m σ) → Stays σ τ → Checks m σ is_null (Some k) τ
nothing_tested k m σ τ b d s =
    refused_then k m σ τ is_null ReferenceTypes false b s (denies_from k _ _ (λ y. let (t, rest, j, c) = at_reference m σ b y in (t, rest, c)) d)

pub no_reference : (k : ErrorKind) (m : Meaning) (σ ρ : State) (a : MaybeType) → MayBegin σ ReferenceTypes false → PoppedAny m σ a ρ → may_refer a ≡ false
    → Checks m σ is_null (Some k) ρ
no_reference k m σ ρ a b p e =
    refused_then k m σ ρ is_null ReferenceTypes false b (stays_same σ ρ p.same)
    (denies k _ (λ y. let (t, rest, j, c) = at_reference m σ b y in none_referred m a t e j ((p.stacks t rest).0 c).0))
