-- How the checks of operators on structs, arrays and references follow from their rows.
use Rattle.std.proofs.Common.{◌≡◌, ◌↔◌, ◌∙◌, List, Option, Some, None, false, refl, sym, subst}
use Rattle.wasm_types.specs.decoding.declared.error.ErrorKind.{ErrorKind}
use Rattle.wasm_types.specs.decoding.DenialLaws.{denies_from}
use Rattle.wasm_operators_enums.specs.declared.gc.GcOperator.{GcOperator}
use Rattle.wasm_operators_enums.specs.declared.gc.GcOperator.TheVariants as gc
use Rattle.wasm_operators_immediates.specs.declared.proposal.Proposal.TheVariants.{Gc}
use Rattle.wasm_operators_enums.specs.gc.Table.{gc_info}
use Rattle.wasm_operators_enums.specs.Op as op
use Rattle.wasm_operator_validator_rules.specs.Operands.{ValueType, Operand, stack}
use Rattle.wasm_operator_validator_rules.specs.Context.{Context}
use Rattle.wasm_operator_validator_rules.specs.InstructionTypes.{InstructionType, ◌⟶◌, gc_type_of}
use Rattle.wasm_operator_validator_rules.specs.Objects.{GcRow}
use Rattle.wasm_operator_validator_rules.specs.Taken.{Takes, TableRow}
use Rattle.wasm_operator_validator_resources.specs.Meaning.{Meaning}
use Rattle.wasm_operator_validator_state.specs.Refusals.{Does}
use Rattle.wasm_operator_validator_state.specs.State.{State, Checks}
use Rattle.wasm_operator_validator_state.specs.Steps.{MayPop, Popped, Pushed, Exchanged}
use Rattle.wasm_operator_validator_state.specs.Entering.{MayBegin}
use Rattle.wasm_operator_validator_stacks.specs.determined.Operators.{IsPlain, Stays}
use Rattle.wasm_operator_validator_stacks.specs.determined.laws.Same.{same_trans}
use Rattle.wasm_operator_validator_stacks.specs.determined.laws.Determined.{refused_here, no_row, by_types}
use Rattle.wasm_operator_validator_objects.specs.Rows.{here, IsRow, HasNoRow, IsTyped}

gc_is_of : (o : GcOperator) → (gc_info o).proposal ≡ Gc
gc_is_of gc.RefEq = refl
gc_is_of (gc.StructNew x) = refl
gc_is_of (gc.StructNewDefault x) = refl
gc_is_of (gc.StructGet x i) = refl
gc_is_of (gc.StructGetS x i) = refl
gc_is_of (gc.StructGetU x i) = refl
gc_is_of (gc.StructSet x i) = refl
gc_is_of (gc.ArrayNew x) = refl
gc_is_of (gc.ArrayNewDefault x) = refl
gc_is_of (gc.ArrayNewFixed x n) = refl
gc_is_of (gc.ArrayNewData x d) = refl
gc_is_of (gc.ArrayNewElem x e) = refl
gc_is_of (gc.ArrayGet x) = refl
gc_is_of (gc.ArrayGetS x) = refl
gc_is_of (gc.ArrayGetU x) = refl
gc_is_of (gc.ArraySet x) = refl
gc_is_of gc.ArrayLen = refl
gc_is_of (gc.ArrayFill x) = refl
gc_is_of (gc.ArrayCopy x y) = refl
gc_is_of (gc.ArrayInitData x d) = refl
gc_is_of (gc.ArrayInitElem x e) = refl
gc_is_of (gc.RefTestNonNull h) = refl
gc_is_of (gc.RefTestNullable h) = refl
gc_is_of (gc.RefCastNonNull h) = refl
gc_is_of (gc.RefCastNullable h) = refl
gc_is_of (gc.BrOnCast l r s) = refl
gc_is_of (gc.BrOnCastFail l r s) = refl
gc_is_of gc.AnyConvertExtern = refl
gc_is_of gc.ExternConvertAny = refl
gc_is_of gc.RefI31 = refl
gc_is_of gc.I31GetS = refl
gc_is_of gc.I31GetU = refl

pub gc_is : (o : GcOperator) → IsPlain (op.Gc o) Gc false
gc_is o = record { of = gc_is_of o; named = refl; plain = refl }

-- ---- refusals

pub refused_row : (k : ErrorKind) (m : Meaning) (σ : State) (o : GcOperator) → MayBegin σ Gc false → HasNoRow m σ o → Checks m σ (op.Gc o) (Some k) σ
refused_row k m σ o b n = refused_here k m σ (op.Gc o) Gc false b (no_row m σ (op.Gc o) Gc false (gc_is o) b n)

-- ---- the only row

pub exchanged_row : (r : Option ErrorKind) (m : Meaning) (σ τ : State) (o : GcOperator) (ts us : List ValueType) → MayBegin σ Gc false → IsRow m σ o ts us
    → Does r (Exchanged m σ ts us τ) (MayPop m σ (stack ts)) → Stays σ τ → Checks m σ (op.Gc o) r τ
exchanged_row r m σ τ o ts us b row x s = by_types r m σ τ (op.Gc o) Gc false ts us (gc_is o) b (λ set. refl) row x s

-- what was taken off first, and then put on
pub popped_then : (r : Option ErrorKind) (m : Meaning) (σ ρ τ : State) (ts us : List ValueType) → Popped m σ (stack ts) ρ
    → Does r (Pushed m ρ (stack us) τ) (Unit {0}) → Does r (Exchanged m σ ts us τ) (MayPop m σ (stack ts))
popped_then None m σ ρ τ ts us p x = record {
  same = same_trans σ ρ τ p.same x.same;
  stacks = λ s. (
    λ c. let (rest, d, b) = (x.stacks s).0 c in (rest, (p.stacks rest).1 d, b),
    λ (rest, d, b). (x.stacks s).1 (rest, (p.stacks rest).0 d, b),
  );
}
popped_then (Some e) m σ ρ τ ts us p x = denies_from e _ _ (λ y. tt) x

-- ---- the table of instruction types

pub typed_row : (m : Meaning) (σ : State) (o : GcOperator) (f : Context → Option InstructionType) (ts us : List ValueType) → IsTyped o f
    → f (here m σ) ≡ Some (ts ⟶ us) → IsRow m σ o ts us
typed_row m σ o f ts us i e popped pushed = (
  λ r. (
      let (t, h, k) = (i.row (here m σ) popped pushed).0 r in
      let x : ◌≡◌ {A = Option InstructionType} (Some (ts ⟶ us)) (Some t) = sym e ∙ sym (i.type (here m σ)) ∙ h in
      let y : ts ⟶ us ≡ t = cc in
      subst (λ (v : InstructionType). Takes v.takes v.gives popped pushed) (sym y) k
      ),
  λ k. (i.row (here m σ) popped pushed).1 (ts ⟶ us, i.type (here m σ) ∙ e, k),
)

pub untyped_row : (m : Meaning) (σ : State) (o : GcOperator) (f : Context → Option InstructionType) → IsTyped o f → f (here m σ) ≡ None → HasNoRow m σ o
untyped_row m σ o f i e popped pushed r =
    let (t, h, k) = (i.row (here m σ) popped pushed).0 r in
    let x : ◌≡◌ {A = Option InstructionType} None (Some t) = sym e ∙ sym (i.type (here m σ)) ∙ h in cc

-- ---- one operator of the table

abbrev pub InTable : GcOperator → Type 0
InTable o = (g : Context) (popped pushed : List Operand) → GcRow g o popped pushed ↔ TableRow g (op.Gc o) popped pushed

pub refused_typed : (k : ErrorKind) (m : Meaning) (σ : State) (o : GcOperator) → InTable o → MayBegin σ Gc false → gc_type_of (here m σ) o ≡ None → Checks m σ (op.Gc o) (Some k) σ
refused_typed k m σ o i b e = refused_row k m σ o b (untyped_row m σ o (λ g. gc_type_of g o) (record { row = i; type = λ g. refl }) e)

pub row_typed : (m : Meaning) (σ : State) (o : GcOperator) (ts us : List ValueType) → InTable o → gc_type_of (here m σ) o ≡ Some (ts ⟶ us) → IsRow m σ o ts us
row_typed m σ o ts us i e = typed_row m σ o (λ g. gc_type_of g o) ts us (record { row = i; type = λ g. refl }) e

-- the same of one that names what it does
pub refused_named : (k : ErrorKind) (m : Meaning) (σ : State) (o : GcOperator) (f : Context → Option InstructionType) → IsTyped o f → MayBegin σ Gc false → f (here m σ) ≡ None
    → Checks m σ (op.Gc o) (Some k) σ
refused_named k m σ o f i b e = refused_row k m σ o b (untyped_row m σ o f i e)
