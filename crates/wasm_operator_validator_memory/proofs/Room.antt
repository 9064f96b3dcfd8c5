-- When memory is wanted.
use Rattle.std.proofs.Common.{◌≡◌, ◌↔◌, ◌∙◌, [], ◌∷◌, Bool, List, Option, Some, false, refl, sym, ap}
use Rattle.wasm_types.specs.decoding.declared.error.ErrorKind.{ErrorKind}
use Rattle.wasm_types.specs.decoding.declared.error.ErrorKind.TheVariants as kinds
use Rattle.wasm_types.specs.values.declared.value.ValType.{ValType}
use Rattle.wasm_operators_immediates.specs.declared.proposal.Proposal.{Proposal}
use Rattle.wasm_operators_immediates.specs.declared.proposal.Proposal.TheVariants.{Mvp}
use Rattle.wasm_operators_enums.specs.Op.{Op}
use Rattle.wasm_operator_validator_rules.specs.Operands.{ValueType, Operand, bottom, all_known}
use Rattle.wasm_operator_validator_rules.specs.InstructionTypes.{◌⟶◌, instruction_type}
use Rattle.wasm_operator_validator_rules.specs.Row.{Takes, GroupRow}
use Rattle.wasm_operator_validator_state.specs.resources.Meaning.{Meaning}
use Rattle.wasm_operator_validator_state.specs.Refusals.{kind_of}
use Rattle.wasm_operator_validator_state.specs.declared.refusal.Refusal.{Refusal}
use Rattle.wasm_operator_validator_state.specs.declared.refusal.Refusal.TheVariants as refusals
use Rattle.wasm_operator_validator_state.specs.State.{State, initialised, context, types_in}
use Rattle.wasm_operator_validator_state.specs.Entering.{MayBegin, StopsWith}
use Rattle.wasm_operator_validator_state.specs.laws.Entering.{enabled}
use Rattle.wasm_operator_validator_stacks.specs.determined.Operators.{IsPlain, IsInTable}
use Rattle.wasm_operator_validator_memory.specs.Variables.{HasTypes, WantsRoom}
use Rattle.wasm_operator_validator_memory.proofs.Selecting.{drop_op, drop_is}

-- a refusal of content is not for memory
pub by_content : (k : ErrorKind) (m : Meaning) (σ : State) (o : Op) → k ≡ kinds.Other → WantsRoom m σ o (Some k)
by_content k m σ o e f = let x : ◌≡◌ {A = Option ErrorKind} (Some kinds.Other) (Some kinds.OutOfMemory) = ap (λ (j : ErrorKind). Some j) (sym e) ∙ f in cc

-- nor is one at the entry
pub by_entry : (r : Refusal) (m : Meaning) (σ : State) (o : Op) (p : Proposal) (f : Bool) → StopsWith σ p f r → WantsRoom m σ o (Some (kind_of r))
by_entry refusals.OutOfMemory m σ o p f s e = absurd s
by_entry refusals.AfterRefusal m σ o p f s e = let x : ◌≡◌ {A = Option ErrorKind} (Some kinds.Failed) (Some kinds.OutOfMemory) = e in cc
by_entry refusals.AfterEnd m σ o p f s e = let x : ◌≡◌ {A = Option ErrorKind} (Some kinds.Other) (Some kinds.OutOfMemory) = e in cc
by_entry (refusals.NotEnabled feature) m σ o p f s e = let x : ◌≡◌ {A = Option ErrorKind} (Some (kinds.MissingFeature feature)) (Some kinds.OutOfMemory) = e in cc
by_entry r m σ o p f s e = absurd s

-- ---- where the rules have types

pub has_types : (m : Meaning) (σ : State) (o : Op) (p : Proposal) (f : Bool) (ts us : List ValueType) → IsPlain o p f → MayBegin σ p f
    → ((popped pushed : List Operand) → GroupRow (context m σ.given σ.opens) (initialised m σ.given σ.inits) o popped pushed ↔ Takes ts us popped pushed) → HasTypes m σ o
has_types m σ o p f ts us i b row = record {
  going = b.going;
  framed = b.framed;
  popped = all_known ts;
  pushed = all_known us;
  row = (enabled σ o p f (i.of, i.named) b, (row (all_known ts) (all_known us)).1 (refl, refl));
}

pub has_table_types : (m : Meaning) (σ : State) (o : Op) (p : Proposal) (f : Bool) (ts us : List ValType) → IsInTable o p f → MayBegin σ p f
    → instruction_type (context m σ.given σ.opens) o ≡ Some (types_in m ts ⟶ types_in m us) → HasTypes m σ o
has_table_types m σ o p f ts us i b e = record {
  going = b.going;
  framed = b.framed;
  popped = all_known (types_in m ts);
  pushed = all_known (types_in m us);
  row = (
    enabled σ o p f (i.is.of, i.is.named) b,
    (i.row (context m σ.given σ.opens) (initialised m σ.given σ.inits) (all_known (types_in m ts)) (all_known (types_in m us))).1 (types_in m ts ⟶ types_in m us, e, (refl, refl)),
  );
}

pub drop_has_types : (m : Meaning) (σ : State) → MayBegin σ Mvp false → HasTypes m σ drop_op
drop_has_types m σ b = record {
  going = b.going;
  framed = b.framed;
  popped = bottom ∷ [];
  pushed = [];
  row = (enabled σ drop_op Mvp false (drop_is.of, drop_is.named) b, (bottom, refl, refl));
}
