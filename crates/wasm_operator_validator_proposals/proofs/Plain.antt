-- The proposals of the operators, and how their checks follow from their rows.
use Rattle.std.proofs.Common.{◌≡◌, ◌↔◌, List, Option, Some, None, false, refl}
use Rattle.wasm_types.specs.decoding.declared.error.ErrorKind.{ErrorKind}
use Rattle.wasm_operators_immediates.specs.declared.proposal.Proposal.{Proposal}
use Rattle.wasm_operators_immediates.specs.declared.proposal.Proposal.TheVariants.{CustomDescriptors, SharedEverythingThreads, StackSwitching}
use Rattle.wasm_operators_enums.specs.declared.gc.DescriptorOperator.{DescriptorOperator}
use Rattle.wasm_operators_enums.specs.declared.gc.DescriptorOperator.TheVariants as descriptor
use Rattle.wasm_operators_enums.specs.declared.atomic.SharedOperator.{SharedOperator}
use Rattle.wasm_operators_enums.specs.declared.atomic.SharedOperator.TheVariants as shared
use Rattle.wasm_operators_enums.specs.Op as op
use Rattle.wasm_operators_enums.specs.Op.{Op, ContinuationTree}
use Rattle.wasm_operators_enums.specs.Table.{info_of}
use Rattle.wasm_operator_validator_rules.specs.Operands.{ValueType, stack}
use Rattle.wasm_operator_validator_rules.specs.Context.{Initialised}
use Rattle.wasm_operator_validator_rules.specs.Row.{after}
use Rattle.wasm_operator_validator_resources.specs.Meaning.{Meaning}
use Rattle.wasm_operator_validator_state.specs.Refusals.{Does}
use Rattle.wasm_operator_validator_state.specs.State.{State, Checks}
use Rattle.wasm_operator_validator_state.specs.Steps.{MayPop, Exchanged}
use Rattle.wasm_operator_validator_state.specs.Entering.{MayBegin}
use Rattle.wasm_operator_validator_stacks.specs.determined.Operators.{IsPlain, Stays}
use Rattle.wasm_operator_validator_stacks.specs.determined.laws.Determined.{refused_here, no_row, by_types}
use Rattle.wasm_operator_validator_proposals.specs.Rows.{IsRow, HasNoRow}

-- the operator is of this proposal, has no float in its name, neither opens nor ends a frame, and sets no local
pub record IsOf (o : Op) (p : Proposal) : Type 0 where
  pub plain : IsPlain o p false
  pub keeps : (set : Initialised) → after o set ≡ set

descriptor_of : (o : DescriptorOperator) → (info_of (op.Descriptor o)).proposal ≡ CustomDescriptors
descriptor_of (descriptor.StructNewDesc x) = refl
descriptor_of (descriptor.StructNewDefaultDesc x) = refl
descriptor_of (descriptor.RefGetDesc x) = refl
descriptor_of (descriptor.RefCastDescEqNonNull h) = refl
descriptor_of (descriptor.RefCastDescEqNullable h) = refl
descriptor_of (descriptor.BrOnCastDescEq l r s) = refl
descriptor_of (descriptor.BrOnCastDescEqFail l r s) = refl

pub descriptor_is : (o : DescriptorOperator) → IsOf (op.Descriptor o) CustomDescriptors
descriptor_is o = record { plain = record { of = descriptor_of o; named = refl; plain = refl }; keeps = λ set. refl }

continuation_of : (o : ContinuationTree) → (info_of (op.Continuation o)).proposal ≡ StackSwitching
continuation_of (op.ContNew x) = refl
continuation_of (op.ContBind x y) = refl
continuation_of (op.Suspend x) = refl
continuation_of (op.Resume x hs) = refl
continuation_of (op.ResumeThrow x e hs) = refl
continuation_of (op.ResumeThrowRef x hs) = refl
continuation_of (op.Switch x e) = refl

pub continuation_is : (o : ContinuationTree) → IsOf (op.Continuation o) StackSwitching
continuation_is o = record { plain = record { of = continuation_of o; named = refl; plain = refl }; keeps = λ set. refl }

shared_of : (o : SharedOperator) → (info_of (op.Shared o)).proposal ≡ SharedEverythingThreads
shared_of (shared.GlobalAtomicGet order x) = refl
shared_of (shared.GlobalAtomicSet order x) = refl
shared_of (shared.GlobalAtomicRmwAdd order x) = refl
shared_of (shared.GlobalAtomicRmwSub order x) = refl
shared_of (shared.GlobalAtomicRmwAnd order x) = refl
shared_of (shared.GlobalAtomicRmwOr order x) = refl
shared_of (shared.GlobalAtomicRmwXor order x) = refl
shared_of (shared.GlobalAtomicRmwXchg order x) = refl
shared_of (shared.GlobalAtomicRmwCmpxchg order x) = refl
shared_of (shared.TableAtomicGet order x) = refl
shared_of (shared.TableAtomicSet order x) = refl
shared_of (shared.TableAtomicRmwXchg order x) = refl
shared_of (shared.TableAtomicRmwCmpxchg order x) = refl
shared_of (shared.StructAtomicGet order x i) = refl
shared_of (shared.StructAtomicGetS order x i) = refl
shared_of (shared.StructAtomicGetU order x i) = refl
shared_of (shared.StructAtomicSet order x i) = refl
shared_of (shared.StructAtomicRmwAdd order x i) = refl
shared_of (shared.StructAtomicRmwSub order x i) = refl
shared_of (shared.StructAtomicRmwAnd order x i) = refl
shared_of (shared.StructAtomicRmwOr order x i) = refl
shared_of (shared.StructAtomicRmwXor order x i) = refl
shared_of (shared.StructAtomicRmwXchg order x i) = refl
shared_of (shared.StructAtomicRmwCmpxchg order x i) = refl
shared_of (shared.ArrayAtomicGet order x) = refl
shared_of (shared.ArrayAtomicGetS order x) = refl
shared_of (shared.ArrayAtomicGetU order x) = refl
shared_of (shared.ArrayAtomicSet order x) = refl
shared_of (shared.ArrayAtomicRmwAdd order x) = refl
shared_of (shared.ArrayAtomicRmwSub order x) = refl
shared_of (shared.ArrayAtomicRmwAnd order x) = refl
shared_of (shared.ArrayAtomicRmwOr order x) = refl
shared_of (shared.ArrayAtomicRmwXor order x) = refl
shared_of (shared.ArrayAtomicRmwXchg order x) = refl
shared_of (shared.ArrayAtomicRmwCmpxchg order x) = refl
shared_of shared.RefI31Shared = refl

pub shared_is : (o : SharedOperator) → IsOf (op.Shared o) SharedEverythingThreads
shared_is o = record { plain = record { of = shared_of o; named = refl; plain = refl }; keeps = λ set. refl }

-- ---- checks by rows

pub refused_row : (k : ErrorKind) (m : Meaning) (σ : State) (o : Op) (p : Proposal) → IsOf o p → MayBegin σ p false → HasNoRow m σ o → Checks m σ o (Some k) σ
refused_row k m σ o p i b n = refused_here k m σ o p false b (no_row m σ o p false i.plain b n)

pub exchanged_row : (r : Option ErrorKind) (m : Meaning) (σ τ : State) (o : Op) (p : Proposal) (ts us : List ValueType) → IsOf o p → MayBegin σ p false → IsRow m σ o ts us
    → Does r (Exchanged m σ ts us τ) (MayPop m σ (stack ts)) → Stays σ τ → Checks m σ o r τ
exchanged_row r m σ τ o p ts us i b row x s = by_types r m σ τ o p false ts us i.plain b i.keeps row x s
