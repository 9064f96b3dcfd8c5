-- What names written in code become, what steps over the open frames do, why an operator may not begin, which locals are declared, and
-- which types are those of functions (WebAssembly 3.0, validation, instructions and functions).
use Rattle.std.specs.Prelude.{◌≡◌, Bool, true, false, List, [], ◌∷◌, Some, None}
use Rattle.wasm_types.specs.settings.Features.{Floats, Simd, mask}
use Rattle.wasm_types.specs.trees.Types.{i32, i64, number}
use Rattle.wasm_types.specs.trees.declared.index.UnpackedIndex.{UnpackedIndex}
use Rattle.wasm_types.specs.trees.declared.index.UnpackedIndex.TheVariants.{Module, RecGroup}
use Rattle.wasm_types.specs.values.Reference.{Reference}
use Rattle.wasm_types.specs.values.declared.heap.HeapType.TheVariants as heap
use Rattle.wasm_types.specs.values.declared.heap.AbstractHeapType.TheVariants as abstract_heap
use Rattle.wasm_types.specs.values.declared.value.ValType.TheVariants as value_type
use Rattle.wasm_types.specs.values.declared.value.ValType.TheVariants.{I32, I64}
use Rattle.wasm_operators_immediates.specs.declared.block.BlockType.TheVariants as block
use Rattle.wasm_operators_immediates.specs.declared.frames.FrameKind.TheVariants as frames
use Rattle.wasm_operators_immediates.specs.declared.proposal.Proposal.TheVariants as proposal
use Rattle.wasm_operator_validator_rules.specs.Operands.{known}
use Rattle.wasm_operator_validator_rules.specs.Context.{label_of}
use Rattle.wasm_operator_validator_state.specs.resources.Meaning.{Meaning}
use Rattle.wasm_operator_validator_state.specs.resources.Answers.{IsNamedReference, IsWritten}
use Rattle.wasm_operator_validator_state.specs.declared.operand.MaybeType.{MaybeType}
use Rattle.wasm_operator_validator_state.specs.declared.operand.MaybeType.TheVariants as maybe
use Rattle.wasm_operator_validator_state.specs.declared.refusal.Refusal.TheVariants as refusals
use Rattle.wasm_operator_validator_state.specs.State.{State}
use Rattle.wasm_operator_validator_state.specs.Steps.{Popped, Jumped}
use Rattle.wasm_operator_validator_state.specs.Entering.{StopsWith}
use Rattle.wasm_operator_validator_stacks.specs.Layout.{IsAbstractFit}
use Rattle.wasm_operator_validator_stacks.specs.Defining.{with_locals, DefinesLocals}
use Rattle.wasm_operator_validator_state.specs.blocks.Signatures.{IsFunctionAt}
use Rattle.wasm_operator_validator_tests.specs.Answers.{listed, id}
use Rattle.wasm_operator_validator_tests.specs.States.{empty, failed}
use Rattle.wasm_operator_validator_tests.specs.Beginning.{its_signature}

-- ---- names written in code, of a module with four types, of which the second has the id 0 and the first the id 1

abbrev pub reference_to : Bool → UnpackedIndex → Reference
reference_to nullable x = record { nullable = nullable; heap = heap.Concrete x }

pub record NamesWritten : Type 0 where
  pub written : IsWritten listed (heap.Concrete (Module 3))
  pub written_exactly : IsWritten listed (heap.Exact (Module 3))
  pub abstract_type : IsWritten listed (heap.Abstract true abstract_heap.Func)
  pub no_type : IsWritten listed (heap.Concrete (Module 4)) → ⊥
  pub by_an_id : IsWritten listed (heap.Concrete (id 0)) → ⊥
  pub by_a_place : IsWritten listed (heap.Exact (RecGroup 0)) → ⊥
  pub named : IsNamedReference listed (reference_to true (Module 1)) (reference_to true (id 0))
  pub not_null : IsNamedReference listed (reference_to true (Module 1)) (reference_to false (id 0)) → ⊥
  pub another : IsNamedReference listed (reference_to true (Module 1)) (reference_to true (id 1)) → ⊥
  pub unknown : IsNamedReference listed (reference_to true (Module 1)) (reference_to true (id 2)) → ⊥
  pub not_named : IsNamedReference listed (reference_to true (Module 1)) (reference_to true (Module 1)) → ⊥

-- ---- operands of the innermost frame

-- the innermost frame has these operands, the top first, and what comes next is reached or not
abbrev pub with_operands : List MaybeType → State
with_operands xs = record empty { opens = record { kind = frames.Block; block = block.Empty; before = []; operands = xs; unreachable = false } ∷ [] }

abbrev pub unreached : List MaybeType → State
unreached xs = record empty { opens = record { kind = frames.Block; block = block.Empty; before = []; operands = xs; unreachable = true } ∷ [] }

-- an operand is taken off, and it is this one; behind a branch any operands may lie
pub record StacksChanged (m : Meaning) : Type 0 where
  pub popped : Popped m (with_operands (maybe.Known I32 ∷ [])) (known (number i32) ∷ []) empty
  pub popped_none : Popped m empty [] empty
  pub not_popped : Popped m (with_operands (maybe.Known I32 ∷ [])) (known (number i32) ∷ []) (with_operands (maybe.Known I32 ∷ [])) → ⊥
  pub popped_another : Popped m (with_operands (maybe.Known I32 ∷ [])) (known (number i64) ∷ []) empty → ⊥
  pub popped_and_failed : Popped m (with_operands (maybe.Known I32 ∷ [])) (known (number i32) ∷ []) (failed empty) → ⊥
  pub jumped : Jumped m (with_operands (maybe.Known I32 ∷ [])) (unreached [])
  pub not_jumped : Jumped m (with_operands (maybe.Known I32 ∷ [])) empty → ⊥
  pub jumped_with_operands : Jumped m (with_operands (maybe.Known I32 ∷ [])) (unreached (maybe.Known I32 ∷ [])) → ⊥
  pub jumped_and_failed : Jumped m (with_operands (maybe.Known I32 ∷ [])) (failed (unreached [])) → ⊥

-- a reference to an abstract type where another is expected
pub record AbstractFits (m : Meaning) : Type 0 where
  pub same : IsAbstractFit m false abstract_heap.Func (value_type.Ref (record { nullable = false; heap = heap.Abstract false abstract_heap.Func }))
  pub below : IsAbstractFit m true abstract_heap.Eq (value_type.Ref (record { nullable = true; heap = heap.Abstract true abstract_heap.Any }))
  pub above : IsAbstractFit m true abstract_heap.Any (value_type.Ref (record { nullable = true; heap = heap.Abstract true abstract_heap.Eq })) → ⊥
  pub of_another_sharing : IsAbstractFit m false abstract_heap.Eq (value_type.Ref (record { nullable = true; heap = heap.Abstract true abstract_heap.Any })) → ⊥
  pub number : IsAbstractFit m false abstract_heap.Func I32 → ⊥

-- ---- what may begin

abbrev pub ended : State
ended = record empty { opens = [] }

-- without features: something was refused before; no frame is open; a proposal is missing, or floats
pub record BeginningsStopped : Type 0 where
  pub after_refusal : StopsWith (failed empty) proposal.Mvp false refusals.AfterRefusal
  pub not_after_refusal : StopsWith empty proposal.Mvp false refusals.AfterRefusal → ⊥
  pub after_end : StopsWith ended proposal.Mvp false refusals.AfterEnd
  pub not_after_end : StopsWith empty proposal.Mvp false refusals.AfterEnd → ⊥
  pub refusal_first : StopsWith (failed ended) proposal.Mvp false refusals.AfterEnd → ⊥
  pub proposal_missed : StopsWith empty proposal.Simd false (refusals.NotEnabled (record { 0 = mask Simd }))
  pub another_missed : StopsWith empty proposal.Simd false (refusals.NotEnabled (record { 0 = mask Floats })) → ⊥
  pub nothing_missed : StopsWith empty proposal.Mvp false (refusals.NotEnabled (record { 0 = 0 })) → ⊥
  pub floats_missed : StopsWith empty proposal.Mvp true (refusals.NotEnabled (record { 0 = mask Floats }))
  pub floats_not_asked : StopsWith empty proposal.Mvp false (refusals.NotEnabled (record { 0 = mask Floats })) → ⊥
  pub end_first : StopsWith ended proposal.Simd false (refusals.NotEnabled (record { 0 = mask Simd })) → ⊥
  pub no_memory : StopsWith (failed empty) proposal.Mvp false refusals.OutOfMemory → ⊥

-- ---- locals and types of functions

pub record LocalsDeclared : Type 0 where
  pub two : DefinesLocals listed 2 empty 2 I32 (with_locals empty 2 I32)
  pub none : DefinesLocals listed 0 empty 0 I32 empty
  pub one_more : DefinesLocals listed 3 empty 2 I32 (with_locals empty 3 I32) → ⊥
  pub not_declared : DefinesLocals listed 3 empty 2 I32 empty → ⊥
  pub of_another_type : DefinesLocals listed 3 empty 1 I32 (with_locals empty 1 I64) → ⊥
  pub too_many : (τ : State) → DefinesLocals listed 1 empty 2 I32 τ → ⊥

pub record FunctionsAt : Type 0 where
  pub function : IsFunctionAt listed 0 (Some its_signature)
  pub not_none : IsFunctionAt listed 0 None → ⊥
  pub no_function : IsFunctionAt listed 1 None
  pub no_type : IsFunctionAt listed 9 None
  pub not_a_struct : IsFunctionAt listed 1 (Some its_signature) → ⊥
  pub another : IsFunctionAt listed 0 (Some (record its_signature { params = [] })) → ⊥
  pub label_of_loop : label_of frames.Loop its_signature ≡ number i64 ∷ []
  pub label_of_block : label_of frames.Block its_signature ≡ number i32 ∷ number i32 ∷ []
  pub label_of_if : label_of frames.If its_signature ≡ number i32 ∷ number i32 ∷ []
  pub label_of_else : label_of frames.Else its_signature ≡ number i32 ∷ number i32 ∷ []
