-- What an answer to an operator says, and what its check and its visit promise: for `nop`, which may come where a body begins, for `end`,
-- which may not where a result is missing, and where an operator was refused before.
use Rattle.std.specs.Prelude.{◌≡◌, ℕ, Bool, true, false, [], Some, None, Ok, Err, codes}
use Rattle.wasm_types.specs.settings.declared.WasmFeatures.{WasmFeatures}
use Rattle.wasm_types.specs.decoding.declared.error.ErrorKind.TheVariants.{EndOfData, MissingFeature, OutOfMemory, Failed, Other}
use Rattle.wasm_types.specs.values.declared.value.ValType.TheVariants as value_type
use Rattle.wasm_types.specs.values.declared.value.ValType.TheVariants.{I32}
use Rattle.wasm_types.specs.values.declared.heap.HeapType.TheVariants as heap
use Rattle.wasm_types.specs.values.declared.heap.AbstractHeapType.TheVariants as abstract_heap
use Rattle.wasm_operators_immediates.specs.declared.block.BlockType.TheVariants as block
use Rattle.wasm_operators_enums.specs.declared.control.ControlOperator.TheVariants as control
use Rattle.wasm_operators_enums.specs.Op as op
use Rattle.wasm_operators_enums.specs.Op.{Op}
use Rattle.wasm_operator_validator_state.specs.resources.Meaning.{Meaning}
use Rattle.wasm_operator_validator_state.specs.declared.refusal.Refusal.TheVariants as refusals
use Rattle.wasm_operator_validator_state.specs.Refusals.{OfContent, refused, refused_by, Does}
use Rattle.wasm_operator_validator_state.specs.Names.{type_name}
use Rattle.wasm_operator_validator_state.specs.State.{State, Checks, Visits}
use Rattle.wasm_operator_validator_state.specs.worked.Bodies.{body_of, end}
use Rattle.wasm_operator_validator_stacks.specs.determined.Operators.{MayUseIn, IsUsable, IsOfContent, refusal_kind}

-- ---- refusals

pub record RefusalsTold (f : WasmFeatures) : Type 0 where
  pub none : refused {X = ℕ} (Ok 3) ≡ None
  pub content : refused {X = ℕ} (Err refusals.AfterEnd) ≡ Some Other
  pub memory : refused {X = ℕ} (Err refusals.OutOfMemory) ≡ Some OutOfMemory
  pub no_error : refused_by {X = ℕ} (Ok 3) ≡ None
  pub error : refused_by {X = ℕ} (Err (record { kind = Failed; offset = 7; message = [] })) ≡ Some Failed
  pub at_end_of_data : OfContent (EndOfData 1) ⊥ → ⊥
  pub at_feature : OfContent (MissingFeature f) ⊥ → ⊥
  pub at_memory : OfContent OutOfMemory ⊥
  pub at_failed : OfContent Failed ⊥ → ⊥
  pub at_other : OfContent Other (Unit {0})
  pub at_other_not : OfContent Other ⊥ → ⊥
  pub is_of_content : IsOfContent refusals.AfterEnd
  pub is_of_feature : IsOfContent (refusals.NotEnabled f)
  pub is_of_memory : IsOfContent refusals.OutOfMemory → ⊥

-- Where nothing is refused something was done; otherwise it is not possible, unless memory ran out.
pub record AnswersDo : Type 0 where
  pub done : Does None (Unit {0}) ⊥
  pub not_done : Does None ⊥ ⊥ → ⊥
  pub impossible : Does (Some Other) ⊥ ⊥
  pub possible : Does (Some Other) (Unit {0}) (Unit {0}) → ⊥
  pub memory : Does (Some OutOfMemory) ⊥ (Unit {0})

-- the kind of a refusal for an error of what a module is asked
pub record KindsOfRefusals (f : WasmFeatures) : Type 0 where
  pub end_of_data : refusal_kind (EndOfData 1) ≡ Other
  pub feature : refusal_kind (MissingFeature f) ≡ MissingFeature f
  pub memory : refusal_kind OutOfMemory ≡ OutOfMemory
  pub failed : refusal_kind Failed ≡ Failed
  pub other : refusal_kind Other ≡ Other

-- the names of value types (text format, types)
pub record NamesOfTypes : Type 0 where
  pub i32 : type_name value_type.I32 ≡ codes "i32"
  pub i64 : type_name value_type.I64 ≡ codes "i64"
  pub f32 : type_name value_type.F32 ≡ codes "f32"
  pub f64 : type_name value_type.F64 ≡ codes "f64"
  pub v128 : type_name value_type.V128 ≡ codes "v128"
  pub reference : type_name (value_type.Ref (record { nullable = true; heap = heap.Abstract false abstract_heap.Func })) ≡ codes "funcref"

-- ---- what may be used

-- where a body without results begins, of a function that is shared or not
abbrev pub beginning : Bool → State
beginning shared = record (body_of block.Empty) { given = record (body_of block.Empty).given { shared = shared } }

pub record UsesRows : Type 0 where
  pub unshared : MayUseIn (beginning false) false
  pub shared : MayUseIn (beginning true) true
  pub not_shared : MayUseIn (beginning true) false → ⊥
  pub named : IsUsable {A = ℕ} (beginning true) (λ n. true) (Some 3) 3
  pub not_named : IsUsable {A = ℕ} (beginning true) (λ n. true) None 3 → ⊥
  pub another : IsUsable {A = ℕ} (beginning true) (λ n. true) (Some 3) 4 → ⊥
  pub not_usable : IsUsable {A = ℕ} (beginning true) (λ n. false) (Some 3) 3 → ⊥

-- ---- checks and visits

abbrev pub nop : Op
nop = op.Control control.Nop

abbrev pub empty : State
empty = body_of block.Empty

-- where a result is missing
abbrev pub unfinished : State
unfinished = body_of (block.Val I32)

-- something was refused before
abbrev pub failed : State → State
failed σ = record σ { failed = true }

pub record ChecksRows (m : Meaning) : Type 0 where
  pub passed : Checks m empty nop None empty
  pub not_decided : Checks m empty end None empty → ⊥
  pub refused : Checks m unfinished end (Some Other) unfinished
  pub not_refused : Checks m empty nop (Some Other) empty → ⊥
  pub out_of_memory : Checks m empty nop (Some OutOfMemory) empty
  pub after_refusal : Checks m (failed empty) nop (Some Failed) (failed empty)
  pub not_after_refusal : Checks m (failed empty) nop None (failed empty) → ⊥
  pub not_otherwise : Checks m (failed empty) nop (Some Other) (failed empty) → ⊥
  pub no_other_features : Checks m empty nop None (record empty { given = record empty.given { bits = 1 } }) → ⊥
  pub not_failed : Checks m unfinished end (Some Other) (failed unfinished) → ⊥
  pub nothing_saved : Checks m empty nop None (record empty { saved = record empty.saved { failed = true } }) → ⊥

pub record VisitsRows (m : Meaning) : Type 0 where
  pub passed : Visits m empty nop None empty
  pub not_decided : Visits m empty end None empty → ⊥
  pub refused : Visits m unfinished end (Some Other) (failed unfinished)
  pub not_going_on : Visits m unfinished end (Some Other) unfinished → ⊥
  pub not_failed : Visits m empty nop None (failed empty) → ⊥
  pub not_otherwise : Visits m (failed empty) nop (Some Other) (failed empty) → ⊥
  pub no_other_features : Visits m empty nop None (record empty { given = record empty.given { bits = 1 } }) → ⊥
  pub nothing_saved : Visits m empty nop None (record empty { saved = record empty.saved { failed = true } }) → ⊥
