-- The kinds of refusals.
use Rattle.std.specs.Prelude.{◌≡◌, ℕ}
use Rattle.wasm_types.specs.decoding.declared.error.ErrorKind.TheVariants as kinds
use Rattle.wasm_types.specs.settings.declared.WasmFeatures.{WasmFeatures}
use Rattle.wasm_types.specs.values.declared.value.ValType.TheVariants.{I32, I64}
use Rattle.wasm_operator_validator_state.specs.declared.operand.MaybeType.TheVariants as maybe
use Rattle.wasm_operator_validator_state.specs.declared.refusal.Reason.TheVariants as reasons
use Rattle.wasm_operator_validator_state.specs.declared.refusal.Refusal.TheVariants as refusals
use Rattle.wasm_operator_validator_state.specs.declared.refusal.Space.TheVariants as spaces
use Rattle.wasm_operator_validator_state.specs.Refusals.{kind_of}

pub record RefusalsWorked : Type 0 where
  pub memory : kind_of refusals.OutOfMemory ≡ kinds.OutOfMemory
  pub before : kind_of refusals.AfterRefusal ≡ kinds.Failed
  pub ended : kind_of refusals.AfterEnd ≡ kinds.Other
  pub feature : (f : WasmFeatures) → kind_of (refusals.NotEnabled f) ≡ kinds.MissingFeature f
  pub feature_of_try : (f : WasmFeatures) → kind_of (refusals.TryNotEnabled f) ≡ kinds.MissingFeature f
  pub feature_of_type : (f : WasmFeatures) → kind_of (refusals.TypeNotEnabled f I32) ≡ kinds.MissingFeature f
  pub mismatch : kind_of (refusals.TypeMismatch I32 maybe.Bottom) ≡ kinds.Other
  pub kind : kind_of (refusals.NotOfKind I32 maybe.Bottom) ≡ kinds.Other
  pub not_below : kind_of (refusals.NotBelow I32 I64) ≡ kinds.Other
  pub past_label : kind_of (refusals.CastPastLabel I32 I64) ≡ kinds.Other
  pub left_past_label : kind_of (refusals.LeftPastLabel I32 I64) ≡ kinds.Other
  pub empty : kind_of (refusals.EmptyStack I32) ≡ kinds.Other
  pub empty_of_any : kind_of refusals.EmptyStackOfAny ≡ kinds.Other
  pub remaining : kind_of refusals.ValuesRemain ≡ kinds.Other
  pub label : kind_of refusals.UnknownLabel ≡ kinds.Other
  pub local : (x : ℕ) → kind_of (refusals.UnknownLocal x) ≡ kinds.Other
  pub unset : (x : ℕ) → kind_of (refusals.UninitializedLocal x) ≡ kinds.Other
  pub unknown : (x : ℕ) → kind_of (refusals.Unknown spaces.Memory x) ≡ kinds.Other
  pub because : kind_of (refusals.Because reasons.ElseOutsideIf) ≡ kinds.Other
  pub no_reference : kind_of (refusals.ExpectedReference maybe.Bottom) ≡ kinds.Other
