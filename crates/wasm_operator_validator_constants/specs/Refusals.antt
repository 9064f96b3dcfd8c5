-- What refusals of operators of a constant are.
use Rattle.std.specs.Prelude.{Option, Some, None, Result, Ok, Err}
use Rattle.wasm_types.specs.decoding.declared.error.ErrorKind.{ErrorKind}
use Rattle.wasm_types.specs.decoding.declared.error.ErrorKind.TheVariants as kinds
use Rattle.wasm_operator_validator_state.specs.Refusals.{kind_of}
use Rattle.wasm_operator_validator_constants.specs.declared.refusal.ConstantRefusal.{ConstantRefusal}
use Rattle.wasm_operator_validator_constants.specs.declared.refusal.ConstantRefusal.TheVariants as refusals

-- the kind of the error of a refusal
abbrev pub kind_of_constant : ConstantRefusal → ErrorKind
kind_of_constant (refusals.Invalid r) = kind_of r
kind_of_constant (refusals.NonConstant name) = kinds.Other
kind_of_constant (refusals.NotEnabled feature name) = kinds.MissingFeature feature
kind_of_constant (refusals.LocalGlobal feature) = kinds.MissingFeature feature
kind_of_constant refusals.MutableGlobal = kinds.Other

-- the kind of what was refused, if it was
abbrev pub refused_constant : {X : Type 0} → Result X ConstantRefusal → Option ErrorKind
refused_constant (Ok x) = None
refused_constant (Err r) = Some (kind_of_constant r)
