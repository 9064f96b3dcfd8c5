-- What refusals of a few bytes are, and what an answer says of a fact.
use Rattle.std.specs.Prelude.{Option, Some, None, Result, Ok, Err}
use Rattle.wasm_types.specs.decoding.ErrorValue.{ErrorValue}
use Rattle.wasm_types.specs.decoding.Denials.{Denies}
use Rattle.wasm_types.specs.decoding.declared.error.ErrorKind.{ErrorKind}
use Rattle.wasm_types.specs.decoding.declared.error.ErrorKind.TheVariants as kinds
use Rattle.wasm_operator_validator_state.specs.declared.refusal.Refusal.{Refusal}
use Rattle.wasm_operator_validator_state.specs.declared.refusal.Refusal.TheVariants as refusals

-- the kind of the error of a refusal
abbrev pub kind_of : Refusal → ErrorKind
kind_of refusals.OutOfMemory = kinds.OutOfMemory
kind_of refusals.AfterRefusal = kinds.Failed
kind_of refusals.AfterEnd = kinds.Other
kind_of (refusals.NotEnabled feature) = kinds.MissingFeature feature
kind_of (refusals.TryNotEnabled feature) = kinds.MissingFeature feature
kind_of (refusals.TypeNotEnabled feature t) = kinds.MissingFeature feature
kind_of r = kinds.Other

-- The fact holds of a refusal that is not for memory.
abbrev pub OfContent : ErrorKind → Type 0 → Type 0
OfContent (kinds.EndOfData h) P = P
OfContent (kinds.MissingFeature f) P = P
OfContent kinds.OutOfMemory P = Unit {0}
OfContent kinds.Failed P = P
OfContent kinds.Other P = P

-- the kind of what was refused, if it was
abbrev pub refused : {X : Type 0} → Result X Refusal → Option ErrorKind
refused (Ok x) = None
refused (Err r) = Some (kind_of r)

-- the same of an answer with an error
abbrev pub refused_by : {X : Type 0} → Result X ErrorValue → Option ErrorKind
refused_by (Ok x) = None
refused_by (Err e) = Some e.kind

-- Where nothing is refused this was done. Otherwise it is not possible, unless memory ran out.
abbrev pub Does : Option ErrorKind → Type 0 → Type 0 → Type 0
Does None done possible = done
Does (Some k) done possible = Denies k possible
