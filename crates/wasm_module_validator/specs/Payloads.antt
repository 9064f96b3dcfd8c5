-- What a validator promises of a payload: what the method for it does (WebAssembly 3.0, binary format, modules).
use Rattle.std.specs.Prelude.{◌≡◌, Result, Ok, Err}
use Rattle.wasm_types.specs.decoding.Decoder.{State as Bytes}
use Rattle.wasm_types.specs.decoding.ErrorValue.{ErrorValue}
use Rattle.wasm_sections.specs.declared.payload.Payload.{Payload}
use Rattle.wasm_sections.specs.declared.payload.Payload.TheVariants as payloads
use Rattle.wasm_sections.specs.Payloads.{set}
use Rattle.wasm_operator_validator_state.specs.Refusals.{refused_by}
use Rattle.wasm_module_validator_drivers.specs.Sharing.{Handed}
use Rattle.wasm_module_validator.specs.declared.validator.Validator.{Validator}
use Rattle.wasm_module_validator.specs.declared.payloads.ValidPayload.{ValidPayload}
use Rattle.wasm_module_validator.specs.declared.payloads.ValidPayload.TheVariants as valid
use Rattle.wasm_module_validator.specs.Shown.{Learned}
use Rattle.wasm_module_validator.specs.Methods.{failure, ReadsHeader, Takes, TakesData, BeginsCode, TakesBody, RefusesUnknown, Ends}

-- ---- answers

abbrev pub Answer : Type 0
Answer = Result ValidPayload ErrorValue

-- nothing more is to be done
abbrev pub passed : Result (Unit {0}) ErrorValue → Answer
passed (Ok u) = Ok valid.Ok
passed (Err e) = Err e

-- a function is to be judged, which has this body
abbrev pub with_body : Bytes → Result Handed ErrorValue → Answer
with_body body (Ok f) = Ok (valid.Func f body)
with_body body (Err e) = Err e

-- the module has ended, and this is known of it
abbrev pub ended : Result Learned ErrorValue → Answer
ended (Ok r) = Ok (valid.End r)
ended (Err e) = Err e

-- ---- what each payload does

-- the answer is one of which this holds, where nothing more is to be done
abbrev pub Passes : Answer → (Result (Unit {0}) ErrorValue → Type 0) → Type 0
Passes answer P = (plain : Result (Unit {0}) ErrorValue) × (answer ≡ passed plain) × P plain

-- By its kind. A body is handed on so that whoever judges the function reads it by the validator's features and limits.
abbrev pub TakesPayload : Payload → Validator → Answer → Validator → Type 0
TakesPayload (payloads.Version n e r) v a w = Passes a (λ p. ReadsHeader n e v p w)
TakesPayload (payloads.TypeSection s) v a w = Passes a (λ p. Takes (payloads.TypeSection s) v p w)
TakesPayload (payloads.ImportSection s) v a w = Passes a (λ p. Takes (payloads.ImportSection s) v p w)
TakesPayload (payloads.FunctionSection s) v a w = Passes a (λ p. Takes (payloads.FunctionSection s) v p w)
TakesPayload (payloads.TableSection s) v a w = Passes a (λ p. Takes (payloads.TableSection s) v p w)
TakesPayload (payloads.MemorySection s) v a w = Passes a (λ p. Takes (payloads.MemorySection s) v p w)
TakesPayload (payloads.TagSection s) v a w = Passes a (λ p. Takes (payloads.TagSection s) v p w)
TakesPayload (payloads.GlobalSection s) v a w = Passes a (λ p. Takes (payloads.GlobalSection s) v p w)
TakesPayload (payloads.ExportSection s) v a w = Passes a (λ p. Takes (payloads.ExportSection s) v p w)
TakesPayload (payloads.StartSection n r) v a w = Passes a (λ p. Takes (payloads.StartSection n r) v p w)
TakesPayload (payloads.ElementSection s) v a w = Passes a (λ p. Takes (payloads.ElementSection s) v p w)
TakesPayload (payloads.DataCountSection n r) v a w = Passes a (λ p. Takes (payloads.DataCountSection n r) v p w)
TakesPayload (payloads.DataSection s) v a w = Passes a (λ p. TakesData (payloads.DataSection s) v p w)
TakesPayload (payloads.CodeSectionStart n r k) v a w = Passes a (λ p. BeginsCode v p w)
TakesPayload (payloads.CodeSectionEntry body) v a w = (f : Result Handed ErrorValue) × (a ≡ with_body (set v.settings body) f) × TakesBody body v f w
TakesPayload (payloads.CustomSection c) v a w = Passes a (λ p. (refused_by p ≡ failure v.state) × (w ≡ v))
TakesPayload (payloads.UnknownSection i c r) v a w = Passes a (λ p. RefusesUnknown v p w)
TakesPayload (payloads.End place) v a w = (r : Result Learned ErrorValue) × (a ≡ ended r) × Ends v r w
