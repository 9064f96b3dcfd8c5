-- What a payload leads to where each body is judged as soon as it comes (WebAssembly 3.0, validation, modules, functions).
use Rattle.std.specs.Prelude.{◌≡◌, ◌⊎◌, ℕ, Result, Ok, Err}
use Rattle.wasm_types.specs.decoding.Decoder.{State as Bytes}
use Rattle.wasm_types.specs.decoding.Denials.{Tells}
use Rattle.wasm_types.specs.decoding.ErrorValue.{ErrorValue}
use Rattle.wasm_types.specs.settings.Settings.{Settings}
use Rattle.wasm_sections.specs.declared.payload.Payload.{Payload}
use Rattle.wasm_module_validator.specs.resources.Reading.{context_of}
use Rattle.wasm_module_validator.specs.drivers.Sharing.{Handed}
use Rattle.wasm_module_validator_function_bodies.specs.code.Code.{IsFunctionOf}
use Rattle.wasm_module_validator_section_order.specs.items.Bodies.{IsReadBy}
use Rattle.wasm_module_validator.specs.declared.payloads.ValidPayload.TheVariants as valid
use Rattle.wasm_module_validator.specs.declared.validator.Validator.{Validator}
use Rattle.wasm_module_validator.specs.Payloads.{TakesPayload}
use Rattle.wasm_module_validator.specs.Shown.{Learned}
use Rattle.wasm_module_validator_streaming.specs.declared.taking.Taken.{Taken}
use Rattle.wasm_module_validator_streaming.specs.declared.taking.Taken.TheVariants as taken

-- The bytes are a function of the module that was handed out, of its type.
abbrev pub IsFunctionHanded : Settings → Handed → Bytes → Type 0
IsFunctionHanded z h body =
    IsFunctionOf z (context_of h.resources.shared.value.groups h.resources.shared.value.items.spaces) h.ty body.rest

-- The payload is a body, for which a function was handed out; and the answer tells whether it is one of that function.
pub record JudgesFunction (x : Payload) (v : Validator) (answer : Result (Unit {0}) ErrorValue) (w : Validator) : Type 0 where
  pub handed : Handed
  pub body : Bytes
  pub takes : TakesPayload x v (Ok (valid.Func handed body)) w
  pub told : (z : Settings) → z.limits ≡ handed.limits → IsReadBy z handed.features.0 body → Tells answer (IsFunctionHanded z handed body)

-- What a payload of so many bytes leads to: it passes, or is the body of a valid function; it is the end; or it is refused, or the body is.
abbrev pub StepsPayload : Payload → ℕ → Validator → Taken Learned → Validator → Type 0
StepsPayload x n v (taken.Item k) w = (k ≡ n) × (TakesPayload x v (Ok valid.Ok) w ⊎ JudgesFunction x v (Ok tt) w)
StepsPayload x n v (taken.Waits k) w = ⊥
StepsPayload x n v (taken.Ended t) w = TakesPayload x v (Ok (valid.End t)) w
StepsPayload x n v (taken.Refused e) w = TakesPayload x v (Err e) w ⊎ JudgesFunction x v (Err e) w
