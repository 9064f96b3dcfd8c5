-- What the methods of a validator promise: when a part of a module is refused out of turn, what is told in turn, and what is left
-- (WebAssembly 3.0, binary format and validation, modules).
use Rattle.std.specs.Prelude.{◌≡◌, ℕ, true, false, Some, None, List, [], ◌∷◌, Result, Ok, Err}
use Rattle.wasm_types.specs.decoding.Decoder.{State as Bytes}
use Rattle.wasm_types.specs.decoding.ErrorValue.{ErrorValue}
use Rattle.wasm_types.specs.decoding.declared.error.ErrorKind.TheVariants as kinds
use Rattle.wasm_types.specs.settings.Settings.{Settings}
use Rattle.wasm_sections_parser.specs.declared.frame.Encoding.TheVariants.{Module as AsModule, Component as AsComponent}
use Rattle.wasm_module_validator_section_order.specs.sections_below.declared.payload.Payload.TheVariants as payloads
use Rattle.wasm_module_validator.specs.drivers.Sharing.{renewed_behind, next_behind, Handed}
use Rattle.wasm_module_validator.specs.declared.validator.Validator.{Validator}
use Rattle.wasm_module_validator.specs.declared.validator.State.{State}
use Rattle.wasm_module_validator.specs.declared.validator.State.TheVariants.{Unparsed, Module, Ended, Failed}
use Rattle.wasm_module_validator.specs.declared.payloads.ValidPayload.TheVariants as valid
use Rattle.wasm_module_validator.specs.Shown.{Learned, shown}
use Rattle.wasm_module_validator.specs.States.{Keeps}
use Rattle.wasm_module_validator.specs.Methods.{refusal, header_refusal, failure, ReadsHeader, IsTaken, Takes, TakesData, IsCodeBegun, BeginsCode, TakesBody, RefusesUnknown, learned, Ends, can_reset, types_so_far}
use Rattle.wasm_module_validator.specs.Payloads.{passed, with_body, ended, TakesPayload}

-- ---- turns

pub record Turns : Type 0 where
  pub failed : refusal Failed true ≡ Some kinds.Failed
  pub failed_late : refusal Failed false ≡ Some kinds.Failed
  pub unparsed : refusal Unparsed true ≡ Some kinds.Other
  pub ended : refusal Ended true ≡ Some kinds.Other
  pub in_turn : refusal Module true ≡ None
  pub late : refusal Module false ≡ Some kinds.Other
  pub header_failed : header_refusal Failed ≡ Some kinds.Failed
  pub header_first : header_refusal Unparsed ≡ None
  pub header_again : header_refusal Module ≡ Some kinds.Other
  pub header_behind : header_refusal Ended ≡ Some kinds.Other
  pub fails : failure Failed ≡ Some kinds.Failed
  pub fails_not : failure Unparsed ≡ None
  pub fails_not_within : failure Module ≡ None
  pub fails_not_behind : failure Ended ≡ None
  pub reset_first : can_reset Unparsed ≡ true
  pub reset_behind : can_reset Ended ≡ true
  pub reset_within : can_reset Module ≡ false
  pub reset_failed : can_reset Failed ≡ false

-- ---- validators

-- this validator, this far
abbrev pub at : State → Validator → Validator
at s v = record v { state = s }

abbrev pub for_content : ErrorValue
for_content = record { kind = kinds.Other; offset = 7; message = [] }

abbrev pub for_memory : ErrorValue
for_memory = record { kind = kinds.OutOfMemory; offset = 0; message = [] }

abbrev pub failed_before : ErrorValue
failed_before = record { kind = kinds.Failed; offset = 7; message = [] }

-- behind a header nothing was read
abbrev pub begun : Validator → Validator
begun v = record v { state = Module; reached = renewed_behind v.settings v.reached }

pub record HeadersRead (v : Validator) : Type 0 where
  pub read : ReadsHeader {X = ℕ} 1 AsModule (at Unparsed v) (Ok 0) (begun v)
  pub of_another_version : ReadsHeader {X = ℕ} 2 AsModule (at Unparsed v) (Ok 0) (begun v) → ⊥
  pub of_another_layer : ReadsHeader {X = ℕ} 1 AsComponent (at Unparsed v) (Ok 0) (begun v) → ⊥
  pub refused : ReadsHeader {X = ℕ} 2 AsModule (at Unparsed v) (Err for_content) (at Failed v)
  pub refused_wrongly : ReadsHeader {X = ℕ} 1 AsModule (at Unparsed v) (Err for_content) (at Failed v) → ⊥
  pub refused_and_going : ReadsHeader {X = ℕ} 2 AsModule (at Unparsed v) (Err for_content) (at Module v) → ⊥
  pub not_begun : ReadsHeader {X = ℕ} 1 AsModule (at Unparsed v) (Ok 0) (at Unparsed v) → ⊥
  pub again : ReadsHeader {X = ℕ} 1 AsModule (at Module v) (Err for_content) (at Module v)
  pub again_failed : ReadsHeader {X = ℕ} 1 AsModule (at Module v) (Err for_content) (at Failed v) → ⊥
  pub again_read : ReadsHeader {X = ℕ} 1 AsModule (at Module v) (Ok 0) (at Module v) → ⊥
  pub after_failure : ReadsHeader {X = ℕ} 1 AsModule (at Failed v) (Err failed_before) (at Failed v)
  pub after_failure_otherwise : ReadsHeader {X = ℕ} 1 AsModule (at Failed v) (Err for_content) (at Failed v) → ⊥

-- ---- sections

-- its code has not begun; it has
abbrev pub before_code : State → Validator → Validator
before_code s v = record v { state = s; reached = record v.reached { code = None } }

abbrev pub within_code : State → Validator → Validator
within_code s v = record v { state = s; reached = record v.reached { code = Some 0 } }

pub record SectionsTaken (v : Validator) (c : _) (b : Bytes) : Type 0 where
  pub late : Takes {X = ℕ} (payloads.CustomSection c) (within_code Module v) (Err for_content) (within_code Module v)
  pub late_failed : Takes {X = ℕ} (payloads.CustomSection c) (within_code Module v) (Err for_content) (within_code Failed v) → ⊥
  pub late_taken : Takes {X = ℕ} (payloads.CustomSection c) (within_code Module v) (Ok 0) (within_code Module v) → ⊥
  pub early : Takes {X = ℕ} (payloads.CustomSection c) (before_code Unparsed v) (Err for_content) (before_code Unparsed v)
  pub failed : Takes {X = ℕ} (payloads.CustomSection c) (before_code Failed v) (Err failed_before) (before_code Failed v)
  pub failed_otherwise : Takes {X = ℕ} (payloads.CustomSection c) (before_code Failed v) (Err for_content) (before_code Failed v) → ⊥
  pub refused_and_going : Takes {X = ℕ} (payloads.CustomSection c) (before_code Module v) (Err for_memory) (before_code Module v) → ⊥
  pub data_late : TakesData {X = ℕ} (payloads.CustomSection c) (within_code Module v) (Err for_content) (within_code Module v) → ⊥
  pub data_early : TakesData {X = ℕ} (payloads.CustomSection c) (within_code Ended v) (Err for_content) (within_code Ended v)
  pub code_twice : BeginsCode {X = ℕ} (within_code Module v) (Err for_content) (within_code Module v)
  pub code_twice_taken : BeginsCode {X = ℕ} (within_code Module v) (Ok 0) (within_code Module v) → ⊥
  pub code_unbegun : BeginsCode {X = ℕ} (before_code Module v) (Ok 0) (before_code Module v) → ⊥
  pub code_refused : BeginsCode {X = ℕ} (before_code Module v) (Err for_memory) (before_code Failed v)
  pub code_refused_and_going : BeginsCode {X = ℕ} (before_code Module v) (Err for_memory) (before_code Module v) → ⊥
  pub body_early : TakesBody b (before_code Module v) (Err for_content) (before_code Module v)
  pub body_early_failed : TakesBody b (before_code Module v) (Err for_content) (before_code Failed v) → ⊥
  pub body_lacking : TakesBody b (within_code Module v) (Err for_memory) (within_code Failed v)
  pub body_lacking_and_going : TakesBody b (within_code Module v) (Err for_memory) (within_code Module v) → ⊥
  pub unknown : RefusesUnknown {X = ℕ} (at Module v) (Err for_content) (at Failed v)
  pub unknown_going : RefusesUnknown {X = ℕ} (at Module v) (Err for_content) (at Module v) → ⊥
  pub unknown_taken : RefusesUnknown {X = ℕ} (at Module v) (Ok 0) (at Failed v) → ⊥
  pub unknown_failed : RefusesUnknown {X = ℕ} (at Failed v) (Err failed_before) (at Failed v)

-- ---- ends

pub record EndsRows (v : Validator) : Type 0 where
  pub ended : Ends (at Module v) (Ok (learned (at Module v))) (record v { state = Ended; reached = next_behind v.reached })
  pub going_on : Ends (at Module v) (Ok (learned (at Module v))) (at Module v) → ⊥
  pub of_another : (l : Learned) → (l ≡ learned (at Module v) → ⊥) → Ends (at Module v) (Ok l) (record v { state = Ended; reached = next_behind v.reached }) → ⊥
  pub lacking : Ends (at Module v) (Err for_memory) (at Failed v)
  pub refused : Ends (at Module v) (Err for_content) (at Failed v) → ⊥
  pub none : Ends (at Unparsed v) (Err for_content) (at Ended v)
  pub none_going_on : Ends (at Unparsed v) (Err for_content) (at Unparsed v) → ⊥
  pub twice : Ends (at Ended v) (Err for_content) (at Ended v)
  pub twice_given : (l : Learned) → Ends (at Ended v) (Ok l) (at Ended v) → ⊥
  pub failed : Ends (at Failed v) (Err failed_before) (at Failed v)
  pub failed_otherwise : Ends (at Failed v) (Err for_content) (at Failed v) → ⊥
  pub kept_within : Keeps v (at Module v) → ⊥
  pub kept_unparsed : Keeps v (at Unparsed v) → ⊥
  pub kept_failed : Keeps v (at Failed v)

-- what is known of a module while it is read, at its own level
pub record Known (v : Validator) : Type 0 where
  pub of_its_id : (learned v).id ≡ v.id
  pub within : types_so_far (at Module v) 0 ≡ Some (learned v)
  pub further : types_so_far (at Module v) 1 ≡ None
  pub before : types_so_far (at Unparsed v) 0 ≡ None
  pub behind : types_so_far (at Ended v) 0 ≡ None
  pub failed : types_so_far (at Failed v) 0 ≡ None
  pub id_shown : (shown (learned v)).id ≡ v.id
  pub groups_shown : (shown (learned v)).groups ≡ v.reached.progress.kept.groups
  pub spaces_shown : (shown (learned v)).spaces ≡ v.reached.progress.kept.items.spaces
  pub imports_shown : (shown (learned v)).imports ≡ v.reached.progress.kept.items.imports
  pub exports_shown : (shown (learned v)).exports ≡ v.reached.progress.kept.items.exports

-- ---- payloads

-- what is answered of a payload, by what its method answers
pub record Answers (b : Bytes) (f : Handed) (l : Learned) : Type 0 where
  pub passed_on : passed (Ok tt) ≡ Ok valid.Ok
  pub passed_refused : passed (Err for_content) ≡ Err for_content
  pub handed : with_body b (Ok f) ≡ Ok (valid.Func f b)
  pub handed_refused : with_body b (Err for_content) ≡ Err for_content
  pub ended_with : ended (Ok l) ≡ Ok (valid.End l)
  pub ended_refused : ended (Err for_memory) ≡ Err for_memory

pub record PayloadsTaken (v : Validator) (c : _) (n : ℕ) (r : _) : Type 0 where
  pub custom : TakesPayload (payloads.CustomSection c) (at Module v) (Ok valid.Ok) (at Module v)
  pub custom_first : TakesPayload (payloads.CustomSection c) (at Unparsed v) (Ok valid.Ok) (at Unparsed v)
  pub custom_failed : TakesPayload (payloads.CustomSection c) (at Failed v) (Err failed_before) (at Failed v)
  pub custom_ignored : TakesPayload (payloads.CustomSection c) (at Failed v) (Ok valid.Ok) (at Failed v) → ⊥
  pub custom_refused : TakesPayload (payloads.CustomSection c) (at Module v) (Err for_content) (at Module v) → ⊥
  pub header : TakesPayload (payloads.Version 1 AsModule r) (at Unparsed v) (Ok valid.Ok) (begun v)
  pub header_of_another : TakesPayload (payloads.Version 2 AsModule r) (at Unparsed v) (Ok valid.Ok) (begun v) → ⊥
  pub end : TakesPayload (payloads.End n) (at Module v) (Ok (valid.End (learned (at Module v)))) (record v { state = Ended; reached = next_behind v.reached })
  pub end_passed : TakesPayload (payloads.End n) (at Module v) (Ok valid.Ok) (record v { state = Ended; reached = next_behind v.reached }) → ⊥
  pub unknown : (i : ℕ) (x : _) → TakesPayload (payloads.UnknownSection i x r) (at Module v) (Err for_content) (at Failed v)
  pub unknown_passed : (i : ℕ) (x : _) → TakesPayload (payloads.UnknownSection i x r) (at Module v) (Ok valid.Ok) (at Module v) → ⊥
  pub body_by_others : (b : Bytes) (f : Handed) (w : Validator) → (b.settings ≡ v.settings → ⊥)
      → TakesPayload (payloads.CodeSectionEntry b) v (Ok (valid.Func f b)) w → ⊥
