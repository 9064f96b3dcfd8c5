-- What is proved of a module that comes in pieces: each statement is the contract of a law.
use Rattle.std.specs.Prelude.{◌≡◌, ◌<◌, ◌++◌, ◌^◌, [], ℕ, Bool, List, Ok, Err, length, drop, true, false}
use Rattle.wasm_types.specs.decoding.Decoder.{State as Bytes}
use Rattle.wasm_types.specs.decoding.Denials.{Denies}
use Rattle.wasm_types.specs.decoding.ErrorValue.{ErrorValue}
use Rattle.wasm_types.specs.decoding.declared.error.ErrorKind.{ErrorKind}
use Rattle.wasm_types.specs.settings.Limits.{IsWithinCeilings}
use Rattle.wasm_types.specs.settings.Settings.{Settings}
use Rattle.wasm_sections_parser.specs.declared.frame.Frame.{Frame}
use Rattle.wasm_sections_parser.specs.declared.parser.Chunk.TheVariants.{Parsed}
use Rattle.wasm_sections_parser.specs.Parsers.{Parser}
use Rattle.wasm_sections_parser.specs.Parsing.{Parses}
use Rattle.wasm_sections.specs.declared.payload.Payload.{Payload}
use Rattle.wasm_sections.specs.Parsing.{ParsesPayload}
use Rattle.wasm_sections.specs.Payloads.{IsPayloadOf}
use Rattle.wasm_module_validator_index_spaces.specs.declared.view.validator_id.ValidatorId.{ValidatorId}
use Rattle.wasm_module_validator.specs.resources.Reading.{context_of}
use Rattle.wasm_module_validator.specs.drivers.Sharing.{Handed}
use Rattle.wasm_module_validator_function_bodies.specs.code.Code.{IsFunctionOf}
use Rattle.wasm_module_validator_section_order.specs.rules.Accepts.{AcceptsUnder}
use Rattle.wasm_module_validator.specs.declared.payloads.ValidPayload.TheVariants as valid
use Rattle.wasm_module_validator.specs.declared.validator.State.TheVariants.{Unparsed}
use Rattle.wasm_module_validator.specs.declared.validator.Validator.{Validator}
use Rattle.wasm_module_validator.specs.Accepts.{IsShown}
use Rattle.wasm_module_validator.specs.Payloads.{TakesPayload}
use Rattle.wasm_module_validator.specs.Shown.{Learned}
use Rattle.wasm_module_validator_streaming.specs.laws.Running.{begins, Goes}

module _ (z : Settings) (id : ValidatorId) where
  -- a validator that has read nothing and has no types stands behind no bytes
  abbrev pub Begins : Type 0
  Begins = (v : Validator) → IsWithinCeilings z.limits → v.state ≡ Unparsed → v.reached.progress.kept.groups ≡ [] → v.settings ≡ z → v.id ≡ id
      → Goes z id [] false (begins z) [] v

  -- more bytes may come
  abbrev pub MayGoOn : Type 0
  MayGoOn = (got : List ℕ) (q : Parser) (rest : List ℕ) (v : Validator) (bs : List ℕ) → Goes z id got false q rest v
      → Goes z id (got ++ bs) false q (rest ++ bs) v

  -- it may be known that none do
  abbrev pub MayEnd : Type 0
  MayEnd = (got : List ℕ) (q : Parser) (rest : List ℕ) (v : Validator) → Goes z id got false q rest v → Goes z id got true q rest v

  -- a payload that passes leads on
  abbrev pub PayloadsLeadOn : Type 0
  PayloadsLeadOn = (got : List ℕ) (eof : Bool) (q : Parser) (rest : List ℕ) (v : Validator) → Goes z id got eof q rest v
      → (n : ℕ) (f : Frame) (r : Parser) → Parses q rest eof (Ok (Parsed n f)) r → (x : Payload) → IsPayloadOf f x → (w : Validator)
      → TakesPayload x v (Ok valid.Ok) w → Goes z id got eof r (drop n rest) w

  -- so does a body that is valid
  abbrev pub BodiesLeadOn : Type 0
  BodiesLeadOn = (got : List ℕ) (eof : Bool) (q : Parser) (rest : List ℕ) (v : Validator) → Goes z id got eof q rest v
      → (n : ℕ) (f : Frame) (r : Parser) → Parses q rest eof (Ok (Parsed n f)) r → (x : Payload) → IsPayloadOf f x → (w : Validator)
      → (h : Handed) (body : Bytes) → TakesPayload x v (Ok (valid.Func h body)) w
      → IsFunctionOf z (context_of v.reached.progress.kept.groups v.reached.progress.kept.items.spaces) h.ty body.rest
      → Goes z id got eof r (drop n rest) w

  -- the end accepts the bytes that came, and the module is shown
  abbrev pub TheEndAccepts : Type 0
  TheEndAccepts = (got : List ℕ) (eof : Bool) (q : Parser) (rest : List ℕ) (v : Validator) → Goes z id got eof q rest v
      → (n : ℕ) (f : Frame) (r : Parser) → Parses q rest eof (Ok (Parsed n f)) r → (x : Payload) → IsPayloadOf f x → (w : Validator)
      → (t : Learned) → TakesPayload x v (Ok (valid.End t)) w → length got < 2 ^ 64
      → (eof ≡ true) × AcceptsUnder z got × IsShown z got t × (t.id ≡ id)

  -- a payload that is refused refuses each module that begins with the bytes that came
  abbrev pub PayloadsRefuse : Type 0
  PayloadsRefuse = (got : List ℕ) (eof : Bool) (q : Parser) (rest : List ℕ) (v : Validator) → Goes z id got eof q rest v
      → (n : ℕ) (f : Frame) (r : Parser) → Parses q rest eof (Ok (Parsed n f)) r → (x : Payload) → IsPayloadOf f x → (w : Validator)
      → (e : ErrorValue) → TakesPayload x v (Err e) w → (more : List ℕ) → (eof ≡ true → more ≡ []) → length (got ++ more) < 2 ^ 64
      → Denies e.kind (AcceptsUnder z (got ++ more))

  -- so does a body that is refused
  abbrev pub BodiesRefuse : Type 0
  BodiesRefuse = (got : List ℕ) (eof : Bool) (q : Parser) (rest : List ℕ) (v : Validator) → Goes z id got eof q rest v
      → (n : ℕ) (f : Frame) (r : Parser) → Parses q rest eof (Ok (Parsed n f)) r → (x : Payload) → IsPayloadOf f x → (w : Validator)
      → (h : Handed) (body : Bytes) → TakesPayload x v (Ok (valid.Func h body)) w → (k : ErrorKind)
      → Denies k (IsFunctionOf z (context_of v.reached.progress.kept.groups v.reached.progress.kept.items.spaces) h.ty body.rest)
      → (more : List ℕ) → (eof ≡ true → more ≡ []) → length (got ++ more) < 2 ^ 64 → Denies k (AcceptsUnder z (got ++ more))

  -- and so do bytes that are
  abbrev pub BytesRefuse : Type 0
  BytesRefuse = (got : List ℕ) (eof : Bool) (q : Parser) (rest : List ℕ) (v : Validator) (e : ErrorValue) (r : Parser) → Goes z id got eof q rest v
      → ParsesPayload q rest eof (Err e) r → (more : List ℕ) → (eof ≡ true → more ≡ []) → length (got ++ more) < 2 ^ 64
      → AcceptsUnder z (got ++ more) → ⊥
