-- What the methods of a validator promise that take a module frame by frame (WebAssembly 3.0, binary format and validation, modules).
--
-- A method that is called out of turn is refused, and the validator stays as it is. In turn, it accepts exactly where its frame may come
-- next by the rules, memory aside, and what is kept then stands for whatever was judged with it; where it refuses, the validator has
-- failed, and each later method is refused for that. The rules are asked by the validator's own features and limits, whatever the frame
-- was read by.
use Rattle.std.specs.Prelude.{◌≡◌, ◌⊎◌, ◌+◌, ◌<◌, ◌==◌, ℕ, List, Bool, true, false, Option, Some, None, is_some, Result, Ok, Err, if◌then◌else◌}
use Rattle.wasm_types.specs.decoding.Decoder.{State as Bytes}
use Rattle.wasm_types.specs.decoding.Denials.{Denies, Tells}
use Rattle.wasm_types.specs.decoding.ErrorValue.{ErrorValue}
use Rattle.wasm_types.specs.decoding.declared.error.ErrorKind.{ErrorKind}
use Rattle.wasm_types.specs.decoding.declared.error.ErrorKind.TheVariants as kinds
use Rattle.wasm_types.specs.settings.Settings.{Settings}
use Rattle.wasm_sections_parser.specs.declared.frame.Encoding.{Encoding}
use Rattle.wasm_sections_parser.specs.Parsing.{layer_of}
use Rattle.wasm_sections.specs.declared.payload.Payload.{Payload}
use Rattle.wasm_operator_validator_state.specs.Refusals.{refused_by}
use Rattle.wasm_module_validator_section_order.specs.rules_in_order.Sections.{code_place}
use Rattle.wasm_module_validator_section_order.specs.rules_in_order.Steps.{SoFar, JudgesBody}
use Rattle.wasm_module_validator_drivers.specs.judging.Bodies.{AreBodies}
use Rattle.wasm_module_validator_drivers.specs.payloads.Progress.{Grows}
use Rattle.wasm_module_validator_drivers.specs.reading.Reading.{IsReadAs}
use Rattle.wasm_module_validator_drivers.specs.Sharing.{renewed_behind, next_behind, has_no_code, body_count, IsReached, TellsNext, Follows, Handed, IsHandedOut, FitsNext, NoneLeft}
use Rattle.wasm_module_validator.specs.declared.validator.State.{State}
use Rattle.wasm_module_validator.specs.declared.validator.State.TheVariants.{Unparsed, Module, Ended, Failed}
use Rattle.wasm_module_validator.specs.declared.validator.Validator.{Validator}
use Rattle.wasm_module_validator.specs.Shown.{Learned}
use Rattle.wasm_module_validator.specs.soundness.Soundness.{RunsSoundly}

-- ---- turns

-- Of which kind a part of a module is refused because of when it comes, where it is known whether it fits to what was read.
abbrev pub refusal : State → Bool → Option ErrorKind
refusal Failed fits = Some kinds.Failed
refusal Unparsed fits = Some kinds.Other
refusal Ended fits = Some kinds.Other
refusal Module true = None
refusal Module false = Some kinds.Other

-- the same of a header, which comes first
abbrev pub header_refusal : State → Option ErrorKind
header_refusal Failed = Some kinds.Failed
header_refusal Unparsed = None
header_refusal Module = Some kinds.Other
header_refusal Ended = Some kinds.Other

-- of what does not ask what came before
abbrev pub failure : State → Option ErrorKind
failure Failed = Some kinds.Failed
failure Unparsed = None
failure Module = None
failure Ended = None

-- What a method promises: out of turn it refuses, and changes nothing; in turn it tells something, and leaves something.
pub record InTurn {X : Type 0} (turn : Option ErrorKind) (v : Validator) (answer : Result X ErrorValue) (w : Validator)
    (Told Left : Type 0) : Type 0 where
  pub out : (k : ErrorKind) → turn ≡ Some k → (refused_by answer ≡ Some k) × (w ≡ v)
  pub told : turn ≡ None → Told
  pub left : turn ≡ None → Left

-- ---- the methods

-- behind a header nothing was read; another one fails it
abbrev pub IsBegun : {X : Type 0} → Validator → Result X ErrorValue → Validator → Type 0
IsBegun v (Ok x) w = w ≡ record v { state = Module; reached = renewed_behind v.settings v.reached }
IsBegun v (Err e) w = w ≡ record v { state = Failed }

-- the header of a module of version 1
abbrev pub ReadsHeader : {X : Type 0} → ℕ → Encoding → Validator → Result X ErrorValue → Validator → Type 0
ReadsHeader number encoding v answer w =
    InTurn (header_refusal v.state) v answer w (Tells answer ((number ≡ 1) × (layer_of encoding ≡ 0))) (IsBegun v answer w)

-- what is kept stands for whatever was judged with the frame of this payload, whether the code has begun is as before, and the list of types
-- may have grown; or it has failed
abbrev pub IsTaken : {X : Type 0} → Payload → Validator → Result X ErrorValue → Validator → Type 0
IsTaken x v (Ok u) w = (w ≡ record v { reached = w.reached }) × Follows v.reached x w.reached × (w.reached.code ≡ v.reached.code)
    × Grows v.reached.progress.kept w.reached.progress.kept
IsTaken x v (Err e) w = w ≡ record v { state = Failed; reached = w.reached }

-- a whole section, which fits or does not
abbrev pub TakesWhere : {X : Type 0} → Bool → Payload → Validator → Result X ErrorValue → Validator → Type 0
TakesWhere fits x v answer w = InTurn (refusal v.state fits) v answer w (TellsNext v.reached x answer) (IsTaken x v answer w)

-- a section that comes before the code
abbrev pub Takes : {X : Type 0} → Payload → Validator → Result X ErrorValue → Validator → Type 0
Takes x v answer w = TakesWhere (has_no_code v.reached.code) x v answer w

-- the data section
abbrev pub TakesData : {X : Type 0} → Payload → Validator → Result X ErrorValue → Validator → Type 0
TakesData x v answer w = TakesWhere true x v answer w

-- what is kept where the code has begun, of which no body came yet
abbrev pub IsCodeBegun : {X : Type 0} → Validator → Result X ErrorValue → Validator → Type 0
IsCodeBegun v (Ok x) w = (w ≡ record v { reached = w.reached }) × (w.reached.code ≡ Some 0)
    × (w.reached.progress.kept ≡ v.reached.progress.kept)
    × ((z : Settings) (p : SoFar) → IsReached z v.reached p → IsReached z w.reached (record p { last = code_place }))
IsCodeBegun v (Err e) w = w ≡ record v { state = Failed; reached = w.reached }

-- the start of the code section
abbrev pub BeginsCode : {X : Type 0} → Validator → Result X ErrorValue → Validator → Type 0
BeginsCode v answer w =
    InTurn (refusal v.state (has_no_code v.reached.code)) v answer w ((z : Settings) (p : SoFar) → IsReached z v.reached p → Tells answer (p.last < code_place))
    (IsCodeBegun v answer w)

-- A function is handed out, and one body more came. Or each function has its body, and nothing changes; or it has failed, since the body
-- may not come here, memory aside.
abbrev pub IsBodyTaken : Bytes → Validator → Result Handed ErrorValue → Validator → Type 0
IsBodyTaken body v (Ok f) w = IsHandedOut v.reached v.settings f × (w ≡ record v { reached = w.reached })
    × (w.reached.code ≡ Some (body_count v.reached.code + 1)) × (w.reached.progress.kept ≡ v.reached.progress.kept)
    × ((z : Settings) (p q : SoFar) → IsReached z v.reached p → JudgesBody z p body.rest q → IsReached z w.reached q)
IsBodyTaken body v (Err e) w = (NoneLeft v.reached × (e.kind ≡ kinds.Other) × (w ≡ v))
    ⊎ ((w ≡ record v { state = Failed }) × Denies e.kind (FitsNext v.reached body))

-- a body, with these bytes
abbrev pub TakesBody : Bytes → Validator → Result Handed ErrorValue → Validator → Type 0
TakesBody body v answer w =
    InTurn (refusal v.state (is_some v.reached.code)) v answer w
    ((z : Settings) (p : SoFar) → IsReached z v.reached p → Tells answer ((q : SoFar) × JudgesBody z p body.rest q))
    (IsBodyTaken body v answer w)

-- a section of an id that there is not
abbrev pub RefusesUnknown : {X : Type 0} → Validator → Result X ErrorValue → Validator → Type 0
RefusesUnknown v answer w = InTurn (failure v.state) v answer w (refused_by answer ≡ Some kinds.Other) (w ≡ record v { state = Failed })

-- what a validator learned so far of the module that it reads
abbrev pub learned : Validator → Learned
learned v = record { id = v.id; kept = v.reached.progress.kept }

-- what was kept is given at the end of a module, and another may begin over the same list of types; or there is no memory for it
abbrev pub IsEnded : Validator → Result Learned ErrorValue → Validator → Type 0
IsEnded v (Ok l) w = (l ≡ learned v) × (w ≡ record v { state = Ended; reached = next_behind v.reached })
IsEnded v (Err e) w = (e.kind ≡ kinds.OutOfMemory) × (w ≡ record v { state = Failed; reached = w.reached })

-- where there is no module it has ended too
abbrev pub EndsFrom : State → Validator → Result Learned ErrorValue → Validator → Type 0
EndsFrom Module v answer w = IsEnded v answer w
EndsFrom Unparsed v answer w = (refused_by answer ≡ Some kinds.Other) × (w ≡ record v { state = Ended })
EndsFrom Ended v answer w = (refused_by answer ≡ Some kinds.Other) × (w ≡ v)
EndsFrom Failed v answer w = (refused_by answer ≡ Some kinds.Failed) × (w ≡ v)

abbrev pub Ends : Validator → Result Learned ErrorValue → Validator → Type 0
Ends v answer w = EndsFrom v.state v answer w

-- If what was judged are all frames of some bytes, and each of their bodies spells a valid function of its type, these bytes run soundly.
abbrev pub RunsSoundlyWhole : Validator → Type 0
RunsSoundlyWhole v = (z : Settings) (bytes : List ℕ) (q : SoFar) → IsReadAs z bytes q → IsReached z v.reached q → AreBodies z q
    → RunsSoundly z bytes

-- ---- what is asked

-- nothing was read, or a module has ended
abbrev pub can_reset : State → Bool
can_reset Unparsed = true
can_reset Ended = true
can_reset Module = false
can_reset Failed = false

-- what is known so far, at level 0 of a module that is being read
abbrev pub types_in : State → Learned → ℕ → Option Learned
types_in Module l level = if level == 0 then Some l else None
types_in Unparsed l level = None
types_in Ended l level = None
types_in Failed l level = None

abbrev pub types_so_far : Validator → ℕ → Option Learned
types_so_far v level = types_in v.state (learned v) level
