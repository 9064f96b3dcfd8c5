-- A module that is being read, and that is shared once its code has begun (WebAssembly 3.0, binary format and validation, modules).
use Rattle.std.specs.Prelude.{◌≡◌, ◌+◌, ◌≤◌, ℕ, Bool, true, false, List, length, Option, Some, None, Result, Ok, Err, option_map, slice_get}
use Rattle.wasm_types.specs.decoding.Decoder.{State}
use Rattle.wasm_types.specs.decoding.Denials.{Denies, Tells}
use Rattle.wasm_types.specs.decoding.ErrorValue.{ErrorValue}
use Rattle.wasm_types.specs.settings.Limits.{IsWithinCeilings}
use Rattle.wasm_types.specs.settings.Settings.{Settings}
use Rattle.wasm_sections_parser.specs.declared.frame.Frame.{Frame}
use Rattle.wasm_sections_parser.specs.Parsing.{shape_of}
use Rattle.wasm_sections.specs.declared.payload.Payload.{Payload}
use Rattle.wasm_sections.specs.declared.payload.Payload.TheVariants as payloads
use Rattle.wasm_sections.specs.Payloads.{IsPayloadOf, read_by}
use Rattle.wasm_module_validator_resources.specs.index_spaces.declared.module.Function.{Function}
use Rattle.wasm_module_validator_function_bodies.specs.declared.beginning.FuncToValidate.{FuncToValidate}
use Rattle.wasm_module_validator_section_order.specs.items.Adding.{UnlessFull}
use Rattle.wasm_module_validator_payloads.specs.declarations.Total.{IsPastTotal}
use Rattle.wasm_module_validator_section_order.specs.declared.items.bodies.Body.{Body}
use Rattle.wasm_module_validator_section_order.specs.rules_in_order.Sections.{code_place}
use Rattle.wasm_module_validator_section_order.specs.rules_in_order.Steps.{SoFar, JudgesShape, JudgesBody}
use Rattle.wasm_module_validator_payloads.specs.Progress.{Kept, Progress, HasGroup, IsAt, nothing_kept, renewed, next_over}
use Rattle.wasm_module_validator_drivers.specs.declared.resources.ValidatorResources.{ValidatorResources}

-- ---- what is kept

-- what is kept of the module; and once its code has begun, how many bodies came
pub record Reached : Type 0 where
  pub progress : Progress
  pub code : Option ℕ

-- nothing was read
abbrev pub nothing_reached : Settings → Reached
nothing_reached z = record { progress = nothing_kept z; code = None }

-- What is kept is the module's own until it is shared. Then it is what is shared, with the place of the last section.
abbrev pub reached : Progress → Option Kept → ℕ → ℕ → Reached
reached own None last bodies = record { progress = own; code = None }
reached own (Some shared) last bodies = record { progress = record { kept = shared; last = last }; code = Some bodies }

-- Where a module is shared, another by the same settings may begin: nothing was read of it yet.
abbrev pub IsNext : Progress → Option Kept → Type 0
IsNext own None = Unit {0}
IsNext own (Some shared) = own ≡ next_over shared

-- nothing was read of a module by these settings, after another
abbrev pub renewed_behind : Settings → Reached → Reached
renewed_behind z r = record { progress = renewed z r.progress.kept; code = None }

-- nothing was read of a module by the same settings, behind another
abbrev pub next_behind : Reached → Reached
next_behind r = record { progress = next_over r.progress.kept; code = None }

-- its code has not begun
abbrev pub has_no_code : Option ℕ → Bool
has_no_code None = true
has_no_code (Some n) = false

-- how many bodies came
abbrev pub body_count : Option ℕ → ℕ
body_count None = 0
body_count (Some n) = n

-- It stands for what was judged, of which so many bodies came.
abbrev pub IsReached : Settings → Reached → SoFar → Type 0
IsReached z r p = (bodies : List Body) × (length bodies ≡ body_count r.code) × IsAt z r.progress bodies p

-- ---- payloads

-- it is no part of the code
abbrev pub IsWhole : Payload → Type 0
IsWhole (payloads.CodeSectionStart n r k) = ⊥
IsWhole (payloads.CodeSectionEntry body) = ⊥
IsWhole (payloads.Version n e r) = Unit {0}
IsWhole (payloads.CustomSection c) = Unit {0}
IsWhole (payloads.End place) = Unit {0}
IsWhole (payloads.TypeSection s) = Unit {0}
IsWhole (payloads.ImportSection s) = Unit {0}
IsWhole (payloads.FunctionSection s) = Unit {0}
IsWhole (payloads.TableSection s) = Unit {0}
IsWhole (payloads.MemorySection s) = Unit {0}
IsWhole (payloads.TagSection s) = Unit {0}
IsWhole (payloads.GlobalSection s) = Unit {0}
IsWhole (payloads.ExportSection s) = Unit {0}
IsWhole (payloads.StartSection n r) = Unit {0}
IsWhole (payloads.ElementSection s) = Unit {0}
IsWhole (payloads.DataCountSection n r) = Unit {0}
IsWhole (payloads.DataSection s) = Unit {0}
IsWhole (payloads.UnknownSection i c r) = Unit {0}

-- Where what is kept stands for what was judged, the answer tells whether the frame that has this payload may come next by the rules,
-- by whatever settings the payload was read before.
abbrev pub TellsFrame : {X : Type 0} → Reached → Payload → Result X ErrorValue → Type 0
TellsFrame r x answer = (z : Settings) (p : SoFar) (f : Frame) → IsReached z r p → IsPayloadOf f x
    → Tells answer ((q : SoFar) × JudgesShape z p (shape_of f) q)

-- the payload is a type section, of which one group, by the settings of what was judged, would pass the total of types
abbrev pub FullNext : Reached → Payload → ErrorValue → Type 0
FullNext r x e = (z : Settings) (p : SoFar) → IsReached z r p
    → IsPastTotal r.progress.kept.groups r.progress.kept.items (HasGroup (read_by z x)) e

-- It does so unless the total of types would be passed.
abbrev pub TellsNext : {X : Type 0} → Reached → Payload → Result X ErrorValue → Type 0
TellsNext r x answer = UnlessFull (FullNext r x) answer (TellsFrame r x answer)

-- What is kept then stands for whatever was judged with that frame.
abbrev pub Follows : Reached → Payload → Reached → Type 0
Follows r x s = (z : Settings) (p q : SoFar) (f : Frame) → IsReached z r p → IsPayloadOf f x
    → JudgesShape z p (shape_of f) q
    → IsReached z s q

-- ---- bodies

-- what judges a function elsewhere
abbrev pub Handed : Type 0
Handed = FuncToValidate ValidatorResources

-- a body may come next where a function is handed out, and may not where none is left
abbrev pub TellsBody : Settings → SoFar → List ℕ → Result (Option Handed) ErrorValue → Type 0
TellsBody z p text (Ok (Some f)) = (q : SoFar) × JudgesBody z p text q
TellsBody z p text (Ok None) = ((q : SoFar) × JudgesBody z p text q) → ⊥
TellsBody z p text (Err e) = Denies e.kind ((q : SoFar) × JudgesBody z p text q)

-- Of the function after so many others this is handed out: the module as it is kept, the function's index and that of its type, and these
-- features and limits, of which none is above its ceiling.
pub record IsHandedOut (r : Reached) (z : Settings) (f : Handed) : Type 0 where
  pub resources : f.resources.shared.value ≡ r.progress.kept
  pub index : f.index ≡ r.progress.kept.items.spaces.imported_functions + body_count r.code
  pub type : option_map (λ (g : Function). g.type_index) (slice_get r.progress.kept.items.spaces.functions f.index) ≡ Some f.ty
  pub features : f.features.0 ≡ z.features
  pub limits : f.limits ≡ z.limits
  pub within : IsWithinCeilings f.limits

-- a body may come here: behind the start of the code, and no longer than a body may be
abbrev pub FitsNext : Reached → State → Type 0
FitsNext r body = (r.progress.last ≡ code_place) × (length body.rest ≤ r.progress.kept.items.spaces.settings.limits.body_bytes)

-- each function has its body
abbrev pub NoneLeft : Reached → Type 0
NoneLeft r = slice_get r.progress.kept.items.spaces.functions (r.progress.kept.items.spaces.imported_functions + body_count r.code) ≡ None

-- What is kept then: one body more, where a function was handed out. It is refused only where it may not come here, memory aside.
abbrev pub BodyFollows : Reached → Settings → State → Result (Option Handed) ErrorValue → Reached → Type 0
BodyFollows r y body (Ok (Some f)) s = IsHandedOut r y f × (s.code ≡ Some (body_count r.code + 1)) × (s.progress.kept ≡ r.progress.kept)
    × ((z : Settings) (p q : SoFar) → IsReached z r p → JudgesBody z p body.rest q → IsReached z s q)
BodyFollows r y body (Ok None) s = (s ≡ r) × NoneLeft r
BodyFollows r y body (Err e) s = (s ≡ r) × Denies e.kind (FitsNext r body)

-- What a body is answered: where what is kept stands for what was judged, a function is handed out exactly where the body may come next,
-- memory aside.
pub record IsNextFunction (r : Reached) (y : Settings) (body : State) (answer : Result (Option Handed) ErrorValue)
    (s : Reached) : Type 0 where
  pub told : (z : Settings) (p : SoFar) → IsReached z r p → TellsBody z p body.rest answer
  pub follows : BodyFollows r y body answer s
