-- What comes next of a module, where a parser stands (WebAssembly 3.0, binary format, modules): a frame, and where it stands then.
-- The whole sections and their order are those of `wasm_sections_items::frames`.
use Rattle.std.specs.Prelude.{ℕ, ◌+◌, ◌-◌, ◌^◌, ◌==◌, nat_lt, nat_le, Bool, true, false, List, [], Option, Some, None, if◌then◌else◌}
use Rattle.wasm_types.specs.settings.Settings.{Settings}
use Rattle.wasm_types.specs.decoding.declared.Refusal.TheVariants.{Other}
use Rattle.wasm_types.specs.decoding.Decoder.{State, Outcome, Done, Short, Fault, Decoder, ◌>>=◌, pure, refuse, byte, bytes}
use Rattle.wasm_types.specs.decoding.Leb.{u32}
use Rattle.wasm_types.specs.decoding.Lists.{refuse_at}
use Rattle.wasm_types.specs.decoding.Text.{name}
use Rattle.wasm_types.specs.reader.Parts.{next_part}
use Rattle.wasm_sections_items.specs.frames.Outer.{Header, rank}
use Rattle.wasm_sections_items.specs.frames.Decode.{header}
use Rattle.wasm_sections_parser.specs.declared.progress.Stage.{Stage}
use Rattle.wasm_sections_parser.specs.declared.progress.Stage.TheVariants as stages
use Rattle.wasm_sections_parser.specs.declared.progress.Progress.{Progress}

-- ---- frames

-- a piece of a module
pub data Shape : Type 0 where
  -- the header
  version : Header → Shape
  -- a custom section, by its name and what follows it
  custom : List ℕ → List ℕ → Shape
  -- another section than the code section, by its id and its contents
  section : ℕ → List ℕ → Shape
  -- the start of the code section, with the count of bodies and the size of its contents
  code : ℕ → ℕ → Shape
  -- a body's bytes
  entry : List ℕ → Shape
  -- the end
  the_end : Shape

-- ---- progress

-- where the order of sections has an id, 0 where it has no place
abbrev pub or_zero : Option ℕ → ℕ
or_zero (Some r) = r
or_zero None = 0

abbrev pub place_of : ℕ → ℕ
place_of id = or_zero (rank id)

-- a section that has a place stands behind all of lower places
abbrev pub is_late : Progress → ℕ → Bool
is_late p id = if place_of id == 0 then false else nat_le (place_of id) p.last

-- behind a section of this id that counts k items
abbrev pub counted : Progress → ℕ → ℕ → Progress
counted p id k = record {
  stage = stages.Sections;
  last = if place_of id == 0 then p.last else place_of id;
  functions = if id == 3 then k else p.functions;
  bodies = p.bodies;
  data_count = if id == 12 then Some k else p.data_count;
  segments = if id == 11 then k else p.segments;
}

-- behind the start of a code section of n bodies that ends there
abbrev pub in_code : Progress → ℕ → ℕ → Progress
in_code p n end = record { stage = stages.Code n end; last = 12; functions = p.functions; bodies = n; data_count = p.data_count; segments = p.segments }

-- behind one of n bodies
abbrev pub one_less : Progress → ℕ → ℕ → Progress
one_less p n end = record { stage = stages.Code (n - 1) end; last = p.last; functions = p.functions; bodies = p.bodies; data_count = p.data_count; segments = p.segments }

-- behind the header
abbrev pub begun : Progress → Progress
begun p = record { stage = stages.Sections; last = p.last; functions = p.functions; bodies = p.bodies; data_count = p.data_count; segments = p.segments }

-- nothing comes any more
abbrev pub over_stage : Stage → Bool
over_stage stages.Header = false
over_stage stages.Sections = false
over_stage (stages.Code n end) = false
over_stage stages.Ended = true
over_stage stages.Failed = true

abbrev pub is_over : Progress → Bool
is_over p = over_stage p.stage

-- as many bodies as functions, and as many data segments as were announced
abbrev pub said : Option ℕ → ℕ → Bool
said (Some n) k = n == k
said None k = true

abbrev pub counts_agree : Progress → Bool
counts_agree p = if p.functions == p.bodies then said p.data_count p.segments else false

-- ---- decoders

-- A number that ends before this offset, where it begins at that one. If it is malformed before this offset, it is refused as any number
-- is. If it passes this offset, it is refused where it begins.
abbrev pub kept : {A : Type 0} → ℕ → ℕ → Outcome A → Outcome A
kept end start (Done x t) = if nat_lt end t.place then Fault Other start else Done x t
kept end start (Short p h) = if nat_lt p end then Short p h else Fault Other start
kept end start (Fault k p) = if nat_lt p end then Fault k p else Fault Other start

unfoldable pub number_before : ℕ → Decoder ℕ
number_before end s = kept end s.place (u32 s)

-- f of what d reads at the front of a part that is all there
abbrev pub found : {A B : Type 0} → (A → List ℕ → B) → State → Outcome A → Outcome B
found f t (Done x u) = Done (f x u.rest) t
found f t (Short p h) = Fault Other p
found f t (Fault k p) = Fault k p

unfoldable pub in_part : {A B : Type 0} → Decoder A → (A → List ℕ → B) → State → Decoder B
in_part d f part t = found f t (d part)

-- a frame, and where a parser stands then
abbrev pub Next : Type 0
Next = Shape × Progress

-- the contents of a section: a custom section has a name, and some sections have a count to be remembered
abbrev pub has_count : ℕ → Bool
has_count id = if id == 3 then true else (if id == 11 then true else id == 12)

abbrev pub custom_next : Progress → List ℕ → List ℕ → Next
custom_next p n rest = (custom n rest, counted p 0 0)

abbrev pub section_next : Progress → ℕ → List ℕ → ℕ → List ℕ → Next
section_next p id text k rest = (section id text, counted p id k)

-- after the data section as many segments as were announced, if they were; of another section nothing is asked
abbrev pub is_announced : ℕ → Progress → Bool
is_announced id p = if id == 11 then said p.data_count p.segments else true

abbrev pub announced : ℕ → Next → Decoder Next
announced id x = if is_announced id x.1 then pure x else refuse Other 0

abbrev pub counted_next : Progress → ℕ → State → Decoder Next
counted_next p id part = in_part u32 (section_next p id part.rest) part >>= announced id

abbrev pub contents_next : Settings → Progress → ℕ → State → Decoder Next
contents_next z p id part = if id == 0 then in_part (name z.limits.string_bytes) (custom_next p) part else
    (if has_count id then counted_next p id part else pure (section_next p id part.rest 0 []))

-- a whole section, behind its id and size
unfoldable pub contents : Settings → Progress → ℕ → ℕ → Decoder Next
contents z p id n = next_part n >>= contents_next z p id

-- the start of the code section, behind its id and size
abbrev pub code_next : Progress → ℕ → ℕ → ℕ → Next
code_next p n end k = (code k n, in_code p k end)

-- As many bodies are counted as functions were declared. Else it is refused where its contents begin.
abbrev pub start_next : Progress → ℕ → ℕ → ℕ → Decoder Next
start_next p n place k = if p.functions == k then pure (code_next p n (place + n) k) else refuse_at Other place

abbrev pub code_at : Progress → ℕ → ℕ → Decoder Next
code_at p n place = if nat_lt place (2 ^ 64 - n) then (number_before (place + n) >>= start_next p n place) else refuse_at Other place

unfoldable pub code_start : Progress → ℕ → Decoder Next
code_start p n s = code_at p n s.place s

-- a section behind its id and size; one that comes too late is refused behind these
abbrev pub ordered : Settings → Progress → ℕ → ℕ → Decoder Next
ordered z p id n = if is_late p id then refuse Other 0 else (if id == 10 then code_start p n else contents z p id n)

unfoldable pub next_section : Settings → Progress → Decoder Next
next_section z p = byte >>= λ id. u32 >>= ordered z p id

-- a body of n left, behind its size, in a code section that ends there
abbrev pub body_at : Progress → ℕ → ℕ → ℕ → ℕ → Decoder Next
body_at p left end n place = if nat_lt (end - place) n then refuse_at Other place else (bytes n >>= λ text. pure (entry text, one_less p left end))

abbrev pub body : Progress → ℕ → ℕ → ℕ → Decoder Next
body p left end n s = body_at p left end n s.place s

unfoldable pub next_entry : Progress → ℕ → ℕ → Decoder Next
next_entry p left end = number_before end >>= body p left end

-- what follows the last body: the code section ends here
abbrev pub behind_code_at : Settings → Progress → ℕ → ℕ → Decoder Next
behind_code_at z p end place = if nat_lt place end then refuse_at Other place else next_section z p

unfoldable pub behind_code : Settings → Progress → ℕ → Decoder Next
behind_code z p end s = behind_code_at z p end s.place s

unfoldable pub next_header : Progress → Decoder Next
next_header p = header >>= λ h. pure (version h, begun p)

-- what comes next; nothing behind the end and behind a refusal
abbrev pub at_stage : Settings → Progress → Stage → Decoder Next
at_stage z p stages.Header = next_header p
at_stage z p stages.Sections = next_section z p
at_stage z p (stages.Code left end) = if left == 0 then behind_code z p end else next_entry p left end
at_stage z p stages.Ended = refuse Other 0
at_stage z p stages.Failed = refuse Other 0

unfoldable pub step : Settings → Progress → Decoder Next
step z p = at_stage z p p.stage
