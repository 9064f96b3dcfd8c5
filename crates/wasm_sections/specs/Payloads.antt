-- Which payload a frame is (WebAssembly 3.0, binary format, modules).
use Rattle.std.specs.Prelude.{◌≡◌, ℕ, ◌+◌, ◌==◌, nat_lt, length, Bool, true, false, if◌then◌else◌}
use Rattle.wasm_types.specs.decoding.declared.Refusal.TheVariants.{Other}
use Rattle.wasm_types.specs.decoding.Decoder.{State, Outcome, Done, Short, Fault, ended}
use Rattle.wasm_types.specs.decoding.Leb.{u32}
use Rattle.wasm_types.specs.decoding.ErrorValue.{ErrorValue}
use Rattle.wasm_types.specs.reader.Reading.{Fails}
use Rattle.wasm_types.specs.settings.Settings.{Settings}
use Rattle.wasm_sections_parser.specs.declared.frame.Frame.{Frame}
use Rattle.wasm_sections_parser.specs.declared.frame.Frame.TheVariants as frames
use Rattle.wasm_sections.specs.declared.payload.Payload.{Payload}
use Rattle.wasm_sections.specs.declared.payload.Payload.TheVariants as payloads

-- ---- what the contents of a section begin with

-- of contents that are all there: an end of data is a fault
abbrev pub cut : {A : Type 0} → Outcome A → Outcome A
cut (Done x t) = Done x t
cut (Short p h) = Fault Other p
cut (Fault k p) = Fault k p

-- a number that is the whole of the contents
abbrev pub only_number : State → Outcome ℕ
only_number b = ended Other Other b (u32 b)

-- sections that are one number: start and data count
abbrev pub is_number : ℕ → Bool
is_number id = if id == 8 then true else id == 12

-- sections of no meaning here: beyond the last id, and those that come as other frames
abbrev pub is_unknown : ℕ → Bool
is_unknown id = if id == 0 then true else (if id == 10 then true else nat_lt 13 id)

-- what is read of a section's contents: the number that it is, a count before its items, nothing of an unknown one
abbrev pub front_of : ℕ → State → Outcome ℕ
front_of id b = if is_unknown id then Done 0 b else (if is_number id then only_number b else cut (u32 b))

-- ---- payloads

-- a section's reader of items stands behind the count
abbrev pub Counts : State → ℕ → State → Type 0
Counts b count reader = u32 b ≡ Done count reader

-- the offsets of all that a reader has
abbrev pub end_of : State → ℕ
end_of b = b.place + length b.rest

-- the payload of a section, by its id and its contents
abbrev pub IsSectionOf : ℕ → State → Payload → Type 0
IsSectionOf id b (payloads.TypeSection s) = (id ≡ 1) × Counts b s.count s.reader
IsSectionOf id b (payloads.ImportSection s) = (id ≡ 2) × Counts b s.count s.reader
IsSectionOf id b (payloads.FunctionSection s) = (id ≡ 3) × Counts b s.count s.reader
IsSectionOf id b (payloads.TableSection s) = (id ≡ 4) × Counts b s.count s.reader
IsSectionOf id b (payloads.MemorySection s) = (id ≡ 5) × Counts b s.count s.reader
IsSectionOf id b (payloads.GlobalSection s) = (id ≡ 6) × Counts b s.count s.reader
IsSectionOf id b (payloads.ExportSection s) = (id ≡ 7) × Counts b s.count s.reader
IsSectionOf id b (payloads.StartSection n r) = (id ≡ 8) × (only_number b ≡ Done n b) × (r.start ≡ b.start) × (r.end ≡ end_of b)
IsSectionOf id b (payloads.ElementSection s) = (id ≡ 9) × Counts b s.count s.reader
IsSectionOf id b (payloads.DataSection s) = (id ≡ 11) × Counts b s.count s.reader
IsSectionOf id b (payloads.DataCountSection n r) = (id ≡ 12) × (only_number b ≡ Done n b) × (r.start ≡ b.start) × (r.end ≡ end_of b)
IsSectionOf id b (payloads.TagSection s) = (id ≡ 13) × Counts b s.count s.reader
IsSectionOf id b (payloads.UnknownSection i c r) = (i ≡ id) × (is_unknown id ≡ true) × (c.now ≡ b.rest) × (r.start ≡ b.start)
    × (r.end ≡ end_of b)
IsSectionOf id b (payloads.Version n e r) = ⊥
IsSectionOf id b (payloads.CodeSectionStart n r k) = ⊥
IsSectionOf id b (payloads.CodeSectionEntry body) = ⊥
IsSectionOf id b (payloads.CustomSection c) = ⊥
IsSectionOf id b (payloads.End place) = ⊥

-- the payload that a frame is
abbrev pub IsPayloadOf : Frame → Payload → Type 0
IsPayloadOf (frames.Version n e r) p = p ≡ payloads.Version n e r
IsPayloadOf (frames.Custom c) p = p ≡ payloads.CustomSection c
IsPayloadOf (frames.Section id b) p = IsSectionOf id b p
IsPayloadOf (frames.CodeStart n r k) p = p ≡ payloads.CodeSectionStart n r k
IsPayloadOf (frames.CodeEntry b) p = p ≡ payloads.CodeSectionEntry b
IsPayloadOf (frames.End place) p = p ≡ payloads.End place

-- the same bytes by other settings
abbrev pub set : Settings → State → State
set z b = record b { settings = z }

-- The same payload, whose items are read by these settings. What reads a body is set by whoever judges it.
abbrev pub read_by : Settings → Payload → Payload
read_by z (payloads.TypeSection s) = payloads.TypeSection (record s { reader = set z s.reader })
read_by z (payloads.ImportSection s) = payloads.ImportSection (record s { reader = set z s.reader })
read_by z (payloads.FunctionSection s) = payloads.FunctionSection (record s { reader = set z s.reader })
read_by z (payloads.TableSection s) = payloads.TableSection (record s { reader = set z s.reader })
read_by z (payloads.MemorySection s) = payloads.MemorySection (record s { reader = set z s.reader })
read_by z (payloads.TagSection s) = payloads.TagSection (record s { reader = set z s.reader })
read_by z (payloads.GlobalSection s) = payloads.GlobalSection (record s { reader = set z s.reader })
read_by z (payloads.ExportSection s) = payloads.ExportSection (record s { reader = set z s.reader })
read_by z (payloads.ElementSection s) = payloads.ElementSection (record s { reader = set z s.reader })
read_by z (payloads.DataSection s) = payloads.DataSection (record s { reader = set z s.reader })
read_by z (payloads.Version n e r) = payloads.Version n e r
read_by z (payloads.StartSection n r) = payloads.StartSection n r
read_by z (payloads.DataCountSection n r) = payloads.DataCountSection n r
read_by z (payloads.CodeSectionStart n r k) = payloads.CodeSectionStart n r k
read_by z (payloads.CodeSectionEntry body) = payloads.CodeSectionEntry body
read_by z (payloads.CustomSection c) = payloads.CustomSection c
read_by z (payloads.UnknownSection i c r) = payloads.UnknownSection i c r
read_by z (payloads.End place) = payloads.End place

-- why a frame is no payload: the front of a section's contents
abbrev pub IsRefusedAs : Frame → ErrorValue → Type 0
IsRefusedAs (frames.Version n e r) error = ⊥
IsRefusedAs (frames.Custom c) error = ⊥
IsRefusedAs (frames.Section id b) error = Fails error (front_of id b)
IsRefusedAs (frames.CodeStart n r k) error = ⊥
IsRefusedAs (frames.CodeEntry b) error = ⊥
IsRefusedAs (frames.End place) error = ⊥

-- ids before 8 that have a section of items
abbrev pub is_early : ℕ → Bool
is_early id = if id == 0 then false else nat_lt id 8
