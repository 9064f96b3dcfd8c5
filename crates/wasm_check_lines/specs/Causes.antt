-- Why a module was refused, as far as a program or a person can do something about it: by the kind of the error, and by how its message begins.
-- No message begins with a text that a module chose.
use Rattle.std.specs.Prelude.{ℕ, Bool, eqb, ◌==◌, ◌&&◌, List, [], ◌∷◌, Option, Some, None, codes, bytes_eq, nat_le, if◌then◌else◌}
use Rattle.std.specs.List.{ends_with, starts_with}
use Rattle.std.specs.Int.RustNames.{bit_or}
use Rattle.wasm_types.specs.decoding.ErrorValue.{ErrorValue}
use Rattle.wasm_types.specs.decoding.declared.error.ErrorKind.{ErrorKind}
use Rattle.wasm_types.specs.decoding.declared.error.ErrorKind.TheVariants.{EndOfData, MissingFeature, OutOfMemory, Failed, Other}
use Rattle.wasm_types.specs.settings.Features.{mask, ReferenceTypes, MultiMemory, BulkMemory, CallIndirectOverlong, ComponentModel, Gc}
use Rattle.wasm_types.specs.settings.declared.Limits.{Limits}
use Rattle.wasm_types.specs.settings.declared.WasmFeatures.{WasmFeatures}
use Rattle.wasm_check_lines.specs.declared.limit.Limit.{Limit}
use Rattle.wasm_check_lines.specs.declared.limit.Limit.TheVariants as limits
use Rattle.wasm_check_lines.specs.declared.causes.Cause.{Cause}
use Rattle.wasm_check_lines.specs.declared.causes.Cause.TheVariants as causes

-- the message begins so
abbrev pub begins : List ℕ → List ℕ → Bool
begins front message = starts_with eqb message front

-- the message ends so
abbrev pub ends : List ℕ → List ℕ → Bool
ends back message = ends_with eqb message back

-- the limit beside the first of these texts with which a message begins
abbrev pub meant_by : List (List ℕ × Limit) → List ℕ → Option Limit
meant_by [] message = None
meant_by (row ∷ rows) message = if begins row.0 message then Some row.1 else meant_by rows message

-- the first of two that is there
abbrev pub first_of : {A : Type 0} → Option A → Option A → Option A
first_of (Some a) other = Some a
first_of None other = other

-- ---- limits

-- those of types
abbrev pub type_fronts : List (List ℕ × Limit)
type_fronts = (codes "types count exceeds limit of ", limits.Types)
    ∷ (codes "multiple types", limits.Types)
    ∷ (codes "rec group types size is out of bounds", limits.Types)
    ∷ (codes "function params size is out of bounds", limits.Params)
    ∷ (codes "function returns size is out of bounds", limits.Results)
    ∷ (codes "struct fields size is out of bounds", limits.Fields)
    ∷ (codes "sub type hierarchy too deep: ", limits.SubtypingDepth)
    ∷ (codes "effective type size exceeds the limit of ", limits.TypeSize)
    ∷ []

-- those of what a module declares and imports
abbrev pub entity_fronts : List (List ℕ × Limit)
entity_fronts = (codes "imports count exceeds limit of ", limits.Imports)
    ∷ (codes "multiple imports", limits.Imports)
    ∷ (codes "functions count exceeds limit of ", limits.Functions)
    ∷ (codes "multiple functions", limits.Functions)
    ∷ (codes "globals count exceeds limit of ", limits.Globals)
    ∷ (codes "multiple globals", limits.Globals)
    ∷ (codes "tags count exceeds limit of ", limits.Tags)
    ∷ (codes "multiple tags", limits.Tags)
    ∷ (codes "tables count exceeds limit of ", limits.Tables)
    ∷ (codes "memories count exceeds limit of ", limits.Memories)
    ∷ []

-- those of exports and segments
abbrev pub segment_fronts : List (List ℕ × Limit)
segment_fronts = (codes "exports count exceeds limit of ", limits.Exports)
    ∷ (codes "multiple exports", limits.Exports)
    ∷ (codes "element segments count exceeds limit of ", limits.ElementSegments)
    ∷ (codes "multiple element segments", limits.ElementSegments)
    ∷ (codes "data segments count exceeds limit of ", limits.DataSegments)
    ∷ (codes "multiple data segments", limits.DataSegments)
    ∷ (codes "data count section specifies too many data segments", limits.DataSegments)
    ∷ (codes "number of elements is out of bounds", limits.SegmentItems)
    ∷ []

-- those of names and bodies
abbrev pub content_fronts : List (List ℕ × Limit)
content_fronts = (codes "string size out of bounds", limits.StringBytes)
    ∷ (codes "function body size count exceeds limit of ", limits.BodyBytes)
    ∷ (codes "br_table size is out of bounds", limits.BodyBytes)
    ∷ (codes "select types size is out of bounds", limits.SelectTypes)
    ∷ (codes "too many locals: ", limits.Locals)
    ∷ (codes "catches size is out of bounds", limits.Catches)
    ∷ (codes "resume table size is out of bounds", limits.Catches)
    ∷ []

-- Several tables or memories are refused for the want of a feature, or because the limit allows but one.
abbrev pub tables_message : List ℕ
tables_message = codes "multiple tables"

abbrev pub memories_message : List ℕ
memories_message = codes "multiple memories"

abbrev pub single_limit : Limits → List ℕ → Option Limit
single_limit l message = if begins tables_message message && nat_le l.tables 1 then Some limits.Tables
    else (if begins memories_message message && nat_le l.memories 1 then Some limits.Memories else None)

-- the limit that refused it, if one did
unfoldable pub limit_meant : Limits → List ℕ → Option Limit
limit_meant l message = first_of (meant_by type_fronts message) (first_of (meant_by entity_fronts message)
    (first_of (meant_by segment_fronts message) (first_of (meant_by content_fronts message) (single_limit l message))))

-- ---- features

-- These features, if allowing them helps. No feature has components judged.
abbrev pub allowing : WasmFeatures → Option WasmFeatures
allowing features = if features.0 == mask ComponentModel then None else Some features

-- by the kind of the error
abbrev pub kind_feature : ErrorKind → Option WasmFeatures
kind_feature (MissingFeature features) = allowing features
kind_feature (EndOfData needed) = None
kind_feature OutOfMemory = None
kind_feature Failed = None
kind_feature Other = None

-- In place of the index of a memory or of a table there has to be a byte 0, unless the feature is there that allows the index.
abbrev pub index_features : ℕ
index_features = bit_or (mask MultiMemory) (mask CallIndirectOverlong)

-- by how its message ends: a type names one of its own group, and no type may. A message that begins otherwise may end with a name that a
-- module chose, cut anywhere.
abbrev pub last_feature : List ℕ → Option WasmFeatures
last_feature message = if begins (codes "unknown type ") message
    then (if ends (codes "because the GC proposal is disabled") message then Some (record { 0 = mask Gc }) else None)
    else None

-- by how its message begins, or else by how it ends
abbrev pub message_feature : List ℕ → Option WasmFeatures
message_feature message = if begins tables_message message then Some (record { 0 = mask ReferenceTypes })
    else (if begins memories_message message then Some (record { 0 = mask MultiMemory })
    else (if begins (codes "data count section requires the bulk-memory proposal") message then Some (record { 0 = mask BulkMemory })
    else (if begins (codes "zero byte expected") message then Some (record { 0 = index_features }) else last_feature message)))

-- the features that are lacking, if some are
unfoldable pub feature_lacking : ErrorValue → Option WasmFeatures
feature_lacking e = first_of (kind_feature e.kind) (message_feature e.message)

-- ---- causes

-- what the library says of an operator on vectors while the switch for them is off
abbrev pub vectors_message : List ℕ
vectors_message = codes "unexpected SIMD opcode: 0xfd"

-- the cause by the message alone
abbrev pub message_cause : List ℕ → Cause
message_cause message = if begins (codes "type mismatch") message then causes.Types
    else (if begins (codes "implementation limit: ") message then causes.FixedLimit
    else (if begins (codes "type index greater than implementation limits") message then causes.FixedLimit else causes.Another))

abbrev pub feature_cause : Option WasmFeatures → List ℕ → Cause
feature_cause (Some features) message = causes.Feature features
feature_cause None message = message_cause message

abbrev pub limit_cause : Option Limit → Option WasmFeatures → List ℕ → Cause
limit_cause (Some limit) features message = causes.Limit limit
limit_cause None features message = feature_cause features message

-- the cause of an error under these limits
unfoldable pub cause_of : Limits → ErrorValue → Cause
cause_of l e = if bytes_eq e.message vectors_message then causes.Vectors
    else limit_cause (limit_meant l e.message) (feature_lacking e) e.message
