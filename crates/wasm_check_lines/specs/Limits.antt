-- The limits that a caller chooses: their words in `--limits`, their places among the fields of `Limits`, and those fields.
use Rattle.std.specs.Prelude.{ℕ, Bool, List, codes, nat_le}
use Rattle.wasm_types.specs.settings.Limits.{ceilings}
use Rattle.wasm_types.specs.settings.declared.Limits.{Limits}
use Rattle.wasm_check_lines.specs.declared.limit.Limit.{Limit}
use Rattle.wasm_check_lines.specs.declared.limit.Limit.TheVariants as limits

abbrev pub word_of : Limit → List ℕ
word_of limits.Types = codes "types"
word_of limits.Params = codes "params"
word_of limits.Results = codes "results"
word_of limits.Fields = codes "fields"
word_of limits.StringBytes = codes "string-bytes"
word_of limits.Imports = codes "imports"
word_of limits.Exports = codes "exports"
word_of limits.Functions = codes "functions"
word_of limits.Globals = codes "globals"
word_of limits.Tags = codes "tags"
word_of limits.Tables = codes "tables"
word_of limits.Memories = codes "memories"
word_of limits.ElementSegments = codes "element-segments"
word_of limits.DataSegments = codes "data-segments"
word_of limits.SegmentItems = codes "segment-items"
word_of limits.BodyBytes = codes "body-bytes"
word_of limits.SelectTypes = codes "select-types"
word_of limits.Locals = codes "locals"
word_of limits.Catches = codes "catches"
word_of limits.SubtypingDepth = codes "subtyping-depth"
word_of limits.TypeSize = codes "type-size"

-- counted from 0
abbrev pub place_of : Limit → ℕ
place_of limits.Types = 0
place_of limits.Params = 1
place_of limits.Results = 2
place_of limits.Fields = 3
place_of limits.StringBytes = 4
place_of limits.Imports = 5
place_of limits.Exports = 6
place_of limits.Functions = 7
place_of limits.Globals = 8
place_of limits.Tags = 9
place_of limits.Tables = 10
place_of limits.Memories = 11
place_of limits.ElementSegments = 12
place_of limits.DataSegments = 13
place_of limits.SegmentItems = 14
place_of limits.BodyBytes = 15
place_of limits.SelectTypes = 16
place_of limits.Locals = 17
place_of limits.Catches = 18
place_of limits.SubtypingDepth = 19
place_of limits.TypeSize = 20

-- what a limit is in these limits
abbrev pub limit_of : Limit → Limits → ℕ
limit_of limits.Types l = l.types
limit_of limits.Params l = l.params
limit_of limits.Results l = l.results
limit_of limits.Fields l = l.fields
limit_of limits.StringBytes l = l.string_bytes
limit_of limits.SubtypingDepth l = l.subtyping_depth
limit_of limits.TypeSize l = l.type_size
limit_of limits.Imports l = l.imports
limit_of limits.Exports l = l.exports
limit_of limits.Functions l = l.functions
limit_of limits.Globals l = l.globals
limit_of limits.Tags l = l.tags
limit_of limits.Tables l = l.tables
limit_of limits.Memories l = l.memories
limit_of limits.ElementSegments l = l.element_segments
limit_of limits.DataSegments l = l.data_segments
limit_of limits.SegmentItems l = l.segment_items
limit_of limits.BodyBytes l = l.body_bytes
limit_of limits.SelectTypes l = l.select_types
limit_of limits.Locals l = l.locals
limit_of limits.Catches l = l.catches

-- in these limits this one is as high as it may be
abbrev pub is_highest : Limit → Limits → Bool
is_highest limit l = nat_le (limit_of limit ceilings) (limit_of limit l)
