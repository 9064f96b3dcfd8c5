-- Worked errors: each cause, and each limit by a message that tells it.
use Rattle.std.specs.Prelude.{◌≡◌, ℕ, List, codes, Some, None}
use Rattle.wasm_types.specs.decoding.ErrorValue.{ErrorValue}
use Rattle.wasm_types.specs.decoding.declared.error.ErrorKind.TheVariants.{Other, MissingFeature}
use Rattle.wasm_types.specs.settings.Limits.{default_limits}
use Rattle.wasm_types.specs.settings.declared.WasmFeatures.{WasmFeatures}
use Rattle.wasm_check_lines.specs.declared.limit.Limit.TheVariants as limits
use Rattle.wasm_check_lines.specs.declared.causes.Cause.{Cause}
use Rattle.wasm_check_lines.specs.declared.causes.Cause.TheVariants as causes
use Rattle.wasm_check_lines.specs.Causes.{cause_of, kind_feature}

-- an error of content, with this message
abbrev pub other_by : List ℕ → ErrorValue
other_by message = record { kind = Other; offset = 0; message = message }

-- its cause under the limits by default
abbrev pub cause_by : List ℕ → Cause
cause_by message = cause_of default_limits (other_by message)

-- a set of features, by its bits
abbrev pub features : ℕ → WasmFeatures
features bits = record { 0 = bits }

pub record CauseRows : Type 0 where
  pub vectors : cause_by (codes "unexpected SIMD opcode: 0xfd") ≡ causes.Vectors
  pub types : cause_by (codes "type mismatch: expected i32 but nothing on stack") ≡ causes.Types
  pub fixed : cause_by (codes "implementation limit: too many core types") ≡ causes.FixedLimit
  pub index : cause_by (codes "type index greater than implementation limits") ≡ causes.FixedLimit
  pub other : cause_by (codes "unknown local 5: local index out of bounds") ≡ causes.Another
  pub named_alike : cause_by (codes "duplicate export name `too many locals: ` already defined") ≡ causes.Another
  -- several tables or memories lack a feature, except if the limit allows but one
  pub tables : cause_by (codes "multiple tables") ≡ causes.Feature (features 0x2000008)
  pub one_table : cause_of (record default_limits { tables = 1 }) (other_by (codes "multiple tables")) ≡ causes.Limit limits.Tables
  pub memories : cause_by (codes "multiple memories") ≡ causes.Feature (features 0x1000)
  pub one_memory : cause_of (record default_limits { memories = 1 }) (other_by (codes "multiple memories")) ≡ causes.Limit limits.Memories
  pub data_count : cause_by (codes "data count section requires the bulk-memory proposal") ≡ causes.Feature (features 0x4000020)
  pub own_group : cause_by (codes "unknown type 1: type index out of bounds because the GC proposal is disabled") ≡ causes.Feature (features 0x80000)
  -- a name that a module chose, cut at its end
  pub chosen_end : cause_by (codes "duplicate export name `because the GC proposal is disabled") ≡ causes.Another
  pub no_type : cause_by (codes "unknown type 1: type index out of bounds") ≡ causes.Another
  pub padded : cause_by (codes "zero byte expected") ≡ causes.Feature (features 0x2001000)
  pub lacks : kind_feature (MissingFeature (features 0x80000)) ≡ Some (features 0x80000)
  pub component_model : kind_feature (MissingFeature (features 0x10000)) ≡ None
  -- each limit
  pub type_count : cause_by (codes "types count exceeds limit of 3") ≡ causes.Limit limits.Types
  pub group : cause_by (codes "rec group types size is out of bounds") ≡ causes.Limit limits.Types
  pub params : cause_by (codes "function params size is out of bounds") ≡ causes.Limit limits.Params
  pub results : cause_by (codes "function returns size is out of bounds") ≡ causes.Limit limits.Results
  pub fields : cause_by (codes "struct fields size is out of bounds") ≡ causes.Limit limits.Fields
  pub string_bytes : cause_by (codes "string size out of bounds") ≡ causes.Limit limits.StringBytes
  pub imports : cause_by (codes "imports count exceeds limit of 3") ≡ causes.Limit limits.Imports
  pub exports : cause_by (codes "exports count exceeds limit of 3") ≡ causes.Limit limits.Exports
  pub functions : cause_by (codes "functions count exceeds limit of 3") ≡ causes.Limit limits.Functions
  pub globals : cause_by (codes "globals count exceeds limit of 3") ≡ causes.Limit limits.Globals
  pub tags : cause_by (codes "tags count exceeds limit of 3") ≡ causes.Limit limits.Tags
  pub table_count : cause_by (codes "tables count exceeds limit of 3") ≡ causes.Limit limits.Tables
  pub memory_count : cause_by (codes "memories count exceeds limit of 3") ≡ causes.Limit limits.Memories
  pub elements : cause_by (codes "element segments count exceeds limit of 3") ≡ causes.Limit limits.ElementSegments
  pub segments : cause_by (codes "data segments count exceeds limit of 3") ≡ causes.Limit limits.DataSegments
  pub items : cause_by (codes "number of elements is out of bounds") ≡ causes.Limit limits.SegmentItems
  pub body : cause_by (codes "function body size count exceeds limit of 3") ≡ causes.Limit limits.BodyBytes
  pub labels : cause_by (codes "br_table size is out of bounds") ≡ causes.Limit limits.BodyBytes
  pub selected : cause_by (codes "select types size is out of bounds") ≡ causes.Limit limits.SelectTypes
  pub locals : cause_by (codes "too many locals: locals exceed maximum") ≡ causes.Limit limits.Locals
  pub catches : cause_by (codes "catches size is out of bounds") ≡ causes.Limit limits.Catches
  pub handlers : cause_by (codes "resume table size is out of bounds") ≡ causes.Limit limits.Catches
  pub depth : cause_by (codes "sub type hierarchy too deep: found depth 64, cannot exceed depth 63") ≡ causes.Limit limits.SubtypingDepth
  pub type_size : cause_by (codes "effective type size exceeds the limit of 3") ≡ causes.Limit limits.TypeSize
