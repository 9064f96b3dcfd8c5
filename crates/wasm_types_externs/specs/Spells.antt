-- The bytes of the types of tables, memories, globals and tags (WebAssembly 3.0, binary format, types; shared tables, memories
-- and globals by the proposals on threads and on shared everything, page sizes by that on custom page sizes).
use Rattle.std.specs.Prelude.{◌≡◌, ℕ, ◌+◌, ◌*◌, List, [], ◌∷◌, ◌++◌, Bool, true, false, Option, Some, None}
use Rattle.std.specs.Option.{is_some}
use Rattle.wasm_types_values.specs.decoding.Decoder.{Grammar}
use Rattle.wasm_types_values.specs.decoding.Leb.{IsUnsigned}
use Rattle.wasm_types_values.specs.Spelled.{SpelledValue}
use Rattle.wasm_types_values.specs.Spelled.{SpelledReference}
use Rattle.wasm_types_externs.specs.declared.limits.LimitsFlags.{LimitsFlags}
use Rattle.wasm_types_externs.specs.declared.table.TableType.{TableType}
use Rattle.wasm_types_externs.specs.declared.memory.MemoryType.{MemoryType}
use Rattle.wasm_types_externs.specs.declared.global.GlobalType.{GlobalType}
use Rattle.wasm_types_externs.specs.declared.tag.TagType.{TagType}

-- ---- limits

-- a flag as a bit
abbrev pub bit : Bool → ℕ
bit true = 1
bit false = 0

-- standard: binary-limits: flags, the first byte (differs: bit 1 for shared and bit 3 for a size of pages too)
-- The number that flags are: bit 0 where a maximum follows, bit 1 where it is shared, bit 2 where its numbers are of 64 bits, bit
-- 3 where the logarithm of a page's size follows.
abbrev pub number_of : LimitsFlags → ℕ
number_of f = bit f.has_maximum + 2 * bit f.shared + 4 * bit f.wide + 8 * bit f.has_page_size

-- the flags with these bits, the lowest first
abbrev pub flags : Bool → Bool → Bool → Bool → LimitsFlags
flags maximum shared wide page = record { has_maximum = maximum; shared = shared; wide = wide; has_page_size = page }

-- standard: binary-limits: i32, i64: the width of the numbers (differs: 32 bits for i32, not 64)
-- the bits of a number of a table or a memory, by whether it is of 64 bits
abbrev pub width : Bool → ℕ
width true = 64
width false = 32

-- standard: part of SpelledMemory
-- what there is of an option: nothing for none
abbrev pub IfWritten : {A : Type 0} → Grammar A → Grammar (Option A)
IfWritten g None text = text ≡ []
IfWritten g (Some x) text = g x text

-- the flags of a memory, and of a table
abbrev pub memory_flags : MemoryType → LimitsFlags
memory_flags m = flags (is_some m.maximum) m.shared m.memory64 (is_some m.page_size_log2)

abbrev pub table_flags : TableType → LimitsFlags
table_flags t = flags (is_some t.maximum) t.shared t.table64 false

-- ---- types

-- standard: binary-memtype: memtype (differs: shared memories and sizes of pages too)
-- standard: binary-limits: limits (differs: numbers of 32 bits for i32, not 64)
-- memtype ::= limits: the flags in a byte, the least number of pages, the largest, the logarithm of a page's size
pub record SpelledMemory (m : MemoryType) (text : List ℕ) : Type 0 where
  pub initial : List ℕ
  pub maximum : List ℕ
  pub page_size : List ℕ
  pub least : IsUnsigned (width m.memory64) m.initial initial
  pub most : IfWritten (IsUnsigned (width m.memory64)) m.maximum maximum
  pub page : IfWritten (IsUnsigned 32) m.page_size_log2 page_size
  pub whole : text ≡ number_of (memory_flags m) ∷ (initial ++ (maximum ++ page_size))

-- standard: binary-tabletype: tabletype (differs: shared tables too)
-- standard: binary-limits: limits (differs: numbers of 32 bits for i32, not 64)
-- tabletype ::= et:reftype lim:limits => lim et
pub record SpelledTable (t : TableType) (text : List ℕ) : Type 0 where
  pub element : List ℕ
  pub initial : List ℕ
  pub maximum : List ℕ
  pub stored : SpelledReference t.element_type element
  pub least : IsUnsigned (width t.table64) t.initial initial
  pub most : IfWritten (IsUnsigned (width t.table64)) t.maximum maximum
  pub whole : text ≡ element ++ (number_of (table_flags t) ∷ (initial ++ maximum))

-- standard: binary-globaltype: globaltype (differs: bit 1 for shared too)
-- globaltype ::= t:valtype mut:mut => mut t, with bit 0 where it may be written and bit 1 where it is shared
pub record SpelledGlobal (g : GlobalType) (text : List ℕ) : Type 0 where
  pub content : List ℕ
  pub stored : SpelledValue g.content_type content
  pub whole : text ≡ content ++ ((bit g.mutable + 2 * bit g.shared) ∷ [])

-- standard: binary-tagtype: tagtype
-- tagtype ::= 0x00 x:typeidx => x
pub record SpelledTag (t : TagType) (text : List ℕ) : Type 0 where
  pub index : List ℕ
  pub typed : IsUnsigned 32 t.func_type_idx index
  pub whole : text ≡ 0x00 ∷ index
