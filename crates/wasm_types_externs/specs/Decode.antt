-- How the types of tables, memories, globals and tags are read, under whatever features.
use Rattle.std.specs.Prelude.{ℕ, ◌/◌, ◌%◌, ◌==◌, Bool, Option, Some, None, nat_lt, if◌then◌else◌}
use Rattle.wasm_types_values.specs.decoding.declared.Refusal.TheVariants.{Other}
use Rattle.wasm_types_values.specs.decoding.Decoder.{Decoder, ◌>>=◌, pure, refuse, byte}
use Rattle.wasm_types_values.specs.decoding.Leb.{u32, u64}
use Rattle.wasm_types_values.specs.declared.value.ValType.{ValType}
use Rattle.wasm_types_values.specs.Reference.{Reference}
use Rattle.wasm_types_values.specs.Decode.{reference_type}
use Rattle.wasm_types_values.specs.DecodeValues.{value_type}
use Rattle.wasm_types_externs.specs.declared.limits.LimitsFlags.{LimitsFlags}
use Rattle.wasm_types_externs.specs.declared.table.TableType.{TableType}
use Rattle.wasm_types_externs.specs.declared.memory.MemoryType.{MemoryType}
use Rattle.wasm_types_externs.specs.declared.global.GlobalType.{GlobalType}
use Rattle.wasm_types_externs.specs.declared.tag.TagKind.TheVariants.{Exception}
use Rattle.wasm_types_externs.specs.declared.tag.TagType.{TagType}
use Rattle.wasm_types_externs.specs.Spells.{flags}

-- ---- limits

-- the flags that a number below 16 holds
abbrev pub flags_in : ℕ → LimitsFlags
flags_in n = flags (n % 2 == 1) (n / 2 % 2 == 1) (n / 4 % 2 == 1) (n / 8 % 2 == 1)

-- the flags of a byte, or it is refused where it is not below this number
abbrev pub flags_after : ℕ → ℕ → Decoder LimitsFlags
flags_after bound b = if nat_lt b bound then pure (flags_in b) else refuse Other 1

-- a byte of flags
unfoldable pub limits_flags : ℕ → Decoder LimitsFlags
limits_flags bound = byte >>= flags_after bound

-- a number of 64 bits, or of 32
unfoldable pub size : Bool → Decoder ℕ
size wide = if wide then u64 else u32

-- what d reads, where it is written
unfoldable pub written : {A : Type 0} → Bool → Decoder A → Decoder (Option A)
written is d = if is then (d >>= λ x. pure (Some x)) else pure None

-- ---- types

-- a memory of its parts
abbrev pub memory_of : LimitsFlags → ℕ → Option ℕ → Option ℕ → MemoryType
memory_of f low high page = record { memory64 = f.wide; shared = f.shared; initial = low; maximum = high; page_size_log2 = page }

-- what follows the flags of a memory
unfoldable pub memory_after : LimitsFlags → Decoder MemoryType
memory_after f = size f.wide >>= λ low. written f.has_maximum (size f.wide) >>= λ high. written f.has_page_size u32 >>= λ page. pure (memory_of f low high page)

-- four flags, and what they ask for
unfoldable pub memory_type : Decoder MemoryType
memory_type = limits_flags 16 >>= memory_after

-- a table of its parts
abbrev pub table_of : Reference → LimitsFlags → ℕ → Option ℕ → TableType
table_of r f low high = record { element_type = r; table64 = f.wide; initial = low; maximum = high; shared = f.shared }

-- what follows the element and the flags of a table
unfoldable pub table_after : Reference → LimitsFlags → Decoder TableType
table_after r f = size f.wide >>= λ low. written f.has_maximum (size f.wide) >>= λ high. pure (table_of r f low high)

-- the type of the elements, three flags, and what they ask for
unfoldable pub table_type : Decoder TableType
table_type = reference_type >>= λ r. limits_flags 8 >>= table_after r

-- a global by its flags
abbrev pub global_of : ValType → ℕ → GlobalType
global_of v b = record { content_type = v; mutable = b % 2 == 1; shared = b / 2 % 2 == 1 }

-- the flags of a global are below 4, or they are refused
abbrev pub global_after : ValType → ℕ → Decoder GlobalType
global_after v b = if nat_lt b 4 then pure (global_of v b) else refuse Other 1

-- the type of the value, and two flags
unfoldable pub global_type : Decoder GlobalType
global_type = value_type >>= λ v. byte >>= global_after v

-- an exception of this type
abbrev pub tag_of : ℕ → TagType
tag_of x = record { kind = Exception; func_type_idx = x }

-- what follows the byte of a tag, which is zero
abbrev pub tag_after : ℕ → Decoder TagType
tag_after b = if b == 0 then (u32 >>= λ x. pure (tag_of x)) else refuse Other 1

-- zero, and the index of a type
unfoldable pub tag_type : Decoder TagType
tag_type = byte >>= tag_after
