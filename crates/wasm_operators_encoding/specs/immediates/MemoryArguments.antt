-- Memory arguments as bytes (WebAssembly 3.0, binary format, memory instructions; orderings by the proposal on shared
-- everything), and how they are read where some features are allowed.
use Rattle.std.specs.Prelude.{◌≡◌, ℕ, ◌+◌, ◌/◌, ◌%◌, ◌<◌, ◌==◌, ◌&&◌, List, [], ◌++◌, Bool, true, false, Option, Some, None, nat_lt, if◌then◌else◌}
use Rattle.wasm_types.specs.decoding.declared.Refusal.TheVariants.{Other}
use Rattle.wasm_types.specs.decoding.Decoder.{Decoder, Grammar, ◌>>=◌, pure}
use Rattle.wasm_types.specs.decoding.Leb.{u32, u64, IsUnsigned}
use Rattle.wasm_types.specs.decoding.Lists.{refuse_at}
use Rattle.wasm_types.specs.settings.Features.{has, MultiMemory, Memory64, SharedEverythingThreads}
use Rattle.wasm_operators_immediates.specs.declared.memory.MemArg.{MemArg}
use Rattle.wasm_operators_immediates.specs.declared.memory.MemArgOrdering.{MemArgOrdering}
use Rattle.wasm_operators_immediates.specs.declared.memory.MemArgOrdering.TheVariants.{Op, Rmw}
use Rattle.wasm_operators_immediates.specs.declared.memory.MemArgTarget.TheVariants.{Memory}
use Rattle.wasm_operators_immediates.specs.Kinds.{AccessOrdering, Plain, Atomic, ReadModifyWrite}
use Rattle.wasm_operators_immediates.specs.Blocks.{refuse_here}
use Rattle.wasm_operators_encoding.specs.declared.immediates.memory_argument.Flags.{Flags}
use Rattle.wasm_operators_encoding.specs.immediates.Bytes.{ordering_by, SpelledOrdering}

-- ---- what is allowed

-- whether an access is atomic
abbrev pub is_atomic : AccessOrdering → Bool
is_atomic Plain = false
is_atomic Atomic = true
is_atomic ReadModifyWrite = true

-- whether an ordering may be named
abbrev pub may_order : ℕ → AccessOrdering → Bool
may_order features access = has SharedEverythingThreads features && is_atomic access

-- ---- flags

-- this much, if it is set
abbrev pub weight : Bool → ℕ → ℕ
weight true n = n
weight false n = 0

-- standard: binary-instr-memory: memarg: the flags (differs: bit 5 for an ordering too)
-- the exponent of the alignment, 2^5 where an ordering follows, and 2^6 where the index of a memory does
abbrev pub number_of : Flags → ℕ
number_of f = f.align + weight f.has_ordering 0x20 + weight f.has_memory 0x40

-- the flags that a number below 128 holds
abbrev pub flags_in : ℕ → Flags
flags_in n = record { align = n % 16; has_ordering = n / 32 % 2 == 1; has_memory = n / 64 == 1 }

-- whether something is asked for that is not allowed
abbrev pub lacks : Bool → Bool → Bool
lacks true false = true
lacks true true = false
lacks false allowed = false

-- these flags, if what they ask for is allowed
abbrev pub allowed : Bool → Bool → ℕ → Flags → Decoder Flags
allowed order memory place f = if lacks f.has_ordering order then refuse_at Other place else
    (if lacks f.has_memory memory then refuse_at Other place else pure f)

-- the flags of a number, which is refused at this offset where it has no flags or they are not allowed
abbrev pub flags_from : Bool → Bool → ℕ → ℕ → Decoder Flags
flags_from order memory place n = if nat_lt n 128 then
    (if n / 16 % 2 == 0 then allowed order memory place (flags_in n) else refuse_at Other place) else refuse_at Other place

-- flags, where an ordering and a memory may be named or not; else they are refused at their offset
unfoldable pub flags : Bool → Bool → Decoder Flags
flags order memory s = (u32 >>= flags_from order memory s.place) s

-- ---- what follows them

-- the index of a memory where one is named, else memory 0
unfoldable pub named_memory : Bool → Decoder ℕ
named_memory named = if named then u32 else pure 0

-- the ordering by the byte of such an access; both halves of a read-modify-write have one
unfoldable pub access_ordering : AccessOrdering → Decoder MemArgOrdering
access_ordering Plain = refuse_here Other
access_ordering Atomic = ordering_by 0x01 >>= λ o. pure (Op o)
access_ordering ReadModifyWrite = ordering_by 0x11 >>= λ o. pure (Rmw o)

-- an ordering where one is named
unfoldable pub named_ordering : AccessOrdering → Bool → Decoder (Option MemArgOrdering)
named_ordering access named = if named then (access_ordering access >>= λ o. pure (Some o)) else pure None

-- an offset of 64 bits, or of 32
unfoldable pub offset : Bool → Decoder ℕ
offset wide = if wide then u64 else u32

-- a memory argument of its parts
abbrev pub argument : ℕ → ℕ → ℕ → Option MemArgOrdering → ℕ → MemArg
argument align natural memory ordering x = record { align = align; max_align = natural; offset = x; memory = memory; ordering = ordering; target = Memory }

-- what follows these flags
unfoldable pub after_flags : ℕ → AccessOrdering → ℕ → Flags → Decoder MemArg
after_flags features access natural f =
    named_memory f.has_memory >>= λ memory. named_ordering access f.has_ordering >>= λ ordering. offset (has Memory64 features) >>= λ x. pure
    (argument f.align natural memory ordering x)

-- the argument of such an access with this exponent of its natural alignment
unfoldable pub memory_argument : ℕ → AccessOrdering → ℕ → Decoder MemArg
memory_argument features access natural = flags (may_order features access)
    (has MultiMemory features) >>= after_flags features access natural

-- ---- grammars

-- standard: binary-instr-memory: memarg: the flags (differs: an exponent of 16 or more is malformed, not invalid; bit 6 needs multi-memory)
-- n:u32 => the exponent of the alignment, below 2^4, and what follows the flags, of what may follow them
pub record SpelledFlags (order memory : Bool) (f : Flags) (text : List ℕ) : Type 0 where
  pub number : IsUnsigned 32 (number_of f) text
  pub align : f.align < 16
  pub may_order : f.has_ordering ≡ true → order ≡ true
  pub may_name : f.has_memory ≡ true → memory ≡ true

-- standard: binary-instr-memory: memarg: the memory, 0 if none is named
-- x:memidx => x, and memory 0 where none is named
abbrev pub NamedMemory : Bool → Grammar ℕ
NamedMemory true x text = IsUnsigned 32 x text
NamedMemory false x text = (x ≡ 0) × (text ≡ [])

-- standard: proposal-shared-everything-threads: the ordering in a memory argument
-- 0x00 => seq_cst; acq_rel is 0x01, and 0x11 for both halves of a read-modify-write
abbrev pub SpelledAccessOrdering : AccessOrdering → Grammar MemArgOrdering
SpelledAccessOrdering Plain o text = ⊥
SpelledAccessOrdering Atomic (Op o) text = SpelledOrdering 0x01 o text
SpelledAccessOrdering Atomic (Rmw o) text = ⊥
SpelledAccessOrdering ReadModifyWrite (Op o) text = ⊥
SpelledAccessOrdering ReadModifyWrite (Rmw o) text = SpelledOrdering 0x11 o text

-- standard: part of SpelledAccessOrdering
-- an ordering where one is named, and nothing else
abbrev pub NamedOrdering : AccessOrdering → Bool → Grammar (Option MemArgOrdering)
NamedOrdering access true (Some o) text = SpelledAccessOrdering access o text
NamedOrdering access true None text = ⊥
NamedOrdering access false (Some o) text = ⊥
NamedOrdering access false None text = text ≡ []

-- standard: binary-instr-memory: memarg: the offset is of 64 bits (differs: of 32 without memory64)
-- the bits of an offset
abbrev pub offset_bits : Bool → ℕ
offset_bits true = 64
offset_bits false = 32

-- standard: binary-instr-memory: memarg (differs: an ordering too; an offset of 32 bits without memory64)
-- memarg ::= n:flags x:memidx o:ordering m:offset => the argument with these, the memory and the ordering where the flags say so
pub record SpelledMemArg (features : ℕ) (access : AccessOrdering) (natural : ℕ) (m : MemArg) (text : List ℕ) : Type 0 where
  pub flags : Flags
  pub flags_text : List ℕ
  pub memory_text : List ℕ
  pub ordering_text : List ℕ
  pub offset_text : List ℕ
  pub flagged : SpelledFlags (may_order features access) (has MultiMemory features) flags flags_text
  pub align : m.align ≡ flags.align
  pub max_align : m.max_align ≡ natural
  pub target : m.target ≡ Memory
  pub memory : NamedMemory flags.has_memory m.memory memory_text
  pub ordering : NamedOrdering access flags.has_ordering m.ordering ordering_text
  pub offset : IsUnsigned (offset_bits (has Memory64 features)) m.offset offset_text
  pub whole : text ≡ flags_text ++ (memory_text ++ (ordering_text ++ offset_text))
