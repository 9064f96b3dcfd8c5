-- Immediates by their kind: how each is read where some features are allowed, and the bytes that spell it (WebAssembly 3.0,
-- binary format, instructions).
use Rattle.std.specs.Prelude.{◌≡◌, ℕ, List, Bool, false}
use Rattle.wasm_types.specs.decoding.Decoder.{Decoder, Grammar, ◌>>=◌, pure}
use Rattle.wasm_types.specs.decoding.Leb.{u32, s32, s64, IsUnsigned, IsSigned}
use Rattle.wasm_types.specs.decoding.Text.{word, IsWord}
use Rattle.wasm_types.specs.settings.Settings.{Settings}
use Rattle.wasm_types.specs.settings.Features.{has, MultiMemory, CallIndirectOverlong}
use Rattle.wasm_types.specs.values.Decode.{heap_type}
use Rattle.wasm_types.specs.values.Spelled.{Spelled}
use Rattle.wasm_operators_immediates.specs.Kinds as kind
use Rattle.wasm_operators_immediates.specs.Kinds.{Kind, IndexSpace, Memories, Tables}
use Rattle.wasm_operators_immediates.specs.Labels.{labels, SpelledLabels}
use Rattle.wasm_operators_immediates.specs.Blocks.{block_type, SpelledBlock}
use Rattle.wasm_operators_immediates.specs.Handlers.{try_table, handlers, SpelledTryTable, SpelledHandlers}
use Rattle.wasm_operators_immediates.specs.Immediates.{Immediate, kind_of, Index, IndexOrZero, Label, Block, BranchTable, MemoryArgument}
use Rattle.wasm_operators_immediates.specs.Immediates.{MemoryOrdering, Heap, CastBranch, ValueTypes, I32Constant, I64Constant, F32Constant}
use Rattle.wasm_operators_immediates.specs.Immediates.{F64Constant, V128Constant, Lane, Lanes, Count, TryTable, Handlers, ZeroByte}
use Rattle.wasm_operators_encoding.specs.declared.immediates.cast.CastBranch.{CastBranch as Branch}
use Rattle.wasm_operators_encoding.specs.immediates.Bytes.{zero_byte, index_or_zero, ordering_by, lane, shuffle, vector, select_types, IsZero}
use Rattle.wasm_operators_encoding.specs.immediates.Bytes.{IsIndexOrZero, SpelledOrdering, IsLane, IsShuffle, SpelledVector, SpelledTypes}
use Rattle.wasm_operators_encoding.specs.immediates.MemoryArguments.{memory_argument, SpelledMemArg}
use Rattle.wasm_operators_encoding.specs.immediates.Casts.{branch, cast_branch, SpelledCast}

-- whether an index may stand in the place of a byte that the first release reserved: of memories and of tables, each by a
-- feature of its own; no operator has another there
abbrev pub may_index : ℕ → IndexSpace → Bool
may_index features Memories = has MultiMemory features
may_index features Tables = has CallIndirectOverlong features
may_index features space = false

-- ---- decoders

-- f of what was read
abbrev pub read_as : {A : Type 0} → Decoder A → (A → Immediate) → Decoder Immediate
read_as d f = d >>= λ x. pure (f x)

-- a branch on a cast as an immediate
abbrev pub of_branch : Branch → Immediate
of_branch c = CastBranch c.relative_depth c.from_ref_type c.to_ref_type

-- the bits of an f32 as an immediate
abbrev pub of_bits32 : ℕ → Immediate
of_bits32 n = F32Constant (record { 0 = n })

-- the bits of an f64 as an immediate
abbrev pub of_bits64 : ℕ → Immediate
of_bits64 n = F64Constant (record { 0 = n })

-- the zero byte as an immediate
abbrev pub of_zero : ℕ → Immediate
of_zero n = ZeroByte

-- how each kind is read, where these features are allowed and these limits hold
unfoldable pub immediate : Settings → Kind → Decoder Immediate
immediate settings (kind.Index space) = read_as u32 (Index space)
immediate settings (kind.IndexOrZero space) = read_as (index_or_zero (may_index settings.features space)) (IndexOrZero space)
immediate settings kind.Label = read_as u32 Label
immediate settings kind.Block = read_as block_type Block
immediate settings kind.BranchTable = read_as (labels settings) BranchTable
immediate settings (kind.MemoryArgument access natural) = read_as (memory_argument settings.features access natural)
    (MemoryArgument access natural)
immediate settings kind.MemoryOrdering = read_as (ordering_by 0x01) MemoryOrdering
immediate settings kind.Heap = read_as heap_type Heap
immediate settings kind.CastBranch = read_as cast_branch of_branch
immediate settings kind.ValueTypes = read_as (select_types settings) ValueTypes
immediate settings kind.I32Constant = read_as s32 I32Constant
immediate settings kind.I64Constant = read_as s64 I64Constant
immediate settings kind.F32Constant = read_as (word 4) of_bits32
immediate settings kind.F64Constant = read_as (word 8) of_bits64
immediate settings kind.V128Constant = read_as vector V128Constant
immediate settings (kind.Lane lanes) = read_as (lane lanes) (Lane lanes)
immediate settings kind.Lanes = read_as shuffle Lanes
immediate settings kind.Count = read_as u32 Count
immediate settings kind.TryTable = read_as (try_table settings) TryTable
immediate settings kind.Handlers = read_as (handlers settings) Handlers
immediate settings kind.ZeroByte = read_as zero_byte of_zero

-- ---- grammars

-- standard: binary-instr: each immediate
-- standard: binary-index: the indices of each space
-- which bytes spell each immediate, where these features are allowed and these limits hold
abbrev pub SpelledImmediate : Settings → Grammar Immediate
-- x:idx
SpelledImmediate settings (Index space n) text = IsUnsigned 32 n text
-- x:idx, or 0x00 where the feature is not allowed
SpelledImmediate settings (IndexOrZero space n) text = IsIndexOrZero (may_index settings.features space) n text
-- l:labelidx
SpelledImmediate settings (Label depth) text = IsUnsigned 32 depth text
-- bt:blocktype
SpelledImmediate settings (Block ty) text = SpelledBlock ty text
-- l*:list(labelidx) l_N:labelidx
SpelledImmediate settings (BranchTable l) text = SpelledLabels settings l text
-- m:memarg
SpelledImmediate settings (MemoryArgument access natural m) text = SpelledMemArg settings.features access natural m text
-- an ordering
SpelledImmediate settings (MemoryOrdering o) text = SpelledOrdering 0x01 o text
-- ht:heaptype
SpelledImmediate settings (Heap ty) text = Spelled ty text
-- castop l:labelidx ht_1:heaptype ht_2:heaptype
SpelledImmediate settings (CastBranch depth from to) text = SpelledCast (branch depth from to) text
-- t*:list(valtype)
SpelledImmediate settings (ValueTypes tys) text = SpelledTypes settings tys text
-- n:i32
SpelledImmediate settings (I32Constant value) text = IsSigned 32 value text
-- n:i64
SpelledImmediate settings (I64Constant value) text = IsSigned 64 value text
-- p:f32
SpelledImmediate settings (F32Constant bits) text = IsWord 4 bits.0 text
-- p:f64
SpelledImmediate settings (F64Constant bits) text = IsWord 8 bits.0 text
-- b*:byte^16
SpelledImmediate settings (V128Constant value) text = SpelledVector value text
-- l:laneidx
SpelledImmediate settings (Lane lanes l) text = IsLane lanes l text
-- l*:laneidx^16
SpelledImmediate settings (Lanes l) text = IsShuffle l text
-- n:u32
SpelledImmediate settings (Count number) text = IsUnsigned 32 number text
-- bt:blocktype c*:list(catch)
SpelledImmediate settings (TryTable t) text = SpelledTryTable settings t text
-- hdl*:list(hdl)
SpelledImmediate settings (Handlers h) text = SpelledHandlers settings h text
-- 0x00
SpelledImmediate settings ZeroByte text = IsZero 0 text

-- an immediate of this kind, and its bytes
pub record OfKind (settings : Settings) (k : Kind) (i : Immediate) (text : List ℕ) : Type 0 where
  pub kind : kind_of i ≡ k
  pub spelled : SpelledImmediate settings i text
