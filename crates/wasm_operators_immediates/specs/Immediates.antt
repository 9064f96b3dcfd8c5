-- What an operator carries behind its opcode (WebAssembly 3.0, binary format, instructions). What is a matter of spelling alone,
-- as the flags of a memory argument, belongs to the immediate's own bytes.
use Rattle.std.specs.Prelude.{ℕ, ℤ, List}
use Rattle.wasm_types.specs.reader.declared.words.Ieee32.{Ieee32}
use Rattle.wasm_types.specs.reader.declared.words.Ieee64.{Ieee64}
use Rattle.wasm_types.specs.values.declared.heap.HeapType.{HeapType}
use Rattle.wasm_types.specs.values.declared.value.ValType.{ValType}
use Rattle.wasm_types.specs.values.Reference.{Reference}
use Rattle.wasm_operators_immediates.specs.declared.block.BlockType.{BlockType}
use Rattle.wasm_operators_immediates.specs.declared.handlers.Handle.{Handle}
use Rattle.wasm_operators_immediates.specs.declared.memory.MemArg.{MemArg}
use Rattle.wasm_operators_immediates.specs.declared.memory.Ordering.{Ordering}
use Rattle.wasm_operators_immediates.specs.declared.vector.V128.{V128}
use Rattle.wasm_operators_immediates.specs.Tables.{Labels, CatchTable}
use Rattle.wasm_operators_immediates.specs.Kinds as kind
use Rattle.wasm_operators_immediates.specs.Kinds.{Kind, IndexSpace, AccessOrdering}

-- an immediate: its kind, and what was carried
pub data Immediate : Type 0 where
  Index : IndexSpace → ℕ → Immediate
  IndexOrZero : IndexSpace → ℕ → Immediate
  Label : ℕ → Immediate
  Block : BlockType → Immediate
  BranchTable : Labels → Immediate
  -- the access, the exponent of its natural alignment, and the argument
  MemoryArgument : AccessOrdering → ℕ → MemArg → Immediate
  MemoryOrdering : Ordering → Immediate
  Heap : HeapType → Immediate
  -- the label, and the types before and after the cast
  CastBranch : ℕ → Reference → Reference → Immediate
  ValueTypes : List ValType → Immediate
  I32Constant : ℤ → Immediate
  I64Constant : ℤ → Immediate
  F32Constant : Ieee32 → Immediate
  F64Constant : Ieee64 → Immediate
  V128Constant : V128 → Immediate
  -- how many lanes there are, and the index of one
  Lane : ℕ → ℕ → Immediate
  Lanes : List ℕ → Immediate
  Count : ℕ → Immediate
  TryTable : CatchTable → Immediate
  Handlers : List Handle → Immediate
  ZeroByte : Immediate

-- the kind of an immediate
abbrev pub kind_of : Immediate → Kind
kind_of (Index space index) = kind.Index space
kind_of (IndexOrZero space index) = kind.IndexOrZero space
kind_of (Label depth) = kind.Label
kind_of (Block ty) = kind.Block
kind_of (BranchTable labels) = kind.BranchTable
kind_of (MemoryArgument access natural memarg) = kind.MemoryArgument access natural
kind_of (MemoryOrdering ordering) = kind.MemoryOrdering
kind_of (Heap ty) = kind.Heap
kind_of (CastBranch depth from to) = kind.CastBranch
kind_of (ValueTypes tys) = kind.ValueTypes
kind_of (I32Constant value) = kind.I32Constant
kind_of (I64Constant value) = kind.I64Constant
kind_of (F32Constant bits) = kind.F32Constant
kind_of (F64Constant bits) = kind.F64Constant
kind_of (V128Constant value) = kind.V128Constant
kind_of (Lane lanes lane) = kind.Lane lanes
kind_of (Lanes lanes) = kind.Lanes
kind_of (Count number) = kind.Count
kind_of (TryTable table) = kind.TryTable
kind_of (Handlers handlers) = kind.Handlers
kind_of ZeroByte = kind.ZeroByte
