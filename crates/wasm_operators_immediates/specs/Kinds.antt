-- The kinds of immediates: what may stand behind an opcode (WebAssembly 3.0, binary format, instructions; for atomic accesses,
-- continuations and descriptors the proposals on them). A kind determines how its bytes are read.
use Rattle.std.specs.Prelude.{ℕ}

-- what an index counts (WebAssembly 3.0, structure, modules, indices)
pub data IndexSpace : Type 0 where
  Types : IndexSpace
  Functions : IndexSpace
  Tables : IndexSpace
  Memories : IndexSpace
  Globals : IndexSpace
  Locals : IndexSpace
  Tags : IndexSpace
  Elements : IndexSpace
  DataSegments : IndexSpace
  Fields : IndexSpace

-- what ordering a memory argument may name: none; that of an atomic load or store, or of what waits or notifies; that of both
-- halves of a read-modify-write
pub data AccessOrdering : Type 0 where
  Plain : AccessOrdering
  Atomic : AccessOrdering
  ReadModifyWrite : AccessOrdering

-- each kind, with all that its bytes are read by
pub data Kind : Type 0 where
  -- an index
  Index : IndexSpace → Kind
  -- an index in the place of a byte that the first release reserved: that byte is zero where the feature is not allowed
  IndexOrZero : IndexSpace → Kind
  -- a label, which counts frames outwards
  Label : Kind
  Block : Kind
  BranchTable : Kind
  -- the argument of an access with this exponent of its natural alignment
  MemoryArgument : AccessOrdering → ℕ → Kind
  MemoryOrdering : Kind
  Heap : Kind
  -- a branch on a cast: a byte that says which of the two types are nullable, a label, and the heap types of the two
  CastBranch : Kind
  -- a counted list of value types
  ValueTypes : Kind
  I32Constant : Kind
  I64Constant : Kind
  F32Constant : Kind
  F64Constant : Kind
  V128Constant : Kind
  -- the index of a lane, below this number
  Lane : ℕ → Kind
  -- the indices of the 16 lanes that a shuffle takes of two vectors, each below 32
  Lanes : Kind
  -- a number of elements
  Count : Kind
  -- a block type and a list of clauses
  TryTable : Kind
  -- a list of handlers
  Handlers : Kind
  -- a byte that is zero
  ZeroByte : Kind
