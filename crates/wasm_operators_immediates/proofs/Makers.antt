-- How an operator is made of its immediates again.
use Rattle.std.proofs.Common.{ℕ, ℤ, List, [], ◌∷◌, false, Option, Some, None}
use Rattle.wasm_types.specs.reader.declared.words.Ieee32.{Ieee32}
use Rattle.wasm_types.specs.reader.declared.words.Ieee64.{Ieee64}
use Rattle.wasm_types.specs.values.declared.heap.HeapType.{HeapType}
use Rattle.wasm_types.specs.values.declared.heap.HeapType.TheVariants.{Abstract}
use Rattle.wasm_types.specs.values.declared.heap.AbstractHeapType.TheVariants.{Func}
use Rattle.wasm_types.specs.values.declared.value.ValType.{ValType}
use Rattle.wasm_types.specs.values.Reference.{Reference}
use Rattle.wasm_operators_immediates.specs.declared.block.BlockType.{BlockType}
use Rattle.wasm_operators_immediates.specs.declared.block.BlockType.TheVariants.{Empty}
use Rattle.wasm_operators_immediates.specs.declared.handlers.Handle.{Handle}
use Rattle.wasm_operators_immediates.specs.declared.memory.MemArg.{MemArg}
use Rattle.wasm_operators_immediates.specs.declared.memory.MemArgTarget.TheVariants.{Memory}
use Rattle.wasm_operators_immediates.specs.declared.memory.Ordering.{Ordering}
use Rattle.wasm_operators_immediates.specs.declared.vector.V128.{V128}
use Rattle.wasm_operators_immediates.specs.Tables.{Labels, CatchTable}
use Rattle.wasm_operators_immediates.specs.Immediates.{Immediate, Index, IndexOrZero, Label, Block, BranchTable, MemoryArgument, MemoryOrdering, Heap}
use Rattle.wasm_operators_immediates.specs.Immediates.{CastBranch, ValueTypes, I32Constant, I64Constant, F32Constant, F64Constant, V128Constant, Lane}
use Rattle.wasm_operators_immediates.specs.Immediates.{Lanes, Count, TryTable, Handlers}

-- ---- what an immediate carries

abbrev pub number : Immediate → Option ℕ
number (Index space n) = Some n
number (IndexOrZero space n) = Some n
number (Label n) = Some n
number (Lane lanes n) = Some n
number (Count n) = Some n
number i = None

abbrev pub block : Immediate → Option BlockType
block (Block ty) = Some ty
block i = None

abbrev pub labels : Immediate → Option Labels
labels (BranchTable l) = Some l
labels i = None

abbrev pub argument : Immediate → Option MemArg
argument (MemoryArgument access natural m) = Some m
argument i = None

abbrev pub ordering : Immediate → Option Ordering
ordering (MemoryOrdering o) = Some o
ordering i = None

abbrev pub heap : Immediate → Option HeapType
heap (Heap ty) = Some ty
heap i = None

abbrev pub types : Immediate → Option (List ValType)
types (ValueTypes tys) = Some tys
types i = None

abbrev pub signed : Immediate → Option ℤ
signed (I32Constant n) = Some n
signed (I64Constant n) = Some n
signed i = None

abbrev pub float32 : Immediate → Option Ieee32
float32 (F32Constant f) = Some f
float32 i = None

abbrev pub float64 : Immediate → Option Ieee64
float64 (F64Constant f) = Some f
float64 i = None

abbrev pub vector : Immediate → Option V128
vector (V128Constant v) = Some v
vector i = None

abbrev pub lanes : Immediate → Option (List ℕ)
lanes (Lanes l) = Some l
lanes i = None

abbrev pub clauses : Immediate → Option CatchTable
clauses (TryTable t) = Some t
clauses i = None

abbrev pub handlers : Immediate → Option (List Handle)
handlers (Handlers h) = Some h
handlers i = None

-- ---- an operator of none, one, two or three immediates

abbrev pub Maker : Type 0 → Type 0
Maker G = List Immediate → Option G

module _ {G : Type 0} where
  abbrev pub with : {A : Type 0} → Option A → (A → Option G) → Option G
  with (Some a) f = f a
  with None f = None

  abbrev pub bare : G → Maker G
  bare o is = Some o

  abbrev pub one : {A : Type 0} → (Immediate → Option A) → (A → G) → Maker G
  one first f [] = None
  one first f (i ∷ is) = with (first i) (λ a. Some (f a))

  abbrev pub two : {A B : Type 0} → (Immediate → Option A) → (Immediate → Option B) → (A → B → G) → Maker G
  two first second f [] = None
  two first second f (i ∷ is) = with (first i) (λ a. one second (f a) is)

  abbrev pub three : {A B C : Type 0} → (Immediate → Option A) → (Immediate → Option B) → (Immediate → Option C) → (A → B → C → G) → Maker G
  three first second third f [] = None
  three first second third f (i ∷ is) = with (first i) (λ a. two second third (f a) is)

  -- a branch on a cast: a label and two types
  abbrev pub cast : (ℕ → Reference → Reference → G) → Maker G
  cast f (CastBranch depth from to ∷ is) = Some (f depth from to)
  cast f is = None

-- ---- something of each sort, for one operator of each variant

abbrev pub some_argument : MemArg
some_argument = record { align = 0; max_align = 0; offset = 0; memory = 0; ordering = None; target = Memory }

abbrev pub some_labels : Labels
some_labels = record { targets = []; default = 0 }

abbrev pub some_heap : HeapType
some_heap = Abstract false Func

abbrev pub some_reference : Reference
some_reference = record { nullable = false; heap = some_heap }

abbrev pub some_vector : V128
some_vector = record { 0 = [] }

abbrev pub some_float32 : Ieee32
some_float32 = record { 0 = 0 }

abbrev pub some_float64 : Ieee64
some_float64 = record { 0 = 0 }

abbrev pub some_clauses : CatchTable
some_clauses = record { ty = Empty; catches = [] }
