-- What look-ups of types mean, and what an answer says.
use Rattle.std.specs.Prelude.{ℕ, List, length, Option, Some, None, option_and_then, slice_get}
use Rattle.wasm_types.specs.trees.declared.index.UnpackedIndex.{UnpackedIndex}
use Rattle.wasm_types.specs.trees.declared.index.UnpackedIndex.TheVariants as index
use Rattle.wasm_types.specs.trees.Types.{InnerOf, function, array_of, struct_of, continuation}
use Rattle.wasm_types.specs.trees.Trees.{TypeTree}
use Rattle.wasm_types.specs.trees.Below.{expanded}
use Rattle.wasm_types.specs.values.declared.heap.HeapType.{HeapType}
use Rattle.wasm_types.specs.values.declared.heap.HeapType.TheVariants as heap
use Rattle.wasm_types.specs.values.declared.value.ValType.{ValType}
use Rattle.wasm_types.specs.values.declared.value.ValType.TheVariants as value_type
use Rattle.wasm_types.specs.declared.composite.CompositeInnerType.{CompositeInnerType}
use Rattle.wasm_types.specs.declared.composite.CompositeInnerType.TheVariants.{Func, Array, Struct, Cont}
use Rattle.wasm_operators_immediates.specs.declared.block.BlockType.{BlockType}
use Rattle.wasm_operators_immediates.specs.declared.frames.FrameKind.{FrameKind}
use Rattle.wasm_operators_enums.specs.Op.{Op}
use Rattle.wasm_operator_validator_rules.specs.arity.Arity.{Known, Counts, counts_of}
pub use Rattle.wasm_operator_validator_arity.specs.fixed.Ended.{ended}
use Rattle.wasm_operator_validator_resources.specs.Meaning.{Meaning}

-- ---- types by ids

-- the type that an index names which is the id of a known type
abbrev pub type_by_id : Meaning → UnpackedIndex → Option TypeTree
type_by_id m (index.Module n) = None
type_by_id m (index.RecGroup n) = None
type_by_id m (index.Id i) = slice_get m.ids i.0

-- the type that a reference refers to, where it names a known id
abbrev pub type_of_heap : Meaning → HeapType → Option TypeTree
type_of_heap m (heap.Abstract s a) = None
type_of_heap m (heap.Concrete i) = type_by_id m i
type_of_heap m (heap.Exact i) = type_by_id m i

-- ---- types by any index

-- the type that an index names, if it names one: the id of a known type, or else an index of the module
abbrev pub type_named : Meaning → UnpackedIndex → Option TypeTree
type_named m (index.Module n) = slice_get m.«module».types n
type_named m (index.RecGroup n) = slice_get m.«module».types n
type_named m (index.Id i) = slice_get m.ids i.0

abbrev pub heap_named : Meaning → HeapType → Option TypeTree
heap_named m (heap.Abstract s a) = None
heap_named m (heap.Concrete i) = type_named m i
heap_named m (heap.Exact i) = type_named m i

-- the type that a value refers to, if it is a reference to a defined type
abbrev pub type_referred : Meaning → ValType → Option TypeTree
type_referred m value_type.I32 = None
type_referred m value_type.I64 = None
type_referred m value_type.F32 = None
type_referred m value_type.F64 = None
type_referred m value_type.V128 = None
type_referred m (value_type.Ref r) = heap_named m r.heap

-- ---- function types

-- a type that is a function type
abbrev pub function_alone : InnerOf TypeTree → Option (InnerOf TypeTree)
function_alone (function ps rs) = Some (function ps rs)
function_alone (array_of x) = None
function_alone (struct_of xs) = None
function_alone (continuation t) = None

abbrev pub function_by_id : Meaning → UnpackedIndex → Option (InnerOf TypeTree)
function_by_id m i = option_and_then (λ t. function_alone (expanded t)) (type_by_id m i)

abbrev pub function_named : Meaning → UnpackedIndex → Option (InnerOf TypeTree)
function_named m i = option_and_then (λ t. function_alone (expanded t)) (type_named m i)

-- ---- types as they are declared

-- how many parameters and results a type has that is a function type
abbrev pub declared_counts : CompositeInnerType → Option Counts
declared_counts (Func f) = Some (length f.params, length f.results)
declared_counts (Array a) = None
declared_counts (Struct s) = None
declared_counts (Cont c) = None

-- how many fields one has that is a struct type
abbrev pub declared_size : CompositeInnerType → Option ℕ
declared_size (Func f) = None
declared_size (Array a) = None
declared_size (Struct s) = Some (length s.fields.items)
declared_size (Cont c) = None

-- ---- continuations

-- the index of the type that a continuation goes on with
abbrev pub index_resumed : CompositeInnerType → Option UnpackedIndex
index_resumed (Func f) = None
index_resumed (Array a) = None
index_resumed (Struct s) = None
index_resumed (Cont c) = Some c.0

-- the function that a continuation goes on with, if its index names one
abbrev pub function_resumed : Meaning → CompositeInnerType → Option (InnerOf TypeTree)
function_resumed m i = option_and_then (function_named m) (index_resumed i)

-- ---- answers

-- what a module and these open frames know
abbrev pub known_by : Meaning → List (BlockType × FrameKind) → Known
known_by m fs = record { «module» = m.«module»; frames = fs }

-- the answer for an operator: what the table has, in 32 bits
abbrev pub answer_for : Meaning → List (BlockType × FrameKind) → Op → Option Counts
answer_for m fs o = ended (counts_of (known_by m fs) o)
