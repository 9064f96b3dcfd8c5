-- What the rules know at a place in a body (WebAssembly 3.0, validation, conventions, contexts).
use Rattle.std.specs.Prelude.{◌≡◌, ◌<◌, ℕ, Bool, true, false, IsTrue, List, [], ◌∷◌, length, Option, Some, None, slice_get, nat_lt, if◌then◌else◌}
use Rattle.wasm_types.specs.settings.Features.{MultiValue}
use Rattle.wasm_types.specs.trees.declared.index.UnpackedIndex.{UnpackedIndex}
use Rattle.wasm_types.specs.trees.declared.index.UnpackedIndex.TheVariants as index
use Rattle.wasm_types.specs.trees.Types.{i32, i64, number, ref, function, value_map}
use Rattle.wasm_types.specs.trees.Each.{EachValue}
use Rattle.wasm_types.specs.trees.Gates.{Has, ValueIsAllowed}
use Rattle.wasm_types.specs.trees.Trees.{TypeTree}
use Rattle.wasm_types.specs.trees.Below.{expanded}
use Rattle.wasm_types.specs.trees.ValidGroup.{type_at}
use Rattle.wasm_types.specs.values.declared.value.ValType.{ValType}
use Rattle.wasm_types.specs.values.Values.{value_of}
use Rattle.wasm_types.specs.externs.declared.memory.MemoryType.{MemoryType}
use Rattle.wasm_operators_immediates.specs.declared.block.BlockType.{BlockType}
use Rattle.wasm_operators_immediates.specs.declared.block.BlockType.TheVariants as block
use Rattle.wasm_operators_immediates.specs.declared.frames.FrameKind.{FrameKind}
use Rattle.wasm_operators_immediates.specs.declared.frames.FrameKind.TheVariants as frames
use Rattle.wasm_operator_validator_rules.specs.Operands.{ValueType}

-- ---- the module

-- a table: its element type, whether it is indexed by 64 bits, whether it is shared
pub record Table : Type 0 where
  pub element : ValueType
  pub table64 : Bool
  pub shared : Bool

-- a global: its type, whether it may be written, whether it is shared
pub record Global : Type 0 where
  pub content : ValueType
  pub mutable : Bool
  pub shared : Bool

-- standard: valid-context: C: types, funcs, tables, mems, globals, tags, elems, datas, refs
-- The index spaces of a module: types, functions by their types, tables, memories, globals, tags by their types, element
-- segments by their types, and how many data segments the data count section names, where it stands. Besides, the indices
-- of functions that code may refer to, and of those whose type is known exactly (the proposal on custom descriptors).
pub record Module : Type 0 where
  pub types : List TypeTree
  pub functions : List TypeTree
  pub tables : List Table
  pub memories : List MemoryType
  pub globals : List Global
  pub tags : List TypeTree
  pub elements : List ValueType
  pub data_count : Option ℕ
  pub referenced : List ℕ
  pub exact_functions : List ℕ

-- ---- the context of an instruction

-- standard: valid-context: C: locals, labels, return
-- the features, the module, the locals, what a branch to each open frame takes, the innermost first, which of these frames are
-- clauses of an older `try`, the function's results, and whether the function is shared
pub record Context : Type 0 where
  pub bits : ℕ
  pub «module» : Module
  pub locals : List ValueType
  pub labels : List (List ValueType)
  pub catches : List Bool
  pub results : List ValueType
  pub shared : Bool

-- standard: proposal-shared-everything-threads: a shared function uses what is shared
-- a shared function may use what is shared alone (the proposal on shared everything)
abbrev pub MayUse : Context → Bool → Type 0
MayUse g shared = IsTrue g.shared → IsTrue shared

-- standard: part of MayUse
abbrev pub may_use : Context → Bool → Bool
may_use g true = true
may_use g false = if g.shared then false else true

-- which locals are initialised
abbrev pub Initialised : Type 0
Initialised = ℕ → Bool

-- ---- types that code writes

-- standard: valid-typeuse: typeidx, the type that it is
-- the type that a module means by an index that it writes
abbrev pub written_type : Module → UnpackedIndex → TypeTree
written_type g (index.Module n) = type_at g.types n
written_type g (index.RecGroup n) = type_at g.types n
written_type g (index.Id i) = type_at g.types i.0

-- standard: valid-typeuse: typeidx
-- a module writes indices of its own types alone
abbrev pub IsTypeIndex : Module → UnpackedIndex → Type 0
IsTypeIndex g (index.Module n) = n < length g.types
IsTypeIndex g (index.RecGroup n) = ⊥
IsTypeIndex g (index.Id i) = ⊥

-- standard: valid-valtype: valtype, as code writes it
-- a value type that a module may write under these features, and the type that it is (validation, types, value types)
pub record IsType (bits : ℕ) (g : Module) (written : ValType) (t : ValueType) : Type 0 where
  pub allowed : ValueIsAllowed bits (value_of written)
  pub known : EachValue (IsTypeIndex g) (value_of written)
  pub is : t ≡ value_map (written_type g) (value_of written)

-- ---- functions and blocks

-- what a function or a block takes and gives
pub record Signature : Type 0 where
  pub params : List ValueType
  pub results : List ValueType

-- standard: aux-expand-deftype: expand, to a function type
-- the function type that a type is (validation, types, expansion)
abbrev pub IsFunctionType : TypeTree → Signature → Type 0
IsFunctionType t b = expanded t ≡ function b.params b.results

-- standard: valid-blocktype: typeidx, valtype (differs: a type index needs multi-value)
-- what a block type means (validation, types, block types)
abbrev pub IsBlockType : Context → BlockType → Signature → Type 0
IsBlockType g block.Empty b = b ≡ record { params = []; results = [] }
IsBlockType g (block.Val written) b = (t : ValueType) × IsType g.bits g.«module» written t × (b ≡ record { params = []; results = t ∷ [] })
IsBlockType g (block.FuncType x) b = Has g.bits MultiValue × (t : TypeTree) × (slice_get g.«module».types x ≡ Some t) × IsFunctionType t b

-- an open frame: its kind, its type, and the locals that were initialised where it began
pub record Frame : Type 0 where
  pub kind : FrameKind
  pub block : Signature
  pub before : Initialised

-- standard: valid-instr-control: block, loop, if, try_table: the type of the label
-- what a branch to a frame takes (validation, control instructions)
abbrev pub label_of : FrameKind → Signature → List ValueType
label_of frames.Loop b = b.params
label_of _ b = b.results

-- standard: proposal-exceptions-older: a clause of an older try
-- a clause of an older `try`, in which an exception may be thrown again (the proposal on exceptions, its older form)
abbrev pub is_catch : FrameKind → Bool
is_catch frames.LegacyCatch = true
is_catch frames.LegacyCatchAll = true
is_catch k = false

-- within a frame of this kind
abbrev pub inside : FrameKind → List ValueType → Context → Context
inside k label g = record g { labels = label ∷ g.labels; catches = is_catch k ∷ g.catches }

-- the innermost frame is a clause from here on
abbrev pub marked : List Bool → List Bool
marked [] = []
marked (c ∷ cs) = true ∷ cs

abbrev pub in_clause : Context → Context
in_clause g = record g { catches = marked g.catches }

-- ---- locals

-- standard: valid-defaultable: default values
-- a local of such a type has a value from the start (validation, types, defaultable types)
abbrev pub defaultable : ValueType → Bool
defaultable (number n) = true
defaultable (ref n h) = n

abbrev pub is_defaulted : Option ValueType → Bool
is_defaulted None = false
is_defaulted (Some t) = defaultable t

-- standard: valid-func: which locals are set at first
-- the locals that are initialised where a body begins, of which the first so many are parameters
abbrev pub initialised_at_first : ℕ → List ValueType → Initialised
initialised_at_first params locals x = if nat_lt x params then true else is_defaulted (slice_get locals x)

-- ---- addresses and indices

-- standard: valid-context: addrtype
-- the type of addresses of a memory, and of indices of a table, of 64 bits or 32
abbrev pub address_type : Bool → ValueType
address_type true = number i64
address_type false = number i32
