-- What runs in the worked rows, over which store: a small program with one of each.
use Rattle.std.specs.Prelude.{◌≡◌, ℕ, ℤ, pos, true, false, List, [], ◌∷◌, ◌++◌, Some, None}
use Rattle.wasm_types.specs.trees.Types.{any, func, exn, abstract, number, ref, i32, i8, i16, function, struct_of}
use Rattle.wasm_types.specs.trees.Trees.{TypeTree}
use Rattle.wasm_types.specs.externs.declared.memory.MemoryType.{MemoryType}
use Rattle.wasm_operators_immediates.specs.declared.block.BlockType.TheVariants as block
use Rattle.wasm_operators_immediates.specs.declared.handlers.Catch.TheVariants as catch
use Rattle.wasm_operators_enums.specs.declared.bulk.BulkOperator.{BulkOperator}
use Rattle.wasm_operators_enums.specs.declared.constant.ConstOperator.TheVariants as const
use Rattle.wasm_operators_enums.specs.declared.control.ControlOperator.{ControlOperator}
use Rattle.wasm_operators_enums.specs.declared.control.ControlOperator.TheVariants as control
use Rattle.wasm_operators_enums.specs.declared.gc.GcOperator.{GcOperator}
use Rattle.wasm_operators_enums.specs.declared.memory.MemoryOperator.{MemoryOperator}
use Rattle.wasm_operators_enums.specs.Op as op
use Rattle.wasm_operators_enums.specs.Op.{Op}
use Rattle.wasm_operators_encoding.specs.expressions.Code.{Code, plain}
use Rattle.wasm_operator_validator_rules.specs.Operands.{ValueType}
use Rattle.wasm_operator_validator_rules.specs.Context.{Table, Global}
use Rattle.wasm_operator_validator_soundness.specs.runs.Values.{Function, Program, Value, number_value, ref_null, ref_function, ref_object, ref_i31}
use Rattle.wasm_operator_validator_soundness.specs.runs.States.{Activation, State, Answer, Outcome, returned}
use Rattle.wasm_operator_validator_soundness.specs.runs.Machine.{begun_with}
use Rattle.wasm_operator_validator_soundness.specs.runs.Soundness.{step}
use Rattle.wasm_operator_validator_soundness.specs.runs.worked.Runs.{alone, small, standing, silent, end, gives_i32, takes_i32, pair, cells, octets}
use Rattle.wasm_operator_validator_store.specs.Stores.{GlobalInstance, MemoryInstance, ObjectInstance, Store, nothing}
use Rattle.wasm_operator_validator_store.specs.Giving.{GivesStep}
use Rattle.wasm_operator_validator_store.specs.Soundness.{StoreRuns}

-- ---- values

abbrev pub num : ℕ → Value
num b = number_value i32 b

abbrev pub first_pair : Value
first_pair = ref_object 0 pair

abbrev pub other_pair : Value
other_pair = ref_object 1 pair

abbrev pub some_cells : Value
some_cells = ref_object 2 cells

abbrev pub some_octets : Value
some_octets = ref_object 3 octets

abbrev pub scalar : Value
scalar = ref_i31 4

-- ---- types that the small program has not: a struct of two packed fields, and a block that gives an exception

abbrev pub bytes : TypeTree
bytes = alone None (struct_of (record { storage = i8; mutable = true } ∷ record { storage = i16; mutable = true } ∷ []))

abbrev pub gives_exception : TypeTree
gives_exception = alone None (function [] (ref true (abstract false exn) ∷ []))

-- ---- a store

abbrev pub object : TypeTree → List Value → ObjectInstance
object t vs = record { type = t; fields = vs }

abbrev pub objects : List ObjectInstance
objects = object pair (num 7 ∷ []) ∷ object pair (num 8 ∷ []) ∷ object cells (nothing ∷ nothing ∷ nothing ∷ [])
    ∷ object octets (num 511 ∷ num 128 ∷ []) ∷ []

abbrev pub own : Value
own = ref_function (Some 0) gives_i32

-- a global that may be written, one that may not, and two tables of functions, one by indices of 64 bits
abbrev pub counter : Global
counter = record { content = number i32; mutable = true; shared = false }

abbrev pub constant : Global
constant = record { content = number i32; mutable = false; shared = false }

abbrev pub callees : Table
callees = record { element = ref true (abstract false func); table64 = false; shared = false }

abbrev pub wide_callees : Table
wide_callees = record callees { table64 = true }

-- Memories: with pages of one byte, which may have two more; by addresses of 64 bits, with no maximum; one that other threads use; and one
-- of no page, as in the standard, which may have two
abbrev pub small_memory : MemoryType
small_memory = record { memory64 = false; shared = false; initial = 8; maximum = Some 10; page_size_log2 = Some 0 }

abbrev pub wide_memory : MemoryType
wide_memory = record { memory64 = true; shared = false; initial = 4; maximum = None; page_size_log2 = Some 0 }

abbrev pub shared_memory : MemoryType
shared_memory = record { memory64 = false; shared = true; initial = 4; maximum = Some 8; page_size_log2 = Some 0 }

abbrev pub empty_memory : MemoryType
empty_memory = record { memory64 = false; shared = false; initial = 0; maximum = Some 2; page_size_log2 = None }

abbrev pub small_bytes : List ℕ
small_bytes = 1 ∷ 2 ∷ 253 ∷ 254 ∷ 5 ∷ 6 ∷ 7 ∷ 128 ∷ []

abbrev pub memory_of : MemoryType → List ℕ → MemoryInstance
memory_of t bs = record { type = t; bytes = bs }

abbrev pub holds : Global → Value → GlobalInstance
holds g v = record { type = g; value = v }

abbrev pub store : Store
store = record {
  globals = holds counter (num 1) ∷ holds constant (num 2) ∷ [];
  tables = record { type = callees; elements = ref_null false func ∷ ref_null false func ∷ [] }
      ∷ record { type = wide_callees; elements = own ∷ ref_null false func ∷ ref_null false func ∷ [] } ∷ [];
  memories = memory_of small_memory small_bytes ∷ memory_of wide_memory (9 ∷ 8 ∷ 7 ∷ 6 ∷ []) ∷ memory_of shared_memory (1 ∷ 1 ∷ 1 ∷ 1 ∷ [])
      ∷ memory_of empty_memory [] ∷ [];
  segments = (own ∷ own ∷ []) ∷ (first_pair ∷ scalar ∷ []) ∷ [];
  data_segments = (10 ∷ 20 ∷ 30 ∷ 40 ∷ 255 ∷ []) ∷ (77 ∷ []) ∷ [];
  objects = objects;
  exceptions = record { tag = 1; values = num 6 ∷ [] } ∷ [];
  tags = takes_i32 ∷ takes_i32 ∷ [];
  externs = [];
  addresses = record { globals = 0 ∷ 1 ∷ []; tables = 0 ∷ 1 ∷ []; memories = 0 ∷ 1 ∷ 2 ∷ 3 ∷ []; tags = 1 ∷ 0 ∷ [] };
}

-- ---- answers

abbrev pub giving : List Value → Answer
giving vs = record silent { values = vs }

abbrev pub making : ℕ → Answer
making b = record silent { made = b }

abbrev pub trapping : Answer
trapping = record silent { traps = true }

-- a call through a table finds this, of the right type
abbrev pub finding : Value → Answer
finding v = record silent { held = v; condition = true }

-- an exception at this address leaves so many labels, and this clause catches it
abbrev pub throwing : ℕ → ℕ → ℕ → Answer
throwing k leaves clause = record silent { made = k; leaves = leaves; index = clause }

abbrev pub numbers : List ValueType
numbers = number i32 ∷ []

-- a handler whose first clause is for the other tag
abbrev pub guarded : Op
guarded = op.Exception (op.TryTable (record { ty = block.Empty; catches = catch.OneRef 1 0 ∷ catch.One 0 0 ∷ [] }))

-- ---- what runs

-- a function of the host
abbrev pub of_host : Function
of_host = record { type = gives_i32; body = None }

-- The small program, two types and a function of the host, with two tables of functions, a segment of them and one of references, two globals, two tags
-- of one type, four memories, and two data segments.
abbrev pub program : Program
program = record (small (pos 5)) {
  «module» = record (small (pos 5)).«module» {
    types = (small (pos 5)).«module».types ++ bytes ∷ gives_exception ∷ [];
    functions = (small (pos 5)).«module».functions ++ gives_i32 ∷ [];
    tables = callees ∷ wide_callees ∷ [];
    memories = small_memory ∷ wide_memory ∷ shared_memory ∷ empty_memory ∷ [];
    elements = ref true (abstract false func) ∷ ref true (abstract false any) ∷ [];
    globals = counter ∷ constant ∷ [];
    tags = takes_i32 ∷ takes_i32 ∷ [];
  };
  functions = (small (pos 5)).functions ++ of_host ∷ [];
}

-- one activation that gives these types, with a local, over these values
abbrev pub in_place : List ValueType → List Value → Code → State
in_place ts vs c =
    let act : Activation = begun_with (number i32 ∷ []) ts false (Some (num 0) ∷ []) ts c in record act
    { innermost = record act.innermost { values = vs } } ∷ []

-- A state comes, under answers that the store gives, to this outcome; and so does code above these values.
abbrev pub LeadsFrom : State → List Answer → Answer → Outcome → Type 0
LeadsFrom x answers a o = (w : Store) × (y : State) × (u : Store) × StoreRuns program store x answers w y
    × GivesStep program y w a u × ((step program y a).outcome ≡ o)

abbrev pub Leads : Code → List Value → List Answer → Answer → Outcome → Type 0
Leads c vs answers a o = LeadsFrom (standing numbers vs c) answers a o

abbrev pub returns : ℕ → Outcome
returns b = returned (num b ∷ [])

-- ---- code

abbrev pub gc_then : GcOperator → Code → Code
gc_then o more = plain (op.Gc o) more

abbrev pub bulk_then : BulkOperator → Code → Code
bulk_then o more = plain (op.Bulk o) more

abbrev pub control_then : ControlOperator → Code → Code
control_then o more = plain (op.Control o) more

abbrev pub memory_then : MemoryOperator → Code → Code
memory_then o more = plain (op.Memory o) more

abbrev pub const_then : ℤ → Code → Code
const_then n more = plain (op.Const (const.I32Const n)) more

abbrev pub drop_then : Code → Code
drop_then more = plain (op.Parametric op.Drop) more

abbrev pub unreachable : Code
unreachable = control_then control.Unreachable end
