-- A worked program that imports one global, one table and one memory twice, and the store that the host gives it. What the premises of the
-- laws ask holds of both, so the laws are not about nothing. What is written by one index is read by the other, a function of the host is
-- called through a table and returns or traps, and the program's own globals, table, memory, tag and segments are at new addresses.
use Rattle.std.specs.Prelude.{◌≡◌, ◌+◌, ◌^◌, ℕ, ℤ, pos, true, false, List, [], ◌∷◌, Some, None}
use Rattle.wasm_types.specs.trees.Types.{func, ref, abstract}
use Rattle.wasm_types.specs.externs.declared.memory.MemoryType.{MemoryType}
use Rattle.wasm_operators_enums.specs.declared.bulk.BulkOperator.TheVariants as bulk
use Rattle.wasm_operators_enums.specs.declared.constant.ConstOperator.TheVariants as const
use Rattle.wasm_operators_enums.specs.declared.control.ControlOperator.TheVariants as control
use Rattle.wasm_operators_enums.specs.declared.memory.MemoryOperator.TheVariants as memory
use Rattle.wasm_operators_enums.specs.Op as op
use Rattle.wasm_operators_enums.specs.Op.{Op}
use Rattle.wasm_operators_encoding.specs.expressions.Code.{plain}
use Rattle.wasm_operator_validator_soundness.specs.runs.Values.{Body, Program, Value, ref_null, ref_function}
use Rattle.wasm_operator_validator_soundness.specs.runs.States.{State, Answer, Outcome, trapped}
use Rattle.wasm_operator_validator_soundness.specs.runs.Machine.{begun}
use Rattle.wasm_operator_validator_soundness.specs.runs.Soundness.{step, IsValidProgram, IsStarted}
use Rattle.wasm_operator_validator_soundness.specs.runs.worked.Caught.{gives_number, own, end}
use Rattle.wasm_operator_validator_soundness.specs.runs.worked.Older.{gives_type, tag_type}
use Rattle.wasm_operator_validator_soundness.specs.runs.worked.Runs.{silent}
use Rattle.wasm_operator_validator_store.specs.Stores.{TableInstance, Store, integer_bits, global_in, table_in, memory_in}
use Rattle.wasm_operator_validator_store.specs.ValidStores.{Knows, HasState, StoreFits}
use Rattle.wasm_operator_validator_store.specs.Giving.{GivesStep}
use Rattle.wasm_operator_validator_store.specs.Soundness.{StoreRuns, IsSoundOver}
use Rattle.wasm_operator_validator_store.specs.Instantiation.{function_item, kept, written, Initials, AreInitials, imports_of, IsFirstStore}
use Rattle.wasm_operator_validator_store.specs.worked.Program.{num, numbers, counter, constant, callees, small_memory, small_bytes, memory_of, holds, giving, returns}

-- ---- what the host gives: a number, a table of a function of its own and a null, and a memory of eight bytes

abbrev pub of_host : Value
of_host = ref_function None gives_type

abbrev pub callable : TableInstance
callable = record { type = callees; elements = of_host ∷ ref_null false func ∷ [] }

abbrev pub given : Store
given = record {
  globals = holds counter (num 0) ∷ [];
  tables = callable ∷ [];
  memories = memory_of small_memory small_bytes ∷ [];
  segments = [];
  data_segments = [];
  objects = [];
  exceptions = [];
  tags = tag_type ∷ [];
  externs = [];
  addresses = record { globals = 0 ∷ 0 ∷ []; tables = 0 ∷ 0 ∷ []; memories = 0 ∷ 0 ∷ []; tags = 0 ∷ [] };
}

-- the program's own memory, of two bytes
abbrev pub own_memory : MemoryType
own_memory = record { memory64 = false; shared = false; initial = 2; maximum = Some 2; page_size_log2 = Some 0 }

-- what the imported memory holds after the active segment is written to it
abbrev pub written_bytes : List ℕ
written_bytes = 1 ∷ 9 ∷ 10 ∷ 254 ∷ 5 ∷ 6 ∷ 7 ∷ 128 ∷ []

-- exceptions, references and garbage collection
abbrev pub bits : ℕ
bits = 2 ^ 3 + 2 ^ 13 + 2 ^ 17 + 2 ^ 19 + 2 ^ 22 + 2 ^ 25

abbrev pub one : Op
one = op.Const (const.I32Const (pos 1))

-- the global before, and a function of the program's own
abbrev pub earlier : Op
earlier = op.Memory (memory.GlobalGet 2)

abbrev pub filler : Op
filler = op.Bulk (bulk.RefFunc 2)

abbrev pub second_own : Value
second_own = ref_function (Some 2) gives_type

-- with a constant of this number
module _ (x : ℤ) where
  abbrev pub five : Op
  five = op.Const (const.I32Const x)

  abbrev pub five_bits : Value
  five_bits = num (integer_bits 32 x)

  -- the global is written by its first index and read by its second; the table's first function is called by its second index
  abbrev pub writing : Body
  writing = own (plain five (plain (op.Memory (memory.GlobalSet 0)) (plain (op.Memory (memory.GlobalGet 1)) end)))

  abbrev pub calling : Body
  calling = own (plain (op.Const (const.I32Const (pos 0))) (plain (op.Control (control.CallIndirect 0 1)) end))

  abbrev pub linked : Program
  linked = record {
    bits = bits;
    «module» = record {
      types = gives_type ∷ tag_type ∷ [];
      functions = gives_type ∷ gives_type ∷ gives_type ∷ [];
      tables = callees ∷ callees ∷ callees ∷ [];
      memories = small_memory ∷ small_memory ∷ own_memory ∷ [];
      globals = counter ∷ counter ∷ constant ∷ counter ∷ [];
      tags = tag_type ∷ tag_type ∷ [];
      elements = ref true (abstract false func) ∷ [];
      data_count = None;
      referenced = 2 ∷ [];
      exact_functions = [];
    };
    functions = record { type = gives_type; body = None } ∷ record { type = gives_type; body = Some writing }
        ∷ record { type = gives_type; body = Some calling } ∷ [];
  }

  -- Its first own global is that number, and the second one reads the first. Its own table has a function twice, by a constant, over the
  -- second of which the segment writes another. One data segment is
  -- written over two bytes of the imported memory, by its second index, and one is kept.
  abbrev pub initials : Initials
  initials = record {
    imported_globals = 2;
    imported_tables = 2;
    imported_memories = 2;
    imported_tags = 1;
    globals = plain five end ∷ plain earlier end ∷ [];
    tables = record { size = 2; constant = Some (plain filler end) } ∷ [];
    segments = record { items = function_item 1 ∷ []; first_use = written 2 (plain one end) } ∷ [];
    data_segments = record { bytes = 9 ∷ 10 ∷ []; first_use = written 1 (plain one end) }
        ∷ record { bytes = 11 ∷ []; first_use = kept } ∷ [];
  }

  abbrev pub first : Store
  first = record {
    globals = holds counter (num 0) ∷ holds constant five_bits ∷ holds counter five_bits ∷ [];
    tables = callable ∷ record { type = callees; elements = second_own ∷ ref_function (Some 1) gives_type ∷ [] } ∷ [];
    memories = memory_of small_memory written_bytes ∷ memory_of own_memory (0 ∷ 0 ∷ []) ∷ [];
    segments = [] ∷ [];
    data_segments = [] ∷ (11 ∷ []) ∷ [];
    objects = [];
    exceptions = [];
    tags = tag_type ∷ tag_type ∷ [];
    externs = [];
    addresses = record { globals = 0 ∷ 0 ∷ 1 ∷ 2 ∷ []; tables = 0 ∷ 0 ∷ 1 ∷ []; memories = 0 ∷ 0 ∷ 1 ∷ []; tags = 0 ∷ 1 ∷ [] };
  }

  abbrev pub started : Body → State
  started f = begun gives_type gives_number f [] numbers ∷ []

  -- the call finds the function of the host, which returns this number, or traps
  abbrev pub host_returns : ℕ → Answer
  host_returns b = record silent { held = of_host; condition = true; values = num b ∷ [] }

  abbrev pub host_traps : Answer
  host_traps = record silent { held = of_host; condition = true; traps = true }

  -- These answers, which the store of each moment gives, and a last one come to this.
  abbrev pub Ends : Body → List Answer → Answer → Outcome → Type 0
  Ends f answers a o = (w : Store) × (y : State) × (u : Store) × StoreRuns linked first (started f) answers w y
      × GivesStep linked y w a u × ((step linked y a).outcome ≡ o)

  pub record LinkedStoreWorked : Type 0 where
    pub valid : IsValidProgram linked
    pub typed : AreInitials linked initials
    pub given_fits : StoreFits (imports_of linked initials) given
    pub first_store : IsFirstStore linked initials given first
    pub fits : StoreFits linked first
    pub bytes : memory_in first 0 ≡ written_bytes
    pub own_global : global_in first 3 ≡ five_bits
    pub own_table : table_in first 2 ≡ second_own ∷ ref_function (Some 1) gives_type ∷ []
    pub own_bytes : memory_in first 2 ≡ 0 ∷ 0 ∷ []
    pub writing_from : IsStarted linked (started writing) numbers
    pub calling_from : IsStarted linked (started calling) numbers
    pub known : HasState (Knows first) (started writing)
    pub sound : IsSoundOver linked numbers first (started writing)
    pub read : Ends writing (giving (five_bits ∷ []) ∷ silent ∷ giving (five_bits ∷ []) ∷ []) silent
        (returns (integer_bits 32 x))
    pub called : Ends calling (giving (num 0 ∷ []) ∷ host_returns 7 ∷ []) silent (returns 7)
    pub call_traps : Ends calling (giving (num 0 ∷ []) ∷ []) host_traps trapped
