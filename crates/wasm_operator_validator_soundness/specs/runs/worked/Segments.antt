-- Worked runs of a valid program with a memory, a data segment and an element segment: bytes of the one go into the memory and into an
-- array, null references of the other into another array, and an array is copied into itself.
use Rattle.std.specs.Prelude.{◌≡◌, ◌+◌, ◌^◌, ℕ, ℤ, true, false, List, [], ◌∷◌, Some, None}
use Rattle.wasm_types.specs.trees.Types.{any, func, nofunc, abstract, i32, number, ref, i8, value, array_of}
use Rattle.wasm_types.specs.trees.Trees.{TypeTree}
use Rattle.wasm_types.specs.trees.ValidGroup.{Written, written_tree}
use Rattle.wasm_types.specs.externs.declared.memory.MemoryType.{MemoryType}
use Rattle.wasm_operators_immediates.specs.declared.memory.MemArg.{MemArg}
use Rattle.wasm_operators_immediates.specs.declared.memory.MemArgTarget.TheVariants as target
use Rattle.wasm_operators_enums.specs.declared.memory.MemoryOperator.TheVariants as memory
use Rattle.wasm_operators_enums.specs.declared.bulk.BulkOperator.TheVariants as bulk
use Rattle.wasm_operators_enums.specs.declared.constant.ConstOperator.TheVariants as const
use Rattle.wasm_operators_enums.specs.declared.gc.GcOperator.TheVariants as gc
use Rattle.wasm_operators_enums.specs.Op as op
use Rattle.wasm_operators_enums.specs.Op.{Op}
use Rattle.wasm_operators_encoding.specs.expressions.Code.{Code, plain}
use Rattle.wasm_operator_validator_rules.specs.Operands.{ValueType}
use Rattle.wasm_operator_validator_soundness.specs.runs.Values.{Body, Program, number_value, ref_null}
use Rattle.wasm_operator_validator_soundness.specs.runs.States.{State, Answer, Outcome, returned, trapped}
use Rattle.wasm_operator_validator_soundness.specs.runs.Machine.{begun}
use Rattle.wasm_operator_validator_soundness.specs.runs.Soundness.{step, Runs, IsValidProgram, IsStarted}
use Rattle.wasm_operator_validator_soundness.specs.runs.worked.Caught.{alone, gives_number, own, end}
use Rattle.wasm_operator_validator_soundness.specs.runs.worked.Older.{gives_type}

abbrev pub octets_written : Written
octets_written = alone (record {
  is_final = true;
  supertypes = [];
  shared = false;
  descriptor = None;
  describes = None;
  inner = array_of (record { storage = i8; mutable = true });
})

abbrev pub some_function : ValueType
some_function = ref true (abstract false func)

abbrev pub callables_written : Written
callables_written = alone (record {
  is_final = true;
  supertypes = [];
  shared = false;
  descriptor = None;
  describes = None;
  inner = array_of (record { storage = value (ref true (abstract false func)); mutable = true });
})

abbrev pub octets : TypeTree
octets = record { group = written_tree (gives_type ∷ []) octets_written; place = 0 }

abbrev pub callables : TypeTree
callables = record { group = written_tree (gives_type ∷ octets ∷ []) callables_written; place = 0 }

abbrev pub one_page : MemoryType
one_page = record { memory64 = false; shared = false; initial = 1; maximum = None; page_size_log2 = None }

abbrev pub argument : MemArg
argument = record { align = 0; max_align = 0; offset = 0; memory = 0; ordering = None; target = target.Memory }

-- references, bulk operators and garbage collection
abbrev pub bits : ℕ
bits = 2 ^ 3 + 2 ^ 5 + 2 ^ 17 + 2 ^ 19 + 2 ^ 22 + 2 ^ 25 + 2 ^ 26

module _ (x : ℤ) where
  abbrev pub five : Op
  five = op.Const (const.I32Const x)

  -- where in an object or memory, where in a segment or another object, and how many
  abbrev pub three : Code → Code
  three more = plain five (plain five (plain five more))

  abbrev pub reading : Body
  reading = own (three (plain (op.Bulk (bulk.MemoryInit 0 0)) (plain (op.Bulk (bulk.DataDrop 0))
      (plain five (plain (op.Memory (memory.I32Load8U argument)) end)))))

  abbrev pub filling : Body
  filling = own (plain five (plain (op.Gc (gc.ArrayNewDefault 1)) (three (plain (op.Gc (gc.ArrayInitData 1 0))
      (plain five end)))))

  abbrev pub storing : Body
  storing = own (plain five (plain (op.Gc (gc.ArrayNewDefault 2)) (three (plain (op.Gc (gc.ArrayInitElem 2 0))
      (plain five end)))))

  abbrev pub copying : Body
  copying = own (plain five (plain (op.Gc (gc.ArrayNewDefault 1)) (plain five (plain five
      (plain (op.Gc (gc.ArrayNewDefault 1)) (plain five (plain five (plain (op.Gc (gc.ArrayCopy 1 1))
      (plain five end)))))))))

  abbrev pub segments : Program
  segments = record {
    bits = bits;
    «module» = record {
      types = gives_type ∷ octets ∷ callables ∷ [];
      functions = gives_type ∷ gives_type ∷ gives_type ∷ gives_type ∷ [];
      tables = [];
      memories = one_page ∷ [];
      globals = [];
      tags = [];
      elements = some_function ∷ [];
      data_count = Some 1;
      referenced = [];
      exact_functions = [];
    };
    functions = record { type = gives_type; body = Some reading } ∷ record { type = gives_type; body = Some filling }
        ∷ record { type = gives_type; body = Some storing } ∷ record { type = gives_type; body = Some copying } ∷ [];
  }

  abbrev pub silent : Answer
  silent = record {
    values = [];
    held = ref_null false any;
    condition = false;
    index = 0;
    traps = false;
    throws = None;
    leaves = 0;
    made = 0;
  }

  abbrev pub giving : Answer
  giving = record silent { values = number_value i32 0 ∷ [] }

  -- the segment has two null references
  abbrev pub giving_nulls : Answer
  giving_nulls = record silent { values = ref_null false nofunc ∷ ref_null false func ∷ [] }

  -- bytes are copied
  abbrev pub giving_bytes : Answer
  giving_bytes = record silent { values = number_value i32 0 ∷ number_value i32 0 ∷ [] }

  abbrev pub trapping : Answer
  trapping = record silent { traps = true }

  abbrev pub started : Body → State
  started f = begun gives_type gives_number f [] (number i32 ∷ []) ∷ []

  -- these answers are accepted, and so is a last one, with which the run ends so
  abbrev pub Ends : State → List Answer → Answer → Outcome → Type 0
  Ends s answers a o = (t : State) × Runs segments s answers t × (step segments t a).is_answer
      × ((step segments t a).outcome ≡ o)

  abbrev pub number_returned : Outcome
  number_returned = returned (number_value i32 0 ∷ [])

  pub record SegmentsWorked : Type 0 where
    pub valid : IsValidProgram segments
    pub reading_from : IsStarted segments (started reading) (number i32 ∷ [])
    pub filling_from : IsStarted segments (started filling) (number i32 ∷ [])
    pub storing_from : IsStarted segments (started storing) (number i32 ∷ [])
    pub copying_from : IsStarted segments (started copying) (number i32 ∷ [])
    pub read : Ends (started reading) (giving ∷ giving ∷ giving ∷ silent ∷ silent ∷ giving ∷ giving ∷ []) silent
        number_returned
    pub read_trapped : Ends (started reading) (giving ∷ giving ∷ giving ∷ []) trapping trapped
    pub filled : Ends (started filling) (giving ∷ silent ∷ giving ∷ giving ∷ giving ∷ silent ∷ giving ∷ []) silent
        number_returned
    pub stored : Ends (started storing) (giving ∷ silent ∷ giving ∷ giving ∷ giving ∷ giving_nulls ∷ giving ∷ [])
        silent number_returned
    pub copied : Ends (started copying) (giving ∷ silent ∷ giving ∷ giving ∷ silent ∷ giving ∷ giving ∷ giving_bytes
        ∷ giving ∷ []) silent number_returned
    pub copy_trapped : Ends (started copying) (giving ∷ silent ∷ giving ∷ giving ∷ silent ∷ giving ∷ giving ∷ [])
        trapping trapped
