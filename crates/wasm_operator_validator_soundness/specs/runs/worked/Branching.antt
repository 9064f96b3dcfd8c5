-- Worked runs of a valid program that branches and throws: a loop goes round by `br_table` and is left by it, a cast decides a branch, and
-- an exception that was caught is thrown again, by a reference and by a clause of an older `try`.
use Rattle.std.specs.Prelude.{◌≡◌, ◌+◌, ◌^◌, ℕ, ℤ, true, false, List, [], ◌∷◌, Some, None}
use Rattle.wasm_types.specs.trees.Types.{any, i32, number}
use Rattle.wasm_types.specs.values.Reference.{Reference}
use Rattle.wasm_types.specs.values.declared.heap.AbstractHeapType.{AbstractHeapType}
use Rattle.wasm_types.specs.values.declared.heap.AbstractHeapType.TheVariants as heap
use Rattle.wasm_types.specs.values.declared.heap.HeapType.TheVariants as written_heap
use Rattle.wasm_types.specs.values.declared.value.ValType.TheVariants as written
use Rattle.wasm_operators_immediates.specs.declared.block.BlockType.TheVariants as block
use Rattle.wasm_operators_immediates.specs.declared.handlers.Catch.TheVariants as catch
use Rattle.wasm_operators_enums.specs.declared.control.ControlOperator.TheVariants as control
use Rattle.wasm_operators_enums.specs.declared.constant.ConstOperator.TheVariants as const
use Rattle.wasm_operators_enums.specs.declared.gc.GcOperator.TheVariants as gc
use Rattle.wasm_operators_enums.specs.Op as op
use Rattle.wasm_operators_enums.specs.Op.{Op}
use Rattle.wasm_operators_encoding.specs.expressions.Code.{plain, nested, turn}
use Rattle.wasm_operator_validator_soundness.specs.runs.Values.{Body, Program, number_value, ref_null, ref_i31}
use Rattle.wasm_operator_validator_soundness.specs.runs.States.{State, Answer, Outcome, returned, trapped, thrown}
use Rattle.wasm_operator_validator_soundness.specs.runs.Machine.{begun}
use Rattle.wasm_operator_validator_soundness.specs.runs.Soundness.{step, Runs, IsValidProgram, IsStarted}
use Rattle.wasm_operator_validator_soundness.specs.runs.worked.Caught.{gives_number, own, end}
use Rattle.wasm_operator_validator_soundness.specs.runs.worked.Older.{gives_type, tag_type}

-- references, exceptions of both forms, and garbage collection
abbrev pub bits : ℕ
bits = 2 ^ 3 + 2 ^ 13 + 2 ^ 17 + 2 ^ 19 + 2 ^ 21 + 2 ^ 22 + 2 ^ 25

abbrev pub reference : AbstractHeapType → Reference
reference h = record { nullable = true; heap = written_heap.Abstract false h }

abbrev pub not_null : AbstractHeapType → Reference
not_null h = record { nullable = false; heap = written_heap.Abstract false h }

module _ (x : ℤ) where
  abbrev pub five : Op
  five = op.Const (const.I32Const x)

  abbrev pub throw : Op
  throw = op.Exception (op.Throw 0)

  -- the table has the loop, and by default the block around it
  abbrev pub again_or_out : Op
  again_or_out = op.Control (control.BrTable (record { targets = 0 ∷ []; default = 1 }))

  abbrev pub looping : Body
  looping = own (nested (op.Control (control.Block block.Empty))
      (nested (op.Control (control.Loop block.Empty)) (plain five (plain again_or_out end)) end)
      (plain five end))

  abbrev pub deciding_cast : Op
  deciding_cast = op.Gc (gc.BrOnCast 0 (reference heap.Any) (not_null heap.I31))

  abbrev pub casting : Body
  casting = own (nested (op.Control (control.Block (block.Val (written.Ref (not_null heap.I31)))))
      (plain five (plain (op.Gc gc.RefI31) (plain deciding_cast (plain (op.Parametric op.Drop)
      (plain (op.Control control.Unreachable) end)))))
      (plain (op.Gc gc.I31GetU) end))

  -- what is caught goes to the block around as a reference, which is thrown
  abbrev pub guarded : Op
  guarded = op.Exception (op.TryTable (record { ty = block.Empty; catches = catch.AllRef 0 ∷ [] }))

  abbrev pub by_reference : Body
  by_reference = own (nested (op.Control (control.Block (block.Val (written.Ref (reference heap.Exn)))))
      (nested guarded (plain five (plain throw end)) (plain (op.Control control.Unreachable) end))
      (plain (op.Exception op.ThrowRef) end))

  abbrev pub by_clause : Body
  by_clause = own (nested (op.Exception (op.Try (block.Val written.I32)))
      (plain five (plain throw (turn (op.Exception op.CatchAll) (plain (op.Exception (op.Rethrow 0)) end)))) end)

  abbrev pub branching : Program
  branching = record {
    bits = bits;
    «module» = record {
      types = gives_type ∷ tag_type ∷ [];
      functions = gives_type ∷ gives_type ∷ gives_type ∷ gives_type ∷ [];
      tables = [];
      memories = [];
      globals = [];
      tags = tag_type ∷ [];
      elements = [];
      data_count = None;
      referenced = [];
      exact_functions = [];
    };
    functions = record { type = gives_type; body = Some looping } ∷ record { type = gives_type; body = Some casting }
        ∷ record { type = gives_type; body = Some by_reference } ∷ record { type = gives_type; body = Some by_clause }
        ∷ [];
  }

  abbrev pub silent : Answer
  silent = record {
    values = [];
    held = ref_null false any;
    condition = false;
    index = 0;
    traps = false;
    throws = None;
    leaves = 0;
    made = 0;
  }

  abbrev pub giving : Answer
  giving = record silent { values = number_value i32 0 ∷ [] }

  abbrev pub giving_scalar : Answer
  giving_scalar = record silent { values = (ref_i31 0) ∷ [] }

  -- the first label of a table, and the default
  abbrev pub choosing_first : Answer
  choosing_first = silent

  abbrev pub choosing_default : Answer
  choosing_default = record silent { index = 7 }

  abbrev pub passing_cast : Answer
  passing_cast = record silent { condition = true }

  -- an exception leaves so many labels
  abbrev pub leaving : ℕ → Answer
  leaving n = record giving { leaves = n }

  abbrev pub started : Body → State
  started f = begun gives_type gives_number f [] (number i32 ∷ []) ∷ []

  -- these answers are accepted, and so is a last one, with which the run ends so
  abbrev pub Ends : State → List Answer → Answer → Outcome → Type 0
  Ends s answers a o = (t : State) × Runs branching s answers t × (step branching t a).is_answer
      × ((step branching t a).outcome ≡ o)

  abbrev pub number_returned : Outcome
  number_returned = returned (number_value i32 0 ∷ [])

  abbrev pub number_thrown : Outcome
  number_thrown = thrown tag_type (number_value i32 0 ∷ [])

  pub record BranchingWorked : Type 0 where
    pub valid : IsValidProgram branching
    pub looping_from : IsStarted branching (started looping) (number i32 ∷ [])
    pub casting_from : IsStarted branching (started casting) (number i32 ∷ [])
    pub reference_from : IsStarted branching (started by_reference) (number i32 ∷ [])
    pub clause_from : IsStarted branching (started by_clause) (number i32 ∷ [])
    pub looped : Ends (started looping) (silent ∷ silent ∷ giving ∷ choosing_first ∷ giving ∷ choosing_first ∷ giving
        ∷ choosing_default ∷ giving ∷ []) silent number_returned
    pub cast_branches : Ends (started casting) (silent ∷ giving ∷ giving_scalar ∷ passing_cast ∷ giving ∷ []) silent
        number_returned
    pub cast_stays : Ends (started casting) (silent ∷ giving ∷ giving_scalar ∷ silent ∷ silent ∷ []) silent trapped
    pub thrown_by_reference : Ends (started by_reference) (silent ∷ silent ∷ giving ∷ silent ∷ []) (leaving 1)
        number_thrown
    pub thrown_by_clause : Ends (started by_clause) (silent ∷ giving ∷ silent ∷ []) (leaving 2) number_thrown
