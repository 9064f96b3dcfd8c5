-- Worked runs of a valid program that imports a function: what the host throws is caught by an older `try`, a tail call of it traps or
-- returns, a global goes through a local that is declared, that function is called by a reference, and a constant is evaluated.
use Rattle.std.specs.Prelude.{◌≡◌, ◌+◌, ◌^◌, ℕ, ℤ, true, false, List, [], ◌∷◌, Some, None}
use Rattle.wasm_types.specs.trees.Types.{func, i32, number, function}
use Rattle.wasm_types.specs.trees.Trees.{TypeTree}
use Rattle.wasm_types.specs.trees.ValidGroup.{Written, written_tree}
use Rattle.wasm_types.specs.values.declared.value.ValType.TheVariants as written
use Rattle.wasm_operators_immediates.specs.declared.block.BlockType.TheVariants as block
use Rattle.wasm_operators_enums.specs.declared.control.ControlOperator.TheVariants as control
use Rattle.wasm_operators_enums.specs.declared.memory.MemoryOperator.TheVariants as memory
use Rattle.wasm_operators_enums.specs.declared.bulk.BulkOperator.TheVariants as bulk
use Rattle.wasm_operators_enums.specs.declared.constant.ConstOperator.TheVariants as const
use Rattle.wasm_operators_enums.specs.Op as op
use Rattle.wasm_operators_enums.specs.Op.{Op}
use Rattle.wasm_operators_encoding.specs.expressions.Code.{Code, plain, nested, turn}
use Rattle.wasm_operator_validator_rules.specs.constants.Constants.{constant_context}
use Rattle.wasm_operator_validator_rules.specs.Typed.{IsBody}
use Rattle.wasm_operator_validator_soundness.specs.runs.Values.{Body, Program, Value, number_value, ref_null}
use Rattle.wasm_operator_validator_soundness.specs.runs.States.{State, Answer, Outcome, returned, trapped, thrown}
use Rattle.wasm_operator_validator_soundness.specs.runs.Machine.{begun}
use Rattle.wasm_operator_validator_soundness.specs.runs.Soundness.{step, Runs, IsValidProgram, IsStarted, evaluated}
use Rattle.wasm_operator_validator_soundness.specs.runs.worked.Caught.{alone, gives_number, own, end}

abbrev pub gives_written : Written
gives_written = alone (record {
  is_final = true;
  supertypes = [];
  shared = false;
  descriptor = None;
  describes = None;
  inner = function [] (number i32 ∷ []);
})

abbrev pub gives_type : TypeTree
gives_type = record { group = written_tree [] gives_written; place = 0 }

abbrev pub tag_written : Written
tag_written = alone (record {
  is_final = true;
  supertypes = [];
  shared = false;
  descriptor = None;
  describes = None;
  inner = function (number i32 ∷ []) [];
})

abbrev pub tag_type : TypeTree
tag_type = record { group = written_tree (gives_type ∷ []) tag_written; place = 0 }

-- references to functions, tail calls, exceptions of both forms
abbrev pub bits : ℕ
bits = 2 ^ 3 + 2 ^ 10 + 2 ^ 13 + 2 ^ 17 + 2 ^ 21 + 2 ^ 25

abbrev pub catching : Body
catching = own (nested (op.Exception (op.Try (block.Val written.I32)))
    (plain (op.Control (control.Call 0)) (turn (op.Exception (op.Catch 0)) end)) end)

abbrev pub passing_on : Body
passing_on = own (plain (op.Control (control.ReturnCall 0)) end)

abbrev pub remembering : Body
remembering = record {
  locals = number i32 ∷ [];
  code = plain (op.Memory (memory.GlobalGet 0)) (plain (op.Memory (memory.LocalSet 0))
      (plain (op.Memory (memory.LocalGet 0)) end));
}

abbrev pub referring : Body
referring = own (plain (op.Bulk (bulk.RefFunc 3)) (plain (op.Control (control.CallRef 0)) end))

abbrev pub older : Program
older = record {
  bits = bits;
  «module» = record {
    types = gives_type ∷ tag_type ∷ [];
    functions = gives_type ∷ gives_type ∷ gives_type ∷ gives_type ∷ gives_type ∷ [];
    tables = [];
    memories = [];
    globals = record { content = number i32; mutable = false; shared = false } ∷ [];
    tags = tag_type ∷ [];
    elements = [];
    data_count = None;
    referenced = 3 ∷ [];
    exact_functions = [];
  };
  functions = record { type = gives_type; body = None } ∷ record { type = gives_type; body = Some catching }
      ∷ record { type = gives_type; body = Some passing_on } ∷ record { type = gives_type; body = Some remembering }
      ∷ record { type = gives_type; body = Some referring } ∷ [];
}

abbrev pub one : Value
one = number_value i32 0

abbrev pub silent : Answer
silent = record {
  values = [];
  held = ref_null false func;
  condition = false;
  index = 0;
  traps = false;
  throws = None;
  leaves = 0;
  made = 0;
}

abbrev pub giving : Answer
giving = record silent { values = one ∷ [] }

abbrev pub trapping : Answer
trapping = record silent { traps = true }

-- the host throws an exception with a number; it is caught in the innermost label, or leaves those of the function
abbrev pub throwing : Answer
throwing = record giving { throws = Some tag_type }

abbrev pub leaving : Answer
leaving = record throwing { leaves = 2 }

abbrev pub started : Body → State
started f = begun gives_type gives_number f [] (number i32 ∷ []) ∷ []

-- these answers are accepted, and so is a last one, with which the run ends so
abbrev pub Ends : State → List Answer → Answer → Outcome → Type 0
Ends s answers a o = (t : State) × Runs older s answers t × (step older t a).is_answer × ((step older t a).outcome ≡ o)

abbrev pub number_returned : Outcome
number_returned = returned (one ∷ [])

abbrev pub constant : ℤ → Code
constant x = plain (op.Const (const.I32Const x)) end

pub record OlderWorked (x : ℤ) : Type 0 where
  pub valid : IsValidProgram older
  pub catching_from : IsStarted older (started catching) (number i32 ∷ [])
  pub passing_from : IsStarted older (started passing_on) (number i32 ∷ [])
  pub remembering_from : IsStarted older (started remembering) (number i32 ∷ [])
  pub referring_from : IsStarted older (started referring) (number i32 ∷ [])
  pub host_returns : Ends (started catching) (silent ∷ giving ∷ silent ∷ []) silent number_returned
  pub host_caught : Ends (started catching) (silent ∷ throwing ∷ silent ∷ []) silent number_returned
  pub host_traps : Ends (started catching) (silent ∷ []) trapping trapped
  pub tail_returns : Ends (started passing_on) [] giving number_returned
  pub tail_traps : Ends (started passing_on) [] trapping trapped
  pub tail_throws : Ends (started passing_on) [] throwing (thrown tag_type (one ∷ []))
  pub not_caught : Ends (started catching) (silent ∷ []) leaving (thrown tag_type (one ∷ []))
  pub remembered : Ends (started remembering) (giving ∷ silent ∷ silent ∷ []) silent number_returned
  pub referred : Ends (started referring) (silent ∷ silent ∷ giving ∷ silent ∷ silent ∷ silent ∷ []) silent
      number_returned
  pub constant_valid : IsBody (constant_context older.bits older.«module» (number i32)) 0 (constant x)
  pub evaluates : Ends (evaluated (number i32) (constant x)) (giving ∷ []) silent number_returned
