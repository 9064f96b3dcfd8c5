-- Worked runs of a valid program with exceptions and subtypes: a call through a table finds a function of a subtype, which throws. What
-- it throws is caught two calls further out, or leaves all; or the call traps.
use Rattle.std.specs.Prelude.{◌≡◌, ◌+◌, ◌^◌, ℕ, ℤ, true, false, List, [], ◌∷◌, Some, None}
use Rattle.wasm_types.specs.trees.Types.{func, abstract, i32, number, ref, function, SubtypeOf}
use Rattle.wasm_types.specs.trees.Trees.{TypeTree}
use Rattle.wasm_types.specs.trees.ValidGroup.{Written, written_tree}
use Rattle.wasm_types.specs.values.declared.value.ValType.TheVariants as written
use Rattle.wasm_operators_immediates.specs.declared.block.BlockType.TheVariants as block
use Rattle.wasm_operators_immediates.specs.declared.handlers.Catch.TheVariants as catch
use Rattle.wasm_operators_enums.specs.declared.control.ControlOperator.TheVariants as control
use Rattle.wasm_operators_enums.specs.declared.constant.ConstOperator.TheVariants as const
use Rattle.wasm_operators_enums.specs.Op as op
use Rattle.wasm_operators_enums.specs.Op.{Op}
use Rattle.wasm_operators_encoding.specs.expressions.Code.{Code, close, plain, nested}
use Rattle.wasm_operator_validator_rules.specs.Context.{Signature}
use Rattle.wasm_operator_validator_soundness.specs.runs.Values.{Body, Program, number_value, ref_null, ref_function}
use Rattle.wasm_operator_validator_soundness.specs.runs.States.{State, Answer, Outcome, returned, thrown, trapped}
use Rattle.wasm_operator_validator_soundness.specs.runs.Machine.{begun}
use Rattle.wasm_operator_validator_soundness.specs.runs.Soundness.{step, Runs, IsValidProgram, IsStarted}

abbrev pub alone : SubtypeOf ℕ → Written
alone t = record { is_explicit = false; types = t ∷ [] }

-- an open type, one declared below it, and that of a tag
abbrev pub open_written : Written
open_written = alone (record {
  is_final = false;
  supertypes = [];
  shared = false;
  descriptor = None;
  describes = None;
  inner = function [] (number i32 ∷ []);
})

abbrev pub open_type : TypeTree
open_type = record { group = written_tree [] open_written; place = 0 }

abbrev pub below_written : Written
below_written = alone (record {
  is_final = true;
  supertypes = 0 ∷ [];
  shared = false;
  descriptor = None;
  describes = None;
  inner = function [] (number i32 ∷ []);
})

abbrev pub below_type : TypeTree
below_type = record { group = written_tree (open_type ∷ []) below_written; place = 0 }

abbrev pub tag_written : Written
tag_written = alone (record {
  is_final = true;
  supertypes = [];
  shared = false;
  descriptor = None;
  describes = None;
  inner = function (number i32 ∷ []) [];
})

abbrev pub tag_type : TypeTree
tag_type = record { group = written_tree (open_type ∷ below_type ∷ []) tag_written; place = 0 }

abbrev pub gives_number : Signature
gives_number = record { params = []; results = number i32 ∷ [] }

abbrev pub own : Code → Body
own c = record { locals = []; code = c }

abbrev pub end : Code
end = close (op.Control control.End)

-- exceptions and garbage collection
abbrev pub bits : ℕ
bits = 2 ^ 13 + 2 ^ 19

module _ (x : ℤ) where
  abbrev pub throwing : Body
  throwing = own (plain (op.Const (const.I32Const x)) (plain (op.Exception (op.Throw 0)) end))

  abbrev pub passing : Body
  passing = own (plain (op.Const (const.I32Const x)) (plain (op.Control (control.CallIndirect 0 0)) end))

  abbrev pub guarded : Op
  guarded = op.Exception (op.TryTable (record { ty = block.Empty; catches = catch.One 0 0 ∷ [] }))

  abbrev pub catching : Body
  catching = own (nested (op.Control (control.Block (block.Val written.I32)))
      (nested guarded (plain (op.Control (control.Call 1)) (plain (op.Parametric op.Drop) end))
      (plain (op.Control control.Unreachable) end)) end)

  abbrev pub guards : Program
  guards = record {
    bits = bits;
    «module» = record {
      types = open_type ∷ below_type ∷ tag_type ∷ [];
      functions = below_type ∷ open_type ∷ open_type ∷ [];
      tables = record { element = ref true (abstract false func); table64 = false; shared = false } ∷ [];
      memories = [];
      globals = [];
      tags = tag_type ∷ [];
      elements = [];
      data_count = None;
      referenced = [];
      exact_functions = [];
    };
    functions = record { type = below_type; body = Some throwing } ∷ record { type = open_type; body = Some passing }
        ∷ record { type = open_type; body = Some catching } ∷ [];
  }

  abbrev pub silent : Answer
  silent = record {
    values = [];
    held = ref_null false func;
    condition = false;
    index = 0;
    traps = false;
    throws = None;
    leaves = 0;
    made = 0;
  }

  abbrev pub giving : Answer
  giving = record silent { values = number_value i32 0 ∷ [] }

  abbrev pub holding : Answer
  holding = record silent { held = ref_function (Some 0) below_type; condition = true }

  abbrev pub leaving : Answer
  leaving = record silent { leaves = 2 }

  abbrev pub trapping : Answer
  trapping = record silent { traps = true }

  abbrev pub started : Body → State
  started f = begun open_type gives_number f [] (number i32 ∷ []) ∷ []

  -- these answers are accepted, and so is a last one, with which the run ends so
  abbrev pub Ends : State → List Answer → Answer → Outcome → Type 0
  Ends s answers a o = (t : State) × Runs guards s answers t × (step guards t a).is_answer
      × ((step guards t a).outcome ≡ o)

  pub record CaughtWorked : Type 0 where
    pub valid : IsValidProgram guards
    pub catching_from : IsStarted guards (started catching) (number i32 ∷ [])
    pub passing_from : IsStarted guards (started passing) (number i32 ∷ [])
    pub caught : Ends (started catching) (silent ∷ silent ∷ silent ∷ giving ∷ holding ∷ giving ∷ leaving ∷ []) silent
        (returned (number_value i32 0 ∷ []))
    pub thrown_out : Ends (started passing) (giving ∷ holding ∷ giving ∷ []) leaving
        (thrown tag_type (number_value i32 0 ∷ []))
    pub call_trapped : Ends (started passing) (giving ∷ []) trapping trapped
