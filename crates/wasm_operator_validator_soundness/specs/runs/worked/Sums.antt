-- Worked runs of a small program that is valid, under no feature: an import, a function that adds its arguments, one that calls the
-- import, and one that calls through a table.
use Rattle.std.specs.Prelude.{◌≡◌, ℕ, ℤ, true, false, List, [], ◌∷◌, Some, None}
use Rattle.wasm_types.specs.trees.Types.{func, abstract, i32, number, ref, function, SubtypeOf}
use Rattle.wasm_types.specs.trees.Trees.{TypeTree}
use Rattle.wasm_types.specs.trees.ValidGroup.{Written, written_tree}
use Rattle.wasm_operators_enums.specs.declared.control.ControlOperator.TheVariants as control
use Rattle.wasm_operators_enums.specs.declared.memory.MemoryOperator.TheVariants as memory
use Rattle.wasm_operators_enums.specs.declared.constant.ConstOperator.TheVariants as const
use Rattle.wasm_operators_enums.specs.declared.numeric.NumericOperator.TheVariants as numeric
use Rattle.wasm_operators_enums.specs.Op as op
use Rattle.wasm_operators_enums.specs.Op.{Op}
use Rattle.wasm_operators_encoding.specs.expressions.Code.{Code, close, plain}
use Rattle.wasm_operator_validator_rules.specs.Context.{Signature}
use Rattle.wasm_operator_validator_soundness.specs.runs.Values.{Body, Function, Program, Value, number_value, ref_null, ref_function}
use Rattle.wasm_operator_validator_soundness.specs.runs.States.{State, Answer, Outcome, returned}
use Rattle.wasm_operator_validator_soundness.specs.runs.Machine.{begun}
use Rattle.wasm_operator_validator_soundness.specs.runs.Soundness.{step, Runs, IsValidProgram, IsStarted}

-- two numbers for one
abbrev pub written : Written
written =
    let t : SubtypeOf ℕ = record {
      is_final = true;
      supertypes = [];
      shared = false;
      descriptor = None;
      describes = None;
      inner = function (number i32 ∷ number i32 ∷ []) (number i32 ∷ []);
    } in
    record { is_explicit = false; types = t ∷ [] }

abbrev pub binary : TypeTree
binary = record { group = written_tree [] written; place = 0 }

abbrev pub signature : Signature
signature = record { params = number i32 ∷ number i32 ∷ []; results = number i32 ∷ [] }

abbrev pub own : Code → Body
own c = record { locals = []; code = c }

abbrev pub made : Body → Function
made f = record { type = binary; body = Some f }

abbrev pub end : Code
end = close (op.Control control.End)

-- both arguments, and then this
abbrev pub both : Code → Code
both c = plain (op.Memory (memory.LocalGet 0)) (plain (op.Memory (memory.LocalGet 1)) c)

module _ (x : ℤ) where
  abbrev pub adding : Body
  adding = own (both (plain (op.Numeric numeric.I32Add) end))

  abbrev pub importing : Body
  importing = own (both (plain (op.Control (control.Call 0)) end))

  abbrev pub through_table : Body
  through_table = own (both (plain (op.Const (const.I32Const x)) (plain (op.Control (control.CallIndirect 0 0)) end)))

  abbrev pub sums : Program
  sums = record {
    bits = 0;
    «module» = record {
      types = binary ∷ [];
      functions = binary ∷ binary ∷ binary ∷ binary ∷ [];
      tables = record { element = ref true (abstract false func); table64 = false; shared = false } ∷ [];
      memories = [];
      globals = [];
      tags = [];
      elements = [];
      data_count = None;
      referenced = [];
      exact_functions = [];
    };
    functions = record { type = binary; body = None } ∷ made adding ∷ made importing ∷ made through_table ∷ [];
  }

  abbrev pub one : Value
  one = number_value i32 0

  abbrev pub silent : Answer
  silent = record {
    values = [];
    held = ref_null false func;
    condition = false;
    index = 0;
    traps = false;
    throws = None;
    leaves = 0;
    made = 0;
  }

  abbrev pub giving : Answer
  giving = record silent { values = one ∷ [] }

  -- the table holds this function of the program, or the import, which gives a number at once
  abbrev pub held_own : Answer
  held_own = record silent { held = ref_function (Some 1) binary; condition = true }

  abbrev pub held_import : Answer
  held_import = record giving { held = ref_function (Some 0) binary; condition = true }

  -- a body with two numbers
  abbrev pub started : Body → State
  started f = begun binary signature f (one ∷ one ∷ []) (number i32 ∷ []) ∷ []

  -- these answers are accepted, and so is a last one, with which the run ends so
  abbrev pub Ends : State → List Answer → Answer → Outcome → Type 0
  Ends s answers a o = (t : State) × Runs sums s answers t × (step sums t a).is_answer × ((step sums t a).outcome ≡ o)

  pub record SumsWorked : Type 0 where
    pub valid : IsValidProgram sums
    pub adds_from : IsStarted sums (started adding) (number i32 ∷ [])
    pub imports_from : IsStarted sums (started importing) (number i32 ∷ [])
    pub through_from : IsStarted sums (started through_table) (number i32 ∷ [])
    pub adds : Ends (started adding) (silent ∷ silent ∷ giving ∷ []) silent (returned (one ∷ []))
    pub imports : Ends (started importing) (silent ∷ silent ∷ giving ∷ []) silent (returned (one ∷ []))
    pub through : Ends (started through_table) (silent ∷ silent ∷ giving ∷ held_import ∷ []) silent
        (returned (one ∷ []))
    pub through_own : Ends (started through_table)
        (silent ∷ silent ∷ giving ∷ held_own ∷ silent ∷ silent ∷ giving ∷ silent ∷ []) silent (returned (one ∷ []))
