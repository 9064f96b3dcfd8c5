-- Worked runs of a valid program with vectors, whose features have the switch: one is read, added to another, shifted by a number and asked
-- for a lane; a lane is read into one, and all of it is written. A vector is no number of 64 bits.
use Rattle.std.specs.Prelude.{◌≡◌, ◌+◌, ◌^◌, ℕ, ℤ, true, false, List, [], ◌∷◌, Some, None}
use Rattle.wasm_types.specs.trees.Types.{any, i32, i64, number, v128}
use Rattle.wasm_operators_immediates.specs.declared.memory.MemArg.{MemArg}
use Rattle.wasm_operators_immediates.specs.declared.memory.MemArgTarget.TheVariants as target
use Rattle.wasm_operators_immediates.specs.declared.vector.V128.{V128}
use Rattle.wasm_operators_enums.specs.declared.constant.ConstOperator.TheVariants as const
use Rattle.wasm_operators_enums.specs.declared.vector.SimdOperator.TheVariants as simd
use Rattle.wasm_operators_enums.specs.declared.vector_numeric.SimdNumericOperator.TheVariants as lanes
use Rattle.wasm_operators_enums.specs.Op as op
use Rattle.wasm_operators_enums.specs.Op.{Op}
use Rattle.wasm_operators_encoding.specs.expressions.Code.{plain}
use Rattle.wasm_operator_validator_soundness.specs.runs.Values.{Body, Program, number_value, ref_null, Fits}
use Rattle.wasm_operator_validator_soundness.specs.runs.States.{State, Answer, Outcome, returned, trapped}
use Rattle.wasm_operator_validator_soundness.specs.runs.Machine.{begun}
use Rattle.wasm_operator_validator_soundness.specs.runs.Soundness.{step, Runs, IsValidProgram, IsStarted}
use Rattle.wasm_operator_validator_soundness.specs.runs.worked.Caught.{gives_number, own, end}
use Rattle.wasm_operator_validator_soundness.specs.runs.worked.Older.{gives_type}
use Rattle.wasm_operator_validator_soundness.specs.runs.worked.Segments.{one_page}

-- vectors, floats, and the switch by which operators on vectors are judged
abbrev pub bits : ℕ
bits = 2 ^ 6 + 2 ^ 11 + 2 ^ 28

abbrev pub argument : MemArg
argument = record { align = 0; max_align = 4; offset = 0; memory = 0; ordering = None; target = target.Memory }

abbrev pub lane_argument : MemArg
lane_argument = record argument { max_align = 1 }

module _ (x : ℤ) (c : V128) where
  abbrev pub five : Op
  five = op.Const (const.I32Const x)

  abbrev pub constant : Op
  constant = op.Simd (simd.V128Const c)

  abbrev pub adding : Body
  adding = own (plain constant (plain five (plain (op.Simd (simd.V128Load argument))
      (plain (op.SimdNumeric lanes.F32x4Add) (plain five (plain (op.SimdNumeric lanes.I16x8Shl)
      (plain (op.Simd (simd.I8x16ExtractLaneU 3)) end)))))))

  abbrev pub moving : Body
  moving = own (plain five (plain five (plain constant (plain (op.Simd (simd.V128Load16Lane lane_argument 2))
      (plain (op.Simd (simd.V128Store argument)) (plain five end))))))

  abbrev pub vectors : Program
  vectors = record {
    bits = bits;
    «module» = record {
      types = gives_type ∷ [];
      functions = gives_type ∷ gives_type ∷ [];
      tables = [];
      memories = one_page ∷ [];
      globals = [];
      tags = [];
      elements = [];
      data_count = None;
      referenced = [];
      exact_functions = [];
    };
    functions = record { type = gives_type; body = Some adding } ∷ record { type = gives_type; body = Some moving } ∷ [];
  }

  abbrev pub silent : Answer
  silent = record {
    values = [];
    held = ref_null false any;
    condition = false;
    index = 0;
    traps = false;
    throws = None;
    leaves = 0;
    made = 0;
  }

  abbrev pub giving : Answer
  giving = record silent { values = number_value i32 0 ∷ [] }

  abbrev pub giving_vector : Answer
  giving_vector = record silent { values = number_value v128 0 ∷ [] }

  abbrev pub trapping : Answer
  trapping = record silent { traps = true }

  abbrev pub started : Body → State
  started f = begun gives_type gives_number f [] (number i32 ∷ []) ∷ []

  -- these answers are accepted, and so is a last one, with which the run ends so
  abbrev pub Ends : State → List Answer → Answer → Outcome → Type 0
  Ends s answers a o = (t : State) × Runs vectors s answers t × (step vectors t a).is_answer
      × ((step vectors t a).outcome ≡ o)

  abbrev pub number_returned : Outcome
  number_returned = returned (number_value i32 0 ∷ [])

  pub record VectorsWorked : Type 0 where
    pub valid : IsValidProgram vectors
    pub adding_from : IsStarted vectors (started adding) (number i32 ∷ [])
    pub moving_from : IsStarted vectors (started moving) (number i32 ∷ [])
    pub vector_fits : Fits vectors (number_value v128 0) (number v128)
    pub no_number : Fits vectors (number_value v128 0) (number i64) → ⊥
    pub added : Ends (started adding) (giving_vector ∷ giving ∷ giving_vector ∷ giving_vector ∷ giving ∷ giving_vector
        ∷ giving ∷ []) silent number_returned
    pub added_trapped : Ends (started adding) (giving_vector ∷ giving ∷ []) trapping trapped
    pub moved : Ends (started moving) (giving ∷ giving ∷ giving_vector ∷ giving_vector ∷ silent ∷ giving ∷ []) silent
        number_returned
