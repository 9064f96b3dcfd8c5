-- Worked answers: types of which no value is, operators that may trap and operators that do not, states for which something is an
-- answer, and states for which nothing is.
use Rattle.std.specs.Prelude.{◌≡◌, ℤ, true, false, List, [], ◌∷◌, None}
use Rattle.wasm_types.specs.trees.Types.{any, none, extern, exn, noexn, abstract, i32, i64, number, ref, function}
use Rattle.wasm_types.specs.trees.Trees.{TypeTree}
use Rattle.wasm_operators_enums.specs.declared.memory.MemoryOperator.TheVariants as memory
use Rattle.wasm_operators_enums.specs.declared.numeric.NumericOperator.TheVariants as numeric
use Rattle.wasm_operators_enums.specs.declared.bulk.BulkOperator.TheVariants as bulk
use Rattle.wasm_operators_enums.specs.declared.atomic.AtomicOperator.TheVariants as atomic
use Rattle.wasm_operators_enums.specs.declared.gc.GcOperator.TheVariants as gc
use Rattle.wasm_operators_enums.specs.declared.vector.SimdOperator.TheVariants as simd
use Rattle.wasm_operators_enums.specs.declared.vector_numeric.SimdNumericOperator.TheVariants as lanes
use Rattle.wasm_operators_enums.specs.Op as op
use Rattle.wasm_operators_enums.specs.Op.{Op}
use Rattle.wasm_operators_encoding.specs.expressions.Code.{plain}
use Rattle.wasm_operator_validator_rules.specs.Operands.{ValueType}
use Rattle.wasm_operator_validator_soundness.specs.runs.Values.{Program, Value, number_value, ref_null, ref_exn, HasValue, IsMade}
use Rattle.wasm_operator_validator_soundness.specs.runs.States.{State}
use Rattle.wasm_operator_validator_soundness.specs.runs.Soundness.{step}
use Rattle.wasm_operator_validator_soundness.specs.runs.Progress.{can_trap, HasAnswer}
use Rattle.wasm_operator_validator_soundness.specs.runs.worked.Caught.{tag_type}
use Rattle.wasm_operator_validator_soundness.specs.runs.worked.Runs.{alone, end, small, giving, standing, one, takes_i32, a_struct}
use Rattle.wasm_operator_validator_soundness.specs.runs.worked.Stuck.{argument}

-- no value is of this type, so no exception is of a tag that takes one
abbrev pub empty : ValueType
empty = ref false (abstract false none)

abbrev pub takes_none : TypeTree
takes_none = alone None (function (empty ∷ []) [])

-- that such an operator is next above these values, in a program whose global is of the type without values
module _ (x : ℤ) where
  abbrev pub with_empty : Program
  with_empty = record (small x) {
    «module» = record (small x).«module» { globals = record { content = empty; mutable = false; shared = false } ∷ [] };
  }

  abbrev pub above : List Value → Op → State
  above vs o = standing (number i32 ∷ []) vs (plain o end)

  pub record AnsweredWorked : Type 0 where
    -- types
    pub of_number : HasValue (number i64)
    pub of_null : HasValue (ref true (abstract false none))
    pub of_host : HasValue (ref false (abstract false any))
    pub of_exception : HasValue (ref false (abstract false exn))
    pub of_none : HasValue empty → ⊥
    pub of_no_exception : HasValue (ref false (abstract false noexn)) → ⊥
    pub of_shared : HasValue (ref false (abstract true extern)) → ⊥
    pub thrown : IsMade (small x) (ref_exn 0 tag_type)
    pub never_thrown : IsMade (small x) (ref_exn 0 takes_none) → ⊥
    -- operators
    pub divides : can_trap (op.Numeric numeric.I64RemU) ≡ true
    pub adds : can_trap (op.Numeric numeric.I32Add) ≡ false
    pub divides_floats : can_trap (op.Numeric numeric.F32Div) ≡ false
    pub truncates : can_trap (op.Numeric numeric.I32TruncF64U) ≡ true
    pub saturates : can_trap (op.Numeric numeric.I32TruncSatF64U) ≡ false
    pub loads : can_trap (op.Memory (memory.I32Load argument)) ≡ true
    pub grows : can_trap (op.Memory (memory.MemoryGrow 0)) ≡ false
    pub fills : can_trap (op.Bulk (bulk.MemoryFill 0)) ≡ true
    pub drops : can_trap (op.Bulk (bulk.ElemDrop 0)) ≡ false
    pub reads_global : can_trap (op.Memory (memory.GlobalGet 0)) ≡ false
    pub reads_table : can_trap (op.Bulk (bulk.TableGet 0)) ≡ true
    pub reads_field : can_trap (op.Gc (gc.StructGet 0 0)) ≡ true
    pub makes : can_trap (op.Gc (gc.StructNew 0)) ≡ false
    pub casts : can_trap (op.Gc (gc.RefCastNullable a_struct)) ≡ true
    pub tests : can_trap (op.Gc (gc.RefTestNullable a_struct)) ≡ false
    pub loads_vector : can_trap (op.Simd (simd.V128Load argument)) ≡ true
    pub extracts : can_trap (op.Simd (simd.I32x4ExtractLane 0)) ≡ false
    pub adds_lanes : can_trap (op.SimdNumeric lanes.I32x4Add) ≡ false
    pub fences : can_trap (op.Atomic atomic.AtomicFence) ≡ false
    pub throws : can_trap (op.Exception (op.Throw 0)) ≡ false
    pub throws_null : can_trap (op.Exception op.ThrowRef) ≡ true
    -- states; a global that is read may not trap
    pub added : HasAnswer (small x) (above (one ∷ one ∷ []) (op.Numeric numeric.I32Add))
    pub added_long : (step (small x) (above (one ∷ one ∷ []) (op.Numeric numeric.I32Add))
        (giving (number_value i64 0))).is_answer → ⊥
    pub null_thrown : HasAnswer (small x) (above (ref_null false exn ∷ []) (op.Exception op.ThrowRef))
    pub thrown_again : HasAnswer (small x) (above (ref_exn 0 takes_i32 ∷ []) (op.Exception op.ThrowRef))
    pub nothing_thrown : HasAnswer (small x) (above (ref_exn 0 takes_none ∷ []) (op.Exception op.ThrowRef)) → ⊥
    pub global_read : HasAnswer (small x) (above [] (op.Memory (memory.GlobalGet 0)))
    pub empty_global : HasAnswer with_empty (above [] (op.Memory (memory.GlobalGet 0))) → ⊥
