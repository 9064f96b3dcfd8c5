-- Worked states that are stuck, one for each way to be so, and steps that tell whose place is meant.
use Rattle.std.specs.Prelude.{◌≡◌, ◌⊎◌, ℤ, true, false, List, [], ◌∷◌, None}
use Rattle.wasm_types.specs.trees.Types.{struct, any, abstract, i32, i64, v128, number, ref}
use Rattle.wasm_types.specs.trees.declared.index.UnpackedIndex.TheVariants as index
use Rattle.wasm_types.specs.values.Reference.{Reference}
use Rattle.wasm_types.specs.values.declared.heap.AbstractHeapType.{AbstractHeapType}
use Rattle.wasm_types.specs.values.declared.heap.AbstractHeapType.TheVariants as heap
use Rattle.wasm_types.specs.values.declared.heap.HeapType.{HeapType}
use Rattle.wasm_types.specs.values.declared.heap.HeapType.TheVariants as written_heap
use Rattle.wasm_types.specs.values.declared.value.ValType.TheVariants as written
use Rattle.wasm_operators_immediates.specs.declared.block.BlockType.TheVariants as block
use Rattle.wasm_operators_immediates.specs.declared.memory.MemArg.{MemArg}
use Rattle.wasm_operators_immediates.specs.declared.memory.MemArgTarget.TheVariants as target
use Rattle.wasm_operators_immediates.specs.declared.handlers.Catch.{Catch}
use Rattle.wasm_operators_immediates.specs.declared.handlers.Catch.TheVariants as catch
use Rattle.wasm_operators_enums.specs.declared.control.ControlOperator.TheVariants as control
use Rattle.wasm_operators_enums.specs.declared.memory.MemoryOperator.TheVariants as memory
use Rattle.wasm_operators_enums.specs.declared.bulk.BulkOperator.TheVariants as bulk
use Rattle.wasm_operators_enums.specs.declared.numeric.NumericOperator.TheVariants as numeric
use Rattle.wasm_operators_enums.specs.declared.atomic.AtomicOperator.TheVariants as atomic
use Rattle.wasm_operators_enums.specs.declared.gc.GcOperator.TheVariants as gc
use Rattle.wasm_operators_enums.specs.declared.vector.SimdOperator.TheVariants as simd
use Rattle.wasm_operators_enums.specs.declared.vector_numeric.SimdNumericOperator.TheVariants as lanes
use Rattle.wasm_operators_enums.specs.Op as op
use Rattle.wasm_operators_enums.specs.Op.{Op}
use Rattle.wasm_operators_encoding.specs.expressions.Code.{Code, close, plain, nested}
use Rattle.wasm_operator_validator_soundness.specs.runs.Values.{Value, number_value, ref_null, ref_function, ref_object, ref_i31, Fits}
use Rattle.wasm_operator_validator_soundness.specs.runs.States.{Activation, Outcome, next, trapped, stuck, Move, done}
use Rattle.wasm_operator_validator_soundness.specs.runs.Machine.{begun_with}
use Rattle.wasm_operator_validator_soundness.specs.runs.Soundness.{step}
use Rattle.wasm_operator_validator_soundness.specs.runs.worked.Runs.{takes_i32, takes_i64, gives_i64, pair, triple, wide, octets, halves, fixed, end, five, call, throw, small, a_struct, silent, giving, deciding, standing, run, one}

-- a value is missing or does not fit its place, or an index, a label or the value of a local is not there
abbrev pub IsStuck : Move → Type 0
IsStuck m = (m.needs → ⊥) ⊎ (m.outcome ≡ stuck)

-- the type with an index that the module does not have
abbrev pub nowhere : HeapType
nowhere = written_heap.Concrete (index.Module 9)

-- a reference type that may be null, and an access to the first memory
abbrev pub to_heap : AbstractHeapType → Reference
to_heap h = record { nullable = true; heap = written_heap.Abstract false h }

abbrev pub argument : MemArg
argument = record { align = 0; max_align = 0; offset = 0; memory = 0; ordering = None; target = target.Memory }

abbrev pub long : Value
long = number_value i64 0

abbrev pub vector : Value
vector = number_value v128 0

-- with a constant of this number
module _ (x : ℤ) where
  -- a step of this operator over these values, of this code, and of what a run comes to
  abbrev pub at : List Value → Op → Move
  at vs o = step (small x) (standing (number i32 ∷ []) vs (plain o end)) silent

  abbrev pub at_code : List Value → Code → Move
  at_code vs c = step (small x) (standing (number i32 ∷ []) vs c) silent

  -- of an activation whose one local has no value yet
  abbrev pub at_unset : Op → Move
  at_unset o =
      let act : Activation = begun_with (ref false (abstract false any) ∷ []) (number i32 ∷ []) false (None ∷ [])
      (number i32 ∷ []) (plain o end) in
      step (small x) (act ∷ []) silent

  abbrev pub after : Outcome → Move
  after (next s) = step (small x) s silent
  after o = done o

  -- a throw of an i32, in a `try_table` with this clause, in a block that gives an i64
  abbrev pub thrown_in : Catch → Outcome
  thrown_in c =
      run x (nested (op.Control (control.Block (block.Val written.I64)))
      (nested (op.Exception (op.TryTable (record { ty = block.Empty; catches = c ∷ [] })))
      (plain (five x) (plain throw end)) end) end)
      (silent ∷ silent ∷ giving one ∷ [])

  pub record StuckWorked : Type 0 where
    -- operands
    pub operand_missing : IsStuck (at (one ∷ []) (op.Numeric numeric.I32Add))
    pub operand_wrong : IsStuck (at (long ∷ one ∷ []) (op.Numeric numeric.I32Add))
    pub shifted_by_vector : IsStuck (at (vector ∷ vector ∷ []) (op.SimdNumeric lanes.I64x2Shl))
    pub lane_of_number : IsStuck (at (long ∷ []) (op.Simd (simd.I32x4ExtractLane 0)))
    pub vector_missing : IsStuck (at (vector ∷ vector ∷ []) (op.SimdNumeric lanes.V128Bitselect))
    pub nothing_dropped : IsStuck (at [] (op.Parametric op.Drop))
    pub reference_selected : IsStuck (at (one ∷ (ref_i31 0) ∷ (ref_i31 0) ∷ []) (op.Parametric op.Select))
    pub no_reference : IsStuck (at (one ∷ []) (op.Bulk bulk.RefIsNull))
    pub parameter_missing : IsStuck (at_code [] (nested (op.Control (control.Block (block.FuncType 1))) end end))
    pub condition_wrong : IsStuck (at_code (long ∷ []) (nested (op.Control (control.If block.Empty)) end end))
    -- arguments, results, and what the caller awaits, whatever the function itself gives
    pub argument_wrong : IsStuck (at (ref_function None takes_i32 ∷ long ∷ []) (op.Control (control.CallRef 1)))
    pub no_function : IsStuck (at (ref_object 0 pair ∷ []) (op.Control (control.CallRef 0)))
    pub no_function_in_table : IsStuck (step (small x) (standing (number i32 ∷ []) (one ∷ [])
        (plain (op.Control (control.CallIndirect 0 0)) end)) (record silent { held = (ref_i31 0) }))
    pub result_wrong : IsStuck (at_code (long ∷ []) end)
    pub result_left : IsStuck (at_code (one ∷ one ∷ []) end)
    pub owed_wrong : IsStuck (step (small x) (standing (number i64 ∷ []) (one ∷ []) end) silent)
    -- exceptions
    pub thrown_wrong : IsStuck (at (long ∷ []) throw)
    pub handed_on_wrong : IsStuck (after (thrown_in (catch.One 0 0)))
    pub clause_label : IsStuck (after (thrown_in (catch.All 7)))
    pub clause_tag : IsStuck (after (thrown_in (catch.One 9 0)))
    pub nothing_caught : IsStuck (at [] (op.Exception (op.Rethrow 0)))
    pub delegate_label : IsStuck (at_code (one ∷ []) (close (op.Exception (op.Delegate 5))))
    -- locals and globals
    pub local_unset : IsStuck (at_unset (op.Memory (memory.LocalGet 0)))
    pub local_unknown : IsStuck (at [] (op.Memory (memory.LocalGet 0)))
    pub global_immutable : IsStuck (at (one ∷ []) (op.Memory (memory.GlobalSet 0)))
    pub global_unknown : IsStuck (at [] (op.Memory (memory.GlobalGet 9)))
    -- names that are not there
    pub label_unknown : IsStuck (at [] (op.Control (control.Br 1)))
    pub function_unknown : IsStuck (at [] (call 9))
    pub reference_unknown : IsStuck (at [] (op.Bulk (bulk.RefFunc 9)))
    pub table_unknown : IsStuck (at (one ∷ []) (op.Bulk (bulk.TableGet 9)))
    pub memory_unknown : IsStuck (at [] (op.Memory (memory.MemorySize 0)))
    pub no_memory_read : IsStuck (at (one ∷ []) (op.Memory (memory.I32Load argument)))
    pub no_memory_written : IsStuck (at (one ∷ one ∷ []) (op.Memory (memory.I32Store8 argument)))
    pub no_memory_changed : IsStuck (at (one ∷ one ∷ []) (op.Atomic (atomic.I32AtomicRmwAdd argument)))
    pub no_memory_for_vector : IsStuck (at (vector ∷ one ∷ []) (op.Simd (simd.V128Load8Lane argument 0)))
    pub no_memory_filled : IsStuck (at (one ∷ one ∷ one ∷ []) (op.Bulk (bulk.MemoryFill 0)))
    pub segment_unknown : IsStuck (at [] (op.Bulk (bulk.ElemDrop 0)))
    pub data_not_dropped : IsStuck (at [] (op.Bulk (bulk.DataDrop 9)))
    pub tag_unknown : IsStuck (at (one ∷ []) (op.Exception (op.Throw 9)))
    pub type_unknown : IsStuck (at (one ∷ []) (op.Gc (gc.StructNew 9)))
    pub block_unknown : IsStuck (at_code [] (nested (op.Control (control.Block (block.FuncType 9))) end end))
    pub null_unknown : IsStuck (at [] (op.Bulk (bulk.RefNull nowhere)))
    pub cast_unknown : IsStuck (at ((ref_i31 0) ∷ []) (op.Gc (gc.RefTestNullable nowhere)))
    -- structs and arrays
    pub array_as_struct : IsStuck (at (one ∷ []) (op.Gc (gc.StructNew 4)))
    pub struct_as_array : IsStuck (at (one ∷ one ∷ []) (op.Gc (gc.ArrayNew 2)))
    pub no_object : IsStuck (at ((ref_i31 0) ∷ []) (op.Gc (gc.StructGet 2 0)))
    pub field_unknown : IsStuck (at (ref_object 0 pair ∷ []) (op.Gc (gc.StructGet 2 1)))
    pub field_wrong : IsStuck (at (one ∷ ref_object 0 triple ∷ []) (op.Gc (gc.StructSet 3 1)))
    pub packed_as_whole : IsStuck (at (one ∷ ref_object 0 octets ∷ []) (op.Gc (gc.ArrayGet 6)))
    pub whole_as_packed : IsStuck (at (ref_object 0 pair ∷ []) (op.Gc (gc.StructGetS 2 0)))
    pub copied_apart : IsStuck (at (one ∷ one ∷ ref_object 0 octets ∷ one ∷ ref_object 0 halves ∷ [])
        (op.Gc (gc.ArrayCopy 7 6)))
    pub field_immutable : IsStuck (at (one ∷ one ∷ ref_object 0 fixed ∷ []) (op.Gc (gc.ArraySet 8)))
    pub initialised_immutable : IsStuck (at (one ∷ one ∷ one ∷ ref_object 0 fixed ∷ []) (op.Gc (gc.ArrayInitData 8 0)))
    pub no_array : IsStuck (at (ref_object 0 pair ∷ []) (op.Gc gc.ArrayLen))
    pub not_unboxed : IsStuck (at (ref_object 0 pair ∷ []) (op.Gc gc.I31GetS))
    pub not_compared : IsStuck (at ((ref_i31 0) ∷ ref_function None takes_i32 ∷ []) (op.Gc gc.RefEq))
    pub no_default : IsStuck (at [] (op.Gc (gc.StructNewDefault 5)))
    pub bytes_as_references : IsStuck (at (one ∷ one ∷ []) (op.Gc (gc.ArrayNewData 4 0)))
    pub data_unknown : IsStuck (at (one ∷ one ∷ []) (op.Gc (gc.ArrayNewData 6 9)))
    pub cast_elsewhere : IsStuck (at (ref_function None takes_i32 ∷ []) (op.Gc (gc.RefTestNullable a_struct)))
    pub cast_across : IsStuck (at ((ref_i31 0) ∷ []) (op.Gc (gc.BrOnCast 0 (to_heap heap.Any) (to_heap heap.Func))))
    -- no activation is left
    pub nothing_runs : IsStuck (step (small x) [] silent)

  -- The places are those of the function's own type and of the object's own, whatever the type that the operator names. A cast succeeds
  -- for what is of the type alone, and a null passes if the type may be null.
  pub record PlacesWorked : Type 0 where
    pub own_parameter : (at (ref_function None takes_i64 ∷ one ∷ []) (op.Control (control.CallRef 1))).needs
        → Fits (small x) one (number i64)
    pub own_results : (step (small x) (standing [] (ref_function None gives_i64 ∷ [])
        (plain (op.Control (control.CallRef 0)) end)) (giving one)).is_answer
        → Fits (small x) one (number i64)
    pub own_field_written : (at (one ∷ ref_object 0 wide ∷ []) (op.Gc (gc.StructSet 2 0))).needs
        → Fits (small x) one (number i64)
    pub own_field_read : (step (small x) (standing [] (ref_object 0 wide ∷ []) (plain (op.Gc (gc.StructGet 2 0)) end))
        (giving one)).is_answer
        → Fits (small x) one (number i64)
    pub inherited_field : (at (one ∷ ref_object 0 triple ∷ []) (op.Gc (gc.StructSet 2 0))).outcome ≡ next
        (standing (number i32 ∷ []) [] end)
    pub cast_fits : (step (small x) (standing [] ((ref_i31 0) ∷ []) (plain (op.Gc (gc.RefCastNullable a_struct)) end))
        deciding).is_answer
        → Fits (small x) (ref_i31 0) (ref false (abstract false struct))
    pub null_passes : (at (ref_null false any ∷ []) (op.Gc (gc.RefCastNullable a_struct))).outcome ≡ next
        (standing (number i32 ∷ []) (ref_null false any ∷ []) end)
    pub null_falls : (step (small x) (standing [] (ref_null false any ∷ [])
        (plain (op.Gc (gc.RefCastNonNull a_struct)) end)) deciding).outcome ≡ trapped
