-- Worked steps over a store: which of several outcomes it is, for each operator that has several.
use Rattle.std.specs.Prelude.{◌≡◌, ◌^◌, ℕ, ℤ, pos, negsuc, true, false, IsTrue, nat_lt, List, [], ◌∷◌, None}
use Rattle.wasm_types.specs.trees.Types.{any, func, exn, number, i32, i64, f32, f64}
use Rattle.wasm_types.specs.trees.declared.index.UnpackedIndex.TheVariants as index
use Rattle.wasm_types.specs.values.Reference.{Reference}
use Rattle.wasm_types.specs.values.declared.heap.AbstractHeapType.TheVariants as heap
use Rattle.wasm_types.specs.values.declared.heap.HeapType.TheVariants as written_heap
use Rattle.wasm_types.specs.values.declared.value.ValType.TheVariants as written
use Rattle.wasm_operators_immediates.specs.declared.block.BlockType.TheVariants as block
use Rattle.wasm_operators_immediates.specs.declared.handlers.Catch.{Catch}
use Rattle.wasm_operators_immediates.specs.declared.handlers.Catch.TheVariants as catch
use Rattle.wasm_operators_enums.specs.declared.bulk.BulkOperator.TheVariants as bulk
use Rattle.wasm_operators_enums.specs.declared.constant.ConstOperator.TheVariants as const
use Rattle.wasm_operators_enums.specs.declared.control.ControlOperator.TheVariants as control
use Rattle.wasm_operators_enums.specs.declared.gc.GcOperator.TheVariants as gc
use Rattle.wasm_operators_enums.specs.declared.memory.MemoryOperator.TheVariants as memory
use Rattle.wasm_operators_enums.specs.declared.numeric.NumericOperator.TheVariants as numeric
use Rattle.wasm_operators_enums.specs.Op as op
use Rattle.wasm_operators_enums.specs.Op.{Op}
use Rattle.wasm_operators_encoding.specs.expressions.Code.{Code, plain, nested, turn}
use Rattle.wasm_operator_validator_soundness.specs.runs.Values.{number_value, ref_null, ref_function, ref_i31, ref_exn}
use Rattle.wasm_operator_validator_soundness.specs.runs.States.{returned, trapped, thrown}
use Rattle.wasm_operator_validator_soundness.specs.runs.Soundness.{step}
use Rattle.wasm_operator_validator_soundness.specs.runs.worked.Runs.{silent, deciding, standing, throw, tried, i32_block, end, gives_i32, takes_i32}
use Rattle.wasm_operator_validator_store.specs.Stores.{Store, nothing, segment_in}
use Rattle.wasm_operator_validator_store.specs.Giving.{GivesStep}
use Rattle.wasm_operator_validator_store.specs.Determined.{step_is_determined}
use Rattle.wasm_operator_validator_store.specs.Traps.{step_traps}
use Rattle.wasm_operator_validator_store.specs.Exact.{step_is_exact}
use Rattle.wasm_operator_validator_store.specs.Instantiation.{dropped, IsUsed}
use Rattle.wasm_operator_validator_store.specs.worked.Program.{num, first_pair, some_cells, some_octets, scalar, own, giving, making, trapping, throwing, program, store, numbers, in_place, LeadsFrom, Leads, returns, gc_then, bulk_then, control_then, memory_then, const_then, drop_then, unreachable}
use Rattle.wasm_operator_validator_store.specs.worked.Arms.{any_reference, scalars, scalars_alone, references}

-- ---- code

-- a table of three labels, by this index: behind each of the first two another number is returned, and behind the last one a 5
abbrev pub returning : ℤ → Code
returning n = drop_then (const_then n (control_then control.Return unreachable))

abbrev pub choosing : ℕ → Code
choosing n = nested i32_block (nested i32_block (const_then (pos 5) (const_then (pos n)
    (control_then (control.BrTable (record { targets = 0 ∷ 1 ∷ []; default = 2 })) unreachable)))
    (returning (pos 11))) (returning (pos 12))

-- an `if` with two parts
abbrev pub parted : Code
parted = nested (op.Control (control.If (block.Val written.I32)))
    (const_then (pos 1) (turn (op.Control control.Else) (const_then (pos 2) end))) end

-- the instructions of a loop that are run a second time, once the local is 1, and then return a 7
abbrev pub looping : Code
looping = const_then (pos 7) (memory_then (memory.LocalGet 0) (control_then (control.BrIf 1) (drop_then
    (const_then (pos 1) (memory_then (memory.LocalSet 0) (control_then (control.Br 0) unreachable))))))

-- above an array, what it holds at a place, as a number, and whether that is null
abbrev pub element : ℕ → Code
element i = const_then (pos i) (gc_then (gc.ArrayGet 4) (gc_then gc.I31GetU end))

abbrev pub null_at : ℕ → Code
null_at i = const_then (pos i) (gc_then (gc.ArrayGet 4) (bulk_then bulk.RefIsNull end))

abbrev pub structs_alone : Reference
structs_alone = record { nullable = false; heap = written_heap.Abstract false heap.Struct }

-- an exception of the first tag, with the number 6; clauses around it; and a number behind the block to which they go
abbrev pub throws_six : Code
throws_six = const_then (pos 6) (plain throw end)

abbrev pub guarding : List Catch → Op
guarding cs = op.Exception (op.TryTable (record { ty = block.Empty; catches = cs }))

abbrev pub caught_by : List Catch → Code
caught_by cs = nested (op.Control (control.Block block.Empty)) (nested (guarding cs) throws_six unreachable)
    (const_then (pos 9) end)

-- ---- the rows

-- which label, which value, which part
pub record ChoicesWorked : Type 0 where
  pub first_label : Leads (choosing 0) [] (silent ∷ silent ∷ giving (num 5 ∷ []) ∷ giving (num 0 ∷ []) ∷ record silent {
    index = 0;
  } ∷ silent ∷ giving (num 11 ∷ []) ∷ []) silent (returns 11)
  pub second_label : Leads (choosing 1) [] (silent ∷ silent ∷ giving (num 5 ∷ []) ∷ giving (num 1 ∷ []) ∷ record silent
      { index = 1 } ∷ silent ∷ giving (num 12 ∷ []) ∷ []) silent (returns 12)
  pub default_label : Leads (choosing 2) [] (silent ∷ silent ∷ giving (num 5 ∷ []) ∷ giving (num 2 ∷ []) ∷ []) (record
      silent { index = 2 }) (returns 5)
  pub past_all_labels : Leads (choosing 4294967295) [] (silent ∷ silent ∷ giving (num 5 ∷ []) ∷ giving (num 4294967295 ∷
      []) ∷ []) (record silent { index = 4294967295 }) (returns 5)
  pub selected_first : Leads (plain (op.Parametric op.Select) end) (num 1 ∷ num 20 ∷ num 10 ∷ []) (deciding ∷ []) silent
      (returns 10)
  pub selected_first_by_any : Leads (plain (op.Parametric op.Select) end) (num 2147483648 ∷ num 20 ∷ num 10 ∷ [])
      (deciding ∷ []) silent (returns 10)
  pub selected_second : Leads (plain (op.Parametric op.Select) end) (num 0 ∷ num 20 ∷ num 10 ∷ []) (silent ∷ []) silent
      (returns 20)
  pub typed_first : Leads (plain (op.Parametric (op.TypedSelect written.I32)) end) (num 1 ∷ num 20 ∷ num 10 ∷ [])
      (deciding ∷ []) silent (returns 10)
  pub typed_first_by_any : Leads (plain (op.Parametric (op.TypedSelect written.I32)) end) (num 2147483648 ∷ num 20 ∷ num
      10 ∷ []) (deciding ∷ []) silent (returns 10)
  pub typed_second : Leads (plain (op.Parametric (op.TypedSelect written.I32)) end) (num 0 ∷ num 20 ∷ num 10 ∷ [])
      (silent ∷ []) silent (returns 20)
  pub first_part : Leads (parted) (num 2 ∷ []) (deciding ∷ giving (num 1 ∷ []) ∷ silent ∷ []) silent (returns 1)
  pub second_part : Leads (parted) (num 0 ∷ []) (silent ∷ giving (num 2 ∷ []) ∷ silent ∷ []) silent (returns 2)
  pub branches_by_any : Leads (control_then (control.BrIf 0) unreachable) (num 2147483648 ∷ num 7 ∷ []) [] deciding
      (returns 7)
  pub looped : LeadsFrom (in_place numbers [] (nested (op.Control (control.Loop block.Empty)) looping unreachable))
      (silent ∷ giving (num 7 ∷ []) ∷ silent ∷ silent ∷ silent ∷ giving (num 1 ∷ []) ∷ silent ∷ silent ∷ giving (num 7 ∷
      []) ∷ silent ∷ []) deciding (returns 7)

-- constants, by their bits
pub record ConstantsWorked : Type 0 where
  pub negative : LeadsFrom (in_place (number i32 ∷ []) [] (plain (op.Const (const.I32Const (negsuc 1))) end)) (giving
      (number_value i32 4294967294 ∷ []) ∷ []) silent (returned (number_value i32 4294967294 ∷ []))
  pub negative_wide : LeadsFrom (in_place (number i64 ∷ []) [] (plain (op.Const (const.I64Const (negsuc 1))) end))
      (giving (number_value i64 18446744073709551614 ∷ []) ∷ []) silent (returned (number_value i64 18446744073709551614
      ∷ []))
  pub positive_wide : LeadsFrom (in_place (number i64 ∷ []) [] (plain (op.Const (const.I64Const (pos 1099511627777)))
      end)) (giving (number_value i64 1099511627777 ∷ []) ∷ []) silent (returned (number_value i64 1099511627777 ∷ []))
  pub single : LeadsFrom (in_place (number f32 ∷ []) [] (plain (op.Const (const.F32Const (record { 0 = 1069547520 })))
      end)) (giving (number_value f32 1069547520 ∷ []) ∷ []) silent (returned (number_value f32 1069547520 ∷ []))
  pub double : LeadsFrom (in_place (number f64 ∷ []) [] (plain (op.Const (const.F64Const (record {
    0 =
        4609434218613702656;
  }))) end)) (giving (number_value f64 4609434218613702656 ∷ []) ∷ []) silent (returned
      (number_value f64 4609434218613702656 ∷ []))

-- arrays: their lengths and their elements
pub record ElementsWorked : Type 0 where
  pub length_of_new : Leads (gc_then (gc.ArrayNew 4) (gc_then gc.ArrayLen end)) (num 3 ∷ scalar ∷ []) (making 4 ∷ making
      3 ∷ []) silent (returns 3)
  pub no_element : Leads (gc_then (gc.ArrayNew 4) (gc_then gc.ArrayLen end)) (num 0 ∷ scalar ∷ []) (making 4 ∷ making 0
      ∷ []) silent (returns 0)
  pub last_of_new : Leads (gc_then (gc.ArrayNew 4) (element 2)) (num 3 ∷ scalar ∷ []) (making 4 ∷ giving (num 2 ∷ []) ∷
      giving (scalar ∷ []) ∷ making 4 ∷ []) silent (returns 4)
  pub past_new : Leads (gc_then (gc.ArrayNew 4) (element 3)) (num 3 ∷ scalar ∷ []) (making 4 ∷ giving (num 3 ∷ []) ∷ [])
      trapping trapped
  pub length_of_defaults : Leads (gc_then (gc.ArrayNewDefault 4) (gc_then gc.ArrayLen end)) (num 2 ∷ []) (making 4 ∷
      making 2 ∷ []) silent (returns 2)
  pub default_reference : Leads (gc_then (gc.ArrayNewDefault 4) (null_at 1)) (num 2 ∷ []) (making 4 ∷ giving (num 1 ∷
      []) ∷ giving (ref_null false any ∷ []) ∷ making 1 ∷ []) silent (returns 1)
  pub length_of_fixed : Leads (gc_then (gc.ArrayNewFixed 4 2) (gc_then gc.ArrayLen end)) (nothing ∷ scalar ∷ []) (making
      4 ∷ making 2 ∷ []) silent (returns 2)
  pub last_of_fixed : Leads (gc_then (gc.ArrayNewFixed 4 2) (null_at 1)) (nothing ∷ scalar ∷ []) (making 4 ∷ giving (num
      1 ∷ []) ∷ giving (nothing ∷ []) ∷ making 1 ∷ []) silent (returns 1)
  pub length_of_segment : Leads (gc_then (gc.ArrayNewElem 4 1) (gc_then gc.ArrayLen end)) (num 2 ∷ num 0 ∷ []) (record
      (giving (first_pair ∷ scalar ∷ [])) { made = 4 } ∷ making 2 ∷ []) silent (returns 2)
  pub set : Leads (gc_then (gc.ArraySet 4) (element 1)) (scalar ∷ num 1 ∷ some_cells ∷ some_cells ∷ []) (silent ∷ giving
      (num 1 ∷ []) ∷ giving (scalar ∷ []) ∷ making 4 ∷ []) silent (returns 4)
  pub others_not_set : Leads (gc_then (gc.ArraySet 4) (null_at 0)) (scalar ∷ num 1 ∷ some_cells ∷ some_cells ∷ [])
      (silent ∷ giving (num 0 ∷ []) ∷ giving (nothing ∷ []) ∷ making 1 ∷ []) silent (returns 1)
  pub set_past_the_end : Leads (gc_then (gc.ArraySet 4) end) (scalar ∷ num 3 ∷ some_cells ∷ []) [] trapping trapped
  pub null_set : Leads (gc_then (gc.ArraySet 4) end) (scalar ∷ num 0 ∷ nothing ∷ []) [] trapping trapped
  pub null_get : Leads (gc_then (gc.ArrayGet 4) end) (num 0 ∷ nothing ∷ []) [] trapping trapped
  pub null_length : Leads (gc_then gc.ArrayLen end) (nothing ∷ []) [] trapping trapped
  pub second_unsigned : Leads (gc_then (gc.ArrayGetU 6) end) (num 1 ∷ some_octets ∷ []) (giving (num 128 ∷ []) ∷ [])
      silent (returns 128)
  pub first_signed : Leads (gc_then (gc.ArrayGetS 6) end) (num 0 ∷ some_octets ∷ []) (giving (num 4294967295 ∷ []) ∷ [])
      silent (returns 4294967295)
  pub filled_past_the_end : Leads (gc_then (gc.ArrayFill 4) end) (num 2 ∷ scalar ∷ num 2 ∷ some_cells ∷ []) [] trapping
      trapped
  pub nothing_filled : Leads (gc_then (gc.ArrayFill 4) end) (num 0 ∷ scalar ∷ num 3 ∷ some_cells ∷ num 7 ∷ []) (silent ∷
      []) silent (returns 7)
  pub nothing_filled_past_the_end : Leads (gc_then (gc.ArrayFill 4) end) (num 0 ∷ scalar ∷ num 4 ∷ some_cells ∷ []) []
      trapping trapped
  pub filled_from_its_place : Leads (gc_then (gc.ArrayFill 4) (element 1)) (num 2 ∷ scalar ∷ num 1 ∷ some_cells ∷
      some_cells ∷ []) (silent ∷ giving (num 1 ∷ []) ∷ giving (scalar ∷ []) ∷ making 4 ∷ []) silent (returns 4)
  pub written_whole : Leads (gc_then (gc.ArrayInitElem 4 1) (element 1)) (num 2 ∷ num 0 ∷ num 0 ∷ some_cells ∷
      some_cells ∷ []) (giving (first_pair ∷ scalar ∷ []) ∷ giving (num 1 ∷ []) ∷ giving (scalar ∷ []) ∷ making 4 ∷ [])
      silent (returns 4)
  pub copied_over_itself : Leads (gc_then (gc.ArraySet 4) (gc_then (gc.ArrayCopy 4 4) (null_at 2))) (scalar ∷ num 0 ∷
      some_cells ∷ num 2 ∷ num 0 ∷ some_cells ∷ num 1 ∷ some_cells ∷ some_cells ∷ []) (silent ∷ giving (scalar ∷ nothing
      ∷ []) ∷ giving (num 2 ∷ []) ∷ giving (nothing ∷ []) ∷ making 1 ∷ []) silent (returns 1)
  pub copied_past_the_source : Leads (gc_then (gc.ArrayCopy 4 4) end) (num 2 ∷ num 2 ∷ some_cells ∷ num 0 ∷ some_cells ∷
      []) [] trapping trapped
  pub copied_past_the_end : Leads (gc_then (gc.ArrayCopy 4 4) end) (num 2 ∷ num 0 ∷ some_cells ∷ num 2 ∷ some_cells ∷
      []) [] trapping trapped

-- structs: which field, and how it is extended
pub record FieldsWorked : Type 0 where
  pub first_signed : Leads (gc_then (gc.StructNew 9) (gc_then (gc.StructGetS 9 0) end)) (num 65535 ∷ num 128 ∷ [])
      (making 4 ∷ giving (num 4294967168 ∷ []) ∷ []) silent (returns 4294967168)
  pub first_unsigned : Leads (gc_then (gc.StructNew 9) (gc_then (gc.StructGetU 9 0) end)) (num 65535 ∷ num 128 ∷ [])
      (making 4 ∷ giving (num 128 ∷ []) ∷ []) silent (returns 128)
  pub second_signed : Leads (gc_then (gc.StructNew 9) (gc_then (gc.StructGetS 9 1) end)) (num 65534 ∷ num 128 ∷ [])
      (making 4 ∷ giving (num 4294967294 ∷ []) ∷ []) silent (returns 4294967294)
  pub second_unsigned : Leads (gc_then (gc.StructNew 9) (gc_then (gc.StructGetU 9 1) end)) (num 65534 ∷ num 128 ∷ [])
      (making 4 ∷ giving (num 65534 ∷ []) ∷ []) silent (returns 65534)
  pub low_bits : Leads (gc_then (gc.StructNew 9) (gc_then (gc.StructGetU 9 0) end)) (num 0 ∷ num 511 ∷ []) (making 4 ∷
      giving (num 255 ∷ []) ∷ []) silent (returns 255)
  pub first_of_two : Leads (gc_then (gc.StructNew 3) (gc_then (gc.StructGet 3 0) end)) (number_value i64 9 ∷ num 5 ∷ [])
      (making 4 ∷ giving (num 5 ∷ []) ∷ []) silent (returns 5)
  pub null_set : Leads (gc_then (gc.StructSet 2 0) end) (num 5 ∷ nothing ∷ []) [] trapping trapped

-- references: one or not, null or not
pub record ReferencesWorked : Type 0 where
  pub nulls : Leads (gc_then gc.RefEq end) (nothing ∷ ref_null false any ∷ []) (making 1 ∷ []) silent (returns 1)
  pub scalars : Leads (gc_then gc.RefEq end) (scalar ∷ scalar ∷ []) (making 1 ∷ []) silent (returns 1)
  pub other_scalar : Leads (gc_then gc.RefEq end) (scalar ∷ ref_i31 5 ∷ []) (making 0 ∷ []) silent (returns 0)
  pub null_and_scalar : Leads (gc_then gc.RefEq end) (nothing ∷ scalar ∷ []) (making 0 ∷ []) silent (returns 0)
  pub scalar_and_null : Leads (gc_then gc.RefEq end) (scalar ∷ nothing ∷ []) (making 0 ∷ []) silent (returns 0)
  pub object_and_scalar : Leads (gc_then gc.RefEq end) (first_pair ∷ scalar ∷ []) (making 0 ∷ []) silent (returns 0)
  pub null : Leads (bulk_then bulk.RefIsNull end) (nothing ∷ []) (making 1 ∷ []) silent (returns 1)
  pub not_null : Leads (bulk_then bulk.RefIsNull end) (scalar ∷ []) (making 0 ∷ []) silent (returns 0)
  pub unsigned_scalar : Leads (gc_then gc.I31GetU end) (ref_i31 2147483647 ∷ []) (making 2147483647 ∷ []) silent
      (returns 2147483647)
  pub positive_scalar : Leads (gc_then gc.I31GetS end) (scalar ∷ []) (making 4 ∷ []) silent (returns 4)
  pub boxed : Leads (gc_then gc.RefI31 (gc_then gc.I31GetU end)) (num 2147483653 ∷ []) (giving (ref_i31 5 ∷ []) ∷ making
      5 ∷ []) silent (returns 5)
  pub null_unboxed_s : Leads (gc_then gc.I31GetS end) (nothing ∷ []) [] trapping trapped
  pub null_unboxed_u : Leads (gc_then gc.I31GetU end) (nothing ∷ []) [] trapping trapped

-- casts: a value of the type, one that is not, and null
pub record TestsWorked : Type 0 where
  pub of_the_type : Leads (gc_then (gc.RefTestNonNull (written_heap.Abstract false heap.I31)) end) (scalar ∷ []) (record
      deciding { made = 1 } ∷ []) silent (returns 1)
  pub of_the_type_or_null : Leads (gc_then (gc.RefTestNullable (written_heap.Abstract false heap.I31)) end) (scalar ∷
      []) (record deciding { made = 1 } ∷ []) silent (returns 1)
  pub not_of_the_type : Leads (gc_then (gc.RefTestNonNull (written_heap.Abstract false heap.Struct)) end) (scalar ∷ [])
      (silent ∷ []) silent (returns 0)
  pub not_of_the_type_or_null : Leads (gc_then (gc.RefTestNullable (written_heap.Abstract false heap.Struct)) end)
      (scalar ∷ []) (silent ∷ []) silent (returns 0)
  pub null_is_not : Leads (gc_then (gc.RefTestNonNull (written_heap.Abstract false heap.I31)) end) (nothing ∷ [])
      (silent ∷ []) silent (returns 0)
  pub null_is : Leads (gc_then (gc.RefTestNullable (written_heap.Abstract false heap.I31)) end) (nothing ∷ []) (making 1
      ∷ []) silent (returns 1)
  pub object_is_not : Leads (gc_then (gc.RefTestNonNull
      (written_heap.Concrete (index.Module 3))) end) (first_pair ∷ []) (silent ∷ []) silent (returns 0)
  pub passes : Leads (gc_then (gc.RefCastNonNull (written_heap.Abstract false heap.I31)) (gc_then gc.I31GetU end))
      (scalar ∷ []) (deciding ∷ making 4 ∷ []) silent (returns 4)
  pub passes_or_null : Leads (gc_then (gc.RefCastNullable (written_heap.Abstract false heap.I31)) (gc_then gc.I31GetU
      end)) (scalar ∷ []) (deciding ∷ making 4 ∷ []) silent (returns 4)
  pub fails : Leads (gc_then (gc.RefCastNonNull (written_heap.Abstract false heap.Struct)) (gc_then gc.I31GetU end))
      (scalar ∷ []) [] silent trapped
  pub fails_or_null : Leads (gc_then (gc.RefCastNullable (written_heap.Abstract false heap.Struct)) (gc_then gc.I31GetU
      end)) (scalar ∷ []) [] silent trapped
  pub null_fails : Leads (gc_then (gc.RefCastNonNull (written_heap.Abstract false heap.I31)) (gc_then gc.I31GetU end))
      (nothing ∷ []) [] silent trapped
  pub null_passes : Leads (gc_then (gc.RefCastNullable (written_heap.Abstract false heap.I31)) (bulk_then bulk.RefIsNull
      end)) (nothing ∷ []) (silent ∷ making 1 ∷ []) silent (returns 1)
  pub branches : LeadsFrom (in_place references (scalar ∷ []) (gc_then (gc.BrOnCast 0 any_reference scalars_alone)
      unreachable)) [] deciding (returned (scalar ∷ []))
  pub null_branches : LeadsFrom (in_place references (nothing ∷ []) (gc_then (gc.BrOnCast 0 any_reference scalars)
      unreachable)) [] silent (returned (nothing ∷ []))
  pub other_goes_on : LeadsFrom (in_place references (scalar ∷ []) (gc_then (gc.BrOnCast 0 any_reference structs_alone)
      (drop_then (bulk_then (bulk.RefNull (written_heap.Abstract false heap.Any)) end)))) (silent ∷ silent ∷ silent ∷
      []) silent (returned (ref_null false any ∷ []))
  pub null_goes_on : LeadsFrom (in_place references (nothing ∷ []) (gc_then (gc.BrOnCast 0 any_reference scalars_alone)
      unreachable)) (silent ∷ []) silent trapped
  pub other_fails : LeadsFrom (in_place references (scalar ∷ []) (gc_then (gc.BrOnCastFail 0 any_reference
      structs_alone) unreachable)) [] silent (returned (scalar ∷ []))
  pub same_passes : LeadsFrom (in_place references (scalar ∷ []) (gc_then (gc.BrOnCastFail 0 any_reference
      scalars_alone) unreachable)) (deciding ∷ []) silent trapped

-- exceptions: which clause, and again
pub record ClausesWorked : Type 0 where
  pub all_caught : Leads (caught_by (catch.All 0 ∷ [])) [] (silent ∷ silent ∷ giving (num 6 ∷ []) ∷ throwing 1 0 0 ∷
      giving (num 9 ∷ []) ∷ []) silent (returns 9)
  pub all_before_the_tag : Leads (caught_by (catch.All 0 ∷ catch.One 0 1 ∷ [])) [] (silent ∷ silent ∷ giving (num 6 ∷
      []) ∷ throwing 1 0 0 ∷ giving (num 9 ∷ []) ∷ []) silent (returns 9)
  pub all_behind_another : Leads (caught_by (catch.One 1 1 ∷ catch.All 0 ∷ [])) [] (silent ∷ silent ∷ giving (num 6 ∷
      []) ∷ throwing 1 0 1 ∷ giving (num 9 ∷ []) ∷ []) silent (returns 9)
  pub tag_before_all : Leads (caught_by (catch.One 0 1 ∷ catch.All 0 ∷ [])) [] (silent ∷ silent ∷ giving (num 6 ∷ []) ∷
      []) (throwing 1 0 0) (returns 6)
  pub none_for_it : Leads (caught_by (catch.One 1 1 ∷ [])) [] (silent ∷ silent ∷ giving (num 6 ∷ []) ∷ []) (throwing 1 3
      0) (thrown takes_i32 (num 6 ∷ []))
  pub all_with_a_reference : Leads (nested (op.Control (control.Block (block.FuncType 10))) (nested (guarding
      (catch.AllRef 0 ∷ [])) throws_six unreachable) (plain (op.Exception op.ThrowRef) end)) [] (silent ∷ silent ∷
      giving (num 6 ∷ []) ∷ throwing 1 0 0 ∷ []) (record (throwing 1 1 0) { values = num 6 ∷ [] }) (thrown takes_i32
      (num 6 ∷ []))
  pub clause_for_all : Leads (nested tried (const_then (pos 6) (plain throw (turn (op.Exception op.CatchAll) (const_then
      (pos 8) end)))) end) [] (silent ∷ giving (num 6 ∷ []) ∷ throwing 1 0 0 ∷ giving (num 8 ∷ []) ∷ silent ∷ []) silent
      (returns 8)
  pub rethrown : Leads (nested tried (const_then (pos 6) (plain throw (turn (op.Exception op.CatchAll) (plain
      (op.Exception (op.Rethrow 0)) end)))) end) [] (silent ∷ giving (num 6 ∷ []) ∷ throwing 1 0 0 ∷ []) (record
      (throwing 1 2 0) { values = num 6 ∷ [] }) (thrown takes_i32 (num 6 ∷ []))
  pub null_thrown : Leads (plain (op.Exception op.ThrowRef) end) (ref_null false exn ∷ []) [] silent trapped

-- tables and globals
pub record TablesWorked : Type 0 where
  pub get_first : Leads (bulk_then (bulk.TableSet 0) (bulk_then (bulk.TableGet 0) (bulk_then bulk.RefIsNull end))) (own
      ∷ num 1 ∷ num 0 ∷ []) (silent ∷ giving (ref_null false func ∷ []) ∷ making 1 ∷ []) silent (returns 1)
  pub get_second : Leads (bulk_then (bulk.TableSet 0) (bulk_then (bulk.TableGet 0) (bulk_then bulk.RefIsNull end))) (own
      ∷ num 1 ∷ num 1 ∷ []) (silent ∷ giving (own ∷ []) ∷ making 0 ∷ []) silent (returns 0)
  pub get_past_the_end : Leads (bulk_then (bulk.TableGet 0) (bulk_then bulk.RefIsNull end)) (num 2 ∷ []) [] trapping
      trapped
  pub set_past_the_end : Leads (bulk_then (bulk.TableSet 0) end) (own ∷ num 2 ∷ []) [] trapping trapped
  pub size : Leads (bulk_then (bulk.TableSize 0) end) [] (giving (num 2 ∷ []) ∷ []) silent (returns 2)
  pub wide_size : LeadsFrom (in_place (number i64 ∷ []) [] (bulk_then (bulk.TableSize 1) end)) (giving (number_value i64
      3 ∷ []) ∷ []) silent (returned (number_value i64 3 ∷ []))
  pub wide_grown : LeadsFrom (in_place (number i64 ∷ []) (number_value i64 1 ∷ own ∷ []) (bulk_then (bulk.TableGrow 1)
      (drop_then (bulk_then (bulk.TableSize 1) end)))) (giving (number_value i64 3 ∷ []) ∷ silent ∷ giving (number_value
      i64 4 ∷ []) ∷ []) silent (returned (number_value i64 4 ∷ []))
  pub wide_not_grown : LeadsFrom (in_place (number i64 ∷ []) (number_value i64 1 ∷ own ∷ []) (bulk_then (bulk.TableGrow
      1) end)) (giving (number_value i64 18446744073709551615 ∷ []) ∷ []) silent (returned (number_value i64
      18446744073709551615 ∷ []))
  pub filled_past_the_end : Leads (bulk_then (bulk.TableFill 0) end) (num 2 ∷ own ∷ num 1 ∷ []) [] trapping trapped
  pub initialised_past_the_segment : Leads (bulk_then (bulk.TableInit 0 0) end) (num 2 ∷ num 1 ∷ num 0 ∷ []) [] trapping
      trapped
  pub initialised_past_the_table : Leads (bulk_then (bulk.TableInit 0 0) end) (num 2 ∷ num 0 ∷ num 1 ∷ []) [] trapping
      trapped
  pub filled_whole : Leads (bulk_then (bulk.TableFill 0) (bulk_then (bulk.TableGet 0) (bulk_then bulk.RefIsNull end)))
      (num 2 ∷ own ∷ num 0 ∷ num 1 ∷ []) (silent ∷ giving (own ∷ []) ∷ making 0 ∷ []) silent (returns 0)
  pub initialised_at_its_place : Leads (bulk_then (bulk.TableInit 0 0) (bulk_then (bulk.TableGet 0) (bulk_then
      bulk.RefIsNull end))) (num 1 ∷ num 0 ∷ num 1 ∷ num 0 ∷ []) (giving (own ∷ []) ∷ giving (ref_null false func ∷ [])
      ∷ making 1 ∷ []) silent (returns 1)
  pub initialised_whole : Leads (bulk_then (bulk.TableInit 0 0) (bulk_then (bulk.TableGet 0) (bulk_then bulk.RefIsNull
      end))) (num 2 ∷ num 0 ∷ num 0 ∷ num 0 ∷ []) (giving (own ∷ own ∷ []) ∷ giving (own ∷ []) ∷ making 0 ∷ []) silent
      (returns 0)
  pub copied_whole : Leads (bulk_then (bulk.TableCopy 0 0) (bulk_then (bulk.TableGet 0) (bulk_then bulk.RefIsNull end)))
      (num 2 ∷ num 0 ∷ num 0 ∷ num 0 ∷ []) (giving (ref_null false func ∷ ref_null false func ∷ []) ∷ giving (ref_null
      false func ∷ []) ∷ making 1 ∷ []) silent (returns 1)
  pub copied_from_the_other : LeadsFrom (in_place numbers (num 1 ∷ number_value i64 0 ∷ num 0 ∷ num 0 ∷ []) (bulk_then
      (bulk.TableCopy 0 1) (bulk_then (bulk.TableGet 0) (bulk_then bulk.RefIsNull end)))) (giving (own ∷ []) ∷ giving
      (own ∷ []) ∷ making 0 ∷ []) silent (returns 0)
  pub other_dropped : Leads (bulk_then (bulk.ElemDrop 1) (bulk_then (bulk.TableInit 0 0) (bulk_then (bulk.TableGet 0)
      (bulk_then bulk.RefIsNull end)))) (num 1 ∷ num 0 ∷ num 0 ∷ num 0 ∷ []) (silent ∷ giving (own ∷ []) ∷ giving (own ∷
      []) ∷ making 0 ∷ []) silent (returns 0)
  pub second_dropped : Leads (bulk_then (bulk.ElemDrop 1) (gc_then (gc.ArrayNewElem 4 1) end)) (num 1 ∷ num 0 ∷ [])
      (silent ∷ []) trapping trapped
  pub grown_by_two : Leads (bulk_then (bulk.TableGrow 0) (drop_then (bulk_then (bulk.TableSize 0) end))) (num 2 ∷ own ∷
      []) (giving (num 2 ∷ []) ∷ silent ∷ giving (num 4 ∷ []) ∷ []) silent (returns 4)
  pub grown_with_it : Leads (bulk_then (bulk.TableGrow 0) (drop_then (bulk_then (bulk.TableGet 0) (bulk_then
      bulk.RefIsNull end)))) (num 1 ∷ own ∷ num 2 ∷ []) (giving (num 2 ∷ []) ∷ silent ∷ giving (own ∷ []) ∷ making 0 ∷
      []) silent (returns 0)
  -- as far as its size is a number of 32 bits, or of 64
  pub grown_so_far : Leads (bulk_then (bulk.TableGrow 0) end) (num 0xffff_fffd ∷ own ∷ []) (giving (num 2 ∷ []) ∷ [])
      silent (returns 2)
  pub no_further : (u : Store) → GivesStep program (standing numbers (num 0xffff_fffe ∷ own ∷ []) (bulk_then
      (bulk.TableGrow 0) end)) store (giving (num 2 ∷ [])) u → ⊥
  pub wide_grown_so_far : LeadsFrom (in_place (number i64 ∷ []) (number_value i64 0xffff_ffff_ffff_fffc ∷ own ∷ [])
      (bulk_then (bulk.TableGrow 1) end)) (giving (number_value i64 3 ∷ []) ∷ []) silent (returned (number_value i64 3 ∷ []))
  pub wide_no_further : (u : Store) → GivesStep program (in_place (number i64 ∷ []) (number_value i64
      0xffff_ffff_ffff_fffd ∷ own ∷ []) (bulk_then (bulk.TableGrow 1) end)) store (giving (number_value i64 3 ∷ [])) u → ⊥
  pub immutable : (step program (standing numbers (num 1 ∷ []) (memory_then (memory.GlobalSet 1) end)) silent).needs → ⊥
  pub declared : (u : Store) → IsUsed program 0 dropped store u → segment_in u 0 ≡ []

-- what is determined, and what is not
pub record OpenWorked : Type 0 where
  pub own_call : step_is_determined program (standing numbers [] (control_then (control.Call 0) end)) store ≡ true
  pub host_call : step_is_determined program (standing numbers [] (control_then (control.Call 6) end)) store ≡ false
  pub host_tail_call : step_is_determined program (standing numbers [] (control_then (control.ReturnCall 6) end)) store
      ≡ false
  pub own_reference : step_is_determined program (standing numbers (own ∷ []) (control_then (control.CallRef 0) end))
      store ≡ true
  pub null_reference : step_is_determined program (standing numbers (nothing ∷ []) (control_then (control.CallRef 0)
      end)) store ≡ true
  pub foreign_reference : step_is_determined program (standing numbers (ref_function None gives_i32 ∷ []) (control_then
      (control.CallRef 0) end)) store ≡ false
  pub null_through : step_is_determined program (standing numbers (num 0 ∷ []) (control_then (control.CallIndirect 0 0)
      end)) store ≡ true
  pub past_the_table : step_is_determined program (standing numbers (num 2 ∷ []) (control_then (control.CallIndirect 0
      0) end)) store ≡ true
  pub table_copy : step_is_determined program (standing numbers [] (bulk_then (bulk.TableCopy 0 0) end)) store ≡ true
  pub growth : step_is_determined program (standing numbers [] (bulk_then (bulk.TableGrow 0) end)) store ≡ false
  pub new_array : step_is_determined program (standing numbers [] (gc_then (gc.ArrayNew 4) end)) store ≡ true
  pub from_data : step_is_determined program (standing numbers [] (gc_then (gc.ArrayNewData 6 0) end)) store ≡ true
  pub cast : step_is_determined program (standing numbers [] (gc_then (gc.RefTestNonNull (written_heap.Abstract false
      heap.I31)) end)) store ≡ true
  pub internal : step_is_determined program (standing numbers [] (gc_then gc.AnyConvertExtern end)) store ≡ true
  pub external : step_is_determined program (standing numbers [] (gc_then gc.ExternConvertAny end)) store ≡ false
  pub sum : step_is_determined program (standing numbers [] (plain (op.Numeric numeric.I32Add) end)) store ≡ true
  pub float_sum : step_is_determined program (standing numbers [] (plain (op.Numeric numeric.F32Add) end)) store ≡ false
  pub memory_size : step_is_determined program (standing numbers [] (memory_then (memory.MemorySize 0) end)) store ≡
      true
  pub shared_size : step_is_determined program (standing numbers [] (memory_then (memory.MemorySize 2) end)) store ≡
      false
  pub memory_growth : step_is_determined program (standing numbers [] (memory_then (memory.MemoryGrow 0) end)) store ≡
      false
  pub memory_copy : step_is_determined program (standing numbers [] (bulk_then (bulk.MemoryCopy 0 1) end)) store ≡ true
  pub from_shared : step_is_determined program (standing numbers [] (bulk_then (bulk.MemoryCopy 0 2) end)) store ≡ false
  pub global_read : step_is_determined program (standing numbers [] (memory_then (memory.GlobalGet 0) end)) store ≡ true
  pub thrown_again : step_is_determined program (standing numbers [] (plain (op.Exception op.ThrowRef) end)) store ≡
      true
  pub chosen : step_is_determined program (standing numbers [] (plain (op.Parametric op.Select) end)) store ≡ true
  pub constant_given : step_is_determined program (standing numbers [] (const_then (pos 1) end)) store ≡ true

-- what may trap here, and what does not
pub record TrapsWorked : Type 0 where
  pub of_null : step_traps program (standing numbers (nothing ∷ []) (gc_then (gc.StructGet 2 0) end)) store ≡ true
  pub of_an_object : step_traps program (standing numbers (first_pair ∷ []) (gc_then (gc.StructGet 2 0) end)) store ≡
      false
  pub null_written : step_traps program (standing numbers (num 1 ∷ nothing ∷ []) (gc_then (gc.StructSet 2 0) end)) store
      ≡ true
  pub object_written : step_traps program (standing numbers (num 1 ∷ first_pair ∷ []) (gc_then (gc.StructSet 2 0) end))
      store ≡ false
  pub within : step_traps program (standing numbers (num 2 ∷ some_cells ∷ []) (gc_then (gc.ArrayGet 4) end)) store ≡
      false
  pub past : step_traps program (standing numbers (num 3 ∷ some_cells ∷ []) (gc_then (gc.ArrayGet 4) end)) store ≡ true
  pub written_within : step_traps program (standing numbers (scalar ∷ num 2 ∷ some_cells ∷ []) (gc_then (gc.ArraySet 4)
      end)) store ≡ false
  pub written_past : step_traps program (standing numbers (scalar ∷ num 3 ∷ some_cells ∷ []) (gc_then (gc.ArraySet 4)
      end)) store ≡ true
  pub filled_within : step_traps program (standing numbers (num 2 ∷ scalar ∷ num 1 ∷ some_cells ∷ []) (gc_then
      (gc.ArrayFill 4) end)) store ≡ false
  pub filled_past : step_traps program (standing numbers (num 3 ∷ scalar ∷ num 1 ∷ some_cells ∷ []) (gc_then
      (gc.ArrayFill 4) end)) store ≡ true
  pub length_of_null : step_traps program (standing numbers (nothing ∷ []) (gc_then gc.ArrayLen end)) store ≡ true
  pub length_of_array : step_traps program (standing numbers (some_cells ∷ []) (gc_then gc.ArrayLen end)) store ≡ false
  pub null_unboxed : step_traps program (standing numbers (nothing ∷ []) (gc_then gc.I31GetS end)) store ≡ true
  pub scalar_unboxed : step_traps program (standing numbers (scalar ∷ []) (gc_then gc.I31GetS end)) store ≡ false
  pub null_cast : step_traps program (standing numbers (nothing ∷ []) (gc_then (gc.RefCastNullable
      (written_heap.Abstract false heap.I31)) end)) store ≡ false
  pub cast : step_traps program (standing numbers (scalar ∷ []) (gc_then (gc.RefCastNullable (written_heap.Abstract
      false heap.I31)) end)) store ≡ true
  pub not_null : step_traps program (standing numbers (scalar ∷ []) (control_then control.RefAsNonNull end)) store ≡
      false
  pub null : step_traps program (standing numbers (nothing ∷ []) (control_then control.RefAsNonNull end)) store ≡ true
  pub own_call : step_traps program (standing numbers [] (control_then (control.Call 0) end)) store ≡ false
  pub host_call : step_traps program (standing numbers [] (control_then (control.Call 6) end)) store ≡ true
  pub own_reference : step_traps program (standing numbers (own ∷ []) (control_then (control.CallRef 0) end)) store ≡
      false
  pub null_reference : step_traps program (standing numbers (nothing ∷ []) (control_then (control.CallRef 0) end)) store
      ≡ true
  -- null does trap; a function of the host may
  pub null_exact : step_is_exact program (standing numbers (nothing ∷ []) (control_then (control.CallRef 0) end)) ≡ true
  pub null_tail_exact : step_is_exact program (standing numbers (nothing ∷ []) (control_then (control.ReturnCallRef 0)
      end)) ≡ true
  pub function_inexact : step_is_exact program (standing numbers (own ∷ []) (control_then (control.CallRef 0) end)) ≡
      false
  pub throw_exact : step_is_exact program (standing numbers (ref_null false exn ∷ []) (plain (op.Exception op.ThrowRef)
      end)) ≡ true
  pub null_thrown : step_traps program (standing numbers (ref_null false exn ∷ []) (plain (op.Exception op.ThrowRef)
      end)) store ≡ true
  pub exception_thrown : step_traps program (standing numbers (ref_exn 0 takes_i32 ∷ []) (plain (op.Exception
      op.ThrowRef) end)) store ≡ false
  pub in_the_table : step_traps program (standing numbers (num 1 ∷ []) (bulk_then (bulk.TableGet 0) end)) store ≡ false
  pub past_the_table : step_traps program (standing numbers (num 2 ∷ []) (bulk_then (bulk.TableGet 0) end)) store ≡ true
  pub grown : step_traps program (standing numbers (num 1 ∷ own ∷ []) (bulk_then (bulk.TableGrow 0) end)) store ≡ false
  pub init_within : step_traps program (standing numbers (num 2 ∷ num 0 ∷ num 0 ∷ []) (bulk_then (bulk.TableInit 0 0)
      end)) store ≡ false
  pub init_past : step_traps program (standing numbers (num 2 ∷ num 1 ∷ num 0 ∷ []) (bulk_then (bulk.TableInit 0 0) end))
      store ≡ true
  pub copy_within : step_traps program (standing numbers (num 1 ∷ num 0 ∷ num 1 ∷ []) (bulk_then (bulk.TableCopy 0 0)
      end)) store ≡ false
  pub copy_past : step_traps program (standing numbers (num 1 ∷ num 0 ∷ num 2 ∷ []) (bulk_then (bulk.TableCopy 0 0) end))
      store ≡ true
  pub elements_within : step_traps program (standing numbers (num 2 ∷ num 0 ∷ []) (gc_then (gc.ArrayNewElem 4 1) end))
      store ≡ false
  pub elements_past : step_traps program (standing numbers (num 2 ∷ num 1 ∷ []) (gc_then (gc.ArrayNewElem 4 1) end))
      store ≡ true
  pub copied_within : step_traps program (standing numbers (num 1 ∷ num 2 ∷ some_cells ∷ num 0 ∷ some_cells ∷ [])
      (gc_then (gc.ArrayCopy 4 4) end)) store ≡ false
  pub copied_past : step_traps program (standing numbers (num 2 ∷ num 2 ∷ some_cells ∷ num 0 ∷ some_cells ∷ []) (gc_then
      (gc.ArrayCopy 4 4) end)) store ≡ true
  pub copied_to_null : step_traps program (standing numbers (num 1 ∷ num 2 ∷ some_cells ∷ num 0 ∷ nothing ∷ []) (gc_then
      (gc.ArrayCopy 4 4) end)) store ≡ true
  pub from_segment : step_traps program (standing numbers (num 2 ∷ num 0 ∷ num 1 ∷ some_cells ∷ []) (gc_then
      (gc.ArrayInitElem 4 1) end)) store ≡ false
  pub from_segment_past : step_traps program (standing numbers (num 2 ∷ num 0 ∷ num 2 ∷ some_cells ∷ []) (gc_then
      (gc.ArrayInitElem 4 1) end)) store ≡ true
  pub bytes_within : step_traps program (standing numbers (num 5 ∷ num 0 ∷ []) (gc_then (gc.ArrayNewData 6 0) end)) store
      ≡ false
  pub bytes_past : step_traps program (standing numbers (num 5 ∷ num 1 ∷ []) (gc_then (gc.ArrayNewData 6 0) end)) store
      ≡ true
  pub filled_bytes : step_traps program (standing numbers (num 2 ∷ num 1 ∷ num 6 ∷ []) (bulk_then (bulk.MemoryFill 0)
      end)) store ≡ false
  pub filled_bytes_past : step_traps program (standing numbers (num 2 ∷ num 1 ∷ num 7 ∷ []) (bulk_then (bulk.MemoryFill
      0) end)) store ≡ true
  pub sum : step_traps program (standing numbers (num 1 ∷ num 2 ∷ []) (plain (op.Numeric numeric.I32Add) end)) store ≡
      false
  pub quotient : step_traps program (standing numbers (num 1 ∷ num 2 ∷ []) (plain (op.Numeric numeric.I32DivS) end))
      store ≡ false
  pub quotient_by_zero : step_traps program (standing numbers (num 0 ∷ num 2 ∷ []) (plain (op.Numeric numeric.I32DivS)
      end)) store ≡ true
  pub rounded : step_traps program (standing numbers (number_value f32 0 ∷ []) (plain (op.Numeric numeric.I32TruncF32S)
      end)) store ≡ true
  pub float_sum : step_traps program (standing numbers (number_value f32 0 ∷ number_value f32 0 ∷ []) (plain (op.Numeric
      numeric.F32Add) end)) store ≡ false
  pub size : step_traps program (standing numbers [] (memory_then (memory.MemorySize 0) end)) store ≡ false
  pub chosen : step_traps program (standing numbers [] (plain (op.Parametric op.Select) end)) store ≡ false
  pub no_sum_traps : GivesStep program (standing numbers (num 1 ∷ num 2 ∷ []) (plain (op.Numeric numeric.I32Add) end))
      store trapping store → ⊥
  pub no_float_traps : GivesStep program (standing numbers (number_value f32 0 ∷ number_value f32 0 ∷ []) (plain
      (op.Numeric numeric.F32Add) end)) store trapping store → ⊥
  pub no_size_traps : GivesStep program (standing numbers [] (memory_then (memory.MemorySize 0) end)) store trapping
      store → ⊥
  pub size_within : (n : ℕ) (u : Store) → GivesStep program (standing numbers [] (memory_then (memory.MemorySize 2)
      end)) store (giving (num n ∷ [])) u → IsTrue (nat_lt n (2 ^ 32))

pub record OutcomesWorked : Type 0 where
  pub choices : ChoicesWorked
  pub constants : ConstantsWorked
  pub elements : ElementsWorked
  pub fields : FieldsWorked
  pub references : ReferencesWorked
  pub tests : TestsWorked
  pub clauses : ClausesWorked
  pub tables : TablesWorked
  pub openness : OpenWorked
  pub traps : TrapsWorked
