-- Worked steps over a store: what is read from memories and data segments, what is written, and what is past their ends.
use Rattle.std.specs.Prelude.{◌≡◌, ℕ, pos, true, false, [], ◌∷◌, Some, None, is_some}
use Rattle.wasm_types.specs.trees.Types.{number, i64, f32, f64, v128}
use Rattle.wasm_operators_immediates.specs.declared.memory.MemArg.{MemArg}
use Rattle.wasm_operators_immediates.specs.declared.memory.MemArgTarget.TheVariants as target
use Rattle.wasm_operators_enums.specs.declared.bulk.BulkOperator.TheVariants as bulk
use Rattle.wasm_operators_enums.specs.declared.gc.GcOperator.TheVariants as gc
use Rattle.wasm_operators_enums.specs.declared.memory.MemoryOperator.TheVariants as memory
use Rattle.wasm_operators_enums.specs.declared.vector.SimdOperator.TheVariants as simd
use Rattle.wasm_operators_enums.specs.Op as op
use Rattle.wasm_operators_encoding.specs.expressions.Code.{plain}
use Rattle.wasm_operator_validator_soundness.specs.runs.Values.{number_value}
use Rattle.wasm_operator_validator_soundness.specs.runs.States.{returned, trapped}
use Rattle.wasm_operator_validator_soundness.specs.runs.worked.Runs.{silent, standing, end}
use Rattle.wasm_operator_validator_store.specs.Stores.{Store, page_of, most_pages, most_grown, pages_held, grown}
use Rattle.wasm_operator_validator_store.specs.Giving.{GivesStep}
use Rattle.wasm_operator_validator_store.specs.Determined.{step_is_determined}
use Rattle.wasm_operator_validator_store.specs.Traps.{step_traps}
use Rattle.wasm_operator_validator_store.specs.worked.Program.{num, some_octets, small_memory, empty_memory, small_bytes, memory_of, giving, trapping, program, store, numbers, in_place, LeadsFrom, Leads, returns, gc_then, bulk_then, memory_then, const_then, drop_then}

-- at this offset, in this memory
abbrev pub at : ℕ → ℕ → MemArg
at offset x = record { align = 0; max_align = 0; offset = offset; memory = x; ordering = None; target = target.Memory }

-- loads: the lowest byte first, with a sign and without
pub record LoadsWorked : Type 0 where
  pub word : Leads (memory_then (memory.I32Load (at 0 0)) end) (num 0 ∷ []) (giving (num 4277993985 ∷ []) ∷ []) silent (returns 4277993985)
  pub signed_byte : Leads (memory_then (memory.I32Load8S (at 0 0)) end) (num 2 ∷ []) (giving (num 4294967293 ∷ []) ∷ []) silent (returns 4294967293)
  pub positive_byte : Leads (memory_then (memory.I32Load8S (at 0 0)) end) (num 0 ∷ []) (giving (num 1 ∷ []) ∷ []) silent (returns 1)
  pub byte : Leads (memory_then (memory.I32Load8U (at 0 0)) end) (num 2 ∷ []) (giving (num 253 ∷ []) ∷ []) silent (returns 253)
  pub signed_half : Leads (memory_then (memory.I32Load16S (at 0 0)) end) (num 6 ∷ []) (giving (num 4294934535 ∷ []) ∷ []) silent (returns 4294934535)
  pub half : Leads (memory_then (memory.I32Load16U (at 0 0)) end) (num 6 ∷ []) (giving (num 32775 ∷ []) ∷ []) silent (returns 32775)
  pub order : Leads (memory_then (memory.I32Load16U (at 0 0)) end) (num 0 ∷ []) (giving (num 513 ∷ []) ∷ []) silent (returns 513)
  pub wide_word : LeadsFrom (in_place (number i64 ∷ []) (num 0 ∷ []) (memory_then (memory.I64Load (at 0 0)) end)) (giving (number_value i64 9225348984514347521 ∷ []) ∷ []) silent (returned (number_value i64 9225348984514347521 ∷ []))
  pub signed_word : LeadsFrom (in_place (number i64 ∷ []) (num 4 ∷ []) (memory_then (memory.I64Load32S (at 0 0)) end)) (giving (number_value i64 18446744071562528261 ∷ []) ∷ []) silent (returned (number_value i64 18446744071562528261 ∷ []))
  pub unsigned_word : LeadsFrom (in_place (number i64 ∷ []) (num 4 ∷ []) (memory_then (memory.I64Load32U (at 0 0)) end)) (giving (number_value i64 2147943941 ∷ []) ∷ []) silent (returned (number_value i64 2147943941 ∷ []))
  pub wide_byte : LeadsFrom (in_place (number i64 ∷ []) (num 3 ∷ []) (memory_then (memory.I64Load8S (at 0 0)) end)) (giving (number_value i64 18446744073709551614 ∷ []) ∷ []) silent (returned (number_value i64 18446744073709551614 ∷ []))
  pub float : LeadsFrom (in_place (number f32 ∷ []) (num 0 ∷ []) (memory_then (memory.F32Load (at 0 0)) end)) (giving (number_value f32 4277993985 ∷ []) ∷ []) silent (returned (number_value f32 4277993985 ∷ []))
  pub double : LeadsFrom (in_place (number f64 ∷ []) (num 0 ∷ []) (memory_then (memory.F64Load (at 0 0)) end)) (giving (number_value f64 9225348984514347521 ∷ []) ∷ []) silent (returned (number_value f64 9225348984514347521 ∷ []))
  pub offset : Leads (memory_then (memory.I32Load8U (at 3 0)) end) (num 1 ∷ []) (giving (num 5 ∷ []) ∷ []) silent (returns 5)
  pub of_wide_memory : Leads (memory_then (memory.I32Load8U (at 1 1)) end) (number_value i64 2 ∷ []) (giving (num 6 ∷ []) ∷ []) silent (returns 6)
  pub splat : LeadsFrom (in_place (number v128 ∷ []) (num 3 ∷ []) (plain (op.Simd (simd.V128Load8Splat (at 0 0))) end)) (giving (number_value v128 338947926266346547920380981520271081214 ∷ []) ∷ []) silent (returned (number_value v128 338947926266346547920380981520271081214 ∷ []))
  pub wide_splat : LeadsFrom (in_place (number v128 ∷ []) (num 0 ∷ []) (plain (op.Simd (simd.V128Load64Splat (at 0 0))) end)) (giving (number_value v128 170177651707992470205820456276225491457 ∷ []) ∷ []) silent (returned (number_value v128 170177651707992470205820456276225491457 ∷ []))
  pub signed_lanes : LeadsFrom (in_place (number v128 ∷ []) (num 0 ∷ []) (plain (op.Simd (simd.V128Load8x8S (at 0 0))) end)) (giving (number_value v128 339617753477650396792370937785879756801 ∷ []) ∷ []) silent (returned (number_value v128 339617753477650396792370937785879756801 ∷ []))
  pub lanes : LeadsFrom (in_place (number v128 ∷ []) (num 0 ∷ []) (plain (op.Simd (simd.V128Load8x8U (at 0 0))) end)) (giving (number_value v128 664614552496849183525170559255183361 ∷ []) ∷ []) silent (returned (number_value v128 664614552496849183525170559255183361 ∷ []))
  pub wider_lanes : LeadsFrom (in_place (number v128 ∷ []) (num 0 ∷ []) (plain (op.Simd (simd.V128Load16x4S (at 0 0))) end)) (giving (number_value v128 340279771327106362094290065886143316481 ∷ []) ∷ []) silent (returned (number_value v128 340279771327106362094290065886143316481 ∷ []))
  pub zeros_above : LeadsFrom (in_place (number v128 ∷ []) (num 0 ∷ []) (plain (op.Simd (simd.V128Load32Zero (at 0 0))) end)) (giving (number_value v128 4277993985 ∷ []) ∷ []) silent (returned (number_value v128 4277993985 ∷ []))
  pub one_lane : LeadsFrom (in_place (number v128 ∷ []) (number_value v128 65793 ∷ num 2 ∷ []) (plain (op.Simd (simd.V128Load8Lane (at 0 0) 1)) end)) (giving (number_value v128 130305 ∷ []) ∷ []) silent (returned (number_value v128 130305 ∷ []))

-- bounds: the index, the offset and the width, as numbers that do not wrap
pub record BoundsWorked : Type 0 where
  pub last_word : Leads (memory_then (memory.I32Load (at 0 0)) end) (num 4 ∷ []) (giving (num 2147943941 ∷ []) ∷ []) silent (returns 2147943941)
  pub past_word : Leads (memory_then (memory.I32Load (at 0 0)) end) (num 5 ∷ []) ([]) trapping trapped
  pub last_by_offset : Leads (memory_then (memory.I32Load (at 4 0)) end) (num 0 ∷ []) (giving (num 2147943941 ∷ []) ∷ []) silent (returns 2147943941)
  pub past_by_offset : Leads (memory_then (memory.I32Load (at 5 0)) end) (num 0 ∷ []) ([]) trapping trapped
  pub past_byte : Leads (memory_then (memory.I32Load8U (at 0 0)) end) (num 8 ∷ []) ([]) trapping trapped
  pub no_wrap : Leads (memory_then (memory.I32Load8U (at 1 0)) end) (num 4294967295 ∷ []) ([]) trapping trapped
  pub great_offset : Leads (memory_then (memory.I32Load8U (at 4294967295 0)) end) (num 0 ∷ []) ([]) trapping trapped
  pub no_wide_wrap : Leads (memory_then (memory.I32Load8U (at 1 1)) end) (number_value i64 18446744073709551615 ∷ []) ([]) trapping trapped
  pub great_wide_offset : Leads (memory_then (memory.I32Load8U (at 4294967296 1)) end) (number_value i64 0 ∷ []) ([]) trapping trapped
  pub past_store : Leads (memory_then (memory.I32Store (at 0 0)) end) (num 1 ∷ num 5 ∷ []) ([]) trapping trapped
  pub past_vector : Leads (plain (op.Simd (simd.V128Load (at 0 0))) end) (num 0 ∷ []) ([]) trapping trapped
  pub empty : Leads (memory_then (memory.I32Load8U (at 0 3)) end) (num 0 ∷ []) ([]) trapping trapped

-- stores, and what is read afterwards: the bytes that were written, and the others as they were
pub record StoresWorked : Type 0 where
  pub byte_below : Leads (memory_then (memory.I32Store8 (at 0 0)) (memory_then (memory.I32Load8U (at 0 0)) end)) (num 511 ∷ num 3 ∷ num 2 ∷ []) (silent ∷ giving (num 253 ∷ []) ∷ []) silent (returns 253)
  pub byte_written : Leads (memory_then (memory.I32Store8 (at 0 0)) (memory_then (memory.I32Load8U (at 0 0)) end)) (num 511 ∷ num 3 ∷ num 3 ∷ []) (silent ∷ giving (num 255 ∷ []) ∷ []) silent (returns 255)
  pub byte_above : Leads (memory_then (memory.I32Store8 (at 0 0)) (memory_then (memory.I32Load8U (at 0 0)) end)) (num 511 ∷ num 3 ∷ num 4 ∷ []) (silent ∷ giving (num 5 ∷ []) ∷ []) silent (returns 5)
  pub half_low : Leads (memory_then (memory.I32Store16 (at 0 0)) (memory_then (memory.I32Load8U (at 0 0)) end)) (num 511 ∷ num 2 ∷ num 2 ∷ []) (silent ∷ giving (num 255 ∷ []) ∷ []) silent (returns 255)
  pub half_high : Leads (memory_then (memory.I32Store16 (at 0 0)) (memory_then (memory.I32Load8U (at 0 0)) end)) (num 511 ∷ num 2 ∷ num 3 ∷ []) (silent ∷ giving (num 1 ∷ []) ∷ []) silent (returns 1)
  pub half_above : Leads (memory_then (memory.I32Store16 (at 0 0)) (memory_then (memory.I32Load8U (at 0 0)) end)) (num 511 ∷ num 2 ∷ num 4 ∷ []) (silent ∷ giving (num 5 ∷ []) ∷ []) silent (returns 5)
  pub word_within : Leads (memory_then (memory.I32Store (at 0 0)) (memory_then (memory.I32Load16U (at 0 0)) end)) (num 67305985 ∷ num 0 ∷ num 1 ∷ []) (silent ∷ giving (num 770 ∷ []) ∷ []) silent (returns 770)
  pub wide_low : Leads (memory_then (memory.I64Store32 (at 0 0)) (memory_then (memory.I32Load (at 0 0)) end)) (number_value i64 4294967297 ∷ num 0 ∷ num 0 ∷ []) (silent ∷ giving (num 1 ∷ []) ∷ []) silent (returns 1)
  pub wide_kept : Leads (memory_then (memory.I64Store32 (at 0 0)) (memory_then (memory.I32Load8U (at 4 0)) end)) (number_value i64 18446744073709551615 ∷ num 0 ∷ num 0 ∷ []) (silent ∷ giving (num 5 ∷ []) ∷ []) silent (returns 5)
  pub float_bits : Leads (memory_then (memory.F32Store (at 0 0)) (memory_then (memory.I32Load (at 0 0)) end)) (number_value f32 5 ∷ num 4 ∷ num 4 ∷ []) (silent ∷ giving (num 5 ∷ []) ∷ []) silent (returns 5)
  pub lane_stored : Leads (plain (op.Simd (simd.V128Store8Lane (at 0 0) 1)) (memory_then (memory.I32Load8U (at 0 0)) end)) (number_value v128 197633 ∷ num 0 ∷ num 0 ∷ []) (silent ∷ giving (num 4 ∷ []) ∷ []) silent (returns 4)
  pub second_memory : Leads (memory_then (memory.I32Store8 (at 0 1)) (memory_then (memory.I32Load8U (at 0 1)) end))
      (num 77 ∷ number_value i64 2 ∷ number_value i64 2 ∷ []) (silent ∷ giving (num 77 ∷ []) ∷ []) silent (returns 77)
  pub other_memory : Leads (memory_then (memory.I32Store8 (at 0 0)) (memory_then (memory.I32Load8U (at 0 1)) end)) (num 77 ∷ num 0 ∷ number_value i64 0 ∷ []) (silent ∷ giving (num 9 ∷ []) ∷ []) silent (returns 9)

-- sizes, and growth within the maximum
pub record SizesWorked : Type 0 where
  pub size : Leads (memory_then (memory.MemorySize 0) end) ([]) (giving (num 8 ∷ []) ∷ []) silent (returns 8)
  pub wide_size : LeadsFrom (in_place (number i64 ∷ []) ([]) (memory_then (memory.MemorySize 1) end)) (giving (number_value i64 4 ∷ []) ∷ []) silent (returned (number_value i64 4 ∷ []))
  pub no_pages : Leads (memory_then (memory.MemorySize 3) end) ([]) (giving (num 0 ∷ []) ∷ []) silent (returns 0)
  pub grown_size : Leads (memory_then (memory.MemoryGrow 0) (drop_then (memory_then (memory.MemorySize 0) end))) (num 2 ∷ []) (giving (num 8 ∷ []) ∷ silent ∷ giving (num 10 ∷ []) ∷ []) silent (returns 10)
  pub grown_zeros : Leads (memory_then (memory.MemoryGrow 0) (drop_then (memory_then (memory.I32Load8U (at 0 0)) end))) (num 2 ∷ num 9 ∷ []) (giving (num 8 ∷ []) ∷ silent ∷ giving (num 0 ∷ []) ∷ []) silent (returns 0)
  pub grown_keeps : Leads (memory_then (memory.MemoryGrow 0) (drop_then (memory_then (memory.I32Load8U (at 0 0)) end))) (num 2 ∷ num 7 ∷ []) (giving (num 8 ∷ []) ∷ silent ∷ giving (num 128 ∷ []) ∷ []) silent (returns 128)
  pub may_fail : Leads (memory_then (memory.MemoryGrow 0) end) (num 2 ∷ []) (giving (num 4294967295 ∷ []) ∷ []) silent (returns 4294967295)
  pub past_maximum : Leads (memory_then (memory.MemoryGrow 0) end) (num 3 ∷ []) (giving (num 4294967295 ∷ []) ∷ []) silent (returns 4294967295)
  pub past_pages : Leads (memory_then (memory.MemoryGrow 3) end) (num 3 ∷ []) (giving (num 4294967295 ∷ []) ∷ []) silent (returns 4294967295)
  pub wide_growth : LeadsFrom (in_place (number i64 ∷ []) (number_value i64 1 ∷ []) (memory_then (memory.MemoryGrow 1) end)) (giving (number_value i64 4 ∷ []) ∷ []) silent (returned (number_value i64 4 ∷ []))

-- ranges of memories and data segments
pub record RangesWorked : Type 0 where
  pub fill_below : Leads (bulk_then (bulk.MemoryFill 0) (memory_then (memory.I32Load8U (at 0 0)) end)) (num 2 ∷ num 511 ∷ num 1 ∷ num 0 ∷ []) (silent ∷ giving (num 1 ∷ []) ∷ []) silent (returns 1)
  pub filled_first : Leads (bulk_then (bulk.MemoryFill 0) (memory_then (memory.I32Load8U (at 0 0)) end)) (num 2 ∷ num 511 ∷ num 1 ∷ num 1 ∷ []) (silent ∷ giving (num 255 ∷ []) ∷ []) silent (returns 255)
  pub filled_last : Leads (bulk_then (bulk.MemoryFill 0) (memory_then (memory.I32Load8U (at 0 0)) end)) (num 2 ∷ num 511 ∷ num 1 ∷ num 2 ∷ []) (silent ∷ giving (num 255 ∷ []) ∷ []) silent (returns 255)
  pub fill_above : Leads (bulk_then (bulk.MemoryFill 0) (memory_then (memory.I32Load8U (at 0 0)) end)) (num 2 ∷ num 511 ∷ num 1 ∷ num 3 ∷ []) (silent ∷ giving (num 254 ∷ []) ∷ []) silent (returns 254)
  pub fill_past : Leads (bulk_then (bulk.MemoryFill 0) end) (num 2 ∷ num 511 ∷ num 7 ∷ []) ([]) trapping trapped
  pub fill_nothing_past : Leads (bulk_then (bulk.MemoryFill 0) end) (num 0 ∷ num 511 ∷ num 9 ∷ []) ([]) trapping trapped
  pub fill_nothing_at_end : Leads (bulk_then (bulk.MemoryFill 0) (memory_then (memory.I32Load8U (at 0 0)) end)) (num 0 ∷ num 511 ∷ num 8 ∷ num 7 ∷ []) (silent ∷ giving (num 128 ∷ []) ∷ []) silent (returns 128)
  pub copied_first : Leads (bulk_then (bulk.MemoryCopy 0 0) (memory_then (memory.I32Load8U (at 0 0)) end)) (num 3 ∷ num 0 ∷ num 1 ∷ num 1 ∷ []) (silent ∷ giving (num 1 ∷ []) ∷ []) silent (returns 1)
  pub copied_second : Leads (bulk_then (bulk.MemoryCopy 0 0) (memory_then (memory.I32Load8U (at 0 0)) end)) (num 3 ∷ num 0 ∷ num 1 ∷ num 2 ∷ []) (silent ∷ giving (num 2 ∷ []) ∷ []) silent (returns 2)
  pub copied_over_itself : Leads (bulk_then (bulk.MemoryCopy 0 0) (memory_then (memory.I32Load8U (at 0 0)) end)) (num 3 ∷ num 0 ∷ num 1 ∷ num 3 ∷ []) (silent ∷ giving (num 253 ∷ []) ∷ []) silent (returns 253)
  pub copied_between : Leads (bulk_then (bulk.MemoryCopy 0 1) (memory_then (memory.I32Load8U (at 0 0)) end)) (num 2 ∷ number_value i64 1 ∷ num 5 ∷ num 6 ∷ []) (silent ∷ giving (num 7 ∷ []) ∷ []) silent (returns 7)
  pub copied_past_source : Leads (bulk_then (bulk.MemoryCopy 0 1) end) (num 2 ∷ number_value i64 3 ∷ num 0 ∷ []) ([]) trapping trapped
  pub copied_past_target : Leads (bulk_then (bulk.MemoryCopy 0 0) end) (num 2 ∷ num 0 ∷ num 7 ∷ []) ([]) trapping trapped
  pub initialised : Leads (bulk_then (bulk.MemoryInit 0 0) (memory_then (memory.I32Load8U (at 0 0)) end)) (num 2 ∷ num 1 ∷ num 5 ∷ num 6 ∷ []) (silent ∷ giving (num 30 ∷ []) ∷ []) silent (returns 30)
  pub second_segment : Leads (bulk_then (bulk.MemoryInit 1 0) (memory_then (memory.I32Load8U (at 0 0)) end)) (num 1 ∷ num 0 ∷ num 5 ∷ num 5 ∷ []) (silent ∷ giving (num 77 ∷ []) ∷ []) silent (returns 77)
  pub init_past_segment : Leads (bulk_then (bulk.MemoryInit 0 0) end) (num 2 ∷ num 4 ∷ num 0 ∷ []) ([]) trapping trapped
  pub init_past_memory : Leads (bulk_then (bulk.MemoryInit 0 0) end) (num 2 ∷ num 0 ∷ num 7 ∷ []) ([]) trapping trapped
  pub dropped : Leads (bulk_then (bulk.DataDrop 0) (bulk_then (bulk.MemoryInit 0 0) end)) (num 1 ∷ num 0 ∷ num 0 ∷ []) (silent ∷ []) trapping trapped
  pub dropped_nothing : Leads (bulk_then (bulk.DataDrop 0) (bulk_then (bulk.MemoryInit 0 0) (memory_then (memory.I32Load8U (at 0 0)) end))) (num 0 ∷ num 0 ∷ num 0 ∷ num 0 ∷ []) (silent ∷ silent ∷ giving (num 1 ∷ []) ∷ []) silent (returns 1)
  pub other_kept : Leads (bulk_then (bulk.DataDrop 0) (bulk_then (bulk.MemoryInit 1 0) (memory_then (memory.I32Load8U (at 0 0)) end))) (num 1 ∷ num 0 ∷ num 5 ∷ num 5 ∷ []) (silent ∷ silent ∷ giving (num 77 ∷ []) ∷ []) silent (returns 77)
  pub array_of_data : Leads (gc_then (gc.ArrayNewData 6 0) (const_then (pos 1) (gc_then (gc.ArrayGetU 6) end))) (num 2 ∷ num 1 ∷ []) (record silent { made = 4 } ∷ giving (num 1 ∷ []) ∷ giving (num 30 ∷ []) ∷ []) silent (returns 30)
  pub array_past_data : Leads (gc_then (gc.ArrayNewData 6 0) end) (num 3 ∷ num 3 ∷ []) ([]) trapping trapped
  pub array_from_data : Leads (gc_then (gc.ArrayInitData 6 0) (const_then (pos 1) (gc_then (gc.ArrayGetS 6) end))) (num 2 ∷ num 3 ∷ num 0 ∷ some_octets ∷ some_octets ∷ []) (silent ∷ giving (num 1 ∷ []) ∷ giving (num 4294967295 ∷ []) ∷ []) silent (returns 4294967295)
  pub array_init_past_data : Leads (gc_then (gc.ArrayInitData 6 0) end) (num 2 ∷ num 4 ∷ num 0 ∷ some_octets ∷ []) ([]) trapping trapped
  pub array_init_past_array : Leads (gc_then (gc.ArrayInitData 6 0) end) (num 2 ∷ num 0 ∷ num 1 ∷ some_octets ∷ []) ([]) trapping trapped

-- a shared memory: any bytes, and a trap past what was there alone; and what may trap
pub record SharedWorked : Type 0 where
  pub any_byte : Leads (memory_then (memory.I32Load8U (at 0 2)) end) (num 0 ∷ []) (giving (num 9 ∷ []) ∷ []) silent (returns 9)
  pub past_shared : Leads (memory_then (memory.I32Load8U (at 0 2)) end) (num 4 ∷ []) [] trapping trapped
  pub load_determined : step_is_determined program (standing numbers [] (memory_then (memory.I32Load8U (at 0 0)) end)) store ≡ true
  pub shared_open : step_is_determined program (standing numbers [] (memory_then (memory.I32Load8U (at 0 2)) end)) store ≡ false
  pub no_trap_within : step_traps program (standing numbers (num 4 ∷ []) (memory_then (memory.I32Load (at 0 0)) end)) store ≡ false
  pub trap_past : step_traps program (standing numbers (num 5 ∷ []) (memory_then (memory.I32Load (at 0 0)) end)) store ≡ true
  pub grow_never_traps : step_traps program (standing numbers (num 5 ∷ []) (memory_then (memory.MemoryGrow 0) end)) store ≡ false
  pub page : page_of empty_memory ≡ 65536
  pub pages : pages_held (Some (memory_of (record small_memory { page_size_log2 = Some 2 }) small_bytes)) ≡ 2
  pub grown_pages : grown (Some (memory_of (record small_memory { page_size_log2 = Some 1 }) (1 ∷ 2 ∷ []))) 1
      ≡ Some (1 ∷ 2 ∷ 0 ∷ 0 ∷ [])
  pub too_many_pages : grown (Some (memory_of (record small_memory { page_size_log2 = Some 1 }) (1 ∷ 2 ∷ []))) 10 ≡ None
  pub most : most_pages (record empty_memory { maximum = None }) ≡ 65536
  pub most_bytes : most_pages (record empty_memory { maximum = None; page_size_log2 = Some 0 }) ≡ 0x1_0000_0000
  pub most_told : most_grown (record empty_memory { maximum = None; page_size_log2 = Some 0 }) ≡ 0xffff_ffff
  pub most_told_pages : most_grown (record empty_memory { maximum = None }) ≡ 65536
  pub grown_so_far : is_some (grown (Some (memory_of (record small_memory { maximum = None }) small_bytes)) 0xffff_fff7) ≡ true
  pub no_further : grown (Some (memory_of (record small_memory { maximum = None }) small_bytes)) 0xffff_fff8 ≡ None
  pub most_wide : most_pages (record empty_memory { maximum = None; memory64 = true; page_size_log2 = Some 0 }) ≡ 0xffff_ffff_ffff_ffff
  pub not_this : (u : Store) → GivesStep program (standing numbers (num 2 ∷ []) (memory_then (memory.I32Load8S (at 0 0)) end)) store (giving (num 253 ∷ [])) u → ⊥
  pub not_grown_past : (u : Store) → GivesStep program (standing numbers (num 3 ∷ []) (memory_then (memory.MemoryGrow 0) end)) store (giving (num 8 ∷ [])) u → ⊥

pub record MemoriesWorked : Type 0 where
  pub loads : LoadsWorked
  pub bounds : BoundsWorked
  pub stores : StoresWorked
  pub sizes : SizesWorked
  pub ranges : RangesWorked
  pub shared : SharedWorked
