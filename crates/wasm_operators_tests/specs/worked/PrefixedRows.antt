-- Operators whose code follows a prefix (WebAssembly 3.0, binary format, instructions; continuations, descriptors and what is shared
-- by their proposals).
use Rattle.std.specs.Prelude.{true, false, [], ◌∷◌, Some, None}
use Rattle.wasm_types.specs.settings.Features.{mask, SharedEverythingThreads}
use Rattle.wasm_types.specs.values.declared.heap.HeapType.TheVariants.{Abstract}
use Rattle.wasm_types.specs.values.declared.heap.AbstractHeapType.TheVariants.{Func, Any}
use Rattle.wasm_types.specs.values.Decode.{reference}
use Rattle.wasm_operators_immediates.specs.declared.memory.Ordering.TheVariants.{AcqRel}
use Rattle.wasm_operators_immediates.specs.declared.memory.MemArgOrdering.TheVariants.{Op}
use Rattle.wasm_operators_encoding.specs.immediates.MemoryArguments.{argument}
use Rattle.wasm_operators_enums.specs.Op as op
use Rattle.wasm_operators_enums.specs.declared.bulk.BulkOperator.TheVariants as bulk
use Rattle.wasm_operators_enums.specs.declared.numeric.NumericOperator.TheVariants as numeric
use Rattle.wasm_operators_enums.specs.declared.gc.GcOperator.TheVariants as gc
use Rattle.wasm_operators_enums.specs.declared.gc.DescriptorOperator.TheVariants as descriptor
use Rattle.wasm_operators_enums.specs.declared.vector.SimdOperator.TheVariants as simd
use Rattle.wasm_operators_enums.specs.declared.vector_numeric.SimdNumericOperator.TheVariants as simd_numeric
use Rattle.wasm_operators_enums.specs.declared.atomic.AtomicOperator.TheVariants as atomic
use Rattle.wasm_operators_enums.specs.declared.atomic.SharedOperator.TheVariants as shared
use Rattle.wasm_operators_tests.specs.worked.Worked.{none, spells, is_none, breaks_off}

pub record PrefixedRows : Type 0 where
  pub struct_new : spells none (0xfb ∷ 0x00 ∷ 0x05 ∷ []) (op.Gc (gc.StructNew 5))
  pub cast : spells none (0xfb ∷ 0x18 ∷ 0x02 ∷ 0x05 ∷ 0x6e ∷ 0x70 ∷ []) (op.Gc (gc.BrOnCast 5 (reference false (Abstract false Any)) (reference true (Abstract false Func))))
  pub cast_of_no_flags : is_none none (0xfb ∷ 0x18 ∷ 0x04 ∷ 0x05 ∷ 0x6e ∷ 0x70 ∷ []) 2
  pub descriptor : spells none (0xfb ∷ 0x20 ∷ 0x07 ∷ []) (op.Descriptor (descriptor.StructNewDesc 7))
  pub no_descriptor : is_none none (0xfb ∷ 0x1f ∷ []) 0
  pub truncate : spells none (0xfc ∷ 0x00 ∷ []) (op.Numeric numeric.I32TruncSatF32S)
  pub longer_code : spells none (0xfc ∷ 0x83 ∷ 0x00 ∷ []) (op.Numeric numeric.I32TruncSatF64U)
  pub memory_init : spells none (0xfc ∷ 0x08 ∷ 0x02 ∷ 0x00 ∷ []) (op.Bulk (bulk.MemoryInit 2 0))
  pub short_memory_init : breaks_off none (0xfc ∷ 0x08 ∷ 0x02 ∷ []) 3 1
  pub no_bulk : is_none none (0xfc ∷ 0x80 ∷ 0x01 ∷ []) 0
  pub vector_load : spells none (0xfd ∷ 0x00 ∷ 0x04 ∷ 0x00 ∷ []) (op.Simd (simd.V128Load (argument 4 4 0 None 0)))
  pub lane : spells none (0xfd ∷ 0x15 ∷ 0x0f ∷ []) (op.Simd (simd.I8x16ExtractLaneS 15))
  pub no_lane : is_none none (0xfd ∷ 0x15 ∷ 0x10 ∷ []) 2
  pub short_constant : breaks_off none (0xfd ∷ 0x0c ∷ 0x00 ∷ 0x01 ∷ 0x02 ∷ []) 2 13
  pub swizzle : spells none (0xfd ∷ 0x0e ∷ []) (op.SimdNumeric simd_numeric.I8x16Swizzle)
  pub code_of_two_bytes : spells none (0xfd ∷ 0x80 ∷ 0x01 ∷ []) (op.SimdNumeric simd_numeric.I16x8Abs)
  pub last_vector : spells none (0xfd ∷ 0x93 ∷ 0x02 ∷ []) (op.SimdNumeric simd_numeric.I32x4RelaxedDotI8x16I7x16AddS)
  pub vector_gap : is_none none (0xfd ∷ 0x9a ∷ 0x01 ∷ []) 0
  pub no_vector : is_none none (0xfd ∷ 0x94 ∷ 0x02 ∷ []) 0
  pub notify : spells none (0xfe ∷ 0x00 ∷ 0x02 ∷ 0x00 ∷ []) (op.Atomic (atomic.MemoryAtomicNotify (argument 2 2 0 None 0)))
  pub ordered_load : spells (mask SharedEverythingThreads) (0xfe ∷ 0x10 ∷ 0x22 ∷ 0x01 ∷ 0x00 ∷ []) (op.Atomic (atomic.I32AtomicLoad (argument 2 2 0 (Some (Op AcqRel)) 0)))
  pub load_of_no_ordering : is_none none (0xfe ∷ 0x10 ∷ 0x22 ∷ 0x01 ∷ 0x00 ∷ []) 2
  pub fence : spells none (0xfe ∷ 0x03 ∷ 0x00 ∷ []) (op.Atomic atomic.AtomicFence)
  pub no_fence : is_none none (0xfe ∷ 0x03 ∷ 0x01 ∷ []) 2
  pub shared_global : spells none (0xfe ∷ 0x4f ∷ 0x01 ∷ 0x07 ∷ []) (op.Shared (shared.GlobalAtomicGet AcqRel 7))
  pub shared_global_of_no_ordering : is_none none (0xfe ∷ 0x4f ∷ 0x02 ∷ 0x07 ∷ []) 2
  pub no_shared : is_none none (0xfe ∷ 0x73 ∷ []) 0
  pub code_too_large : is_none none (0xfc ∷ 0x80 ∷ 0x80 ∷ 0x80 ∷ 0x80 ∷ 0x10 ∷ []) 5
  pub no_code : breaks_off none (0xfc ∷ []) 1 1
  pub half_a_code : breaks_off none (0xfc ∷ 0x80 ∷ []) 2 1
