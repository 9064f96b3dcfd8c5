-- The inflated form: a set of features as one truth value for each.
use Rattle.std.specs.Prelude.{ℕ, Bool, ◌≡◌, ◌<◌, ◌^◌, ◌&&◌, if◌then◌else◌}
use Rattle.std.specs.Int.RustNames.{bit_or}
use Rattle.bitflags.specs.Sets.{without}
use Rattle.wasm_types_settings.specs.declared.inflated.WasmFeaturesInflated.{WasmFeaturesInflated}
use Rattle.wasm_types_settings.specs.Features.{Feature, has, has_own, MutableGlobal, SaturatingFloatToInt, SignExtension, ReferenceTypes, MultiValue}
use Rattle.wasm_types_settings.specs.Features.{BulkMemory, Simd, RelaxedSimd, Threads, SharedEverythingThreads, TailCall, Floats, MultiMemory}
use Rattle.wasm_types_settings.specs.Features.{Exceptions, Memory64, ExtendedConst, ComponentModel, FunctionReferences, MemoryControl, Gc}
use Rattle.wasm_types_settings.specs.Features.{CustomPageSizes, LegacyExceptions, GcTypes, StackSwitching, WideArithmetic, CallIndirectOverlong}
use Rattle.wasm_types_settings.specs.Features.{BulkMemoryOpt, CustomDescriptors}

-- the field of a feature
abbrev pub field : Feature → WasmFeaturesInflated → Bool
field MutableGlobal i = i.mutable_global
field SaturatingFloatToInt i = i.saturating_float_to_int
field SignExtension i = i.sign_extension
field ReferenceTypes i = i.reference_types
field MultiValue i = i.multi_value
field BulkMemory i = i.bulk_memory
field Simd i = i.simd
field RelaxedSimd i = i.relaxed_simd
field Threads i = i.threads
field SharedEverythingThreads i = i.shared_everything_threads
field TailCall i = i.tail_call
field Floats i = i.floats
field MultiMemory i = i.multi_memory
field Exceptions i = i.exceptions
field Memory64 i = i.memory64
field ExtendedConst i = i.extended_const
field ComponentModel i = i.component_model
field FunctionReferences i = i.function_references
field MemoryControl i = i.memory_control
field Gc i = i.gc
field CustomPageSizes i = i.custom_page_sizes
field LegacyExceptions i = i.legacy_exceptions
field GcTypes i = i.gc_types
field StackSwitching i = i.stack_switching
field WideArithmetic i = i.wide_arithmetic
field CallIndirectOverlong i = i.call_indirect_overlong
field BulkMemoryOpt i = i.bulk_memory_opt
field CustomDescriptors i = i.custom_descriptors

-- what a set of bits is as fields: each says whether its feature is allowed
abbrev pub Inflates : ℕ → WasmFeaturesInflated → Type 0
Inflates bits i = (f : Feature) → field f i ≡ has f bits

-- what fields are as a set of bits: each decides its feature's own bit, and there is no other bit
abbrev pub Packs : WasmFeaturesInflated → ℕ → Type 0
Packs i bits = ((f : Feature) → has_own f bits ≡ field f i) × (bits < 2 ^ 28)

-- the fields after they were packed: a name that stands for two bits is allowed where both of its fields were set
abbrev pub settled : WasmFeaturesInflated → WasmFeaturesInflated
settled i = record i {
  reference_types = i.reference_types && i.call_indirect_overlong;
  bulk_memory = i.bulk_memory && i.bulk_memory_opt;
}

-- a set with these bits set or cleared
unfoldable pub setting : Bool → ℕ → ℕ → ℕ
setting allowed m bits = if allowed then bit_or bits m else without 32 bits m
