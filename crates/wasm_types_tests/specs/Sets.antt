-- Sets of features beside their inflated form: which field is of which feature, which fields a set has, and which set fields make.
-- Two names stand for two bits each: they are allowed where both are in, and their own fields decide one bit each.
use Rattle.std.specs.Prelude.{◌≡◌, Bool, true, false, List, [], ◌∷◌, map}
use Rattle.wasm_types.specs.settings.declared.inflated.WasmFeaturesInflated.{WasmFeaturesInflated}
use Rattle.wasm_types.specs.settings.Features.{Feature, MutableGlobal, SaturatingFloatToInt, SignExtension, ReferenceTypes, MultiValue, BulkMemory}
use Rattle.wasm_types.specs.settings.Features.{Simd, RelaxedSimd, Threads, SharedEverythingThreads, TailCall, Floats, MultiMemory, Exceptions}
use Rattle.wasm_types.specs.settings.Features.{Memory64, ExtendedConst, ComponentModel, FunctionReferences, MemoryControl, Gc, CustomPageSizes}
use Rattle.wasm_types.specs.settings.Features.{LegacyExceptions, GcTypes, StackSwitching, WideArithmetic, CallIndirectOverlong, BulkMemoryOpt}
use Rattle.wasm_types.specs.settings.Features.{CustomDescriptors}
use Rattle.wasm_types.specs.settings.Inflated.{field, Inflates, Packs}
use Rattle.wasm_types.specs.settings.Sets.{Within}

-- each feature, in the order of their bits
abbrev pub every_feature : List Feature
every_feature = MutableGlobal ∷ SaturatingFloatToInt ∷ SignExtension ∷ ReferenceTypes ∷ MultiValue ∷ BulkMemory ∷ Simd ∷ RelaxedSimd ∷ Threads
    ∷ SharedEverythingThreads ∷ TailCall ∷ Floats ∷ MultiMemory ∷ Exceptions ∷ Memory64 ∷ ExtendedConst ∷ ComponentModel ∷ FunctionReferences ∷ MemoryControl
    ∷ Gc ∷ CustomPageSizes ∷ LegacyExceptions ∷ GcTypes ∷ StackSwitching ∷ WideArithmetic ∷ CallIndirectOverlong ∷ BulkMemoryOpt ∷ CustomDescriptors ∷ []

-- these fields, in that order
abbrev pub fields_of : WasmFeaturesInflated → List Bool
fields_of i = i.mutable_global ∷ i.saturating_float_to_int ∷ i.sign_extension ∷ i.reference_types ∷ i.multi_value ∷ i.bulk_memory ∷ i.simd ∷ i.relaxed_simd
    ∷ i.threads ∷ i.shared_everything_threads ∷ i.tail_call ∷ i.floats ∷ i.multi_memory ∷ i.exceptions ∷ i.memory64 ∷ i.extended_const ∷ i.component_model
    ∷ i.function_references ∷ i.memory_control ∷ i.gc ∷ i.custom_page_sizes ∷ i.legacy_exceptions ∷ i.gc_types ∷ i.stack_switching ∷ i.wide_arithmetic
    ∷ i.call_indirect_overlong ∷ i.bulk_memory_opt ∷ i.custom_descriptors ∷ []

-- no field is set
abbrev pub none : WasmFeaturesInflated
none = record {
  mutable_global = false;
  saturating_float_to_int = false;
  sign_extension = false;
  reference_types = false;
  multi_value = false;
  bulk_memory = false;
  simd = false;
  relaxed_simd = false;
  threads = false;
  shared_everything_threads = false;
  tail_call = false;
  floats = false;
  multi_memory = false;
  exceptions = false;
  memory64 = false;
  extended_const = false;
  component_model = false;
  function_references = false;
  memory_control = false;
  gc = false;
  custom_page_sizes = false;
  legacy_exceptions = false;
  gc_types = false;
  stack_switching = false;
  wide_arithmetic = false;
  call_indirect_overlong = false;
  bulk_memory_opt = false;
  custom_descriptors = false;
}

-- the field of a feature alone, and what a set of bits inflates to
pub record InflatedRows : Type 0 where
  pub fields : (i : WasmFeaturesInflated) → map (λ f. field f i) every_feature ≡ fields_of i
  pub nothing : Inflates 0 none
  pub vectors : Inflates 0x40 (record none { simd = true })
  pub no_vectors : Inflates 0x80 (record none { simd = true }) → ⊥
  pub not_all : Inflates 0xc0 (record none { simd = true }) → ⊥
  pub references : Inflates 0x2000008 (record none { reference_types = true; call_indirect_overlong = true })
  pub references_without_the_part : Inflates 0x8 none
  pub references_by_one_bit : Inflates 0x8 (record none { reference_types = true }) → ⊥
  pub bulk : Inflates 0x4000020 (record none { bulk_memory = true; bulk_memory_opt = true })
  pub part_of_bulk : Inflates 0x4000000 (record none { bulk_memory_opt = true })

-- what fields pack to: their own bits, and no other
pub record PackedRows : Type 0 where
  pub nothing : Packs none 0
  pub vectors : Packs (record none { simd = true }) 0x40
  pub neighbour : Packs (record none { simd = true }) 0x80 → ⊥
  pub too_many : Packs (record none { simd = true }) 0xc0 → ⊥
  pub references_by_their_own_bit : Packs (record none { reference_types = true }) 0x8
  pub references_by_both : Packs (record none { reference_types = true }) 0x2000008 → ⊥
  pub references_and_part : Packs (record none { reference_types = true; call_indirect_overlong = true }) 0x2000008
  pub last : Packs (record none { custom_descriptors = true }) 0x8000000
  pub beyond_the_last : Packs none 0x10000000 → ⊥

-- a set within another, and one with a bit of its own
pub record WithinRows : Type 0 where
  pub within : Within 0x41 0xc1
  pub itself : Within 0x41 0x41
  pub nothing : Within 0 0x41
  pub not_within : Within 0xc1 0x41 → ⊥
