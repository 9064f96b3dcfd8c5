-- Sets of features worked by hand: the bits of each name and of each named set, and what some sets allow.
use Rattle.std.specs.Prelude.{◌≡◌, true, false}
use Rattle.wasm_types_settings.specs.Features.{MutableGlobal, SaturatingFloatToInt, SignExtension, ReferenceTypes, MultiValue, BulkMemory, Simd}
use Rattle.wasm_types_settings.specs.Features.{RelaxedSimd, Threads, SharedEverythingThreads, TailCall, Floats, MultiMemory, Exceptions, Memory64}
use Rattle.wasm_types_settings.specs.Features.{ExtendedConst, ComponentModel, FunctionReferences, MemoryControl, Gc, CustomPageSizes}
use Rattle.wasm_types_settings.specs.Features.{LegacyExceptions, GcTypes, StackSwitching, WideArithmetic, CallIndirectOverlong, BulkMemoryOpt}
use Rattle.wasm_types_settings.specs.Features.{CustomDescriptors, mask, has, needs_canonical_types, judges_vectors}
use Rattle.wasm_types_settings.specs.Sets.{bits_of, mvp, wasm1, wasm2, wasm3, lime1, default_features}

pub record MaskRows : Type 0 where
  pub mutable_global : mask MutableGlobal ≡ 0x1
  pub saturating_float_to_int : mask SaturatingFloatToInt ≡ 0x2
  pub sign_extension : mask SignExtension ≡ 0x4
  pub reference_types : mask ReferenceTypes ≡ 0x2000008
  pub multi_value : mask MultiValue ≡ 0x10
  pub bulk_memory : mask BulkMemory ≡ 0x4000020
  pub simd : mask Simd ≡ 0x40
  pub relaxed_simd : mask RelaxedSimd ≡ 0x80
  pub threads : mask Threads ≡ 0x100
  pub shared_everything_threads : mask SharedEverythingThreads ≡ 0x200
  pub tail_call : mask TailCall ≡ 0x400
  pub floats : mask Floats ≡ 0x800
  pub multi_memory : mask MultiMemory ≡ 0x1000
  pub exceptions : mask Exceptions ≡ 0x2000
  pub memory64 : mask Memory64 ≡ 0x4000
  pub extended_const : mask ExtendedConst ≡ 0x8000
  pub component_model : mask ComponentModel ≡ 0x10000
  pub function_references : mask FunctionReferences ≡ 0x20000
  pub memory_control : mask MemoryControl ≡ 0x40000
  pub gc : mask Gc ≡ 0x80000
  pub custom_page_sizes : mask CustomPageSizes ≡ 0x100000
  pub legacy_exceptions : mask LegacyExceptions ≡ 0x200000
  pub gc_types : mask GcTypes ≡ 0x400000
  pub stack_switching : mask StackSwitching ≡ 0x800000
  pub wide_arithmetic : mask WideArithmetic ≡ 0x1000000
  pub call_indirect_overlong : mask CallIndirectOverlong ≡ 0x2000000
  pub bulk_memory_opt : mask BulkMemoryOpt ≡ 0x4000000
  pub custom_descriptors : mask CustomDescriptors ≡ 0x8000000

pub record SetRows : Type 0 where
  pub first_release : bits_of mvp ≡ 0x400800
  pub release_1 : bits_of wasm1 ≡ 0x400801
  pub release_2 : bits_of wasm2 ≡ 0x640087f
  pub release_3 : bits_of wasm3 ≡ 0x64afdff
  pub by_default : bits_of default_features ≡ 0x64bfdff
  pub lime : bits_of lime1 ≡ 0x6408817

-- a name that stands for two bits is allowed where both are in, and its part where that bit is
pub record AllowedRows : Type 0 where
  pub nothing : has Simd 0 ≡ false
  pub own_bit : has Simd 0x40 ≡ true
  pub neighbour : has Simd 0x80 ≡ false
  pub collected_in_2 : has Gc (bits_of wasm2) ≡ false
  pub collected_in_3 : has Gc (bits_of wasm3) ≡ true
  pub older_exceptions : has LegacyExceptions (bits_of default_features) ≡ false
  pub references : has ReferenceTypes 0x2000008 ≡ true
  pub references_without_the_part : has ReferenceTypes 0x8 ≡ false
  pub references_by_the_part : has ReferenceTypes 0x2000000 ≡ false
  pub part_of_references : has CallIndirectOverlong 0x2000000 ≡ true
  pub bulk : has BulkMemory 0x4000020 ≡ true
  pub bulk_without_the_part : has BulkMemory 0x20 ≡ false
  pub bulk_by_the_part : has BulkMemory 0x4000000 ≡ false
  pub part_of_bulk : has BulkMemoryOpt 0x4000000 ≡ true

pub record CanonicalRows : Type 0 where
  pub by_function_references : needs_canonical_types 0x20000 ≡ true
  pub by_collection : needs_canonical_types 0x80000 ≡ true
  pub by_descriptors : needs_canonical_types 0x8000000 ≡ true
  pub by_continuations : needs_canonical_types 0x800000 ≡ true
  pub by_none : needs_canonical_types 0 ≡ false
  pub by_all_others : needs_canonical_types 0x775ffff ≡ false

pub record VectorRows : Type 0 where
  pub by_the_bit : judges_vectors 0x10000000 ≡ true
  pub with_others : judges_vectors 0x164bfdff ≡ true
  pub by_default : judges_vectors (bits_of default_features) ≡ false
  pub by_all_features : judges_vectors 0xfffffff ≡ false
  pub by_the_next_bit : judges_vectors 0x20000000 ≡ false
