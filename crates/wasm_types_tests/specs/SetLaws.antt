-- The sets of features, each row by computing it.
use Rattle.std.proofs.Common.{◌≡◌, refl, true, arith, lit<}
use Rattle.wasm_types.specs.settings.Features.{has, has_own, MutableGlobal, SaturatingFloatToInt, SignExtension, ReferenceTypes, MultiValue, BulkMemory}
use Rattle.wasm_types.specs.settings.Features.{Simd, RelaxedSimd, Threads, SharedEverythingThreads, TailCall, Floats, MultiMemory, Exceptions}
use Rattle.wasm_types.specs.settings.Features.{Memory64, ExtendedConst, ComponentModel, FunctionReferences, MemoryControl, Gc, CustomPageSizes}
use Rattle.wasm_types.specs.settings.Features.{LegacyExceptions, GcTypes, StackSwitching, WideArithmetic, CallIndirectOverlong, BulkMemoryOpt}
use Rattle.wasm_types.specs.settings.Features.{CustomDescriptors}
use Rattle.wasm_types.specs.settings.Inflated.{field}
use Rattle.wasm_types_tests.specs.Sets.{none, InflatedRows, PackedRows, WithinRows}

pub inflated_rows : InflatedRows
unfolding has
inflated_rows = record {
  fields = λ i. refl;
  nothing = λ f. elim f as (λ k. field k none ≡ has k 0) [
    | MutableGlobal ↦ refl
    | SaturatingFloatToInt ↦ refl
    | SignExtension ↦ refl
    | ReferenceTypes ↦ refl
    | MultiValue ↦ refl
    | BulkMemory ↦ refl
    | Simd ↦ refl
    | RelaxedSimd ↦ refl
    | Threads ↦ refl
    | SharedEverythingThreads ↦ refl
    | TailCall ↦ refl
    | Floats ↦ refl
    | MultiMemory ↦ refl
    | Exceptions ↦ refl
    | Memory64 ↦ refl
    | ExtendedConst ↦ refl
    | ComponentModel ↦ refl
    | FunctionReferences ↦ refl
    | MemoryControl ↦ refl
    | Gc ↦ refl
    | CustomPageSizes ↦ refl
    | LegacyExceptions ↦ refl
    | GcTypes ↦ refl
    | StackSwitching ↦ refl
    | WideArithmetic ↦ refl
    | CallIndirectOverlong ↦ refl
    | BulkMemoryOpt ↦ refl
    | CustomDescriptors ↦ refl
  ];
  vectors = λ f. elim f as (λ k. field k (record none { simd = true }) ≡ has k 0x40) [
    | MutableGlobal ↦ refl
    | SaturatingFloatToInt ↦ refl
    | SignExtension ↦ refl
    | ReferenceTypes ↦ refl
    | MultiValue ↦ refl
    | BulkMemory ↦ refl
    | Simd ↦ refl
    | RelaxedSimd ↦ refl
    | Threads ↦ refl
    | SharedEverythingThreads ↦ refl
    | TailCall ↦ refl
    | Floats ↦ refl
    | MultiMemory ↦ refl
    | Exceptions ↦ refl
    | Memory64 ↦ refl
    | ExtendedConst ↦ refl
    | ComponentModel ↦ refl
    | FunctionReferences ↦ refl
    | MemoryControl ↦ refl
    | Gc ↦ refl
    | CustomPageSizes ↦ refl
    | LegacyExceptions ↦ refl
    | GcTypes ↦ refl
    | StackSwitching ↦ refl
    | WideArithmetic ↦ refl
    | CallIndirectOverlong ↦ refl
    | BulkMemoryOpt ↦ refl
    | CustomDescriptors ↦ refl
  ];
  no_vectors = λ h. let e = h Simd in cc;
  not_all = λ h. let e = h RelaxedSimd in cc;
  references = λ f. elim f as (λ k. field k (record none { reference_types = true; call_indirect_overlong = true }) ≡ has k 0x2000008) [
    | MutableGlobal ↦ refl
    | SaturatingFloatToInt ↦ refl
    | SignExtension ↦ refl
    | ReferenceTypes ↦ refl
    | MultiValue ↦ refl
    | BulkMemory ↦ refl
    | Simd ↦ refl
    | RelaxedSimd ↦ refl
    | Threads ↦ refl
    | SharedEverythingThreads ↦ refl
    | TailCall ↦ refl
    | Floats ↦ refl
    | MultiMemory ↦ refl
    | Exceptions ↦ refl
    | Memory64 ↦ refl
    | ExtendedConst ↦ refl
    | ComponentModel ↦ refl
    | FunctionReferences ↦ refl
    | MemoryControl ↦ refl
    | Gc ↦ refl
    | CustomPageSizes ↦ refl
    | LegacyExceptions ↦ refl
    | GcTypes ↦ refl
    | StackSwitching ↦ refl
    | WideArithmetic ↦ refl
    | CallIndirectOverlong ↦ refl
    | BulkMemoryOpt ↦ refl
    | CustomDescriptors ↦ refl
  ];
  references_without_the_part = λ f. elim f as (λ k. field k none ≡ has k 0x8) [
    | MutableGlobal ↦ refl
    | SaturatingFloatToInt ↦ refl
    | SignExtension ↦ refl
    | ReferenceTypes ↦ refl
    | MultiValue ↦ refl
    | BulkMemory ↦ refl
    | Simd ↦ refl
    | RelaxedSimd ↦ refl
    | Threads ↦ refl
    | SharedEverythingThreads ↦ refl
    | TailCall ↦ refl
    | Floats ↦ refl
    | MultiMemory ↦ refl
    | Exceptions ↦ refl
    | Memory64 ↦ refl
    | ExtendedConst ↦ refl
    | ComponentModel ↦ refl
    | FunctionReferences ↦ refl
    | MemoryControl ↦ refl
    | Gc ↦ refl
    | CustomPageSizes ↦ refl
    | LegacyExceptions ↦ refl
    | GcTypes ↦ refl
    | StackSwitching ↦ refl
    | WideArithmetic ↦ refl
    | CallIndirectOverlong ↦ refl
    | BulkMemoryOpt ↦ refl
    | CustomDescriptors ↦ refl
  ];
  references_by_one_bit = λ h. let e = h ReferenceTypes in cc;
  bulk = λ f. elim f as (λ k. field k (record none { bulk_memory = true; bulk_memory_opt = true }) ≡ has k 0x4000020) [
    | MutableGlobal ↦ refl
    | SaturatingFloatToInt ↦ refl
    | SignExtension ↦ refl
    | ReferenceTypes ↦ refl
    | MultiValue ↦ refl
    | BulkMemory ↦ refl
    | Simd ↦ refl
    | RelaxedSimd ↦ refl
    | Threads ↦ refl
    | SharedEverythingThreads ↦ refl
    | TailCall ↦ refl
    | Floats ↦ refl
    | MultiMemory ↦ refl
    | Exceptions ↦ refl
    | Memory64 ↦ refl
    | ExtendedConst ↦ refl
    | ComponentModel ↦ refl
    | FunctionReferences ↦ refl
    | MemoryControl ↦ refl
    | Gc ↦ refl
    | CustomPageSizes ↦ refl
    | LegacyExceptions ↦ refl
    | GcTypes ↦ refl
    | StackSwitching ↦ refl
    | WideArithmetic ↦ refl
    | CallIndirectOverlong ↦ refl
    | BulkMemoryOpt ↦ refl
    | CustomDescriptors ↦ refl
  ];
  part_of_bulk = λ f. elim f as (λ k. field k (record none { bulk_memory_opt = true }) ≡ has k 0x4000000) [
    | MutableGlobal ↦ refl
    | SaturatingFloatToInt ↦ refl
    | SignExtension ↦ refl
    | ReferenceTypes ↦ refl
    | MultiValue ↦ refl
    | BulkMemory ↦ refl
    | Simd ↦ refl
    | RelaxedSimd ↦ refl
    | Threads ↦ refl
    | SharedEverythingThreads ↦ refl
    | TailCall ↦ refl
    | Floats ↦ refl
    | MultiMemory ↦ refl
    | Exceptions ↦ refl
    | Memory64 ↦ refl
    | ExtendedConst ↦ refl
    | ComponentModel ↦ refl
    | FunctionReferences ↦ refl
    | MemoryControl ↦ refl
    | Gc ↦ refl
    | CustomPageSizes ↦ refl
    | LegacyExceptions ↦ refl
    | GcTypes ↦ refl
    | StackSwitching ↦ refl
    | WideArithmetic ↦ refl
    | CallIndirectOverlong ↦ refl
    | BulkMemoryOpt ↦ refl
    | CustomDescriptors ↦ refl
  ];
}

pub packed_rows : PackedRows
packed_rows = record {
  nothing = (
    λ f. elim f as (λ k. has_own k 0 ≡ field k none) [
      | MutableGlobal ↦ refl
      | SaturatingFloatToInt ↦ refl
      | SignExtension ↦ refl
      | ReferenceTypes ↦ refl
      | MultiValue ↦ refl
      | BulkMemory ↦ refl
      | Simd ↦ refl
      | RelaxedSimd ↦ refl
      | Threads ↦ refl
      | SharedEverythingThreads ↦ refl
      | TailCall ↦ refl
      | Floats ↦ refl
      | MultiMemory ↦ refl
      | Exceptions ↦ refl
      | Memory64 ↦ refl
      | ExtendedConst ↦ refl
      | ComponentModel ↦ refl
      | FunctionReferences ↦ refl
      | MemoryControl ↦ refl
      | Gc ↦ refl
      | CustomPageSizes ↦ refl
      | LegacyExceptions ↦ refl
      | GcTypes ↦ refl
      | StackSwitching ↦ refl
      | WideArithmetic ↦ refl
      | CallIndirectOverlong ↦ refl
      | BulkMemoryOpt ↦ refl
      | CustomDescriptors ↦ refl
    ],
    lit< tt,
  );
  vectors = (
    λ f. elim f as (λ k. has_own k 0x40 ≡ field k (record none { simd = true })) [
      | MutableGlobal ↦ refl
      | SaturatingFloatToInt ↦ refl
      | SignExtension ↦ refl
      | ReferenceTypes ↦ refl
      | MultiValue ↦ refl
      | BulkMemory ↦ refl
      | Simd ↦ refl
      | RelaxedSimd ↦ refl
      | Threads ↦ refl
      | SharedEverythingThreads ↦ refl
      | TailCall ↦ refl
      | Floats ↦ refl
      | MultiMemory ↦ refl
      | Exceptions ↦ refl
      | Memory64 ↦ refl
      | ExtendedConst ↦ refl
      | ComponentModel ↦ refl
      | FunctionReferences ↦ refl
      | MemoryControl ↦ refl
      | Gc ↦ refl
      | CustomPageSizes ↦ refl
      | LegacyExceptions ↦ refl
      | GcTypes ↦ refl
      | StackSwitching ↦ refl
      | WideArithmetic ↦ refl
      | CallIndirectOverlong ↦ refl
      | BulkMemoryOpt ↦ refl
      | CustomDescriptors ↦ refl
    ],
    lit< tt,
  );
  neighbour = λ h. let e = h.0 Simd in cc;
  too_many = λ h. let e = h.0 RelaxedSimd in cc;
  references_by_their_own_bit = (
    λ f. elim f as (λ k. has_own k 0x8 ≡ field k (record none { reference_types = true })) [
      | MutableGlobal ↦ refl
      | SaturatingFloatToInt ↦ refl
      | SignExtension ↦ refl
      | ReferenceTypes ↦ refl
      | MultiValue ↦ refl
      | BulkMemory ↦ refl
      | Simd ↦ refl
      | RelaxedSimd ↦ refl
      | Threads ↦ refl
      | SharedEverythingThreads ↦ refl
      | TailCall ↦ refl
      | Floats ↦ refl
      | MultiMemory ↦ refl
      | Exceptions ↦ refl
      | Memory64 ↦ refl
      | ExtendedConst ↦ refl
      | ComponentModel ↦ refl
      | FunctionReferences ↦ refl
      | MemoryControl ↦ refl
      | Gc ↦ refl
      | CustomPageSizes ↦ refl
      | LegacyExceptions ↦ refl
      | GcTypes ↦ refl
      | StackSwitching ↦ refl
      | WideArithmetic ↦ refl
      | CallIndirectOverlong ↦ refl
      | BulkMemoryOpt ↦ refl
      | CustomDescriptors ↦ refl
    ],
    lit< tt,
  );
  references_by_both = λ h. let e = h.0 CallIndirectOverlong in cc;
  references_and_part = (
    λ f. elim f as (λ k. has_own k 0x2000008 ≡ field k (record none { reference_types = true; call_indirect_overlong = true })) [
      | MutableGlobal ↦ refl
      | SaturatingFloatToInt ↦ refl
      | SignExtension ↦ refl
      | ReferenceTypes ↦ refl
      | MultiValue ↦ refl
      | BulkMemory ↦ refl
      | Simd ↦ refl
      | RelaxedSimd ↦ refl
      | Threads ↦ refl
      | SharedEverythingThreads ↦ refl
      | TailCall ↦ refl
      | Floats ↦ refl
      | MultiMemory ↦ refl
      | Exceptions ↦ refl
      | Memory64 ↦ refl
      | ExtendedConst ↦ refl
      | ComponentModel ↦ refl
      | FunctionReferences ↦ refl
      | MemoryControl ↦ refl
      | Gc ↦ refl
      | CustomPageSizes ↦ refl
      | LegacyExceptions ↦ refl
      | GcTypes ↦ refl
      | StackSwitching ↦ refl
      | WideArithmetic ↦ refl
      | CallIndirectOverlong ↦ refl
      | BulkMemoryOpt ↦ refl
      | CustomDescriptors ↦ refl
    ],
    lit< tt,
  );
  last = (
    λ f. elim f as (λ k. has_own k 0x8000000 ≡ field k (record none { custom_descriptors = true })) [
      | MutableGlobal ↦ refl
      | SaturatingFloatToInt ↦ refl
      | SignExtension ↦ refl
      | ReferenceTypes ↦ refl
      | MultiValue ↦ refl
      | BulkMemory ↦ refl
      | Simd ↦ refl
      | RelaxedSimd ↦ refl
      | Threads ↦ refl
      | SharedEverythingThreads ↦ refl
      | TailCall ↦ refl
      | Floats ↦ refl
      | MultiMemory ↦ refl
      | Exceptions ↦ refl
      | Memory64 ↦ refl
      | ExtendedConst ↦ refl
      | ComponentModel ↦ refl
      | FunctionReferences ↦ refl
      | MemoryControl ↦ refl
      | Gc ↦ refl
      | CustomPageSizes ↦ refl
      | LegacyExceptions ↦ refl
      | GcTypes ↦ refl
      | StackSwitching ↦ refl
      | WideArithmetic ↦ refl
      | CallIndirectOverlong ↦ refl
      | BulkMemoryOpt ↦ refl
      | CustomDescriptors ↦ refl
    ],
    lit< tt,
  );
  beyond_the_last = λ h. let e = h.1 in omega (arith, e);
}

pub within_rows : WithinRows
within_rows = record { within = refl; itself = refl; nothing = refl; not_within = λ e. cc }
