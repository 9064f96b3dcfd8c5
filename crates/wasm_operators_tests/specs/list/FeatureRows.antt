-- The features that each proposal's operators ask for, as the bits that `WasmFeatures` has of them.
use Rattle.std.specs.Prelude.{◌≡◌}
use Rattle.wasm_operators_immediates.specs.Info.{features_of}
use Rattle.wasm_operators_immediates.specs.declared.proposal.Proposal.TheVariants as proposal

pub record FeatureRows : Type 0 where
  pub mvp : features_of proposal.Mvp ≡ 0x0
  pub sign_extension : features_of proposal.SignExtension ≡ 0x4
  pub saturating_float_to_int : features_of proposal.SaturatingFloatToInt ≡ 0x2
  pub bulk_memory : features_of proposal.BulkMemory ≡ 0x4000020
  pub bulk_memory_opt : features_of proposal.BulkMemoryOpt ≡ 0x4000000
  pub reference_types : features_of proposal.ReferenceTypes ≡ 0x2000008
  pub tail_call : features_of proposal.TailCall ≡ 0x400
  pub function_references : features_of proposal.FunctionReferences ≡ 0x20000
  pub exceptions : features_of proposal.Exceptions ≡ 0x2000
  pub legacy_exceptions : features_of proposal.LegacyExceptions ≡ 0x200000
  pub gc : features_of proposal.Gc ≡ 0x80000
  pub simd : features_of proposal.Simd ≡ 0x40
  pub relaxed_simd : features_of proposal.RelaxedSimd ≡ 0x80
  pub threads : features_of proposal.Threads ≡ 0x100
  pub shared_everything_threads : features_of proposal.SharedEverythingThreads ≡ 0x200
  pub memory_control : features_of proposal.MemoryControl ≡ 0x40000
  pub wide_arithmetic : features_of proposal.WideArithmetic ≡ 0x1000000
  pub stack_switching : features_of proposal.StackSwitching ≡ 0x800000
  pub custom_descriptors : features_of proposal.CustomDescriptors ≡ 0x8000000
