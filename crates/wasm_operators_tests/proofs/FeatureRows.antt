-- These rows compute.
use Rattle.std.proofs.Common.{refl}
use Rattle.wasm_operators_tests.specs.list.FeatureRows.{FeatureRows}

pub features : FeatureRows
features = record {
  mvp = refl;
  sign_extension = refl;
  saturating_float_to_int = refl;
  bulk_memory = refl;
  bulk_memory_opt = refl;
  reference_types = refl;
  tail_call = refl;
  function_references = refl;
  exceptions = refl;
  legacy_exceptions = refl;
  gc = refl;
  simd = refl;
  relaxed_simd = refl;
  threads = refl;
  shared_everything_threads = refl;
  memory_control = refl;
  wide_arithmetic = refl;
  stack_switching = refl;
  custom_descriptors = refl;
}
