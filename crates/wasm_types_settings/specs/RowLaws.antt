-- The rows of `Rows`, each by computing it.
use Rattle.std.proofs.Common.{refl}
use Rattle.wasm_types_settings.specs.Features.{has, judges_vectors}
use Rattle.wasm_types_settings.specs.Rows.{MaskRows, SetRows, AllowedRows, CanonicalRows, VectorRows}

pub mask_rows : MaskRows
mask_rows = record {
  mutable_global = refl;
  saturating_float_to_int = refl;
  sign_extension = refl;
  reference_types = refl;
  multi_value = refl;
  bulk_memory = refl;
  simd = refl;
  relaxed_simd = refl;
  threads = refl;
  shared_everything_threads = refl;
  tail_call = refl;
  floats = refl;
  multi_memory = refl;
  exceptions = refl;
  memory64 = refl;
  extended_const = refl;
  component_model = refl;
  function_references = refl;
  memory_control =
      refl;
  gc = refl;
  custom_page_sizes = refl;
  legacy_exceptions = refl;
  gc_types = refl;
  stack_switching = refl;
  wide_arithmetic = refl;
  call_indirect_overlong = refl;
  bulk_memory_opt = refl;
  custom_descriptors = refl;
}

pub set_rows : SetRows
set_rows = record { first_release = refl; release_1 = refl; release_2 = refl; release_3 = refl; by_default = refl; lime = refl }

pub allowed_rows : AllowedRows
unfolding has
allowed_rows = record {
  nothing = refl;
  own_bit = refl;
  neighbour = refl;
  collected_in_2 = refl;
  collected_in_3 = refl;
  older_exceptions = refl;
  references = refl;
  references_without_the_part = refl;
  references_by_the_part = refl;
  part_of_references = refl;
  bulk = refl;
  bulk_without_the_part = refl;
  bulk_by_the_part = refl;
  part_of_bulk = refl;
}

pub canonical_rows : CanonicalRows
unfolding has
canonical_rows = record { by_function_references = refl; by_collection = refl; by_descriptors = refl; by_continuations = refl; by_none = refl; by_all_others = refl }

pub vector_rows : VectorRows
unfolding judges_vectors
vector_rows = record { by_the_bit = refl; with_others = refl; by_default = refl; by_all_features = refl; by_the_next_bit = refl }
