-- These rows compute.
use Rattle.std.proofs.Common.{refl}
use Rattle.wasm_types.specs.decoding.Leb.{unsigned, signed, last_bits}
use Rattle.wasm_types.specs.decoding.Decoder.{repeated}
use Rattle.wasm_types.specs.decoding.Lists.{size_within, listed_within}
use Rattle.wasm_types.specs.values.Decode.{heap_type, heap_type_after, concrete_heap_type, exact_heap_type, abstract_heap_type, reference_after}
use Rattle.wasm_types.specs.values.DecodeValues.{value_type, value_type_after}
use Rattle.wasm_types.specs.settings.Limits.{default_limits}
use Rattle.wasm_operators_immediates.specs.Blocks.{block_type, function_block, value_block, empty_block}
use Rattle.wasm_operators_encoding.specs.immediates.Bytes.{select_types}
use Rattle.wasm_operators_encoding.specs.immediates.Casts.{cast_branch, cast_after}
use Rattle.wasm_operators_encoding.specs.immediates.Immediates.{immediate}
use Rattle.wasm_operators_tests.specs.worked.TypeRows.{TypeRows}

pub types : TypeRows
unfolding default_limits unsigned signed last_bits repeated size_within listed_within heap_type heap_type_after concrete_heap_type exact_heap_type
    abstract_heap_type reference_after value_type value_type_after block_type function_block value_block empty_block select_types cast_branch cast_after immediate
types = record {
  no_type = refl;
  vector = refl;
  function_reference = refl;
  longer_reference = refl;
  byte = refl;
  two_bytes = refl;
  largest = refl;
  negative = refl;
  no_value_type = refl;
  negative_of_two_bytes = refl;
  no_heap_type = refl;
  nothing = refl;
  half = refl;
  heap = refl;
  shared_heap = refl;
  defined_heap = refl;
  heap_of_no_type = refl;
  heap_too_large = refl;
  short_heap = refl;
  select = refl;
  select_of_none = refl;
  select_of_too_many = refl;
  select_of_no_type = refl;
  select_of_most = refl;
  short_select = refl;
  cast = refl;
  cast_flags = refl;
  cast_from_too_large = refl;
  short_cast = refl;
}
