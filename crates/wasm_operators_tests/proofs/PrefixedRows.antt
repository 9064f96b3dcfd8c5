-- These rows compute.
use Rattle.std.proofs.Common.{refl}
use Rattle.wasm_types.specs.settings.Features.{has}
use Rattle.wasm_types.specs.decoding.Decoder.{repeated}
use Rattle.wasm_types.specs.decoding.Leb.{unsigned, signed, last_bits}
use Rattle.wasm_types.specs.decoding.Lists.{size_within, listed_within}
use Rattle.wasm_types.specs.decoding.Text.{word}
use Rattle.wasm_types.specs.values.Decode.{abstract_heap_type, concrete_heap_type, exact_heap_type, heap_type_after, heap_type, reference_after}
use Rattle.wasm_types.specs.values.DecodeValues.{value_type_after, value_type}
use Rattle.wasm_types.specs.settings.Limits.{default_limits}
use Rattle.wasm_operators_immediates.specs.Blocks.{function_block, value_block, empty_block, block_type}
use Rattle.wasm_operators_immediates.specs.Handlers.{clause_after, clause, try_table, handle_after, handle, handlers}
use Rattle.wasm_operators_immediates.specs.Labels.{labels}
use Rattle.wasm_operators_encoding.specs.immediates.Bytes.{zero_byte, index_or_zero, ordering_by, lane, shuffle, vector, select_types}
use Rattle.wasm_operators_encoding.specs.immediates.Casts.{cast_after, cast_branch}
use Rattle.wasm_operators_encoding.specs.immediates.MemoryArguments.{flags, named_memory, access_ordering, named_ordering, offset, after_flags, memory_argument}
use Rattle.wasm_operators_encoding.specs.immediates.Immediates.{immediate}
use Rattle.wasm_operators_encoding.specs.Coded.{operator}
use Rattle.wasm_operators_encoding.specs.Groups.{numeric_kinds, simd_numeric_kinds}
use Rattle.wasm_operators_encoding.specs.Opcodes.{opcode}
use Rattle.wasm_operators_tests.specs.worked.PrefixedRows.{PrefixedRows}

pub prefixed : PrefixedRows
unfolding default_limits has repeated unsigned signed last_bits size_within listed_within word abstract_heap_type concrete_heap_type exact_heap_type
    heap_type_after heap_type reference_after value_type_after value_type function_block value_block empty_block block_type clause_after clause
    try_table handle_after handle handlers labels zero_byte index_or_zero ordering_by lane shuffle vector select_types cast_after cast_branch flags
    named_memory access_ordering named_ordering offset after_flags memory_argument immediate operator numeric_kinds simd_numeric_kinds opcode
prefixed = record {
  struct_new = refl;
  cast = refl;
  cast_of_no_flags = refl;
  descriptor = refl;
  no_descriptor = refl;
  truncate = refl;
  longer_code = refl;
  memory_init = refl;
  short_memory_init = refl;
  no_bulk = refl;
  vector_load = refl;
  lane = refl;
  no_lane = refl;
  short_constant = refl;
  swizzle = refl;
  code_of_two_bytes = refl;
  last_vector = refl;
  vector_gap = refl;
  no_vector = refl;
  notify = refl;
  ordered_load = refl;
  load_of_no_ordering = refl;
  fence = refl;
  no_fence = refl;
  shared_global = refl;
  shared_global_of_no_ordering = refl;
  no_shared = refl;
  code_too_large = refl;
  no_code = refl;
  half_a_code = refl;
}
