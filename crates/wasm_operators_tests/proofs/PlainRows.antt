-- These rows compute.
use Rattle.std.proofs.Common.{refl}
use Rattle.wasm_types.specs.settings.Features.{has}
use Rattle.wasm_types.specs.decoding.Decoder.{repeated}
use Rattle.wasm_types.specs.decoding.Leb.{unsigned, signed, last_bits}
use Rattle.wasm_types.specs.decoding.Lists.{size_within, listed_within}
use Rattle.wasm_types.specs.decoding.Text.{word}
use Rattle.wasm_types.specs.values.Decode.{abstract_heap_type, concrete_heap_type, exact_heap_type, heap_type_after, heap_type, reference_after}
use Rattle.wasm_types.specs.values.DecodeValues.{value_type_after, value_type}
use Rattle.wasm_types.specs.settings.Limits.{default_limits}
use Rattle.wasm_operators_immediates.specs.Blocks.{function_block, value_block, empty_block, block_type}
use Rattle.wasm_operators_immediates.specs.Handlers.{clause_after, clause, try_table, handle_after, handle, handlers}
use Rattle.wasm_operators_immediates.specs.Labels.{labels}
use Rattle.wasm_operators_encoding.specs.immediates.Bytes.{zero_byte, index_or_zero, ordering_by, lane, shuffle, vector, select_types}
use Rattle.wasm_operators_encoding.specs.immediates.Casts.{cast_after, cast_branch}
use Rattle.wasm_operators_encoding.specs.immediates.MemoryArguments.{flags, named_memory, access_ordering, named_ordering, offset, after_flags, memory_argument}
use Rattle.wasm_operators_encoding.specs.immediates.Immediates.{immediate}
use Rattle.wasm_operators_encoding.specs.Coded.{operator}
use Rattle.wasm_operators_encoding.specs.Groups.{numeric_kinds, simd_numeric_kinds}
use Rattle.wasm_operators_encoding.specs.Opcodes.{opcode}
use Rattle.wasm_operators_tests.specs.worked.PlainRows.{PlainRows}

pub plain : PlainRows
unfolding default_limits has repeated unsigned signed last_bits size_within listed_within word abstract_heap_type concrete_heap_type exact_heap_type
    heap_type_after heap_type reference_after value_type_after value_type function_block value_block empty_block block_type clause_after clause
    try_table handle_after handle handlers labels zero_byte index_or_zero ordering_by lane shuffle vector select_types cast_after cast_branch flags
    named_memory access_ordering named_ordering offset after_flags memory_argument immediate operator numeric_kinds simd_numeric_kinds opcode
plain = record {
  nop = refl;
  block = refl;
  branches = refl;
  branches_of_two = refl;
  call_indirect = refl;
  call_indirect_by_another_table = refl;
  call_indirect_by_table_zero_alone = refl;
  return_call_indirect = refl;
  return_call_indirect_by_a_longer_index = refl;
  drop = refl;
  select_of_one = refl;
  select_of_two = refl;
  select_of_too_many = refl;
  throw = refl;
  try_table = refl;
  try_table_of_no_clause = refl;
  resume = refl;
  resume_of_no_handler = refl;
  local_get = refl;
  load = refl;
  load_of_another_memory = refl;
  load_of_no_other_memory = refl;
  load_of_memory_zero_by_name = refl;
  load_of_no_memory_by_name = refl;
  size = refl;
  size_of_another = refl;
  size_of_no_other = refl;
  constant = refl;
  constant_too_large = refl;
  add = refl;
  last_number = refl;
  table_get = refl;
  null = refl;
  null_of_no_type = refl;
  equal = refl;
  no_operator = refl;
  in_a_gap = refl;
  behind_the_last_continuation = refl;
  nothing = refl;
  no_label = refl;
  no_offset = refl;
}
