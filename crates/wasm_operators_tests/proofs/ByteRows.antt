-- These rows compute.
use Rattle.std.proofs.Common.{refl}
use Rattle.wasm_types.specs.settings.Features.{has}
use Rattle.wasm_types.specs.decoding.Leb.{unsigned}
use Rattle.wasm_types.specs.decoding.Decoder.{repeated}
use Rattle.wasm_operators_encoding.specs.immediates.Bytes.{index_or_zero, zero_byte, ordering_by, lane, shuffle, vector}
use Rattle.wasm_operators_encoding.specs.immediates.Immediates.{immediate}
use Rattle.wasm_operators_tests.specs.worked.ByteRows.{ByteRows}

pub bytes : ByteRows
unfolding has unsigned repeated index_or_zero zero_byte ordering_by lane shuffle vector immediate
bytes = record {
  memory = refl;
  memory_zero = refl;
  memory_by_the_feature_of_tables = refl;
  no_memory = refl;
  table = refl;
  table_zero = refl;
  table_by_the_feature_of_memories = refl;
  no_table = refl;
  nothing = refl;
  zero = refl;
  not_zero = refl;
  no_zero = refl;
  consistent = refl;
  released = refl;
  no_ordering = refl;
  lane = refl;
  no_lane = refl;
  shuffle = refl;
  no_shuffle = refl;
  short_shuffle = refl;
  vector = refl;
  short_vector = refl;
}
