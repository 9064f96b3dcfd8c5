-- These rows compute.
use Rattle.std.proofs.Common.{refl}
use Rattle.wasm_types.specs.decoding.Leb.{unsigned, signed, last_bits}
use Rattle.wasm_types.specs.decoding.Text.{word}
use Rattle.wasm_operators_encoding.specs.immediates.Immediates.{immediate}
use Rattle.wasm_operators_tests.specs.worked.NumberRows.{NumberRows}

pub numbers : NumberRows
unfolding unsigned signed last_bits word immediate
numbers = record {
  largest_index = refl;
  index_too_large = refl;
  index_of_six_bytes = refl;
  no_index = refl;
  half_an_index = refl;
  longer_index = refl;
  label = refl;
  label_too_large = refl;
  count = refl;
  count_too_large = refl;
  minus_one = refl;
  least32 = refl;
  largest32 = refl;
  beyond32 = refl;
  short32 = refl;
  minus_two = refl;
  least64 = refl;
  beyond64 = refl;
  float32 = refl;
  short_float32 = refl;
  float64 = refl;
  short_float64 = refl;
}
