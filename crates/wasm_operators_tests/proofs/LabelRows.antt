-- These rows compute.
use Rattle.std.proofs.Common.{refl}
use Rattle.wasm_types.specs.decoding.Decoder.{repeated}
use Rattle.wasm_types.specs.decoding.Leb.{unsigned}
use Rattle.wasm_operators_immediates.specs.Numbers.{numbers_at}
use Rattle.wasm_operators_tests.specs.worked.LabelRows.{LabelRows}

pub labels : LabelRows
unfolding repeated unsigned numbers_at
labels = record { two = refl; none = refl; one_missing = refl; too_large = refl; two_are_whole = refl; byte_left = refl; byte_missing = refl }
