-- These rows compute.
use Rattle.std.proofs.Common.{refl}
use Rattle.wasm_operators_tests.specs.list.EqualityRows.{EqualityRows}

pub equality : EqualityRows
equality = record {
  same_constant = refl;
  other_constant = refl;
  other_type = refl;
  other_group = refl;
  same_table = refl;
  other_default = refl;
  other_target = refl;
  longer_table = refl;
  shorter_table = refl;
}
