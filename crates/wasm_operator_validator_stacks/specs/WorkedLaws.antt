-- The rows of `Worked`, each by computing it.
use Rattle.std.proofs.Common.{refl}
use Rattle.wasm_operator_validator_stacks.specs.Worked.{HeightRows}

pub height_rows : HeightRows
height_rows = record {
  operands = refl;
  none = refl;
  innermost = refl;
  outermost = refl;
  no_frame = refl;
  known = refl;
  unknown = refl;
  unknown_reference = refl;
}
