use Rattle.std.proofs.Common.{◌≡◌, true, refl}
use Rattle.wasm_types.specs.trees.Types.{i32, i64}
use Rattle.wasm_types.specs.trees.AbstractOrder.{same, struct_any}
use Rattle.wasm_operator_validator_resources.specs.Meaning.{type_in}
use Rattle.wasm_operator_validator_state.proofs.laws.operands_are_worked.Goals as goal

pub returns : goal.returns
unfolding type_in
returns c = record {
  known_itself = λ m. refl;
  known_other = λ m e. let x : i32 ≡ i64 = e in cc;
  known_bottom = λ m e. e;
  bottom_number = λ m. tt;
  bottom_reference = λ m. tt;
  reference_any = λ m. tt;
  reference_itself = λ m. tt;
  reference_number = λ m e. e;
  struct_itself = λ m. (true, (tt, (refl, same)));
  struct_above = λ m. (true, (tt, (refl, struct_any)));
  struct_other = λ m b. elim b.1.1.1 [ ];
  reached = λ m. (refl, tt);
  nothing_below = λ m d. d.1;
  missing = λ m d. d;
  unreached = λ m. (refl, tt);
  unreached_top = λ m d. let x : i32 ≡ i64 = d.0 in cc;
}
