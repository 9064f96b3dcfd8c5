-- The worked rows that tell the kinds of atomic accesses apart.
use Rattle.std.proofs.Common.{◌≡◌, false, refl, rules}
use Rattle.wasm_types.specs.settings.Features.{has}
use Rattle.wasm_types.specs.trees.Trees.{opened}
use Rattle.wasm_types.specs.trees.AbstractOrder.{same, struct_any, struct_eq}
use Rattle.wasm_types.specs.trees.Below.{itself}
use Rattle.wasm_operator_validator_rules.specs.worked.References.{cell}
use Rattle.wasm_operator_validator_rules.specs.worked.SharedKinds.{SharedGlobalsWorked, SharedFieldsWorked, SharedElementsWorked}

pub shared_globals_worked : SharedGlobalsWorked
unfolding has opened
shared_globals_worked = record {
  add = ((_, refl, (refl, tt, (refl, refl))), search rules);
  sub = ((_, refl, (refl, tt, (refl, refl))), search rules);
  conjunction = ((_, refl, (refl, tt, (refl, refl))), search rules);
  disjunction = ((_, refl, (refl, tt, (refl, refl))), search rules);
  difference = ((_, refl, (refl, tt, (refl, refl))), search rules);
  exchange = ((_, refl, (refl, (false, (tt, (refl, same))), (refl, refl))), search rules);
  table_exchange_extern = search rules;
}

pub shared_fields_worked : SharedFieldsWorked
unfolding has opened
shared_fields_worked = record {
  add = ((_, refl, (refl, tt, (refl, refl))), search rules);
  sub = ((_, refl, (refl, tt, (refl, refl))), search rules);
  conjunction = ((_, refl, (refl, tt, (refl, refl))), search rules);
  disjunction = ((_, refl, (refl, tt, (refl, refl))), search rules);
  difference = ((_, refl, (refl, tt, (refl, refl))), search rules);
  exchange = ((_, refl, (refl, (false, (tt, (cell, itself, refl, struct_any))), (refl, refl))), search rules);
  compare = (_, refl, (refl, (false, (tt, (cell, itself, refl, struct_eq))), (refl, refl)));
  compare_packed = search rules;
  unsigned_unpacked = search rules;
}

pub shared_elements_worked : SharedElementsWorked
unfolding has opened
shared_elements_worked = record {
  add = ((_, refl, (refl, tt, (refl, refl))), search rules);
  sub = ((_, refl, (refl, tt, (refl, refl))), search rules);
  conjunction = ((_, refl, (refl, tt, (refl, refl))), search rules);
  disjunction = ((_, refl, (refl, tt, (refl, refl))), search rules);
  difference = ((_, refl, (refl, tt, (refl, refl))), search rules);
  exchange = ((_, refl, (refl, (false, (tt, (cell, itself, refl, struct_any))), (refl, refl))), search rules);
  compare_float = search rules;
  signed_unpacked = search rules;
  unsigned = (_, refl, (tt, refl, (refl, refl)));
}
