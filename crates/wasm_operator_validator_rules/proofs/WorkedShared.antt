-- The worked rows of atomic accesses to globals, tables, structs and arrays.
use Rattle.std.proofs.Common.{◌≡◌, true, false, refl, rules}
use Rattle.wasm_types.specs.settings.Features.{has}
use Rattle.wasm_types.specs.trees.Trees.{opened}
use Rattle.wasm_types.specs.trees.AbstractOrder.{same, eq_any, struct_eq}
use Rattle.wasm_types.specs.trees.Below.{itself}
use Rattle.wasm_operator_validator_rules.specs.worked.References.{cell}
use Rattle.wasm_operator_validator_rules.specs.worked.SharedAccesses.{SharedWorked}

pub shared_worked : SharedWorked
unfolding has opened
shared_worked = record {
  get = (_, refl, (tt, (false, (tt, (refl, same))), (refl, refl)));
  get_extern = search rules;
  get_unknown = search rules;
  get_shared = (_, refl, (tt, tt, (refl, refl)));
  get_not_shared = search rules;
  set = (_, refl, (refl, tt, (refl, refl)));
  set_extern = search rules;
  set_immutable = search rules;
  add = (_, refl, (refl, tt, (refl, refl)));
  add_reference = search rules;
  add_immutable = search rules;
  sub = (_, refl, (refl, tt, (refl, refl)));
  conjunction = (_, refl, (refl, tt, (refl, refl)));
  disjunction = (_, refl, (refl, tt, (refl, refl)));
  difference = (_, refl, (refl, tt, (refl, refl)));
  exchange = (_, refl, (refl, (false, (tt, (refl, same))), (refl, refl)));
  exchange_extern = search rules;
  compare_any = search rules;
  compare_shared = (_, refl, (refl, (true, (tt, (refl, same))), (refl, refl)));
  table_get = (_, refl, (tt, (false, (tt, (refl, eq_any))), (refl, refl)));
  table_get_extern = search rules;
  table_get_not_shared = search rules;
  table_set = (_, refl, (refl, (false, (tt, (refl, eq_any))), (refl, refl)));
  table_set_unknown = search rules;
  table_exchange = (_, refl, (refl, (false, (tt, (refl, eq_any))), (refl, refl)));
  table_compare = (_, refl, (refl, (false, (tt, (refl, same))), (refl, refl)));
  table_compare_extern = search rules;
  field_get = (_, refl, (tt, tt, (refl, refl)));
  field_get_packed = search rules;
  field_signed = (_, refl, (tt, refl, (refl, refl)));
  field_signed_unpacked = search rules;
  field_unsigned = (_, refl, (tt, refl, (refl, refl)));
  field_set_packed = (_, refl, (refl, tt, (refl, refl)));
  field_set_immutable = search rules;
  field_add = (_, refl, (refl, tt, (refl, refl)));
  field_add_packed = search rules;
  field_sub_immutable = search rules;
  field_and_unknown = search rules;
  field_or_array = search rules;
  field_xor = (_, refl, (refl, tt, (refl, refl)));
  field_xor_not_shared = search rules;
  field_exchange_immutable = search rules;
  field_compare_immutable = search rules;
  element_get = (_, refl, (tt, tt, (refl, refl)));
  element_get_float = search rules;
  element_signed = (_, refl, (tt, refl, (refl, refl)));
  element_unsigned_unpacked = search rules;
  element_set = (_, refl, (refl, tt, (refl, refl)));
  element_set_float = search rules;
  element_add = (_, refl, (refl, tt, (refl, refl)));
  element_sub_packed = search rules;
  element_and_reference = search rules;
  element_or_struct = search rules;
  element_xor_float = search rules;
  element_exchange_packed = search rules;
  element_compare = (_, refl, (refl, (false, (tt, (cell, itself, refl, struct_eq))), (refl, refl)));
  element_compare_eq = search rules;
  small_number = (refl, refl);
  small_number_unshared = search rules;
}
