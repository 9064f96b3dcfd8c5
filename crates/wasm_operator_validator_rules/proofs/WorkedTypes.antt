-- The worked rows of the table.
use Rattle.std.proofs.Common.{refl}
use Rattle.wasm_operator_validator_rules.specs.worked.InstructionTypes.{NumbersWorked, AccessesWorked, SpacesWorked}

pub numbers_worked : NumbersWorked
numbers_worked = record {
  sum = refl;
  zero_test = refl;
  comparison = refl;
  square_root = refl;
  wrapping = refl;
  truncation = refl;
  extension = refl;
  wide_sum = refl;
  wide_product = refl;
  constant = λ x. refl;
}

pub accesses_worked : AccessesWorked
accesses_worked = record {
  load = refl;
  load_64 = refl;
  store = refl;
  over_aligned = refl;
  far = refl;
  near = refl;
  far_64 = refl;
  unknown = refl;
  atomic_load = refl;
  atomic_store = refl;
  under_aligned = refl;
  exchange = refl;
  compare_exchange = refl;
  notify = refl;
  wait = refl;
  fence = refl;
}

pub spaces_worked : SpacesWorked
spaces_worked = record {
  size = refl;
  grow = refl;
  grow_64 = refl;
  grow_unknown = refl;
  size_unknown = refl;
  copy = refl;
  copy_64 = refl;
  copy_unknown = refl;
  fill = refl;
  fill_unknown = refl;
  discard = refl;
  discard_64 = refl;
  discard_unknown = refl;
  init = refl;
  init_unknown = refl;
  init_no_memory = refl;
  data_drop = refl;
  data_drop_unknown = refl;
  data_uncounted = refl;
  elem_drop = refl;
  elem_drop_unknown = refl;
  table_get = refl;
  table_get_64 = refl;
  table_get_unknown = refl;
  table_set = refl;
  table_set_unknown = refl;
  table_grow = refl;
  table_grow_unknown = refl;
  table_size = refl;
  table_size_64 = refl;
  table_fill = refl;
  table_fill_64 = refl;
  table_fill_unknown = refl;
  table_unknown = refl;
  global_get = refl;
  global_set = refl;
  global_constant = refl;
  global_unknown = refl;
  shared_global = refl;
  global_not_shared = refl;
  table_not_shared = refl;
  none_of_its_own_row = refl;
  none_of_control = refl;
}
