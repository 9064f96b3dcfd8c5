-- The worked rows of the table.
use Rattle.std.proofs.Common.{refl}
use Rattle.wasm_types.specs.trees.Trees.{opened}
use Rattle.wasm_operator_validator_rules.specs.arity.Worked.{CountsWorked}

pub counts_worked : CountsWorked
unfolding opened
counts_worked = record {
  nop = refl;
  call = refl;
  call_unknown = refl;
  call_indirect = refl;
  call_indirect_struct = refl;
  return_call = refl;
  br_loop = refl;
  br_block = refl;
  br_unknown = refl;
  br_if = refl;
  br_table = refl;
  block_typed = refl;
  if_typed = refl;
  end = refl;
  return = refl;
  select = refl;
  select_two = refl;
  throw = refl;
  local_tee = refl;
  store = refl;
  add = refl;
  wide_sum = refl;
  struct_new = refl;
  struct_new_array = refl;
  array_new_fixed = refl;
  array_copy = refl;
  struct_set = refl;
  cont_new = refl;
  resume = refl;
  suspend = refl;
}
