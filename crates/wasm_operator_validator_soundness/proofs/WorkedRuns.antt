-- The worked runs.
use Rattle.std.specs.Prelude.{ℤ}
use Rattle.std.proofs.Common.{refl}
use Rattle.wasm_types.specs.trees.Trees.{opened}
use Rattle.wasm_operator_validator_soundness.specs.worked.Runs.{RunsWorked}

pub runs_worked : (x : ℤ) → RunsWorked x
unfolding opened
runs_worked x = record {
  sum_given = refl;
  sum_half = refl;
  trap = refl;
  load_traps = refl;
  load_gives = refl;
  block_gives = refl;
  branch_out = refl;
  branch_keeps = refl;
  branch_keeps_two = refl;
  branch_from_function = refl;
  br_table_first = refl;
  br_table_second = refl;
  br_table_default = refl;
  loop_again = refl;
  loop_left = refl;
  loop_takes = refl;
  loop_parameter = refl;
  if_holds = refl;
  if_does_not = refl;
  no_else = refl;
  return_from_block = refl;
  return_keeps = refl;
  called = refl;
  call_traps = refl;
  call_indirect = refl;
  return_call = refl;
  return_call_indirect = refl;
  return_call_indirect_traps = refl;
  nop = refl;
  dropped = refl;
  select_first = refl;
  select_second = refl;
  typed_select = refl;
  local_get = refl;
  local_get_unset = refl;
  local_get_unknown = refl;
  local_set = refl;
  local_set_got = refl;
  local_tee = refl;
  null = refl;
  function = refl;
  init = refl;
  init_traps = refl;
  copy = refl;
  called_by_reference = refl;
  call_ref_traps = refl;
  returned_by_reference = refl;
  not_null = refl;
  branch_on_null = refl;
  no_branch_on_null = refl;
  no_branch_on_non_null = refl;
  caught_at_label = refl;
  caught_by_first = refl;
  caught_by_second = refl;
  label_unknown = refl;
  function_unknown = refl;
  operand_missing = refl;
  not_caught = refl;
}
