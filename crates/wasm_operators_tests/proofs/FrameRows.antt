-- These rows compute.
use Rattle.std.proofs.Common.{refl}
use Rattle.wasm_operators_tests.specs.list.FrameRows.{FrameRows}

pub frames : FrameRows
frames = record {
  else_in_if = refl;
  else_in_block = refl;
  else_in_else = refl;
  catch_in_try = refl;
  catch_in_catch = refl;
  catch_in_catch_all = refl;
  catch_in_try_table = refl;
  catch_all_in_catch = refl;
  catch_all_in_catch_all = refl;
  delegate_in_try = refl;
  delegate_in_catch = refl;
  end_in_loop = refl;
  throw_in_block = refl;
  nothing_behind_the_last_end = refl;
}
