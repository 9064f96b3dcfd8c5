-- These rows compute.
use Rattle.std.proofs.Common.{List, refl, ap}
use Rattle.wasm_types.specs.decoding.Leb.{unsigned}
use Rattle.wasm_types.specs.values.declared.value.ValType.{ValType}
use Rattle.wasm_operators_enums.specs.Op as op
use Rattle.wasm_operators_encoding.specs.Opcodes.{opcode}
use Rattle.wasm_operators_encoding.specs.Groups.{numeric_kinds, simd_numeric_kinds}
use Rattle.wasm_operators_tests.specs.list.OperatorRows.{ToldAsWorked, TreeRows, RoleRows, CanonicalRows, KeptRows}

pub told_rows : ToldAsWorked
told_rows i p n x c = rw (p, n, x, c) refl

pub trees : TreeRows
trees = record {
  control = λ o. refl;
  memory = λ o. refl;
  constant = λ o. refl;
  numeric = λ o. refl;
  bulk = λ o. refl;
  gc = λ o. refl;
  descriptor = λ o. refl;
  simd = λ o. refl;
  simd_numeric = λ o. refl;
  atomic = λ o. refl;
  shared = λ o. refl;
  drop = refl;
  select = refl;
  typed_select = refl;
  select_of_two = λ tys e. ap (λ (vs : List ValType). op.Parametric (op.TypedSelectMulti vs)) e;
  try = λ ty. refl;
  catch = refl;
  throw = refl;
  rethrow = refl;
  throw_ref = refl;
  delegate = refl;
  catch_all = refl;
  try_table = λ t. refl;
  clauses = λ t. refl;
  cont_new = refl;
  cont_bind = refl;
  suspend = refl;
  resume = λ t. refl;
  resume_throw = λ t. refl;
  resume_throw_ref = λ t. refl;
  switch = refl;
}

pub roles : RoleRows
roles = record {
  block = λ ty. refl;
  loop = λ ty. refl;
  if = λ ty. refl;
  else = refl;
  end = refl;
  branch = refl;
  try = λ ty. refl;
  try_table = λ t. refl;
  catch = refl;
  catch_all = refl;
  delegate = refl;
  throw = refl;
  select = refl;
  resume = refl;
  by_opcodes = refl;
  behind_a_prefix = refl;
}

pub canonical : CanonicalRows
canonical = record { one_type = refl; one_type_as_several = refl; two_types = refl; no_type = refl; another = refl }

pub kept : KeptRows
unfolding unsigned opcode numeric_kinds simd_numeric_kinds
kept = record {
  types = refl;
  one_type = refl;
  clauses = λ t. refl;
  throw = refl;
  resume = refl;
  resume_throw = refl;
  resume_throw_ref = refl;
  switch = refl;
  labels = refl;
  by_types = refl;
  by_clauses = refl;
  by_handlers = refl;
  by_labels = refl;
  by_lanes = refl;
  by_no_code = refl;
  by_kinds = refl;
  select_at = refl;
  try_table_at = refl;
  resume_at = refl;
  br_table_at = refl;
  behind_a_prefix_at = refl;
  nothing_at = refl;
}
