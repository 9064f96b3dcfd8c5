-- The counts of `Counts`, each by computing it.
use Rattle.std.proofs.Common.{refl}
use Rattle.wasm_types.specs.trees.Trees.{opened}
use Rattle.wasm_operator_validator_tests.specs.Counts.{ReferencesCounted, AggregatesCounted, DescriptorsCounted, ExceptionsCounted, SharedCounted, ContinuationsCounted}
use Rattle.wasm_operators_immediates.specs.declared.handlers.Handle.{Handle}
use Rattle.wasm_operators_immediates.specs.declared.memory.Ordering.{Ordering}
use Rattle.std.specs.Prelude.{ℕ}

pub references_counted : ReferencesCounted
unfolding opened
references_counted = record {
  call_ref = refl;
  call_ref_struct = refl;
  return_call_ref = refl;
  as_non_null = refl;
  on_null = refl;
  on_non_null = refl;
  on_null_unknown = refl;
}

pub aggregates_counted : AggregatesCounted
unfolding opened
aggregates_counted = record {
  eq = refl;
  struct_new_default = λ x. refl;
  struct_get = λ x i. refl;
  struct_get_s = λ x i. refl;
  struct_get_u = λ x i. refl;
  struct_set = λ x i. refl;
  array_new = λ x. refl;
  array_new_default = λ x. refl;
  array_new_data = λ x d. refl;
  array_new_elem = λ x e. refl;
  array_get = λ x. refl;
  array_get_s = λ x. refl;
  array_get_u = λ x. refl;
  array_set = λ x. refl;
  array_len = refl;
  array_fill = λ x. refl;
  array_init_data = λ x d. refl;
  array_init_elem = λ x e. refl;
  test = λ h. refl;
  test_null = λ h. refl;
  cast = λ h. refl;
  cast_null = λ h. refl;
  on_cast = λ r s. refl;
  on_cast_unknown = λ r s. refl;
  on_cast_fail = λ r s. refl;
  any_convert_extern = refl;
  extern_convert_any = refl;
  i31 = refl;
  i31_get_s = refl;
  i31_get_u = refl;
}

pub descriptors_counted : DescriptorsCounted
unfolding opened
descriptors_counted = record {
  struct_new = refl;
  struct_new_array = refl;
  struct_new_default = λ x. refl;
  get = λ x. refl;
  cast = λ h. refl;
  cast_null = λ h. refl;
  on_cast = λ r s. refl;
  on_cast_fail = λ r s. refl;
}

pub exceptions_counted : ExceptionsCounted
unfolding opened
exceptions_counted = record {
  try_typed = refl;
  catch = refl;
  catch_unknown = refl;
  throw_unknown = refl;
  rethrow = λ l. refl;
  throw_ref = refl;
  delegate = λ l. refl;
  catch_all = refl;
  try_table = refl;
}

pub shared_counted : (a : Ordering) (x i : ℕ) → SharedCounted a x i
shared_counted a x i = record {
  global_get = refl;
  global_set = refl;
  global_add = refl;
  global_sub = refl;
  global_and = refl;
  global_or = refl;
  global_xor = refl;
  global_xchg = refl;
  global_cmpxchg = refl;
  table_get = refl;
  table_set = refl;
  table_xchg = refl;
  table_cmpxchg = refl;
  struct_get = refl;
  struct_get_s = refl;
  struct_get_u = refl;
  struct_set = refl;
  struct_add = refl;
  struct_sub = refl;
  struct_and = refl;
  struct_or = refl;
  struct_xor = refl;
  struct_xchg = refl;
  struct_cmpxchg = refl;
  array_get = refl;
  array_get_s = refl;
  array_get_u = refl;
  array_set = refl;
  array_add = refl;
  array_sub = refl;
  array_and = refl;
  array_or = refl;
  array_xor = refl;
  array_xchg = refl;
  array_cmpxchg = refl;
  i31 = refl;
}

pub continuations_counted : (hs : Handle) → ContinuationsCounted hs
unfolding opened
continuations_counted hs = record {
  new = λ x. refl;
  bind = refl;
  bind_function = refl;
  bind_to_function = refl;
  suspend_unknown = refl;
  resume = refl;
  resume_function = refl;
  throw = refl;
  throw_unknown = refl;
  throw_ref = refl;
  switch = refl;
  switch_without = refl;
}
