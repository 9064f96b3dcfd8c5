-- The worked steps over a store.
use Rattle.std.proofs.Common.{refl, sym, inl, inr, true≢false}
use Rattle.wasm_types.specs.trees.Trees.{opened}
use Rattle.wasm_types.specs.trees.ValidGroup.{types_from}
use Rattle.wasm_operator_validator_store.specs.worked.Program.{store, trapping}
use Rattle.wasm_operator_validator_store.specs.worked.Rows.{RowsWorked}
use Rattle.wasm_operator_validator_store.proofs.Premises.{own_fits, pair_fits, triple_unfit}

pub rows_worked : RowsWorked
unfolding opened types_from
rows_worked = record {
  field = (_, _, _, (_, _, (refl, refl, refl), refl, (_, _, (refl, refl, refl), refl, (refl, refl))), (refl, refl), refl);
  other_field = (_, _, _, (_, _, (refl, refl, refl), refl, (_, _, (refl, refl, refl), refl, (refl, refl))), (refl, refl), refl);
  new = (_, _, _, (_, _, (refl, (refl, refl, refl)), refl, (_, _, (refl, refl, refl), refl, (refl, refl))), (refl, refl), refl);
  filled = (_, _, _, (_, _, (refl, refl, refl), refl, (_, _, (refl, refl, refl), refl, (_, _, (refl, (refl, refl, refl)), refl, (refl, refl)))), (refl, refl), refl);
  not_filled = (_, _, _, (_, _, (refl, refl, refl), refl, (_, _, (refl, refl, refl), refl, (_, _, (refl, (refl, refl, refl)), refl, (refl, refl)))), (refl, refl), refl);
  past_the_end = (_, _, _, (refl, refl), (refl, (refl, refl)), refl);
  null_field = (_, _, _, (refl, refl), (refl, (refl, refl)), refl);
  length = (_, _, _, (_, _, (refl, (refl, refl, refl)), refl, (refl, refl)), (refl, refl), refl);
  unsigned = (_, _, _, (_, _, (refl, refl, refl), refl, (refl, refl)), (refl, refl), refl);
  signed = (_, _, _, (_, _, (refl, refl, refl), refl, (refl, refl)), (refl, refl), refl);
  equal = (_, _, _, (_, _, (refl, (refl, refl, refl)), refl, (refl, refl)), (refl, refl), refl);
  not_equal = (_, _, _, (_, _, (refl, (refl, refl, refl)), refl, (refl, refl)), (refl, refl), refl);
  external = (_, _, _, (_, _, (0, refl, refl, inr refl), refl, (_, _, (refl, refl, refl), refl, (_, _, (refl, (refl, refl, refl)), refl, (refl, refl)))), (refl, refl), refl);
  cast_fails = (_, _, _, (refl, refl), (((λ e. absurd (true≢false (sym e))), (λ f. absurd (triple_unfit f))), (refl, refl)), refl);
  tested = (_, _, _, (_, _, (((λ e. pair_fits), (λ g. refl)), (refl, (refl, refl, refl))), refl, (refl, refl)), (refl, refl), refl);
  called = (_, _, _, (_, _, (refl, refl, refl), refl, (_, _, (refl, ((λ e. own_fits), (λ g. refl)), (refl, (refl, refl))), refl, (_, _, (refl, refl, refl), refl, (_, _, (refl, refl), refl, (refl, refl))))), (refl, refl), refl);
  null_called = (_, _, _, (refl, refl), (refl, ((λ e. absurd (true≢false (sym e))), (λ g. absurd g.1.0)), (refl, refl)), refl);
  initialised = (_, _, _, (_, _, (refl, refl, refl), refl, (_, _, (refl, refl, refl), refl, (_, _, (refl, (refl, refl, refl)), refl, (refl, refl)))), (refl, refl), refl);
  dropped = (_, _, _, (_, _, (refl, refl, refl), refl, (refl, refl)), (refl, (refl, refl)), refl);
  grown = (_, _, _, (_, _, inl (refl, (refl, refl, refl)), refl, (_, _, (refl, refl), refl, (_, _, (refl, refl, refl), refl, (refl, refl)))), (refl, refl), refl);
  global = (_, _, _, (_, _, (refl, refl, refl), refl, (_, _, (refl, refl, refl), refl, (refl, refl))), (refl, refl), refl);
  other_global = (_, _, _, (_, _, (refl, refl, refl), refl, (_, _, (refl, refl, refl), refl, (refl, refl))), (refl, refl), refl);
  decided = (_, _, _, (_, _, (refl, (refl, refl)), refl, (_, _, (refl, refl), refl, (refl, refl))), (refl, refl), refl);
  caught = (_, _, _, (_, _, (refl, refl), refl, (_, _, (refl, refl), refl, (_, _, (refl, refl, refl), refl, (_, _, (refl, refl, refl, (refl, refl)), refl, (refl, refl))))), (refl, refl), refl);
  thrown_again = (_, _, _, (refl, refl), (refl, refl, refl, (refl, refl)), refl);
  answered = (trapping, store, (refl, (refl, refl)), λ e. refl);
  unknown_extern = λ h. h.2;
}
