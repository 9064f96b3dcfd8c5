-- The worked steps over a store, one for each way in which an operator goes on.
use mathlib.Core.Logic.{⊎_elim}
use Rattle.std.proofs.Common.{inl, refl, sym, ap, inr, true≢false}
use Rattle.wasm_types.specs.trees.Trees.{opened}
use Rattle.wasm_types.specs.trees.AbstractOrder.{same}
use Rattle.wasm_types.specs.trees.ValidGroup.{types_from}
use Rattle.wasm_operator_validator_store.specs.Stores.{memory_in}
use Rattle.wasm_operator_validator_store.specs.worked.Program.{store}
use Rattle.wasm_operator_validator_store.specs.worked.Arms.{BranchesWorked, CallsWorked, DelegatesWorked, CastsWorked, ArraysWorked, AccessesWorked, ArmsWorked}
use Rattle.wasm_operator_validator_store.proofs.Storing.{stays}
use Rattle.wasm_operator_validator_store.proofs.Premises.{own_fits, scalar_unfit, exception_made, store_fits}

branches_worked : BranchesWorked
unfolding opened types_from
branches_worked = record {
  nop = (_, _, _, (_, _, (refl, refl), refl, (refl, refl)), (refl, refl), refl);
  returns_early = (_, _, _, (refl, refl), (refl, refl), refl);
  branches = (_, _, _, (refl, refl), (refl, (refl, refl)), refl);
  goes_on = (_, _, _, (_, _, (refl, (refl, refl)), refl, (refl, refl)), (refl, refl), refl);
  null_branches = (_, _, _, (refl, refl), (refl, refl), refl);
  other_goes_on = (_, _, _, (_, _, (refl, refl), refl, (_, _, (refl, refl, refl), refl, (_, _, (refl, refl), refl, (refl, refl)))), (refl, refl), refl);
  other_branches = (_, _, _, (refl, refl), (refl, refl), refl);
  null_goes_on = (_, _, _, (_, _, (refl, refl), refl, (refl, refl)), (refl, refl), refl);
  null_traps = (_, _, _, (refl, refl), (refl, refl), refl);
  other_passes = (_, _, _, (_, _, (refl, refl), refl, (_, _, (refl, refl, refl), refl, (refl, refl))), (refl, refl), refl);
}

calls_worked : CallsWorked
unfolding opened types_from
calls_worked = record {
  replaced = (_, _, _, (_, _, (refl, (refl, refl)), refl, (_, _, (refl, refl, refl), refl, (refl, refl))), (refl, refl), refl);
  null_traps = (_, _, _, (refl, refl), (refl, refl), refl);
  replaced_through = (_, _, _, (_, _, (refl, refl, refl), refl, (_, _, (refl, ((λ e. own_fits), (λ g. refl)), (refl, (refl, refl))), refl, (_, _, (refl, refl, refl), refl, (refl, refl)))), (refl, refl), refl);
  null_through = (_, _, _, (refl, refl), (refl, ((λ e. absurd (true≢false (sym e))), (λ g. absurd g.1.0)), (refl, refl)), refl);
  past_the_table = (_, _, _, (refl, refl), (refl, (refl, refl)), refl);
  host_caught = (_, _, _, (_, _, (refl, refl), refl, (_, _, (refl, refl), refl, (store, _, ((exception_made, (((tt, refl), tt), (refl, tt))), stays store, store_fits, (_, refl, refl, refl, (refl, refl)), λ w. (w, (refl, tt))), refl, (refl, refl)))), (refl, refl), refl);
  host_passes = (_, _, store, (_, _, (refl, refl), refl, (_, _, (refl, refl), refl, (refl, refl))), ((exception_made, (((tt, refl), tt), tt)), stays store, store_fits, (_, refl, refl, refl, (refl, refl)), λ w. (w, (refl, tt))), refl);
}

delegates_worked : DelegatesWorked
unfolding opened types_from
delegates_worked = record {
  to_the_next = (_, _, _, (_, _, (refl, refl), refl, (_, _, (refl, refl), refl, (_, _, (refl, refl, refl), refl, (_, _, (refl, refl, refl, (refl, refl)), refl, (_, _, (refl, refl), refl, (refl, refl)))))), (refl, refl), refl);
  past_it = (_, _, _, (_, _, (refl, refl), refl, (_, _, (refl, refl), refl, (_, _, (refl, refl, refl), refl, (refl, refl)))), (refl, refl, refl, (refl, refl)), refl);
}

casts_worked : CastsWorked
unfolding opened types_from
casts_worked = record {
  null_passes = (_, _, _, (_, _, (((λ e. absurd (true≢false (sym e))), (λ g. absurd g.1.0)), (refl, refl)), refl, (refl, refl)), (refl, refl), refl);
  null_fails = (_, _, _, (refl, refl), (((λ e. absurd (true≢false (sym e))), (λ g. absurd g.1.0)), (refl, refl)), refl);
  scalar_passes = (_, _, _, (_, _, (((λ e. (tt, (tt, (refl, same)))), (λ g. refl)), (refl, refl)), refl, (_, _, (refl, (refl, refl, refl)), refl, (refl, refl))), (refl, refl), refl);
  object_fails = (_, _, _, (refl, refl), (((λ e. absurd (true≢false (sym e))), (λ g. absurd (scalar_unfit g))), (refl, refl)), refl);
  null_extern = (_, _, _, (_, _, (refl, refl), refl, (refl, refl)), (refl, refl), refl);
  null_any = (_, _, _, (_, _, (refl, refl), refl, (refl, refl)), (refl, refl), refl);
  signed_scalar = (_, _, _, (_, _, (refl, refl, refl), refl, (_, _, (refl, (refl, refl, refl)), refl, (refl, refl))), (refl, refl), refl);
}

arrays_worked : ArraysWorked
unfolding opened types_from
arrays_worked = record {
  of_a_segment = (_, _, _, (_, _, (refl, (refl, refl, refl)), refl, (_, _, (refl, refl, refl), refl, (_, _, (refl, refl, refl), refl, (_, _, (refl, (refl, refl, refl)), refl, (refl, refl))))), (refl, refl), refl);
  past_the_segment = (_, _, _, (refl, refl), (refl, (refl, refl)), refl);
  fixed = (_, _, _, (_, _, (refl, (refl, refl, refl)), refl, (_, _, (refl, refl, refl), refl, (_, _, (refl, refl, refl), refl, (_, _, (refl, (refl, refl, refl)), refl, (refl, refl))))), (refl, refl), refl);
  defaulted = (_, _, _, (_, _, (refl, (refl, refl, refl)), refl, (_, _, (refl, refl, refl), refl, (_, _, (refl, refl, refl), refl, (refl, refl)))), (refl, refl), refl);
  struct_defaulted = (_, _, _, (_, _, (refl, (refl, refl, refl)), refl, (_, _, (refl, refl, refl), refl, (refl, refl))), (refl, refl), refl);
  written_over = (_, _, _, (_, _, (refl, refl, refl), refl, (_, _, (refl, refl, refl), refl, (_, _, (refl, refl, refl), refl, (_, _, (refl, (refl, refl, refl)), refl, (refl, refl))))), (refl, refl), refl);
  copied = (_, _, _, (_, _, (refl, refl, refl), refl, (_, _, (refl, refl, refl), refl, (refl, refl))), (refl, refl), refl);
  constant = (_, _, _, (_, _, (refl, refl, refl), refl, (refl, refl)), (refl, refl), refl);
}

accesses_worked : AccessesWorked
unfolding opened types_from
accesses_worked = record {
  teed = (_, _, _, (_, _, (refl, refl), refl, (_, _, (refl, refl), refl, (_, _, (refl, refl), refl, (refl, refl)))), (refl, refl), refl);
  table_filled = (_, _, _, (_, _, (refl, refl, refl), refl, (_, _, (refl, refl, refl), refl, (_, _, (refl, (refl, refl, refl)), refl, (refl, refl)))), (refl, refl), refl);
  table_copied = (_, _, _, (_, _, (refl, refl, refl), refl, (_, _, (refl, refl, refl), refl, (_, _, (refl, refl, refl), refl, (_, _, (refl, (refl, refl, refl)), refl, (refl, refl))))), (refl, refl), refl);
  past_the_table = (_, _, _, (refl, refl), (refl, (refl, refl)), refl);
  not_grown = (_, _, _, (_, _, inr (refl, refl, refl), refl, (refl, refl)), (refl, refl), refl);
  memory_grown = (_, _, _, (_, _, inl (refl, refl, refl), refl, (refl, refl)), (refl, refl), refl);
  memory_copied = (_, _, _, (_, _, (refl, refl, refl), refl, (refl, refl)), (refl, refl), refl);
  memory_discarded = (_, _, _, (_, _, inr (refl, refl, refl), refl, (_, _, (refl, refl, refl), refl, (refl, refl))), (refl, refl), refl);
  no_other_bytes = λ u g. ⊎_elim (λ c. absurd (true≢false (sym c.0))) (λ c. ap (λ t. memory_in t 0) c.2) g;
  discarded_last = (_, _, _, (_, _, inr (refl, refl, refl), refl, (refl, refl)), (refl, refl), refl);
  discarded_past = λ a u g. ⊎_elim (λ c. c.0) (λ c. c.0) g;
}

pub arms_worked : ArmsWorked
arms_worked = record { branches = branches_worked; calls = calls_worked; delegates = delegates_worked; casts = casts_worked; arrays = arrays_worked; accesses = accesses_worked }
