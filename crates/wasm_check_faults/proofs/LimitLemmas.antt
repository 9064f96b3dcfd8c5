-- What a word makes of limits.
use Rattle.std.proofs.Common.{◌≡◌, ◌∙◌, ℕ, List, ap, sym}
use Rattle.std.specs.Prelude.{Result, Ok, Err}
use Rattle.wasm_types.specs.settings.declared.Limits.{Limits}
use Rattle.wasm_check_faults.specs.declared.limits.Wrong.{Wrong}
use Rattle.wasm_check_faults.specs.Lists.{Place}
use Rattle.wasm_check_faults.specs.LimitLists.{ListFault, limits_after, limit_step}

abbrev fault_at : Place → Wrong → ListFault
fault_at place wrong = record { wrong = wrong; place = place }

module _ (place : Place) (word : List ℕ) (l : Limits) (r : Result Limits Wrong) (given : r ≡ limits_after word l) where
  -- it sets one
  pub set_step : (m : Limits) → r ≡ Ok m → limit_step place word l ≡ Ok m
  set_step m is = ap (λ (x : Result Limits Wrong). elim x [ Ok n ↦ Ok n | Err w ↦ Err (fault_at place w) ]) (sym given ∙ is)

  -- something is wrong with it
  pub wrong_step : (wrong : Wrong) → r ≡ Err wrong → limit_step place word l ≡ Err (record { wrong = wrong; place = place })
  wrong_step wrong is = ap (λ (x : Result Limits Wrong). elim x [ Ok n ↦ Ok n | Err w ↦ Err (fault_at place w) ]) (sym given ∙ is)
