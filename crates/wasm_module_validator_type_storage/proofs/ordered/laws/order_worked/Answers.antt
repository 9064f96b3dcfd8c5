use Rattle.std.proofs.Common.{[], ◌∷◌, refl, ⊎_elim, arith}
use Rattle.wasm_module_validator_type_storage.specs.ordered.Order.{Ascends}
use Rattle.wasm_module_validator_type_storage.specs.ordered.OrderLaws.{ascends_less, ascends_greater}
use Rattle.wasm_module_validator_type_storage.specs.ordered.Worked.{by_five}
use Rattle.wasm_module_validator_type_storage.proofs.Rows.{one_greater}
use Rattle.wasm_module_validator_type_storage.proofs.ordered.laws.order_worked.Goals as goal

pub returns : goal.returns
unfolding Ascends
returns c = record {
  none = λ i j d lt within. absurd (omega (arith, within));
  behind = ascends_less by_five 1 (4 ∷ 5 ∷ 9 ∷ []) refl (ascends_less by_five 4 (5 ∷ 9 ∷ []) refl (ascends_greater by_five 5 (9 ∷ []) (one_greater 9 refl)));
  apart = ascends_less by_five 4 (1 ∷ 9 ∷ 6 ∷ []) refl (ascends_less by_five 1 (9 ∷ 6 ∷ []) refl (ascends_greater by_five 9 (6 ∷ []) (one_greater 6 refl)));
  turned = λ h. ⊎_elim (λ e. cc) (λ e. cc) (h 0 1 0 (omega arith) (omega arith));
  twice = λ h. ⊎_elim (λ e. cc) (λ e. cc) (h 0 1 0 (omega arith) (omega arith));
  late = λ h. ⊎_elim (λ e. cc) (λ e. cc) (h 1 2 0 (omega arith) (omega arith));
}
