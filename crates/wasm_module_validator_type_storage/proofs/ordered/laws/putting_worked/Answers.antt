use Rattle.std.proofs.Common.{◌≡◌, [], ◌∷◌, refl, arith}
use Rattle.std.specs.declared.cmp.Ordering.TheVariants.{Less, Greater}
use Rattle.std.proofs.lemmas.List.Elements.{All-nil}
use Rattle.wasm_module_validator_type_storage.specs.ordered.Worked.{by_five}
use Rattle.wasm_module_validator_type_storage.specs.ordered.OrderLaws.{put_length, put_misses, misses_each}
use Rattle.wasm_module_validator_type_storage.proofs.Rows.{one_less, one_greater, not_early, not_last}
use Rattle.wasm_module_validator_type_storage.proofs.ordered.laws.putting_worked.Goals as goal

pub returns : goal.returns
returns c = record {
  first = record { before = []; after = []; was = refl; is = refl; less = All-nil (λ n. by_five n ≡ Less); greater = All-nil (λ n. by_five n ≡ Greater) };
  between = record { before = 1 ∷ []; after = 9 ∷ []; was = refl; is = refl; less = one_less; greater = one_greater 9 refl };
  early = λ put. not_early put.before put.after put.was put.is put.greater;
  last = λ put. not_last put.before put.after put.was put.is put.less;
  lost = λ put. absurd (omega (arith, put_length put));
  equal = λ put. misses_each by_five (5 ∷ []) 5 (put_misses put) (0, omega arith, refl) refl;
}
