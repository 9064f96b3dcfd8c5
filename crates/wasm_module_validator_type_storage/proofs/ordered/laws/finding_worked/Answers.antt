use Rattle.std.proofs.Common.{ℕ, ◌≢◌, [], ◌∷◌, refl, arith}
use Rattle.std.specs.declared.cmp.Ordering.TheVariants.{Equal}
use Rattle.std.proofs.lemmas.List.Elements.{All-nil, All-cons}
use Rattle.wasm_module_validator_type_storage.specs.ordered.Order.{Misses}
use Rattle.wasm_module_validator_type_storage.specs.ordered.Worked.{by_five}
use Rattle.wasm_module_validator_type_storage.proofs.Rows.{not_among}
use Rattle.wasm_module_validator_type_storage.proofs.ordered.laws.finding_worked.Goals as goal

pub returns : goal.returns
unfolding Misses
returns c =
    let P : ℕ → Type 0 = λ n. by_five n ≢ Equal in
    record {
      found = record { among = (1, omega arith, refl); equal = refl };
      absent = λ f. not_among f.among;
      another = λ f. let e = f.equal in cc;
      misses = All-cons P 1 (9 ∷ []) (λ e. cc) (All-cons P 9 [] (λ e. cc) (All-nil P));
      misses_none = All-nil P;
      has = λ m. m 1 0 (omega arith) refl;
    }
