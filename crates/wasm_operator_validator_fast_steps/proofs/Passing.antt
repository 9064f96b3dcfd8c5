-- Operands that a signature takes and gives, where it may take or give none.
use Rattle.std.proofs.Common.{◌≡◌, ◌<◌, ◌∷◌, ℕ, List, [], refl, sym, arith, length, get_or}
use Rattle.std.proofs.lemmas.Option.{slice_get-get_or}
use Rattle.wasm_operator_validator_fast_tables.specs.declared.order.Step.{Step}
use Rattle.wasm_operator_validator_fast_tables.specs.declared.tables.Sig.{Sig}
use Rattle.wasm_operator_validator_fast_tables.specs.Stacks.{Values, with_all}
use Rattle.wasm_operator_validator_fast_tables.specs.Values.{IsLowered}
use Rattle.wasm_operator_validator_fast_tables.specs.Tables.{params_in, results_in}
use Rattle.wasm_operator_validator_fast_tables.proofs.Lowering.{lower_same}
use Rattle.wasm_operator_validator_fast_tables.proofs.Knowing.{part_one}

module _ (flat : List ℕ) (s : Sig) (v : Values) where
  pub takes_none : (steps : List Step) → s.param_count ≡ 0 → IsLowered steps v (with_all (params_in flat s) v)
  takes_none steps none = lower_same steps v (with_all (params_in flat s) v) (rw none refl)

  pub gives_one : s.result_count ≡ 1 → s.results < length flat → get_or flat s.results 0 ∷ [] ≡ results_in flat s
  gives_one one lt = rw one (sym (part_one flat s.results (get_or flat s.results 0) (slice_get-get_or flat s.results 0 lt)))

  pub gives_none : s.result_count ≡ 0 → v ≡ with_all (results_in flat s) v
  gives_none none = rw none refl

-- a list without items
pub no_items : (xs : List ℕ) → length xs ≡ 0 → [] ≡ xs
no_items [] e = refl
no_items (x ∷ xs) e = absurd (omega (arith, e))
