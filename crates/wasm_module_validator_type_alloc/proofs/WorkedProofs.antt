-- The worked rows of indices.
use Rattle.std.proofs.Common.{◌≡◌, ◌∙◌, ℕ, refl, arith, ap, sym, Some, None, rules}
use Rattle.std.specs.Prelude.{Option}
use Rattle.wasm_types.specs.trees.Unfold.{type_count}
use Rattle.wasm_module_validator_type_storage.specs.trees.Groups.{group_ranges}
use Rattle.wasm_module_validator_type_alloc.specs.Worked.{IndicesWorked}

pair_of : Option (ℕ × ℕ) → ℕ × ℕ
pair_of None = (0, 0)
pair_of (Some p) = p

some_same : (a b c d : ℕ) (o : Option (ℕ × ℕ)) → o ≡ Some (a, b) → o ≡ Some (c, d) → (a ≡ c) × (b ≡ d)
unfolding pair_of
some_same a b c d o e f = let g = ap pair_of (sym e ∙ f) in (ap (λ (p : ℕ × ℕ). p.0) g, ap (λ (p : ℕ × ℕ). p.1) g)

pub indices_worked : IndicesWorked
unfolding type_count group_ranges
indices_worked = record {
  place = record { first = 2; end = 3; ids = refl; at = refl };
  not_there = λ p. let e = some_same 0 2 p.first p.end _ refl p.ids in let w = p.at in omega arith;
  itself = refl;
  another = λ e. search rules;
  first_place = record { first = 0; end = 2; ids = refl; within = omega arith };
  no_place = λ p. let e = some_same 2 3 p.first p.end _ refl p.ids in let w = p.within in omega arith;
}
