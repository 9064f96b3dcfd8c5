-- Codes of classes of one code.
use Rattle.std.proofs.Common.{◌≡◌, ◌<◌, ◌+◌, ℕ, List, length, get_or, subst, arith}
use Rattle.wasm_operators_frequent.specs.Short.{Begins}
use Rattle.wasm_operator_validator_fast_steps.specs.declared.shape.Class.{Class}
use Rattle.wasm_operator_validator_fast_steps.specs.Shapes.{IsClass}

pub at_class : (text : List ℕ) (i n : ℕ) (l k : Class) → i + 1 < length text → IsClass k (get_or text i 0) → k ≡ l → ((code : ℕ) → IsClass l code → code ≡ n) → Begins text i n
at_class text i n l k more is same one = record {
  inside = omega (arith, more);
  code_there = one (get_or text i 0) (subst (λ (m : Class). IsClass m (get_or text i 0)) same is);
}
