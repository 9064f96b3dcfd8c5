-- What is behind an operator that leads away: it is not reached, so any operands may lie there.
use Rattle.std.specs.Prelude.{ℕ, List, []}
use Rattle.wasm_operator_validator_fast_tables.specs.declared.tables.Open.{Open}
use Rattle.wasm_operator_validator_fast_tables.specs.declared.tables.Tables.{Tables}
use Rattle.wasm_operator_validator_fast_tables.specs.Stacks.{with_all}
use Rattle.wasm_operator_validator_fast_tables.specs.Loop.{Leads}

-- whatever operands are to lie in the innermost frame at the second offset, some may lie there at the first
abbrev pub IsPassed : List ℕ → Tables → List Open → ℕ → ℕ → Type 0
IsPassed text t opens i j = (under ws : List ℕ) → (rs : List ℕ) × Leads text t i opens (with_all rs ([], under)) j opens (with_all ws ([], under))
