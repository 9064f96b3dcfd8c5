-- What tags of exceptions carry (WebAssembly 3.0, validation, types, tag types).
use Rattle.std.specs.Prelude.{◌≡◌, ℕ, List, [], Some, slice_get}
use Rattle.wasm_types.specs.trees.Trees.{TypeTree}
use Rattle.wasm_operator_validator_rules.specs.Operands.{ValueType}
use Rattle.wasm_operator_validator_rules.specs.Context.{IsFunctionType}
use Rattle.wasm_operator_validator_state.specs.resources.Meaning.{Meaning}

-- a tag of a module that carries these and gives nothing back, wherever it is named
abbrev pub IsTagIn : Meaning → ℕ → List ValueType → Type 0
IsTagIn m x ts = (t : TypeTree) × (slice_get m.«module».tags x ≡ Some t) × IsFunctionType t (record { params = ts; results = [] })
