-- The function type of a function of the module.
use Rattle.std.specs.Prelude.{◌≡◌, ℕ, Some, slice_get}
use Rattle.wasm_types.specs.trees.Trees.{TypeTree}
use Rattle.wasm_types.specs.fields.declared.func.FuncType.{FuncType}
use Rattle.wasm_operator_validator_rules.specs.Context.{Signature, IsFunctionType}
use Rattle.wasm_operator_validator_state.specs.resources.Meaning.{Meaning}
use Rattle.wasm_operator_validator_state.specs.State.{types_in}

-- the function at an index has a function type
abbrev pub HasFunction : Meaning → ℕ → Type 0
HasFunction m x = (t : TypeTree) × (b : Signature) × (slice_get m.«module».functions x ≡ Some t) × IsFunctionType t b

-- it has this one
abbrev pub IsFunctionOf : Meaning → ℕ → FuncType → Type 0
IsFunctionOf m x f = (t : TypeTree) × (slice_get m.«module».functions x ≡ Some t)
    × IsFunctionType t (record { params = types_in m f.params; results = types_in m f.results })
