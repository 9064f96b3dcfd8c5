-- What indices in types mean.
use Rattle.std.specs.Prelude.{◌≡◌, ℕ, List, Option, Some, option_and_then, slice_get}
use Rattle.wasm_types.specs.trees.declared.index.UnpackedIndex.{UnpackedIndex}
use Rattle.wasm_types.specs.trees.Trees.{TypeTree, opened}
use Rattle.wasm_types.specs.values.declared.value.ValType.{ValType}
use Rattle.wasm_operator_validator_rules.specs.Context.{Signature, IsFunctionType}
use Rattle.wasm_operator_validator_rules.specs.Named.{used_type}
use Rattle.wasm_operator_validator_resources.specs.Meaning.{Meaning, named_type}
use Rattle.wasm_operator_validator_state.specs.State.{State, types_in}
use Rattle.wasm_operator_validator_objects.specs.Rows.{here}
use Rattle.wasm_operator_validator_objects.specs.Found.{TypeAt}

-- what operands of the first types are taken for those of the second
abbrev pub signature : Meaning → List ValType → List ValType → Signature
signature m ps rs = record { params = types_in m ps; results = types_in m rs }

-- what describes the type at an index, if the function may use the type and something does
abbrev pub described_at : Meaning → State → ℕ → Option TypeTree
described_at m σ x = option_and_then (λ t. (opened t).descriptor) (used_type (here m σ) x)

abbrev pub IsDescribedAt : Meaning → State → ℕ → UnpackedIndex → Type 0
IsDescribedAt m σ x d = (used_type (here m σ) x ≡ Some (TypeAt m x)) × ((opened (TypeAt m x)).descriptor ≡ Some (named_type m d))

-- a tag by its function type
abbrev pub IsTagIn : Meaning → ℕ → Signature → Type 0
IsTagIn m x b = (t : TypeTree) × (slice_get m.«module».tags x ≡ Some t) × IsFunctionType t b
