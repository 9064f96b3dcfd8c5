-- What types of functions and blocks mean (WebAssembly 3.0, validation, types).
use Rattle.std.specs.Prelude.{◌≡◌, ℕ, [], Option, Some, None, slice_get}
use Rattle.wasm_types.specs.trees.Trees.{TypeTree}
use Rattle.wasm_types.specs.fields.declared.func.FuncType.{FuncType}
use Rattle.wasm_operators_immediates.specs.declared.block.BlockType.{BlockType}
use Rattle.wasm_operator_validator_rules.specs.Context.{Signature, IsFunctionType, IsBlockType}
use Rattle.wasm_operator_validator_resources.specs.Meaning.{Meaning}
use Rattle.wasm_operator_validator_state.specs.State.{Given, types_in, context}

-- the signature of a function type of the code
abbrev pub signature_in : Meaning → FuncType → Signature
signature_in m f = record { params = types_in m f.params; results = types_in m f.results }

-- the signature of the type at an index, if it is a function type
abbrev pub IsFunctionAt : Meaning → ℕ → Option Signature → Type 0
IsFunctionAt m x None = (t : TypeTree) (b : Signature) → slice_get m.«module».types x ≡ Some t → IsFunctionType t b → ⊥
IsFunctionAt m x (Some b) = (t : TypeTree) × (slice_get m.«module».types x ≡ Some t) × IsFunctionType t b

-- what a block type that code writes means, in whichever frames: it depends on the features and the module alone
abbrev pub IsBlock : Meaning → Given → BlockType → Signature → Type 0
IsBlock m w written b = IsBlockType (context m w []) written b
