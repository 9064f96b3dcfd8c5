-- Where the body of a function begins (WebAssembly 3.0, validation, functions).
use Rattle.std.specs.Prelude.{◌≡◌, ◌≤◌, ℕ, List, Some, length, slice_get}
use Rattle.wasm_types.specs.trees.Trees.{TypeTree}
use Rattle.wasm_types.specs.trees.Below.{is_shared}
use Rattle.wasm_types.specs.values.declared.value.ValType.{ValType}
use Rattle.wasm_operators_immediates.specs.declared.block.BlockType.TheVariants as block
use Rattle.wasm_operator_validator_rules.specs.Context.{Signature, IsFunctionType}
use Rattle.wasm_operator_validator_state.specs.resources.Meaning.{Meaning}
use Rattle.wasm_operator_validator_state.specs.State.{State, types_in}
use Rattle.wasm_operator_validator_state.specs.Bodies.{fresh}
use Rattle.wasm_operator_validator_stacks.specs.Layout.{none_saved}

-- the type at an index of the module is this one, a function type
pub record HasFunctionType (m : Meaning) (x : ℕ) (t : TypeTree) (b : Signature) : Type 0 where
  pub at : slice_get m.«module».types x ≡ Some t
  pub function : IsFunctionType t b

-- a function that has at most so many locals may have the type at an index
abbrev pub MayBegin : Meaning → ℕ → ℕ → Type 0
MayBegin m most x = (t : TypeTree) × (b : Signature) × HasFunctionType m x t b × (length b.params ≤ most)

-- a body of the function type at an index begins: the parameters are the locals, and the frame of the body is open
pub record Begins (m : Meaning) (bits x : ℕ) (σ : State) : Type 0 where
  pub type : TypeTree
  pub signature : Signature
  pub function : HasFunctionType m x type signature
  pub locals : List ValType
  pub params : types_in m locals ≡ signature.params
  pub state : σ ≡ fresh (record { bits = bits; locals = locals; params = length locals; shared = is_shared type })
      (block.FuncType x) none_saved
