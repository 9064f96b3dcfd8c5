-- What is promised where nothing is refused: locals are read and declared, a body is validated, an operator is tried (WebAssembly 3.0,
-- validation, modules, functions and locals). What expressions refer to (validation, modules, where the context has them as C.refs).
use Rattle.std.specs.Prelude.{◌≡◌, ℕ, true, List, [], ◌∷◌, Some, None, slice_get, Ok}
use Rattle.wasm_types.specs.decoding.Decoder.{State as Bytes}
use Rattle.wasm_types.specs.settings.Limits.{default_limits}
use Rattle.wasm_types.specs.settings.Settings.{no_features}
use Rattle.wasm_types.specs.trees.Trees.{TypeTree}
use Rattle.wasm_types.specs.trees.Below.{is_shared}
use Rattle.wasm_types.specs.values.declared.value.ValType.TheVariants.{I32}
use Rattle.wasm_operators_immediates.specs.declared.block.BlockType.TheVariants as block
use Rattle.wasm_operators_enums.specs.declared.control.ControlOperator.TheVariants as control
use Rattle.wasm_operators_enums.specs.Op as op
use Rattle.wasm_operators_enums.specs.Op.{Op}
use Rattle.wasm_operator_validator_rules.specs.Context.{Signature, IsFunctionType}
use Rattle.wasm_operator_validator_state.specs.resources.Meaning.{Meaning}
use Rattle.wasm_operator_validator_state.specs.State.{State}
use Rattle.wasm_operator_validator_state.specs.Bodies.{fresh}
use Rattle.wasm_operator_validator_state.specs.worked.Bodies.{body_of}
use Rattle.wasm_operator_validator_stacks.specs.Layout.{none_saved}
use Rattle.wasm_operator_validator_stacks.specs.Defining.{with_locals}
use Rattle.wasm_module_validator_function_bodies.specs.Locals.{ReadsLocals, DefinesMore}
use Rattle.wasm_module_validator_function_bodies.specs.Functions.{ValidatesFunction}
use Rattle.wasm_module_validator_function_bodies.specs.Trying.{Tries}
use Rattle.wasm_module_validator_initialisers.specs.resources.referring.Naming.{NamesMore}

-- these bytes behind so many, without features
abbrev pub bytes_at : ℕ → List ℕ → Bytes
bytes_at n rest = record { rest = rest; place = n; settings = no_features; start = 0 }

-- where a body without locals and results begins
abbrev pub beginning : State
beginning = body_of block.Empty

-- there are no locals, and one `end`
abbrev pub no_locals : Bytes
no_locals = bytes_at 0 (0x00 ∷ 0x0b ∷ [])

pub record LocalsDone (m : Meaning) : Type 0 where
  pub read : ReadsLocals m default_limits no_locals beginning (Ok tt) (bytes_at 1 (0x0b ∷ [])) beginning
  pub not_passed : ReadsLocals m default_limits no_locals beginning (Ok tt) no_locals beginning → ⊥
  pub invented : ReadsLocals m default_limits no_locals beginning (Ok tt) (bytes_at 1 (0x0b ∷ [])) (with_locals beginning 1 I32) → ⊥
  pub failed : ReadsLocals m default_limits no_locals beginning (Ok tt) (bytes_at 1 (0x0b ∷ [])) (record beginning { failed = true }) → ⊥
  pub declared : DefinesMore m 2 beginning 2 I32 (Ok tt) (with_locals beginning 2 I32)
  pub not_declared : DefinesMore m 2 beginning 2 I32 (Ok tt) beginning → ⊥
  pub too_many : DefinesMore m 1 beginning 2 I32 (Ok tt) (with_locals beginning 2 I32) → ⊥

abbrev pub nop : Op
nop = op.Control control.Nop

abbrev pub end : Op
end = op.Control control.End

-- an operator that may come, and one that leaves no frame where it is said to leave one
pub record TriesDone (m : Meaning) : Type 0 where
  pub done : Tries m beginning nop None beginning
  pub failed : Tries m beginning nop None (record beginning { failed = true }) → ⊥
  pub not_decided : Tries m beginning end None beginning → ⊥

-- where a body begins of a function type at index 0 that takes and gives nothing
abbrev pub of_type : TypeTree → State
of_type t = fresh (record { bits = 0; locals = []; params = 0; shared = is_shared t }) (block.FuncType 0) none_saved

abbrev pub ended : State → State
ended σ = record σ { opens = [] }

abbrev pub nothing : Signature
nothing = record { params = []; results = [] }

pub record BodiesDone (m : Meaning) (t : TypeTree) : Type 0 where
  pub validated : slice_get m.«module».types 0 ≡ Some t → IsFunctionType t nothing → ValidatesFunction m default_limits no_locals (of_type t) (Ok tt) (ended (of_type t))
  pub not_ended : ValidatesFunction m default_limits no_locals (of_type t) (Ok tt) (of_type t) → ⊥
  pub failed : ValidatesFunction m default_limits no_locals (of_type t) (Ok tt) (record (ended (of_type t)) { failed = true }) → ⊥
  pub no_body : slice_get m.«module».types 0 ≡ Some t → IsFunctionType t nothing → ValidatesFunction m default_limits (bytes_at 0 []) (of_type t) (Ok tt) (ended (of_type t)) → ⊥

-- `ref.func 3`, `end`
abbrev pub reference : List ℕ
reference = 0xd2 ∷ 0x03 ∷ 0x0b ∷ []

-- `nop`, `end`
abbrev pub nothing_named : List ℕ
nothing_named = 0x01 ∷ 0x0b ∷ []

pub record FunctionsNamed : Type 0 where
  pub named : NamesMore no_features reference (1 ∷ []) (1 ∷ 3 ∷ [])
  pub not_named : NamesMore no_features reference (1 ∷ []) (1 ∷ []) → ⊥
  pub another : NamesMore no_features reference (1 ∷ []) (1 ∷ 2 ∷ []) → ⊥
  pub others_lost : NamesMore no_features reference (1 ∷ []) (3 ∷ []) → ⊥
  pub none : NamesMore no_features nothing_named (1 ∷ []) (1 ∷ [])
  pub invented : NamesMore no_features nothing_named (1 ∷ []) (1 ∷ 3 ∷ []) → ⊥
