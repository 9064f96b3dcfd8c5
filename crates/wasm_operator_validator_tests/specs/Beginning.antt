-- Where the body of a function begins, and which functions may have a type: of a module with a function type of one parameter and two
-- results at index 0, and a struct at index 1; and where a constant begins (WebAssembly 3.0, validation, functions).
use Rattle.std.specs.Prelude.{◌<◌, ℕ, Bool, true, false, List, [], ◌∷◌, length, ◌≡◌, None}
use Rattle.wasm_types.specs.trees.Types.{i32, i64, number}
use Rattle.wasm_types.specs.trees.Trees.{TypeTree}
use Rattle.wasm_types.specs.values.declared.value.ValType.{ValType}
use Rattle.wasm_types.specs.values.declared.value.ValType.TheVariants.{I32, I64}
use Rattle.wasm_operators_immediates.specs.declared.block.BlockType.TheVariants as block
use Rattle.wasm_operators_immediates.specs.declared.frames.FrameKind.TheVariants as frames
use Rattle.wasm_operator_validator_rules.specs.Context.{Signature}
use Rattle.wasm_operator_validator_state.specs.resources.Meaning.{Meaning}
use Rattle.wasm_operator_validator_state.specs.State.{State}
use Rattle.wasm_operator_validator_state.specs.Bodies.{fresh}
use Rattle.wasm_operator_validator_stacks.specs.Layout.{none_saved}
use Rattle.wasm_operator_validator_stacks.specs.Functions.{HasFunctionType, MayBegin, Begins}
use Rattle.wasm_operator_validator_constants.specs.Beginning.{constant_begins}
use Rattle.wasm_operator_validator_tests.specs.Answers.{listed}
use Rattle.wasm_operator_validator_rules.specs.arity.Worked.{splitting}

abbrev pub its_signature : Signature
its_signature = record { params = number i64 ∷ []; results = number i32 ∷ number i32 ∷ [] }

-- a body of the type at this index begins, under features with the bits 5
abbrev pub begun_with : List ValType → ℕ → Bool → ℕ → State
begun_with locals params shared x = fresh (record { bits = 5; locals = locals; params = params; shared = shared }) (block.FuncType x) none_saved

pub record BeginningRows : Type 0 where
  pub function : HasFunctionType listed 0 splitting its_signature
  pub no_function : (t : TypeTree) (b : Signature) → HasFunctionType listed 1 t b → ⊥
  pub no_type : (t : TypeTree) (b : Signature) → HasFunctionType listed 9 t b → ⊥
  pub may : MayBegin listed 1 0
  pub may_not_without_locals : MayBegin listed 0 0 → ⊥
  pub may_not_struct : (most : ℕ) → MayBegin listed most 1 → ⊥
  pub may_not_none : (most : ℕ) → MayBegin listed most 9 → ⊥
  pub may_not_large : (m : Meaning) (most x : ℕ) (t : TypeTree) (b : Signature) → HasFunctionType m x t b → most < length b.params → MayBegin m most x → ⊥
  pub begins : Begins listed 5 0 (begun_with (I64 ∷ []) 1 false 0)
  pub not_of_a_struct : Begins listed 5 1 (begun_with (I64 ∷ []) 1 false 1) → ⊥
  pub no_other_features : Begins listed 4 0 (begun_with (I64 ∷ []) 1 false 0) → ⊥
  pub not_without_locals : Begins listed 5 0 (begun_with [] 0 false 0) → ⊥
  pub no_other_local : Begins listed 5 0 (begun_with (I32 ∷ []) 1 false 0) → ⊥
  pub no_further_local : Begins listed 5 0 (begun_with (I64 ∷ I32 ∷ []) 2 false 0) → ⊥
  pub not_unset : Begins listed 5 0 (begun_with (I64 ∷ []) 0 false 0) → ⊥
  pub not_shared : Begins listed 5 0 (begun_with (I64 ∷ []) 1 true 0) → ⊥
  pub no_other_frame : Begins listed 5 0 (begun_with (I64 ∷ []) 1 false 1) → ⊥

-- no locals, and one frame that gives a value of the type of the constant (WebAssembly 3.0, validation, constant expressions)
abbrev pub ConstantsBegin : Type 0
ConstantsBegin = (bits : ℕ) (t : ValType) → constant_begins bits t ≡ record {
  given = record { bits = bits; locals = []; params = 0; shared = false };
  inits = [];
  opens = record { kind = frames.Block; block = block.Val t; before = []; operands = []; unreachable = false } ∷ [];
  failed = false;
  saved = record { operands = None; frames = None; inits = None; failed = false };
}
