-- A worked run of a module that is valid by the first release alone: its function takes a float and gives another.
use Rattle.std.specs.Prelude.{◌≡◌, List, [], ◌∷◌}
use Rattle.wasm_types.specs.settings.Settings.{Settings}
use Rattle.wasm_types.specs.settings.Sets.{bits_of, mvp}
use Rattle.wasm_types.specs.trees.Types.{f32, number}
use Rattle.wasm_types.specs.trees.ValidGroup.{type_at}
use Rattle.wasm_types.specs.trees.worked.Groups.{allowing}
use Rattle.wasm_operators_encoding.specs.expressions.Code.{Code, plain}
use Rattle.wasm_operator_validator_rules.specs.Operands.{ValueType}
use Rattle.wasm_module_validator_rules.specs.Syntax.{ModuleTree}
use Rattle.wasm_module_validator_rules.specs.Valid.{IsValid}
use Rattle.wasm_module_validator_rules.specs.worked.Releases.{negates, negation}
use Rattle.wasm_module_validator_rules.specs.worked.Trees.{one_function, local_get, only}
use Rattle.wasm_operator_validator_soundness.specs.runs.Values.{Program, IsStandard, Value, number_value}
use Rattle.wasm_operator_validator_soundness.specs.runs.States.{State, returned}
use Rattle.wasm_operator_validator_soundness.specs.runs.Machine.{begun}
use Rattle.wasm_operator_validator_soundness.specs.runs.Soundness.{step, Runs, IsStarted}
use Rattle.wasm_operator_validator_soundness.specs.runs.worked.Runs.{silent, giving}
use Rattle.wasm_module_validator.specs.soundness.Modules.{types_in, program_of, AreHosts}

abbrev pub settings : Settings
settings = allowing (bits_of mvp)

abbrev pub negating : Code
negating = plain (local_get 0) (only negation)

abbrev pub tree : ModuleTree
tree = one_function negates negating

abbrev pub program : Program
program = program_of settings tree []

abbrev pub floats : List ValueType
floats = number f32 ∷ []

abbrev pub float : Value
float = number_value f32 0

-- its function, with one argument
abbrev pub started : State
started = begun (type_at (types_in tree) 0) (record { params = floats; results = floats })
    (record { locals = []; code = negating }) (float ∷ []) floats ∷ []

-- Each answer is accepted, and so is a last one, with which the run ends.
pub record ModuleWorked : Type 0 where
  pub valid : IsValid settings tree
  pub standard : IsStandard settings.features
  pub hosts : AreHosts tree []
  pub from : IsStarted program started floats
  pub ends : (t : State) × Runs program started (silent ∷ giving float ∷ []) t
      × (step program t silent).is_answer × ((step program t silent).outcome ≡ returned (float ∷ []))
