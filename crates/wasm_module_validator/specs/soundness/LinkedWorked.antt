-- A worked run of a module with imports, a table and its elements, a tag, a global and a start function, which calls an import, reads
-- the global and throws. With this are its constants and hosts no empty promise.
use Rattle.std.specs.Prelude.{◌≡◌, ◌^◌, ℤ, List, [], ◌∷◌, Some}
use Rattle.wasm_types.specs.settings.Settings.{Settings}
use Rattle.wasm_types.specs.trees.Types.{i32}
use Rattle.wasm_types.specs.trees.Trees.{TypeTree}
use Rattle.wasm_types.specs.trees.ValidGroup.{type_at}
use Rattle.wasm_types.specs.trees.worked.Groups.{allowing}
use Rattle.wasm_types.specs.values.declared.value.ValType.TheVariants as value
use Rattle.wasm_operators_enums.specs.declared.control.ControlOperator.TheVariants as control
use Rattle.wasm_operators_enums.specs.Op as op
use Rattle.wasm_operators_encoding.specs.expressions.Code.{Code, plain}
use Rattle.wasm_sections_items.specs.declared.imports.type_ref.TypeRef.TheVariants as import
use Rattle.wasm_operator_validator_rules.specs.Context.{Signature}
use Rattle.wasm_module_validator_rules.specs.Syntax.{ModuleTree}
use Rattle.wasm_module_validator_rules.specs.Valid.{IsValid}
use Rattle.wasm_module_validator_rules.specs.worked.Trees.{empty, procedure, takes_i32, imports, constant_of, null_table, table_with, funcref, tag_with, global_with, global_get, constant, only, active_functions, does}
use Rattle.wasm_operator_validator_soundness.specs.runs.Values.{Program, IsStandard, number_value}
use Rattle.wasm_operator_validator_soundness.specs.runs.States.{State, Answer, thrown}
use Rattle.wasm_operator_validator_soundness.specs.runs.Machine.{begun}
use Rattle.wasm_operator_validator_soundness.specs.runs.Soundness.{step, Runs, IsStarted}
use Rattle.wasm_operator_validator_soundness.specs.runs.worked.Runs.{silent, giving, leaving}
use Rattle.wasm_module_validator.specs.soundness.Modules.{types_in, program_of, AreHosts}
use Rattle.wasm_module_validator.specs.soundness.Soundness.{MayStart, RunsFrom}

-- exceptions alone
abbrev pub linking : Settings
linking = allowing (2 ^ 13)

abbrev pub starting : Code
starting = plain (op.Control (control.Call 0)) (plain (global_get 1) (only (op.Exception (op.Throw 0))))

abbrev pub nothing : Signature
nothing = record { params = []; results = [] }

module _ (x : ℤ) where
  -- its function is started, and stands in its table beside the import; its global is the import's
  abbrev pub linked : ModuleTree
  linked = record empty {
    types = procedure ∷ takes_i32 ∷ [];
    imports = imports (import.Func 0) ∷ imports (import.Global (constant_of value.I32)) ∷ [];
    functions = 0 ∷ [];
    tables = null_table (table_with funcref 1) ∷ [];
    tags = tag_with 1 ∷ [];
    globals = global_with (constant_of value.I32) (only (global_get 0)) ∷ [];
    start = Some 1;
    element_segments = active_functions (only (constant x)) (0 ∷ 1 ∷ []) ∷ [];
    code = does [] starting ∷ [];
  }

  -- the host gives a procedure of the type by which it is imported
  abbrev pub hosts : List TypeTree
  hosts = type_at (types_in linked) 0 ∷ []

  abbrev pub program : Program
  program = program_of linking linked hosts

  abbrev pub started : State
  started = begun (type_at (types_in linked) 0) nothing (record { locals = []; code = starting }) [] [] ∷ []

  abbrev pub leaving_all : Answer
  leaving_all = leaving 1

  -- Each answer is accepted, and so is a last one, with which the exception leaves the run.
  pub record LinkedWorked : Type 0 where
    pub valid : IsValid linking linked
    pub standard : IsStandard linking.features
    pub hosted : AreHosts linked hosts
    pub from : IsStarted program started []
    pub sound : RunsFrom linking linked hosts
    pub starts : MayStart program 1
    pub throws : (t : State) × Runs program started (silent ∷ giving (number_value i32 0) ∷ []) t
        × (step program t leaving_all).is_answer
        × ((step program t leaving_all).outcome ≡ thrown (type_at (types_in linked) 1) (number_value i32 0 ∷ []))
