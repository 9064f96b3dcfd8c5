-- Elements that their bytes alone tell: references to functions, and constants that refer to none (WebAssembly 3.0, validation, modules, element segments).
use Rattle.std.specs.Prelude.{◌≡◌, ℕ, zero, suc, List, ◌++◌, Some, false, slice_get}
use Rattle.wasm_types.specs.trees.Types.{ref, concrete}
use Rattle.wasm_types.specs.trees.Trees.{TypeTree}
use Rattle.wasm_types.specs.trees.Below.{Below}
use Rattle.wasm_operator_validator_rules.specs.Operands.{ValueType}
use Rattle.wasm_operator_validator_rules.specs.Context.{Module}
use Rattle.wasm_operator_validator_rules.specs.Row.{IsOneOf}
use Rattle.wasm_module_validator_fast_constants.specs.Steps.{IsShortConstant}

-- a function that may be referred to, and whose type fits where this one is wanted
abbrev pub FitsFunction : Module → ValueType → ℕ → Type 0
FitsFunction g t x = (f : TypeTree) × (slice_get g.functions x ≡ Some f) × IsOneOf x g.referenced × Below (ref false (concrete f)) t

-- what a constant refers to stands behind other names
abbrev pub NamesShort : ℕ → Module → ValueType → List ℕ → ℕ → ℕ → List ℕ → List ℕ → Type 0
NamesShort bits g t text i j before after = (names : List ℕ) × IsShortConstant bits g t text i j names × (after ≡ before ++ names)

-- so many of them, one after the other
abbrev pub NamesRun : ℕ → Module → ValueType → List ℕ → ℕ → ℕ → ℕ → List ℕ → List ℕ → Type 0
NamesRun bits g t text zero i j before after = (j ≡ i) × (after ≡ before)
NamesRun bits g t text (suc n) i j before after = (k : ℕ) × (now : List ℕ) × NamesRun bits g t text n i k before now
    × NamesShort bits g t text k j now after
