-- The bodies of a module's functions (WebAssembly 3.0, binary format, modules, code section; validation, modules, functions).
use Rattle.std.specs.Prelude.{ℕ, List}
use Rattle.wasm_types.specs.settings.Settings.{Settings}
use Rattle.wasm_operator_validator_rules.specs.Context.{Module}
use Rattle.wasm_module_validator_section_order.specs.rules.Syntax.{Function}
use Rattle.wasm_module_validator_section_order.specs.rules.Binary.{SpelledFunction}
use Rattle.wasm_module_validator_section_order.specs.rules.Valid.{HasValidBody}

-- the bytes spell a function that is valid as one of the type at an index
abbrev pub IsFunctionOf : Settings → Module → ℕ → List ℕ → Type 0
IsFunctionOf z g x text = (f : Function) × SpelledFunction z f text × HasValidBody z g x f
