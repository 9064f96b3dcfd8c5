-- What the validator accepts if no features and no limits are chosen (WebAssembly 3.0, binary format, modules; validation, modules): the rules
-- of `wasm_module_validator_rules`, under the features and limits by default.
use Rattle.std.specs.Prelude.{ℕ, List, []}
use Rattle.wasm_types.specs.settings.Limits.{default_limits}
use Rattle.wasm_types.specs.settings.Settings.{Settings}
use Rattle.wasm_types.specs.settings.Sets.{bits_of, default_features}
use Rattle.wasm_module_validator_rules.specs.Accepts.{AcceptsUnder, Judges}
use Rattle.wasm_module_validator_rules.specs.Syntax.{ModuleTree}
use Rattle.wasm_module_validator_drivers.specs.state.invariant.Standing.{Stands}
use Rattle.wasm_module_validator.specs.Shown.{Learned}

-- the features and limits that hold if none are chosen
abbrev pub default_settings : Settings
default_settings = record { features = bits_of default_features; limits = default_limits }

-- standard: embed-module-validate: under the default settings
-- the bytes spell some valid module by these
abbrev pub Accepts : List ℕ → Type 0
Accepts = AcceptsUnder default_settings

-- the bytes spell a valid module, and this stands for all of it but its code
abbrev pub IsShown : Settings → List ℕ → Learned → Type 0
IsShown z bytes l =
    (m : ModuleTree) × Judges z bytes m × Stands l.kept.groups l.kept.items z (record m { code = [] })
