-- A module that is judged as its bytes come, as the program asks it of a judge.
use Rattle.std.specs.Prelude.{ℕ, List}
use Rattle.wasm_types.specs.settings.Settings.{Settings}
use Rattle.wasm_module_validator.specs.declared.ValidatorId.{ValidatorId}
use Rattle.wasm_module_validator_streaming.specs.declared.to_end.ModuleToEnd.{ModuleToEnd}
use Rattle.wasm_module_validator_streaming.specs.ToEnd.{CameToEnd}

-- these bytes of it came, whatever its id
abbrev pub came_to_end : Settings → List ℕ → ModuleToEnd → Type 0
came_to_end z got p = (id : ValidatorId) × CameToEnd z id got p
