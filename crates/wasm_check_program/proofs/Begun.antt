-- A module that is judged as its bytes come, as the program asks it of a judge.
use Rattle.std.specs.Prelude.{ℕ, List, Ok}
use Rattle.wasm_types.specs.settings.Settings.{Settings}
use Rattle.wasm_module_validator.specs.rules.Accepts.{AcceptsUnder}
use Rattle.wasm_module_validator.specs.Shown.{Learned}
use Rattle.wasm_module_validator.specs.declared.ValidatorId.{ValidatorId}
use Rattle.wasm_module_validator_streaming.specs.declared.to_end.ModuleToEnd.{ModuleToEnd}
use Rattle.wasm_module_validator_streaming.specs.ToEnd.{HasBegun as HasBytes, TellsVerdict}
use Rattle.wasm_check_command.specs.Modes.{HasBegun}
use Rattle.wasm_check_program.specs.Begun.{came_to_end}

-- its bytes came by some settings, and with some id
pub has_come : (p : ModuleToEnd) → HasBegun came_to_end p → HasBytes p
has_come p (z, got, (id, c)) = record { settings = z; id = id; got = got; came = c }

-- what is accepted is valid
pub valid_told : (z : Settings) (id : ValidatorId) (got : List ℕ) (t : Learned) → TellsVerdict z id got (Ok t) → AcceptsUnder z got
valid_told z id got t h = h.0
