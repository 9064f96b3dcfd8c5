use Rattle.std.proofs.Common.{refl}
use Rattle.wasm_module_validator.specs.laws.Parts.{whole_is_accepted}
use Rattle.durskeyl_c.specs.Settings.{settings_in}
use Rattle.durskeyl_c.proofs.parts.parts_tell_of_the_whole.Goals as goal

pub returns : goal.returns
returns c s parts bytes some each = whole_is_accepted (settings_in s) parts bytes some (λ part below. (each part below).valid refl)
