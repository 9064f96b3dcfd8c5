use Rattle.std.proofs.Common.{refl}
use Rattle.wasm_types.specs.settings.Features.{has}
use Rattle.wasm_module_validator.proofs.soundness.default_is_standard.Goals as goal

pub returns : goal.returns
unfolding has
returns c = record { descriptors = refl; sharing = refl; switching = refl }
