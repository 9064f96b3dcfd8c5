-- The worked run of a module.
use Rattle.std.specs.Prelude.{pos}
use Rattle.std.proofs.Common.{[], ◌∷◌, refl}
use Rattle.wasm_types.specs.settings.Features.{has}
use Rattle.wasm_types.specs.trees.Trees.{opened}
use Rattle.wasm_types.specs.trees.ValidGroup.{types_from}
use Rattle.wasm_module_validator_rules.proofs.WorkedReleases.{releases_worked}
use Rattle.wasm_module_validator.specs.soundness.ModuleWorked.{ModuleWorked, negating, floats, float}

pub module_worked : ModuleWorked
unfolding has opened types_from
module_worked = record {
  valid = (releases_worked (pos 0)).floats;
  standard = record { descriptors = refl; sharing = refl; switching = refl };
  hosts = tt;
  from = record {
    index = 0;
    function = _;
    body = record { locals = []; code = negating };
    signature = record { params = floats; results = floats };
    arguments = float ∷ [];
    named = refl;
    has_body = refl;
    typed = refl;
    fit = ((tt, refl), tt);
    starts = refl;
    gives = refl;
  };
  ends = (_, (_, tt, refl, (_, (((tt, refl), tt), tt), refl, refl)), tt, refl);
}
