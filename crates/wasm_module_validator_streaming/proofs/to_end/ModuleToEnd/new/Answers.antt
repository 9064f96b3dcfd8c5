-- By the laws of the first step.
use Rattle.std.proofs.Common.{None, refl}
use Rattle.wasm_types.specs.settings.Settings.{Settings}
use Rattle.wasm_module_validator_streaming.proofs.Stepping.{begins_there}
use Rattle.wasm_module_validator_streaming.proofs.ToEnd.{none_came}
use Rattle.wasm_module_validator_streaming.proofs.to_end.ModuleToEnd.new.Goals as goal

pub returns : goal.returns
returns c =
    let z : Settings = record { features = c.args.features.0; limits = c.args.limits } in
    record {
      came = none_came z c.args.id
          (record { going = record { judging = c.new.result; refused = None }; pending = c.none.result; came = 0; refused = None; alloc = c.args.alloc }) c.new.ensures.settings c.new.ensures.id refl
          (begins_there z c.new.result c.requires.within c.new.ensures.state c.new.ensures.settings c.new.ensures.empty c.new.ensures.parser c.new.ensures.judge c.new.ensures.idle)
          c.none.ensures.bytes c.none.ensures.needed refl refl;
    }
