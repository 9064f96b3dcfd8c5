-- By the laws of the first step.
use Rattle.std.proofs.Common.{None, refl}
use Rattle.wasm_types.specs.settings.Settings.{Settings}
use Rattle.wasm_module_validator_streaming.proofs.HandedModule.{none_came}
use Rattle.wasm_module_validator_streaming.proofs.Stepping.{begins_there, waits_first}
use Rattle.wasm_module_validator_streaming.proofs.pieces.ModuleInPieces.new.Goals as goal

pub returns-clause-came : goal.returns-clause-came
returns-clause-came c =
    let z : Settings = record { features = c.args.features.0; limits = c.args.limits } in
    none_came z c.args.id (record { judging = c.new.result; pending = c.none.result; most = c.args.most; came = 0; refused = None; alloc = c.args.alloc }) c.new.ensures.settings c.new.ensures.id
    (begins_there z c.new.result c.requires.within c.new.ensures.state c.new.ensures.settings c.new.ensures.empty c.new.ensures.parser c.new.ensures.judge c.new.ensures.idle)
    (waits_first z c.new.result c.new.ensures.parser c.new.ensures.idle)
    c.none.ensures.bytes c.none.ensures.needed refl refl
