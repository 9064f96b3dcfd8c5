use Rattle.std.proofs.Common.{inl, refl}
use Rattle.wasm_check_command.specs.Files.{texts}
use Rattle.wasm_check_command.proofs.FileReports.{fails_at, still_kept}
use Rattle.wasm_check_command.proofs.files.try_to_open.Goals as goal

pub loop-place-init : goal.loop-place-init
loop-place-init g c = inl refl

pub loop-place-preserved : goal.loop-place-preserved
loop-place-preserved g c = still_kept c.args.inputs.now.items c.loop-place.inputs.items c.try_one.new.inputs.items c.loop-place.invariant c.try_one.ensures.kept

pub returns-in-Err-clause-err : goal.returns-in-Err-clause-err
returns-in-Err-clause-err g c = fails_at (texts c.args.names.now) c.loop-place.place c.name_at.result.now c.in-Err.fault c.name_at.ensures c.in-Err.ensures.err
