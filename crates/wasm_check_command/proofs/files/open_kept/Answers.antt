use Rattle.wasm_check_command.proofs.FileReports.{kept_front}
use Rattle.wasm_check_command.proofs.files.open_kept.Goals as goal

pub returns-in_default-clause-ok : goal.returns-in_default-clause-ok
returns-in_default-clause-ok g c = kept_front c.loop-name.inputs.items c.args.names.now c.loop-name.name-index c.loop-name.invariant
