use Rattle.wasm_check_command.proofs.FileLemmas.{lists_by}
use Rattle.wasm_check_command.proofs.command.lists_of.Goals as goal

pub returns : goal.returns
returns c = λ words r. lists_by c.args.name.now words c.args.matches.now c.get_strs.result r c.get_strs.ensures
