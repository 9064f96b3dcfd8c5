use Rattle.wasm_check_command.proofs.FileLemmas.{listed_by}
use Rattle.wasm_check_command.proofs.command.value_of.Goals as goal

pub returns : goal.returns
returns c = λ words r. listed_by c.args.name.now words c.args.matches.now c.get_str.result r c.get_str.ensures
