use Rattle.std.proofs.Common.{◌∙◌, ap}
use Rattle.wasm_check_command.specs.Words.{is_set}
use Rattle.wasm_check_command.proofs.FileLemmas.{listed_by}
use Rattle.wasm_check_command.proofs.command.has_flag.Goals as goal

pub returns : goal.returns
returns c = λ words r. c.is_set.ensures ∙ ap is_set (listed_by c.args.name.now words c.args.matches.now c.get_str.result r c.get_str.ensures)
