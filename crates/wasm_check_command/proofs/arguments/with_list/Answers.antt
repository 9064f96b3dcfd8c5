use Rattle.std.proofs.Common.{◌∙◌, ap}
use Rattle.clap.specs.Words.{app_of, with_rule}
use Rattle.wasm_check_command.proofs.arguments.with_list.Goals as goal

pub returns : goal.returns
returns c =
    c.in_ok-command.ensures.shape c.option_argument-list.ensures.1 ∙ ap (λ r. with_rule (app_of c.args.command) r) c.option_argument-list.ensures.0
