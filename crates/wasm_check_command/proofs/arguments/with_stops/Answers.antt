use Rattle.std.proofs.Common.{◌∙◌, ap, codes}
use Rattle.clap.specs.Words.{app_of, with_rule}
use Rattle.wasm_check_command.specs.Words.{flag_rule}
use Rattle.wasm_check_command.proofs.arguments.with_stops.Goals as goal

pub returns : goal.returns
returns c =
    c.in_ok-command.ensures.shape c.flag_argument-going.ensures.1
    ∙ ap (λ r. with_rule (app_of c.in_ok-arg.field-0) r) c.flag_argument-going.ensures.0
    ∙ ap (λ a. with_rule a (flag_rule (codes "keep-going")))
    (c.in_ok-arg.ensures.shape c.flag_argument-quiet.ensures.1 ∙ ap (λ r. with_rule (app_of c.args.command) r) c.flag_argument-quiet.ensures.0)
