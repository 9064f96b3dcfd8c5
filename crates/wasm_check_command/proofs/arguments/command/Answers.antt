use Rattle.std.proofs.Common.{◌≡◌, ◌∙◌, ap, codes, rules}
use Rattle.clap.specs.Words.{app_of, new_app, with_rule}
use Rattle.wasm_check_command.specs.Words.{file_rule, with_forms, with_list, with_needs, with_stops, with_values, with_version}
use Rattle.wasm_check_command.proofs.arguments.command.Goals as goal

pub returns : goal.returns
returns c =
    let first : app_of c.about-command.result ≡ with_version (new_app (codes "wasm-check")) = search rules in
    c.in_ok-command-5.ensures.shape c.files_argument.ensures.1
    ∙ ap (λ r. with_rule (app_of c.in_ok-with_stops.field-0) r) c.files_argument.ensures.0
    ∙ ap (λ a. with_rule a file_rule) (c.in_ok-with_stops.ensures ∙ ap with_stops (c.in_ok-command-4.ensures
    ∙ ap with_needs (c.in_ok-command-3.ensures ∙ ap with_forms (c.in_ok-command-2.ensures ∙ ap with_list (c.in_ok-command.ensures ∙ ap with_values first)))))
