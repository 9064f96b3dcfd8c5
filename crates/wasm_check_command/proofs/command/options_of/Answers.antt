use Rattle.std.proofs.Common.{◌∙◌, ap, codes}
use Rattle.wasm_check_command.specs.Settings.{form_by}
use Rattle.wasm_check_command.proofs.FileLemmas.{asks_alike, listed_by}
use Rattle.wasm_check_command.specs.Words.{has_flag}
use Rattle.wasm_check_command.proofs.command.options_of.Goals as goal

pub returns : goal.returns
returns c = λ words r. asks_alike (c.lists_of-features.ensures words r) (c.lists_of-limits.ensures words r)
    (listed_by (codes "pieces") words c.args.matches.now c.get_str-pieces.result r c.get_str-pieces.ensures) (c.has_flag-vectors.ensures words r)
    (c.form_by.ensures ∙ ap (λ q. form_by q c.has_flag-json.result) (c.has_flag-quiet.ensures words r) ∙ ap (form_by (has_flag (codes "quiet") words)) (c.has_flag-json.ensures words r))
    (c.has_flag-explains.ensures words r) (c.has_flag-needs.ensures words r) (c.has_flag-goes_on.ensures words r)
