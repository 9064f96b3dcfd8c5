use Rattle.std.proofs.Common.{◌≡◌, ◌∙◌, ap, rules, sym}
use Rattle.std.specs.Prelude.{None, Some, option_map}
use Rattle.wasm_check_command.specs.Files.{lists_in, texts}
use Rattle.wasm_check_command.proofs.FileLemmas.{named_one_by_one, some_texts}
use Rattle.wasm_check_command.proofs.command.run_matches.Goals as goal

pub returns-in-Some-clause-ended : goal.returns-in-Some-clause-ended
returns-in-Some-clause-ended g c = λ words r.
    let is : c.value_of.result ≡ Some c.in-Some.file = search rules in
    c.run_list.ensures.ended words (c.options_of-options.ensures words r) (c.lists_of-given.ensures words r)
    (sym (c.value_of.ensures words r) ∙ ap (option_map (λ v. v.now)) is)

pub returns-clause-ended : goal.returns-clause-ended
returns-clause-ended g c = λ words r.
    let none : c.value_of.result ≡ None = search rules in
    let is : c.lists_of-given.result ≡ Some c.in-Some-given.names = search rules in
    c.run_names.ensures.ended words (c.options_of-options.ensures words r)
    (named_one_by_one words (texts c.in-Some-given.names.now) (sym (c.value_of.ensures words r) ∙ ap (option_map (λ v. v.now)) none)
    (sym (ap lists_in is) ∙ c.lists_of-given.ensures words r) (some_texts c.in-Some-given.names.now c.if-is_empty.ensures))
