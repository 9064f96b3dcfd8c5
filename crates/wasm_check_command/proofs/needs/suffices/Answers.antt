use Rattle.std.proofs.lemmas.Result.{IfOk-weaker}
use Rattle.wasm_check_faults.specs.WordLists.{words_in}
use Rattle.wasm_check_command.specs.Modes.{by_features}
use Rattle.wasm_check_command.proofs.NeedsLemmas.{lacks_by, suffices_by}
use Rattle.wasm_check_command.proofs.needs.suffices.Goals as goal

pub returns-clause-yes : goal.returns-clause-yes
returns-clause-yes g c = IfOk-weaker c.accepts.result _ _ (λ valid h t.
    suffices_by (by_features g.J.Judge.accepts c.args.limits c.args.bytes.now) (words_in c.args.words.now) c.bits_with-features.result.0 c.bits_with-features.ensures (h t))
    c.accepts.ensures.yes

pub returns-clause-no : goal.returns-clause-no
returns-clause-no g c = IfOk-weaker c.accepts.result _ _ (λ valid h t.
    lacks_by (by_features g.J.Judge.accepts c.args.limits c.args.bytes.now) (words_in c.args.words.now) c.bits_with-features.result.0 c.bits_with-features.ensures (h t))
    c.accepts.ensures.no
