use Rattle.std.proofs.Common.{inl, inr, codes, rules}
use Rattle.wasm_check_command.proofs.WordLemmas.{are_two, are_three}
use Rattle.wasm_check_command.proofs.tables.are_these.Goals as goal

pub returns-then-words-eq2 : goal.returns-then-words-eq2
returns-then-words-eq2 g c = λ t.
    let two = are_two g.S.AsStr.text c.args.words.now c.word_at.result.now c.args.whole.now (search rules) c.word_at.ensures (search rules) in (two.0, inr two.1)

pub returns : goal.returns
returns g c = λ t.
    let three = are_three g.S.AsStr.text c.args.words.now c.word_at-2.result.now c.word_at-3.result.now c.args.option.now (codes "help") (search rules) c.word_at-2.ensures c.word_at-3.ensures (search rules) (search rules) in (three.0, inl three.1)
