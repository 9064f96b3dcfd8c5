-- By the lemmas on an input of which the first bytes were read.
use Rattle.std.proofs.Common.{rules}
use Rattle.wasm_check_command.specs.Modes.{manner_of, ruled}
use Rattle.wasm_check_command.specs.Settings.{settings_of}
use Rattle.wasm_check_command.specs.declared.judging.Mode.TheVariants.{Whole}
use Rattle.wasm_check_command.proofs.LargeLemmas.{behind_judged, behind_stopped, behind_within}
use Rattle.wasm_check_command.proofs.large.judge_large.Goals as goal

pub returns-then-not-is_binary-clause-ok : goal.returns-then-not-is_binary-clause-ok
returns-then-not-is_binary-clause-ok g c =
    behind_judged (ruled (manner_of c.args.chosen) Whole g.J.Judge.accepts (settings_of c.args.chosen)) c.args.name.now c.read_front.new.buffer.items
    (g.R.Read.remaining c.args.reader.now) (g.R.Read.remaining c.read_front.new.reader) (g.W.Write.contents c.args.out.now) (g.W.Write.contents c.judge_others.new.out)
    c.in-Ok.ensures.ok c.judge_others.result c.judge_others.ensures.ok

pub returns-then-not-is_binary-clause-err : goal.returns-then-not-is_binary-clause-err
returns-then-not-is_binary-clause-err g c =
    behind_stopped (ruled (manner_of c.args.chosen) Whole g.J.Judge.accepts (settings_of c.args.chosen)) c.args.name.now c.read_front.new.buffer.items
    (g.R.Read.remaining c.args.reader.now) (g.R.Read.remaining c.read_front.new.reader) (g.W.Write.contents c.args.out.now) (g.W.Write.contents c.judge_others.new.out)
    c.in-Ok.ensures.ok c.args.index c.judge_others.result c.judge_others.ensures.err

pub returns-then-not-is_binary-clause-most : goal.returns-then-not-is_binary-clause-most
returns-then-not-is_binary-clause-most g c =
    behind_within c.read_front.new.buffer.items (g.R.Read.remaining c.args.reader.now) (g.R.Read.remaining c.read_front.new.reader) (g.R.Read.remaining c.judge_others.new.reader)
    c.in-Ok.ensures.ok c.judge_others.ensures.most

pub returns-clause-ok : goal.returns-clause-ok
returns-clause-ok g c =
    behind_judged (ruled (manner_of c.args.chosen) Whole g.J.Judge.accepts (settings_of c.args.chosen)) c.args.name.now c.read_front.new.buffer.items
    (g.R.Read.remaining c.args.reader.now) (g.R.Read.remaining c.read_front.new.reader) (g.W.Write.contents c.args.out.now) (g.W.Write.contents c.judge_binary.new.out)
    c.in-Ok.ensures.ok c.judge_binary.result c.judge_binary.ensures.ok

pub returns-clause-err : goal.returns-clause-err
returns-clause-err g c =
    behind_stopped (ruled (manner_of c.args.chosen) Whole g.J.Judge.accepts (settings_of c.args.chosen)) c.args.name.now c.read_front.new.buffer.items
    (g.R.Read.remaining c.args.reader.now) (g.R.Read.remaining c.read_front.new.reader) (g.W.Write.contents c.args.out.now) (g.W.Write.contents c.judge_binary.new.out)
    c.in-Ok.ensures.ok c.args.index c.judge_binary.result c.judge_binary.ensures.err

pub returns-clause-most : goal.returns-clause-most
returns-clause-most g c =
    behind_within c.read_front.new.buffer.items (g.R.Read.remaining c.args.reader.now) (g.R.Read.remaining c.read_front.new.reader) (g.R.Read.remaining c.judge_binary.new.reader)
    c.in-Ok.ensures.ok c.judge_binary.ensures.most
