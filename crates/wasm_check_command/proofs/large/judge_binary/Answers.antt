-- By the lemmas on the line of an input of which nothing is told but the verdict.
use Rattle.std.proofs.Common.{rules, ◌≡◌, ℕ, List, subst}
use Rattle.std.specs.Prelude.{string_bytes}
use Rattle.std.specs.Io.KnownBytes.{Appends}
use Rattle.wasm_check_command.specs.Modes.{manner_of}
use Rattle.wasm_check_command.specs.Settings.{settings_of}
use Rattle.wasm_check_command.specs.Verdict.{WritesFront}
use Rattle.wasm_check_command.proofs.LargeLemmas.{large_judged, large_unwritten}
use Rattle.wasm_check_command.proofs.large.judge_binary.Goals as goal

pub returns-in-Ok-write_text-clause-ok : goal.returns-in-Ok-write_text-clause-ok
returns-in-Ok-write_text-clause-ok g c =
    let same : c.as_bytes.result.now ≡ string_bytes c.in-Ok-verdict_text.line = search rules in
    large_judged g.J.Judge.accepts (settings_of c.args.chosen) (manner_of c.args.chosen) c.requires.alone c.args.name.now c.args.buffer.now.items c.requires.binary
    (g.R.Read.remaining c.args.reader.now) c.in-Ok.verdict c.in-Ok.ensures.ok c.args.chosen.limits c.in-Ok-verdict_text.is_valid (string_bytes c.in-Ok-verdict_text.line) c.in-Ok-verdict_text.ensures
    (g.W.Write.contents c.args.out.now) (g.W.Write.contents c.write_text.new.out)
    (subst (Appends (g.W.Write.contents c.args.out.now) (g.W.Write.contents c.write_text.new.out)) same c.in-Ok-write_text.ensures.ok)

pub returns-clause-err : goal.returns-clause-err
returns-clause-err g c =
    let same : c.as_bytes.result.now ≡ string_bytes c.in-Ok-verdict_text.line = search rules in
    large_unwritten g.J.Judge.accepts (settings_of c.args.chosen) (manner_of c.args.chosen) c.requires.alone c.args.name.now c.args.buffer.now.items c.requires.binary
    (g.R.Read.remaining c.args.reader.now) c.in-Ok.verdict c.in-Ok.ensures.ok c.args.chosen.limits c.in-Ok-verdict_text.is_valid (string_bytes c.in-Ok-verdict_text.line) c.in-Ok-verdict_text.ensures
    c.args.index (g.W.Write.contents c.args.out.now) (g.W.Write.contents c.write_text.new.out) c.in-Err-write_text.failure.error
    (c.in-Err-write_text.ensures.err.0, subst (λ (text : List ℕ). WritesFront text (g.W.Write.contents c.args.out.now) (g.W.Write.contents c.write_text.new.out)) same c.in-Err-write_text.ensures.err.1)
