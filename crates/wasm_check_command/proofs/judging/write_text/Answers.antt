use Rattle.std.proofs.Common.{refl, rules}
use Rattle.wasm_check_command.proofs.LineLemmas.{front_kept, more_written, stopped_there}
use Rattle.wasm_check_command.proofs.judging.write_text.Goals as goal

pub returns-in-Ok-eq0-clause-err : goal.returns-in-Ok-eq0-clause-err
returns-in-Ok-eq0-clause-err g c = (
  refl,
  stopped_there c.args.text.now c.loop-turn.written (g.W.Write.contents c.args.out.now) (g.W.Write.contents c.loop-turn.out) (g.W.Write.contents c.write_steadily.new.out)
      c.loop-turn.invariant.appended c.in-Ok-eq0.field-0 c.in-Ok-eq0.ensures.gives,
)

pub returns-in-Err-clause-err : goal.returns-in-Err-clause-err
returns-in-Err-clause-err g c = (
  refl,
  front_kept c.args.text.now c.loop-turn.written (g.W.Write.contents c.args.out.now) (g.W.Write.contents c.loop-turn.out) (g.W.Write.contents c.write_steadily.new.out)
      c.loop-turn.invariant.appended c.in-Err.ensures.gives,
)

pub loop-turn-preserved : goal.loop-turn-preserved
loop-turn-preserved g c = record {
  inside = search rules;
  appended = more_written c.args.text.now c.loop-turn.written (g.W.Write.contents c.args.out.now) (g.W.Write.contents c.loop-turn.out) (g.W.Write.contents c.write_steadily.new.out)
      c.loop-turn.invariant.appended c.in-Ok.count c.in-Ok.ensures.gives;
  turns = search rules;
}
