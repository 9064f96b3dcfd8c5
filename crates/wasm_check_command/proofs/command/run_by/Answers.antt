use Rattle.std.proofs.Common.{map, inl, inr}
use Rattle.wasm_check_command.proofs.FileLemmas.{unshown, asked_for}
use Rattle.wasm_check_command.proofs.command.run_by.Goals as goal

pub returns-in-Ok-clause-valid : goal.returns-in-Ok-clause-valid
returns-in-Ok-clause-valid g c z = inr ((c.run_matches.ensures.ended (map g.S.AsStr.text c.args.words.now) c.in-Ok.ensures.ok).1 z)

pub returns-in-Ok-clause-invalid : goal.returns-in-Ok-clause-invalid
returns-in-Ok-clause-invalid g c z = (c.run_matches.ensures.ended (map g.S.AsStr.text c.args.words.now) c.in-Ok.ensures.ok).2 z

pub returns-in-Ok-clause-stopped : goal.returns-in-Ok-clause-stopped
returns-in-Ok-clause-stopped g c z = (c.run_matches.ensures.ended (map g.S.AsStr.text c.args.words.now) c.in-Ok.ensures.ok).3 z

pub returns-in-Ok-clause-known : goal.returns-in-Ok-clause-known
returns-in-Ok-clause-known g c = (c.run_matches.ensures.ended (map g.S.AsStr.text c.args.words.now) c.in-Ok.ensures.ok).0

pub returns-in-Err-clause-stopped : goal.returns-in-Err-clause-stopped
returns-in-Err-clause-stopped g c z =
    unshown g.J.Judge.accepts (map g.S.AsStr.text c.args.words.now) _ _ c.in-Err.answer c.in-Err.ensures.kinds (c.show.ensures.unshown z)

pub returns-in-Err-clause-valid : goal.returns-in-Err-clause-valid
returns-in-Err-clause-valid g c z =
    let shown = c.show.ensures.help z in
    inl (asked_for (map g.S.AsStr.text c.args.words.now) c.in-Err.answer c.in-Err.ensures.kinds shown.0, shown.1)
