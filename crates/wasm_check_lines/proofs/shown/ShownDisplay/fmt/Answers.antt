use Rattle.std.proofs.Common.{refl}
use Rattle.std.proofs.lemmas.Str.{IsUtf8-past_char}
use Rattle.wasm_check_lines.proofs.ShownLemmas.{written_more, written_all}
use Rattle.wasm_check_lines.proofs.shown.ShownDisplay.fmt.Goals as goal

pub loop-c-preserved : goal.loop-c-preserved
loop-c-preserved g c =
    let held = c.loop-c.invariant in
    let parts = c.in-Some.ensures.steps.0 in (
      IsUtf8-past_char _ _ c.in-Some.c held.0 parts,
      λ plain. let so_far = held.1 plain in
          written_more g.W.Write.write_str_gives c.args.f.now c.loop-c.f _ _ c.write_shown.new.f _ c.in-Some.c held.0 parts so_far
          (c.in_ok-write_shown.ensures so_far.1.plain refl),
    )

pub returns-clause-writes : goal.returns-clause-writes
returns-clause-writes g c = λ plain ok. written_all g.W.Write.write_str_gives c.args.f.now c.loop-c.f _ _ c.in-None.ensures.steps.0.0 (c.loop-c.invariant.1 plain)
