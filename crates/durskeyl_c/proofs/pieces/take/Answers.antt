-- What the module says of the bytes that came.
use Rattle.std.proofs.Common.{◌++◌, ◌∙◌, sym}
use Rattle.durskeyl_c.specs.Settings.{settings_in}
use Rattle.durskeyl_c.proofs.HandedPieces.{not_bad, tells_going, tells_refused}
use Rattle.durskeyl_c.proofs.pieces.take.Goals as goal

pub returns-in-Ok-clause-came : goal.returns-in-Ok-clause-came
returns-in-Ok-clause-came c s got h = (h.0, (h.1.0, c.take.ensures.came (settings_in s) h.1.0 got h.1.1))

pub returns-in-Err-clause-came : goal.returns-in-Err-clause-came
returns-in-Err-clause-came c s got h = (h.0, (h.1.0, c.take.ensures.came (settings_in s) h.1.0 got h.1.1))

pub returns-in-Ok-clause-told : goal.returns-in-Ok-clause-told
returns-in-Ok-clause-told c s got h = tells_going s c.args.it.now.most (got ++ c.args.bytes.now) (c.in-Ok.ensures.ok (settings_in s) h.1.0 got h.1.1)

pub returns-in-Err-clause-told : goal.returns-in-Err-clause-told
returns-in-Err-clause-told c s got h =
    tells_refused s c.args.it.now.most (got ++ c.args.bytes.now) c.write_piece_error.result c.in-Err.error c.write_piece_error.ensures.number (c.in-Err.ensures.err (settings_in s) h.1.0 got h.1.1)

pub returns-in-Err-clause-begun : goal.returns-in-Err-clause-begun
returns-in-Err-clause-begun c six = not_bad c.in-Err.error (sym c.write_piece_error.ensures.number ∙ six)
