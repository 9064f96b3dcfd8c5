-- What the module says of its bytes.
use Rattle.std.proofs.Common.{◌∙◌, sym}
use Rattle.durskeyl_c.specs.Settings.{settings_in}
use Rattle.durskeyl_c.proofs.HandedPieces.{not_bad, told_accepted, told_ended, told_long}
use Rattle.durskeyl_c.proofs.pieces.end.Goals as goal

pub returns-in-Ok-clause-told : goal.returns-in-Ok-clause-told
returns-in-Ok-clause-told c s got h room other = told_accepted s got h.0 (c.in-Ok.ensures.told (settings_in s) h.1.0 got h.1.1 room).0

pub returns-in-Err-clause-told : goal.returns-in-Err-clause-told
returns-in-Err-clause-told c s got h room other =
    told_ended s got h.1.0 c.args.it.most c.write_piece_error.result c.in-Err.error c.write_piece_error.ensures.number h.0 (c.in-Err.ensures.told (settings_in s) h.1.0 got h.1.1 room) other

pub returns-in-Err-clause-too_long : goal.returns-in-Err-clause-too_long
returns-in-Err-clause-too_long c s got h room seven =
    told_long s got h.1.0 c.args.it.most c.write_piece_error.result c.in-Err.error c.write_piece_error.ensures.number (c.in-Err.ensures.told (settings_in s) h.1.0 got h.1.1 room) seven

pub returns-in-Err-clause-begun : goal.returns-in-Err-clause-begun
returns-in-Err-clause-begun c six = not_bad c.in-Err.error (sym c.write_piece_error.ensures.number ∙ six)
