use Rattle.std.proofs.Common.{arith}
use Rattle.std.specs.Io.KnownBytes.{prepend_known}
use Rattle.wasm_check_command.proofs.LineLemmas.{reads_within}
use Rattle.wasm_check_command.proofs.judging.read_behind.Goals as goal

pub returns-in-Err-clause-err : goal.returns-in-Err-clause-err
returns-in-Err-clause-err g c = c.in-Err.ensures.err (prepend_known c.args.buffer.now.items (g.R.Read.remaining c.args.reader.now))

pub returns-then-count-left-clause-most : goal.returns-then-count-left-clause-most
returns-then-count-left-clause-most g c =
    reads_within (prepend_known c.args.buffer.now.items (g.R.Read.remaining c.args.reader.now)) (g.R.Read.remaining c.loop-turn.reader) (g.R.Read.remaining c.read_over.new.reader) c.loop-turn.buffer.items
    c.read_over.new.chunk.items c.in-Ok.count c.loop-turn.invariant.gave c.in-Ok.ensures.gives
    (omega (arith, c.loop-turn.invariant.within, c.len-left.ensures, c.in-Ok.ensures.within.0))

pub returns-then-is_err-clause-most : goal.returns-then-is_err-clause-most
returns-then-is_err-clause-most g c =
    reads_within (prepend_known c.args.buffer.now.items (g.R.Read.remaining c.args.reader.now)) (g.R.Read.remaining c.loop-turn.reader) (g.R.Read.remaining c.read_over.new.reader) c.loop-turn.buffer.items
    c.read_over.new.chunk.items c.in-Ok.count c.loop-turn.invariant.gave c.in-Ok.ensures.gives
    (omega (arith, c.loop-turn.invariant.within, c.len-left.ensures, c.in-Ok.ensures.within.0))
