-- By the laws of one piece more.
use Rattle.std.proofs.Common.{◌≤◌, ◌++◌, Some, rules, ap, subst, arith, length, take}
use Rattle.wasm_types.specs.decoding.ErrorValue.{ErrorValue}
use Rattle.wasm_module_validator_streaming.specs.Pieces.{takes_most}
use Rattle.wasm_module_validator_streaming.specs.Reads.{Gives}
use Rattle.wasm_module_validator_streaming.proofs.OnePiece.{concluded, all_within, stops_behind, stops_failed, stops_full, kept_has_room, piece_refused, too_long, has_come}
use Rattle.wasm_module_validator_streaming.proofs.reading.take_chunks.Goals as goal

pub take_handed-requires-clause-room : goal.take_handed-requires-clause-room
take_handed-requires-clause-room g c =
    kept_has_room g.T.TakesBytes.stands c.args.taker.now c.loop-turn.taker c.args.max_bytes c.loop-turn.room c.requires.most
    (g.R.Read.remaining c.args.reader.now.reader) (g.R.Read.remaining c.loop-turn.reader.reader) (g.R.Read.remaining c.read_once.new.self.reader) c.loop-turn.pending.bytes.items c.loop-turn.invariant.come
    c.in-Some.count c.within-kept.result c.read_once.new.chunk c.in-Some.ensures.gives c.within-kept.ensures

pub returns-in-Err-Refused-clause-answer : goal.returns-in-Err-Refused-clause-answer
returns-in-Err-Refused-clause-answer g c =
    rw c.in-Err-Refused.error-is
    (piece_refused g.T.TakesBytes.stands c.args.taker.now c.loop-turn.taker c.args.max_bytes c.loop-turn.room c.requires.most
    (g.R.Read.remaining c.args.reader.now.reader) (g.R.Read.remaining c.loop-turn.reader.reader) (g.R.Read.remaining c.read_once.new.self.reader) c.loop-turn.pending.bytes.items c.loop-turn.invariant.come
    c.in-Some.count c.within-kept.result c.read_once.new.chunk c.in-Some.ensures.gives c.within-kept.ensures g.T.TakesBytes.denied c.in-Err-Refused.error (rw c.in-Err-Refused.field-0-is at c.in-Err-Refused.ensures.err))

pub returns-in-Err-TooLong-clause-answer : goal.returns-in-Err-TooLong-clause-answer
returns-in-Err-TooLong-clause-answer g c =
    piece_refused g.T.TakesBytes.stands c.args.taker.now c.loop-turn.taker c.args.max_bytes c.loop-turn.room c.requires.most
    (g.R.Read.remaining c.args.reader.now.reader) (g.R.Read.remaining c.loop-turn.reader.reader) (g.R.Read.remaining c.read_once.new.self.reader) c.loop-turn.pending.bytes.items c.loop-turn.invariant.come
    c.in-Some.count c.within-kept.result c.read_once.new.chunk c.in-Some.ensures.gives c.within-kept.ensures g.T.TakesBytes.denied c.out_of_memory.result
    (λ first got s room more last room'. g.met.T.TakesBytes.memory first ((got ++ take c.within-kept.result c.read_once.new.chunk) ++ more) c.out_of_memory.result (ap (λ (e : ErrorValue). e.kind) c.out_of_memory.ensures))

pub returns-then-kept-count-clause-answer : goal.returns-then-kept-count-clause-answer
returns-then-kept-count-clause-answer g c =
    too_long g.T.TakesBytes.stands c.args.taker.now c.loop-turn.taker c.args.max_bytes c.loop-turn.room c.requires.most
    (g.R.Read.remaining c.args.reader.now.reader) (g.R.Read.remaining c.loop-turn.reader.reader) (g.R.Read.remaining c.read_once.new.self.reader) c.loop-turn.pending.bytes.items c.loop-turn.invariant.come
    c.in-Some.count c.within-kept.result c.read_once.new.chunk c.in-Some.ensures.gives c.within-kept.ensures c.if-kept-count.true

pub returns-in_default-clause-stops : goal.returns-in_default-clause-stops
returns-in_default-clause-stops g c =
    stops_failed g.T.TakesBytes.stands g.T.TakesBytes.waits c.args.taker.now c.loop-turn.taker c.args.max_bytes c.loop-turn.room (length c.args.chunk.now)
    (g.R.Read.remaining c.args.reader.now.reader) (g.R.Read.remaining c.loop-turn.reader.reader) (g.R.Read.remaining c.read_once.new.self.reader) c.loop-turn.pending.bytes.items c.loop-turn.invariant.come
    c.loop-turn.invariant.pending.here c.in_default.ensures.gives

pub returns-in-Err-Refused-clause-stops : goal.returns-in-Err-Refused-clause-stops
returns-in-Err-Refused-clause-stops g c =
    stops_behind g.T.TakesBytes.stands g.T.TakesBytes.waits c.args.taker.now c.loop-turn.taker c.args.max_bytes c.loop-turn.room (length c.args.chunk.now)
    (g.R.Read.remaining c.args.reader.now.reader) (g.R.Read.remaining c.loop-turn.reader.reader) (g.R.Read.remaining c.read_once.new.self.reader) c.loop-turn.pending.bytes.items c.loop-turn.invariant.come
    c.loop-turn.invariant.pending.here (take c.in-Some.count c.read_once.new.chunk) c.in-Some.ensures.gives.1
    (search rules) (λ n. n ≤ c.args.max_bytes) (λ n few. few)

pub returns-in-Err-TooLong-clause-stops : goal.returns-in-Err-TooLong-clause-stops
returns-in-Err-TooLong-clause-stops g c =
    stops_behind g.T.TakesBytes.stands g.T.TakesBytes.waits c.args.taker.now c.loop-turn.taker c.args.max_bytes c.loop-turn.room (length c.args.chunk.now)
    (g.R.Read.remaining c.args.reader.now.reader) (g.R.Read.remaining c.loop-turn.reader.reader) (g.R.Read.remaining c.read_once.new.self.reader) c.loop-turn.pending.bytes.items c.loop-turn.invariant.come
    c.loop-turn.invariant.pending.here (take c.in-Some.count c.read_once.new.chunk) c.in-Some.ensures.gives.1
    (search rules) (λ n. n ≤ c.args.max_bytes) (λ n few. few)

pub returns-then-kept-count-clause-stops : goal.returns-then-kept-count-clause-stops
returns-then-kept-count-clause-stops g c =
    stops_full g.T.TakesBytes.stands c.args.taker.now c.loop-turn.taker c.args.max_bytes c.loop-turn.room c.requires.most
    (g.R.Read.remaining c.args.reader.now.reader) (g.R.Read.remaining c.loop-turn.reader.reader) (g.R.Read.remaining c.read_once.new.self.reader) c.loop-turn.pending.bytes.items c.loop-turn.invariant.come
    c.in-Some.count c.within-kept.result c.read_once.new.chunk c.in-Some.ensures.gives c.within-kept.ensures g.T.TakesBytes.waits (length c.args.chunk.now) (search rules) c.if-kept-count.true
    c.take_handed.new.pending.bytes.items c.take_handed.new.taker c.in-Ok.ensures.ok c.in-Ok.ensures.pending.here

pub returns-then-count-eq0-clause-answer : goal.returns-then-count-eq0-clause-answer
returns-then-count-eq0-clause-answer g c =
    let b = g.T.TakesBytes in
    let before = g.R.Read.remaining c.loop-turn.reader.reader in
    let after = g.R.Read.remaining c.read_once.new.self.reader in
    let gives : Gives before after (Some 0) c.read_once.new.chunk = subst (λ n. Gives before after (Some n) c.read_once.new.chunk) c.if-count-eq0.true c.in-Some.ensures.gives in
    concluded b.stands b.shown b.denied g.met.T.TakesBytes.last c.args.taker.now c.loop-turn.taker c.args.max_bytes c.loop-turn.room c.requires.most
    (g.R.Read.remaining c.args.reader.now.reader) before after c.loop-turn.pending.bytes.items c.as_slice.result.now c.as_slice.ensures.value c.loop-turn.invariant.come
    c.read_once.new.chunk gives (search rules) c.take_last.result c.take_last.ensures

pub returns-then-count-eq0-clause-stops : goal.returns-then-count-eq0-clause-stops
returns-then-count-eq0-clause-stops g c =
    let b = g.T.TakesBytes in
    let before = g.R.Read.remaining c.loop-turn.reader.reader in
    let after = g.R.Read.remaining c.read_once.new.self.reader in
    let gives : Gives before after (Some 0) c.read_once.new.chunk = subst (λ n. Gives before after (Some n) c.read_once.new.chunk) c.if-count-eq0.true c.in-Some.ensures.gives in
    stops_behind g.T.TakesBytes.stands g.T.TakesBytes.waits c.args.taker.now c.loop-turn.taker c.args.max_bytes c.loop-turn.room (length c.args.chunk.now)
    (g.R.Read.remaining c.args.reader.now.reader) (g.R.Read.remaining c.loop-turn.reader.reader) (g.R.Read.remaining c.read_once.new.self.reader) c.loop-turn.pending.bytes.items c.loop-turn.invariant.come
    c.loop-turn.invariant.pending.here (take 0 c.read_once.new.chunk) gives.1 (search rules)
    (takes_most c.args.max_bytes c.take_last.result)
    (all_within b.stands b.shown b.denied g.met.T.TakesBytes.last c.args.taker.now c.loop-turn.taker c.args.max_bytes c.loop-turn.room c.requires.most
    (g.R.Read.remaining c.args.reader.now.reader) before after c.loop-turn.pending.bytes.items c.as_slice.result.now c.as_slice.ensures.value c.loop-turn.invariant.come
    c.read_once.new.chunk gives (search rules) c.take_last.result c.take_last.ensures)

pub loop-turn-preserved : goal.loop-turn-preserved
loop-turn-preserved g c = record {
  not_failed = search rules;
  turns = let none = c.if-count-eq0.false in let kept = c.within-kept.ensures in let all = c.if-kept-count.false in let turns = c.loop-turn.invariant.turns in omega arith;
  reads = search rules;
  counted = search rules;
  come = has_come g.T.TakesBytes.stands c.args.taker.now c.loop-turn.taker c.args.max_bytes c.loop-turn.room c.requires.most
      (g.R.Read.remaining c.args.reader.now.reader) (g.R.Read.remaining c.loop-turn.reader.reader) (g.R.Read.remaining c.read_once.new.self.reader) c.loop-turn.pending.bytes.items c.loop-turn.invariant.come
      c.in-Some.count c.within-kept.result c.read_once.new.chunk c.in-Some.ensures.gives c.within-kept.ensures c.if-kept-count.false c.take_handed.new.pending.bytes.items c.take_handed.new.taker
      c.in-Ok.ensures.ok;
  pending = c.in-Ok.ensures.pending;
}
