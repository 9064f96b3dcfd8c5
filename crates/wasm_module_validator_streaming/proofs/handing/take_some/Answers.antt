-- By the laws of one part more.
use Rattle.std.proofs.Common.{rules, arith, false, length, ◌≤◌, ◌<◌, ◌-◌}
use Rattle.wasm_module_validator_streaming.specs.Taking.{DeniesFrom}
use Rattle.wasm_module_validator_streaming.specs.Handing.{DeniesBehind, LongBehind, LongFrom}
use Rattle.wasm_module_validator_streaming.proofs.Handed.{all_denies, all_long, all_midst, nothing_held, part_denies, part_long, part_midst, says_so}
use Rattle.wasm_module_validator_streaming.proofs.Waiting.{are_bytes}
use Rattle.wasm_module_validator_streaming.proofs.handing.take_some.Goals as goal

pub take_at_hand-requires-clause-midst : goal.take_at_hand-requires-clause-midst
take_at_hand-requires-clause-midst g c =
    all_midst g.T.TakesBytes.stands g.met.T.TakesBytes.more c.args.pending.now.bytes.items c.args.taker.now c.args.bytes.now
    (nothing_held c.args.pending.now.bytes.items c.as_slice-held.result.now c.as_slice-held.ensures.value c.if-held-eq0.true) c.requires.room

pub take_at_hand-requires-clause-empty : goal.take_at_hand-requires-clause-empty
take_at_hand-requires-clause-empty g c = nothing_held c.args.pending.now.bytes.items c.as_slice-held.result.now c.as_slice-held.ensures.value c.if-held-eq0.true

pub returns-in-Err-clause-err : goal.returns-in-Err-clause-err
returns-in-Err-clause-err g c =
    let b = g.T.TakesBytes in
    let none = nothing_held c.args.pending.now.bytes.items c.as_slice-held.result.now c.as_slice-held.ensures.value c.if-held-eq0.true in
    says_so (DeniesFrom b.stands b.denied false c.args.bytes.now c.args.taker.now) (DeniesBehind b.stands b.denied c.args.pending.now.bytes.items c.args.taker.now c.args.bytes.now)
    (LongFrom b.stands b.waits c.args.most c.args.bytes.now c.args.taker.now) (LongBehind b.stands b.waits c.args.most c.args.pending.now.bytes.items c.args.taker.now c.args.bytes.now)
    (λ e h. all_denies b.stands g.met.T.TakesBytes.more c.args.pending.now.bytes.items c.args.taker.now b.denied c.args.bytes.now e none h)
    (λ h. all_long b.stands g.met.T.TakesBytes.more c.args.pending.now.bytes.items c.args.taker.now b.waits c.args.most c.args.bytes.now none h) c.in-Err.error c.in-Err.ensures.err

pub take_piece-requires-clause-midst : goal.take_piece-requires-clause-midst
take_piece-requires-clause-midst g c =
    part_midst g.T.TakesBytes.stands g.met.T.TakesBytes.more c.args.pending.now.bytes.items c.args.taker.now c.args.bytes.now c.min-count.result (search rules) c.requires.room

pub returns-in-Err-take_piece-clause-err : goal.returns-in-Err-take_piece-clause-err
returns-in-Err-take_piece-clause-err g c =
    part_denies g.T.TakesBytes.stands g.met.T.TakesBytes.more c.args.pending.now.bytes.items c.args.taker.now g.T.TakesBytes.denied c.args.bytes.now c.min-count.result c.in-Err-take_piece.error
    c.in-Err-take_piece.ensures.err

pub returns-then-count-most-clause-err : goal.returns-then-count-most-clause-err
returns-then-count-most-clause-err g c =
    let held : length c.args.pending.now.bytes.items ≤ c.args.most = search rules in
    let some : 0 < length c.args.pending.now.bytes.items = search rules in
    let less : length c.args.pending.now.bytes.items < c.args.pending.now.needed = search rules in
    let few : c.min-count.result ≤ length c.args.bytes.now = search rules in
    let wanted : c.min-count.result ≤ c.args.pending.now.needed - length c.args.pending.now.bytes.items = search rules in
    let full : c.args.most - length c.args.pending.now.bytes.items < c.min-count.result = search rules in
    part_long g.T.TakesBytes.stands g.met.T.TakesBytes.more c.args.pending.now.bytes.items c.args.taker.now g.T.TakesBytes.waits c.args.pending.now.needed c.args.most c.min-count.result c.args.bytes.now
    c.requires.pending (are_bytes c.args.bytes.now (λ i. omega (arith, c.type_inv.bytes i))) some held less few wanted full
