-- By the laws of all whole items.
use Rattle.wasm_module_validator_streaming.proofs.OneItem.{waits_carries, waits_pending, refused_denies}
use Rattle.wasm_module_validator_streaming.proofs.reading.take_pending.Goals as goal

pub returns-in-Waits-clause-ok : goal.returns-in-Waits-clause-ok
returns-in-Waits-clause-ok g c =
    let b = g.T.TakesBytes in
    waits_carries b.stands b.shown b.denied b.waits c.as_slice.result.now c.args.bytes.items c.as_slice.ensures.value c.args.taker.now c.take_items.new.taker
    c.in-Waits.passed c.in-Waits.needed c.in-Waits.ensures c.left_behind.result.bytes.items c.left_behind.ensures.left

pub returns-in-Waits-clause-pending : goal.returns-in-Waits-clause-pending
returns-in-Waits-clause-pending g c =
    let b = g.T.TakesBytes in
    waits_pending b.stands b.shown b.denied b.waits c.as_slice.result.now c.args.bytes.items c.as_slice.ensures.value c.args.taker.now c.take_items.new.taker
    c.in-Waits.passed c.in-Waits.needed c.in-Waits.ensures c.requires c.left_behind.result.bytes.items c.left_behind.ensures.left
    c.left_behind.result.needed c.left_behind.ensures.needed

pub returns-in-Refused-clause-err : goal.returns-in-Refused-clause-err
returns-in-Refused-clause-err g c =
    let b = g.T.TakesBytes in
    refused_denies b.stands b.shown b.denied b.waits c.as_slice.result.now c.args.bytes.items c.as_slice.ensures.value c.args.taker.now c.take_items.new.taker c.in-Refused.error
    c.in-Refused.ensures
