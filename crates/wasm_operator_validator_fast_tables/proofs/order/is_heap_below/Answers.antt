use Rattle.std.proofs.Common.{get_or}
use Rattle.std.proofs.lemmas.Option.{slice_get-get_or}
use Rattle.wasm_operator_validator_fast_tables.proofs.Reaching.{heaps_same, bottom_below}
use Rattle.wasm_operator_validator_fast_tables.proofs.order.is_heap_below.Goals as goal

pub returns-then-heap-other : goal.returns-then-heap-other
returns-then-heap-other c e ids all = heaps_same ids c.args.heap c.args.other c.if-heap-other.true

pub returns-then-steps-over : goal.returns-then-steps-over
returns-then-steps-over c e ids all =
    bottom_below ids c.args.steps.now all c.args.heap c.args.other (get_or c.args.steps.now c.args.other (record { above = 0; bottom = 0; far = 0; depth = 0 }))
    (slice_get-get_or c.args.steps.now c.args.other (record { above = 0; bottom = 0; far = 0; depth = 0 }) c.if-over-steps.true) c.if-steps-over.true
