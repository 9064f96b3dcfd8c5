use Rattle.std.proofs.Common.{refl, get_or, subst, ℕ}
use Rattle.std.proofs.lemmas.Option.{slice_get-get_or}
use Rattle.wasm_types.specs.trees.Below.{HeapBelow}
use Rattle.wasm_operator_validator_fast_tables.specs.Values.{heap_of}
use Rattle.wasm_operator_validator_fast_tables.proofs.Reaching.{heaps_same, next_above}
use Rattle.wasm_operator_validator_fast_tables.proofs.order.is_reached.Goals as goal

pub loop-init : goal.loop-init
loop-init c ids all = heaps_same ids c.args.heap c.args.heap refl

pub loop-preserved : goal.loop-preserved
loop-preserved c ids all =
    next_above ids c.args.steps.now all c.args.heap c.loop.at c.next_up-next.result (get_or c.args.steps.now c.loop.at (record { above = 0; bottom = 0; far = 0; depth = 0 })) (c.loop.invariant ids all)
    (slice_get-get_or c.args.steps.now c.loop.at (record { above = 0; bottom = 0; far = 0; depth = 0 }) c.if-place-steps.false) (c.next_up-next.ensures ids)

pub returns-then-next-other : goal.returns-then-next-other
returns-then-next-other c e ids all =
    subst (λ (k : ℕ). HeapBelow (heap_of ids c.args.heap) (heap_of ids k)) c.if-next-other.true
    (next_above ids c.args.steps.now all c.args.heap c.loop.at c.next_up-next.result (get_or c.args.steps.now c.loop.at (record { above = 0; bottom = 0; far = 0; depth = 0 })) (c.loop.invariant ids all)
    (slice_get-get_or c.args.steps.now c.loop.at (record { above = 0; bottom = 0; far = 0; depth = 0 }) c.if-place-steps.false) (c.next_up-next.ensures ids))
