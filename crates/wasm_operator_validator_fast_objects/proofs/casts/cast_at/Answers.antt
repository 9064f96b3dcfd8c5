use Rattle.std.proofs.Common.{arith}
use Rattle.wasm_operator_validator_fast_objects.proofs.Branching.{branch_there}
use Rattle.wasm_operator_validator_fast_objects.proofs.casts.cast_at.Goals as goal

pub returns : goal.returns
returns c =
    let small = c.if-flags-gt3.false in
    branch_there c.args.tables.now c.args.bytes.now c.args.at c.in-Some.second c.in-Some-heap_at.third _ c.in-Some-heap_at.held c.in-Some-heap_at.top c.in-Some-heap_at-2.sought c.in-Some-heap_at-2.other
    c.if-at-bytes.false (omega (arith, small)) c.in-Some.ensures c.in-Some-heap_at.ensures c.in-Some-heap_at-2.ensures c.in-Some-with_null.ensures c.in-Some-with_null-2.ensures c.in-Some-with_null_left.ensures
