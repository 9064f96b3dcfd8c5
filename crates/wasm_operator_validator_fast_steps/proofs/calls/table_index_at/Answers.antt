use Rattle.wasm_types.specs.settings.Features.{has, CallIndirectOverlong}
use Rattle.wasm_operator_validator_fast_steps.proofs.Indexed.{long_index}
use Rattle.wasm_operator_validator_fast_steps.proofs.calls.table_index_at.Goals as goal

pub returns-in-Some : goal.returns-in-Some
returns-in-Some c = c.in-Some.ensures.1 (has CallIndirectOverlong c.args.features.0)

pub returns : goal.returns
returns c =
    long_index (has CallIndirectOverlong c.args.features.0) c.call_indirect_overlong.result c.args.bytes.now c.args.at c.in-Some-index_at.table
    c.in-Some-index_at.end c.call_indirect_overlong.ensures c.if-not-call_indirect_overlong.false c.in-Some-index_at.ensures
