use Rattle.wasm_types.specs.settings.Features.{has, MultiMemory}
use Rattle.wasm_operator_validator_fast_steps.proofs.Indexed.{long_index}
use Rattle.wasm_operator_validator_fast_steps.proofs.indices.memory_index_at.Goals as goal

pub returns-in-Some : goal.returns-in-Some
returns-in-Some c = c.in-Some.ensures.1 (has MultiMemory c.args.features.0)

pub returns : goal.returns
returns c =
    long_index (has MultiMemory c.args.features.0) c.multi_memory.result c.args.bytes.now c.args.at c.in-Some-index_at.memory
    c.in-Some-index_at.end c.multi_memory.ensures c.if-not-multi_memory.false c.in-Some-index_at.ensures
