use Rattle.wasm_operator_validator_memory.proofs.Atomic.{fenced, unfenced}
use Rattle.wasm_operator_validator_memory.proofs.atomics.waiting.check_atomic_fence.Goals as goal

pub returns-clause-checks : goal.returns-clause-checks
returns-clause-checks g c = fenced c.begin.result (g.R.WasmModuleResources.meaning c.args.resources.now) c.args.validator.now c.begin.ensures.begins c.begin.ensures.stops

pub returns-clause-memory : goal.returns-clause-memory
returns-clause-memory g c = unfenced c.begin.result c.args.validator.now c.begin.ensures.stops
