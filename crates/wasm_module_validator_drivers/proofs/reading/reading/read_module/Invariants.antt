use Rattle.wasm_sections_parser.specs.runs.calls.Runs.{fresh}
use Rattle.wasm_module_validator_drivers.specs.reading.laws.Walking.{Goes}
use Rattle.wasm_module_validator_payloads.specs.Progress.{Grows}
use Rattle.wasm_module_validator_drivers.proofs.reading.reading.read_module.Given as goal

abbrev pub invariant-loop-payload : goal.invariant-loop-payload
invariant-loop-payload l = Goes (record { offset = 0; settings = l.fn.settings; progress = fresh }) l.fn.bytes l.payload-iterator l.progress l.bodies.items × Grows l.fn.progress.kept l.progress.kept
