use Rattle.wasm_module_validator_streaming.specs.laws.Running.{goes_first, goes_read, goes_last}
use Rattle.wasm_module_validator_streaming.proofs.laws.runs_begin.Goals as goal

pub returns-clause-first : goal.returns-clause-first
returns-clause-first c = goes_first

pub returns-clause-read : goal.returns-clause-read
returns-clause-read c = goes_read

pub returns-clause-last : goal.returns-clause-last
returns-clause-last c = goes_last
