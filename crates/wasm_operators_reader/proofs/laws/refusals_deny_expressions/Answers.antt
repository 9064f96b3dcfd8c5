use Rattle.wasm_operators_reader.specs.RunLaws.{refused_run, ended_run}
use Rattle.wasm_operators_reader.proofs.laws.refusals_deny_expressions.Goals as goal

pub returns-clause-refused : goal.returns-clause-refused
returns-clause-refused c = λ s os t run unfinished e refused memory code spelled. refused_run s os t run unfinished code spelled e refused memory

pub returns-clause-ended : goal.returns-clause-ended
returns-clause-ended c = λ s os t run none more code spelled. ended_run s os t run (λ f. more f.frames) code spelled none
