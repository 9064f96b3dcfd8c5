-- By the laws of walks.
use Rattle.wasm_sections.specs.WalkLaws.{walk_calls, walk_ends, walk_accepted}
use Rattle.wasm_sections.proofs.payloads_laws.payloads_are_of_modules.Goals as goal

pub returns-clause-calls : goal.returns-clause-calls
returns-clause-calls c = walk_calls

pub returns-clause-ends : goal.returns-clause-ends
returns-clause-ends c = walk_ends

pub returns-clause-accepted : goal.returns-clause-accepted
returns-clause-accepted c = walk_accepted
