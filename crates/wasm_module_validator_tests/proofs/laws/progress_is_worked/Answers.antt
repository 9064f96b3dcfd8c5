use Rattle.wasm_module_validator_tests.specs.ProgressLaws.{kept_rows, stands_for, bodies_stand, bodies_judged, reached_rows, reached_stands, next_told, bodies_told}
use Rattle.wasm_module_validator_tests.proofs.laws.progress_is_worked.Goals as goal

pub returns-clause-kept : goal.returns-clause-kept
returns-clause-kept c = kept_rows

pub returns-clause-stands : goal.returns-clause-stands
returns-clause-stands c = stands_for

pub returns-clause-bodies : goal.returns-clause-bodies
returns-clause-bodies c = bodies_stand

pub returns-clause-judged : goal.returns-clause-judged
returns-clause-judged c = bodies_judged

pub returns-clause-reached : goal.returns-clause-reached
returns-clause-reached c = reached_rows

pub returns-clause-shared : goal.returns-clause-shared
returns-clause-shared c = reached_stands

pub returns-clause-next : goal.returns-clause-next
returns-clause-next c = next_told

pub returns-clause-handed : goal.returns-clause-handed
returns-clause-handed c = bodies_told
