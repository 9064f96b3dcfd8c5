use Rattle.std.proofs.Common.{arith}
use Rattle.std.proofs.lemmas.Grind.{common_steps}
use Rattle.std.proofs.Common.{rules}
use Rattle.wasm_module_validator_type_list.proofs.list.TypeList.intern_canonical_rec_group.Goals as goal

pub add-requires-clause-added : goal.add-requires-clause-added
add-requires-clause-added c = search rules

pub returns-in_err-add-clause-memory : goal.returns-in_err-add-clause-memory
returns-in_err-add-clause-memory c = search rules

pub returns-clause-interned : goal.returns-clause-interned
returns-clause-interned c = search rules

pub returns-in-Some-clause-interned : goal.returns-in-Some-clause-interned
returns-in-Some-clause-interned c = search rules

pub returns-in-Some-clause-answer : goal.returns-in-Some-clause-answer
returns-in-Some-clause-answer c = grind (arith, common_steps)

pub returns-in-Some-clause-depths : goal.returns-in-Some-clause-depths
returns-in-Some-clause-depths c = search rules
