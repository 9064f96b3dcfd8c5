use Rattle.std.proofs.Common.{arith}
use Rattle.std.proofs.lemmas.Grind.{common_steps}
use Rattle.wasm_operator_validator_locals.proofs.tape.Tape.replace_last.Goals as goal

pub returns-then-self-2-clause-saved : goal.returns-then-self-2-clause-saved
returns-then-self-2-clause-saved c = grind (arith, common_steps)
