use Rattle.wasm_module_validator_declarations.proofs.Telling.{start_told}
use Rattle.wasm_module_validator_declarations.proofs.Leaving.{always, start_left}
use Rattle.wasm_module_validator_declarations.proofs.numbers.take_start.Goals as goal

pub returns-clause-answer : goal.returns-clause-answer
returns-clause-answer c = start_told c.args.types.now.groups c.args.state.now c.check_start.result c.args.func c.check_start.ensures.answer

pub returns-clause-added : goal.returns-clause-added
returns-clause-added c = always c.check_start.result _ (start_left c.args.types.now.groups c.args.state.now c.args.func)
