use Rattle.std.proofs.Common.{refl}
use Rattle.wasm_module_validator_initialisers.specs.adding.Read.{data_tree}
use Rattle.wasm_module_validator_initialisers.proofs.Moved.{always}
use Rattle.wasm_module_validator_initialisers.proofs.NewData.{data_told, data_added}
use Rattle.wasm_module_validator_initialisers.proofs.adding.data.check_data_with.Goals as goal

pub returns-clause-answer : goal.returns-clause-answer
returns-clause-answer c = data_told c.args.types.now.groups c.args.state.now (data_tree c.args.segment.now) c.judge_data.result c.judge_data.ensures.answer

pub returns-clause-added : goal.returns-clause-added
returns-clause-added c =
    always c.judge_data.result _ (data_added c.args.types.now.groups c.args.state.now (data_tree c.args.segment.now) c.args.state.now refl)

pub returns-clause-refused : goal.returns-clause-refused
returns-clause-refused c = c.judge_data.ensures.refused
