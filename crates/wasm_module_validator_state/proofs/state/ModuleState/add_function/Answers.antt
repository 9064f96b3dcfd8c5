use Rattle.std.proofs.Common.{ap}
use Rattle.wasm_module_validator_state.specs.Items.{Items}
use Rattle.wasm_module_validator_state.proofs.Making.{function_context, function_stays}
use Rattle.wasm_module_validator_state.proofs.state.ModuleState.add_function.Goals as goal

pub returns-clause-context : goal.returns-clause-context
returns-clause-context c =
    function_context c.args.types.now.groups c.args.self.now.spaces c.self.inside.«module» c.add_function.new.self (ap (λ (m : Items). m.spaces) c.self.view_is) c.add_function.result
    c.args.type_index c.add_function.ensures.added

pub returns-clause-read : goal.returns-clause-read
returns-clause-read c =
    function_stays c.args.types.now.groups c.args.self.now.spaces c.self.inside.«module» c.add_function.new.self (ap (λ (m : Items). m.spaces) c.self.view_is) c.add_function.result
    c.args.type_index c.requires c.add_function.ensures.added c.add_function.ensures.stays
