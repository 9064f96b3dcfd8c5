use Rattle.wasm_module_validator_index_spaces.proofs.module.Module.add_types.Goals as goal

pub returns-clause-answer : goal.returns-clause-answer
returns-clause-answer c = rw (← c.self.view_is) c.add_types.ensures.answer

pub returns-clause-space : goal.returns-clause-space
returns-clause-space c = rw (← c.self.view_is) c.add_types.ensures.space
