use Rattle.std.proofs.Common.{◌∙◌, ap}
use Rattle.wasm_module_validator_type_storage.specs.trees.Groups.{count}
use Rattle.wasm_module_validator_type_list.proofs.Parts.{type_total}
use Rattle.wasm_module_validator_type_list.proofs.list.TypeList.type_count.Goals as goal

pub returns-clause-counted : goal.returns-clause-counted
returns-clause-counted c = c.len.ensures ∙ type_total _ c.self.inside.lists c.self.inside.known c.self.invariant ∙ ap (λ l. count l.groups) c.self.view_is
