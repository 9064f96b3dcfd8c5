use Rattle.std.proofs.Common.{◌∙◌, ap, length}
use Rattle.wasm_module_validator_type_list.proofs.Parts.{element_total}
use Rattle.wasm_module_validator_type_list.proofs.list.TypeList.group_count.Goals as goal

pub returns : goal.returns
returns c = c.len.ensures ∙ element_total _ c.self.inside.lists c.self.inside.known c.self.invariant ∙ ap (λ l. length l.groups) c.self.view_is
