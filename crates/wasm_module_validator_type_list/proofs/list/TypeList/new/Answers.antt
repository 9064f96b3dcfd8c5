use Rattle.std.proofs.Common.{ap, length}
use Rattle.wasm_module_validator_type_list.proofs.Parts.{nothing_known}
use Rattle.wasm_module_validator_type_list.proofs.Holding.{no_types, no_groups}
use Rattle.wasm_module_validator_type_list.proofs.list.TypeList.new.Goals as goal

pub invariant_of-result : goal.invariant_of-result
invariant_of-result c =
    no_types c.new.result _ c.new.ensures.forms c.new.ensures.types c.new.ensures.homes c.new.ensures.supertypes c.new.ensures.elements
    (nothing_known c.new.result.types.items c.new-2.result c.new-2.ensures.alone c.new-2.ensures.numbers)
    (ap length c.new.ensures.depths) c.new.ensures.uniform

pub returns-clause-groups : goal.returns-clause-groups
returns-clause-groups c = no_groups c.new.result c.new.ensures.forms
