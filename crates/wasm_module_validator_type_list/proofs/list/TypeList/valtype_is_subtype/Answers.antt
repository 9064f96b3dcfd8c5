use Rattle.wasm_module_validator_type_list.proofs.References.{reference_below}
use Rattle.wasm_module_validator_type_list.proofs.list.TypeList.valtype_is_subtype.Goals as goal

pub returns-in-Some-as_reference_type : goal.returns-in-Some-as_reference_type
returns-in-Some-as_reference_type c =
    reference_below c.args.self.now.groups c.args.a c.args.b c.in-Some.a_ref c.in-Some-as_reference_type.b_ref c.reftype_is_subtype.result
    c.in-Some.ensures c.in-Some-as_reference_type.ensures c.reftype_is_subtype.ensures
