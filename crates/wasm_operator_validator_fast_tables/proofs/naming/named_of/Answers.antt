use Rattle.wasm_operator_validator_fast_tables.proofs.Defining.{absent, named_is}
use Rattle.wasm_operator_validator_fast_tables.proofs.naming.named_of.Goals as goal

pub returns-clause-named : goal.returns-clause-named
returns-clause-named g c = λ lt.
    let m = g.R.WasmModuleResources.meaning c.args.resources.now in
    named_is m c.args.at c.args.ty.now c.defined_of.new.fields.items c.code_of_index-code.result c.defined_of.result c.requires (c.code_of_index-code.ensures lt)
    c.if-ty.false (absent c.args.ty.now.composite_type.descriptor_idx c.is_some.result c.is_some.ensures c.if-is_some.false) (c.defined_of.ensures.is m)
