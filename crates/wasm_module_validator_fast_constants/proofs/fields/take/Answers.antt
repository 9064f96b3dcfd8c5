use Rattle.wasm_operator_validator_state.specs.resources.Meaning.{type_in}
use Rattle.wasm_module_validator_fast_constants.proofs.Making.{one_taken}
use Rattle.wasm_module_validator_fast_constants.proofs.fields.take.Goals as goal

pub returns-in-Some : goal.returns-in-Some
returns-in-Some g c h =
    let m = g.R.WasmModuleResources.meaning c.args.resources.now in
    one_taken m c.args.stack.now.items c.pop.new.self.items c.in-Some.top (type_in m c.args.ty) c.in-Some.ensures.items (c.is_subtype.ensures.0 h)
