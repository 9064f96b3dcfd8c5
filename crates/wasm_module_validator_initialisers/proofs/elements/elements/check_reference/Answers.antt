use Rattle.std.proofs.Common.{◌∙◌, sym}
use Rattle.wasm_module_validator_initialisers.proofs.References.{is_reference, reference_is}
use Rattle.wasm_module_validator_initialisers.proofs.elements.elements.check_reference.Goals as goal

pub unreachable-requires : goal.unreachable-requires
unreachable-requires g c =
    is_reference (g.R.WasmModuleResources.meaning c.args.resources.now) c.check_value_type.new.ty c.args.ty c.in-Ok.ensures.named (sym c.as_reference_type.ensures ∙ c.in-None.is)

pub returns-clause-named : goal.returns-clause-named
returns-clause-named g c =
    sym (reference_is (g.R.WasmModuleResources.meaning c.args.resources.now) c.check_value_type.new.ty c.in-Some.reference (sym c.as_reference_type.ensures ∙ c.in-Some.is))
    ∙ c.in-Ok.ensures.named
