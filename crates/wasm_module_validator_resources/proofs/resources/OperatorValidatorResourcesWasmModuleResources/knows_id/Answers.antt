use Rattle.std.proofs.Common.{arith}
use Rattle.std.proofs.lemmas.Bool.Decides.{nat_tests}
use Rattle.wasm_module_validator_resources.specs.laws.Trees.{types_counted}
use Rattle.wasm_module_validator_resources.proofs.resources.OperatorValidatorResourcesWasmModuleResources.knows_id.Goals as goal

pub returns : goal.returns
returns c =
    let long = types_counted (c.args.self.now.types.now.groups) in
    let counted = c.type_count.ensures.counted in
    let same = c.number.ensures in
    grind (arith, nat_tests)
