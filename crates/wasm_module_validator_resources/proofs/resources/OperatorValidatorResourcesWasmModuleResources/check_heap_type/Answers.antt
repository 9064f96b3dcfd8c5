use Rattle.wasm_module_validator_resources.proofs.Naming.{named_concrete, named_exact}
use Rattle.wasm_module_validator_resources.proofs.resources.OperatorValidatorResourcesWasmModuleResources.check_heap_type.Goals as goal

pub returns-in_ok-id-in-Concrete-clause-named : goal.returns-in_ok-id-in-Concrete-clause-named
returns-in_ok-id-in-Concrete-clause-named c =
    named_concrete c.args.self.now.types.now.groups c.args.self.now.«module».now c.args.ty.now c.in-Concrete.index c.in_ok-id-in-Concrete.id c.in-Concrete.is
    c.in_ok-id-in-Concrete.ensures.id

pub returns-in_ok-id-in-Exact-clause-named : goal.returns-in_ok-id-in-Exact-clause-named
returns-in_ok-id-in-Exact-clause-named c =
    named_exact c.args.self.now.types.now.groups c.args.self.now.«module».now c.args.ty.now c.in-Exact.index c.in_ok-id-in-Exact.id c.in-Exact.is
    c.in_ok-id-in-Exact.ensures.id
