use Rattle.std.proofs.Common.{rules}
use Rattle.wasm_operator_validator_resources.proofs.resources.WasmModuleResources.check_ref_type.Goals as goal

pub returns-clause-named : goal.returns-clause-named
returns-clause-named c = search rules

pub returns-in_err-check_heap_type-clause-refused : goal.returns-in_err-check_heap_type-clause-refused
returns-in_err-check_heap_type-clause-refused c = search rules
