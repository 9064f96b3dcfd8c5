use Rattle.wasm_operator_validator_resources.specs.Meaning.{table_in}
use Rattle.wasm_module_validator_resources.specs.Reading.{names_in}
use Rattle.wasm_module_validator_resources.proofs.Finding.{mapped}
use Rattle.wasm_module_validator_resources.proofs.resources.OperatorValidatorResourcesWasmModuleResources.table_at.Goals as goal

pub returns-clause-meaning : goal.returns-clause-meaning
returns-clause-meaning c =
    mapped (table_in (names_in (c.args.self.now.types.now.groups) (c.args.self.now.«module».now.types))) (c.args.self.now.«module».now.tables) c.args.at c.table_at.result c.table_at.ensures
