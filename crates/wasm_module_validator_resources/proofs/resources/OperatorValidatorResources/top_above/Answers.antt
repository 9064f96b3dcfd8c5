use Rattle.std.proofs.Common.{ap}
use Rattle.wasm_types.specs.trees.Types.{heap_map}
use Rattle.wasm_operator_validator_resources.specs.Meaning.{named_type}
use Rattle.wasm_module_validator_resources.specs.Reading.{names_in}
use Rattle.wasm_module_validator_resources.proofs.resources.OperatorValidatorResources.top_above.Goals as goal

pub returns : goal.returns
returns c =
    ap (heap_map (named_type (names_in (c.args.self.now.types.now.groups) (c.args.self.now.«module».now.types)))) c.top_type.ensures
