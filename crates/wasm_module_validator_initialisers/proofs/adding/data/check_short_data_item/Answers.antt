use Rattle.std.proofs.Common.{◌∙◌, ap}
use Rattle.wasm_module_validator_initialisers.proofs.AddingShortData.{short_added}
use Rattle.wasm_module_validator_resources.specs.referring.Referring.{meaning_with_all}
use Rattle.wasm_module_validator_initialisers.proofs.adding.data.check_short_data_item.Goals as goal

pub returns-clause-added : goal.returns-clause-added
returns-clause-added c =
    short_added c.args.types.now.groups c.args.state.now c.args.bytes.now c.args.at c.check_short_data.result _ (c.new.ensures ∙ ap meaning_with_all c.resources-module.ensures)
    c.check_short_data.ensures.memory
