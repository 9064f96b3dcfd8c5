use Rattle.std.proofs.Common.{ap, List, ℕ, refl}
use Rattle.wasm_types.specs.decoding.Decoder.{State}
use Rattle.wasm_types.specs.settings.Settings.{no_features}
use Rattle.wasm_module_validator_state.specs.invariant.laws.Growing.{grows_by_none}
use Rattle.wasm_module_validator_section_order.specs.rules_in_order.BetweenLaws.{between_so}
use Rattle.wasm_module_validator_section_order.specs.rules.Syntax.{ModuleTree}
use Rattle.wasm_module_validator_section_order.specs.rules_in_order.Sections as section
use Rattle.wasm_module_validator_section_order.specs.sections.Kinds.{data_read}
use Rattle.wasm_module_validator_payloads.specs.laws.Short.{adds_data}
use Rattle.wasm_module_validator_payloads.proofs.kinds.DataOfConstExprSectionItem.add_short.Goals as goal

pub returns-in-Some-clause-added : goal.returns-in-Some-clause-added
returns-in-Some-clause-added c =
    adds_data c.args.types.now.groups c.args.state.now c.args._limits.now c.args.bytes.now c.args.at c.in-Some.end c.in-Some.ensures.short (c.in-Some.ensures.added c.in-Some.ensures.short)

pub returns-in-Some-clause-grown : goal.returns-in-Some-clause-grown
returns-in-Some-clause-grown c = grows_by_none c.args.types.now.groups c.args.state.now.spaces c.args.state.now.spaces refl
