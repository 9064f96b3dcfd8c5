use Rattle.std.proofs.Common.{ap}
use Rattle.wasm_types.specs.decoding.Leb.{IsUnsigned}
use Rattle.wasm_module_validator_state.specs.invariant.laws.Growing.{grows_by_none}
use Rattle.wasm_module_validator_section_order.specs.rules_in_order.BetweenLaws.{between_so}
use Rattle.wasm_module_validator_section_order.specs.rules.Syntax.{ModuleTree}
use Rattle.wasm_module_validator_section_order.specs.rules_in_order.Sections as section
use Rattle.wasm_module_validator_section_order.specs.sections.Kinds.{index_read}
use Rattle.wasm_module_validator_payloads.specs.laws.Short.{adds_short}
use Rattle.wasm_module_validator_payloads.proofs.kinds.U32SectionItem.add_short.Goals as goal

pub returns-in-Some-clause-added : goal.returns-in-Some-clause-added
returns-in-Some-clause-added c =
    let a = c.in-Some.ensures.added in
    adds_short section.functions (λ n. n) index_read (λ z. IsUnsigned 32) a.item c.args.types.now.groups c.args.state.now c.add_short_function.new.state c.args._limits.now
    c.args.bytes.now c.args.at c.in-Some.end (λ z m n h. ap (λ (t : ModuleTree). t.types) h.2.added) a.added (between_so _ _ c.args.bytes.now c.args.at c.in-Some.end (λ t h z same. h) a.bytes)

pub returns-in-Some-clause-grown : goal.returns-in-Some-clause-grown
returns-in-Some-clause-grown c = grows_by_none c.args.types.now.groups c.args.state.now.spaces c.add_short_function.new.state.spaces c.in-Some.ensures.types
