use Rattle.std.proofs.Common.{ap, List, ℕ}
use Rattle.wasm_types.specs.decoding.Decoder.{State}
use Rattle.wasm_types.specs.settings.Settings.{no_features}
use Rattle.wasm_sections_items.specs.declared.segments.global.GlobalOf.{GlobalOf}
use Rattle.wasm_sections_items.specs.segments.Spells.{GlobalTree, SpelledGlobalItem}
use Rattle.wasm_operators_encoding.specs.ConstantDecoder.{ConstantText}
use Rattle.wasm_module_validator_initialisers.specs.segments.Trees.{global_read}
use Rattle.wasm_module_validator_state.specs.invariant.laws.Growing.{grows_by_none}
use Rattle.wasm_module_validator_section_order.specs.rules_in_order.BetweenLaws.{between_so}
use Rattle.wasm_module_validator_section_order.specs.rules.Syntax.{ModuleTree}
use Rattle.wasm_module_validator_section_order.specs.rules_in_order.Sections as section
use Rattle.wasm_module_validator_payloads.specs.laws.Short.{adds_short}
use Rattle.wasm_module_validator_payloads.proofs.kinds.GlobalOfConstExprSectionItem.add_short.Goals as goal

-- a global of the code that is this
written : GlobalTree (List ℕ) → GlobalOf State
written x = record { ty = x.ty; init_expr = record { rest = x.init; place = 0; settings = no_features; start = 0 } }

pub returns-in-Some-clause-added : goal.returns-in-Some-clause-added
unfolding written
returns-in-Some-clause-added c =
    let a = c.in-Some.ensures.added in
    adds_short section.globals global_read global_read (λ z. SpelledGlobalItem (ConstantText z)) (written a.item) c.args.types.now.groups c.args.state.now c.add_short_global.new.state
    c.args._limits.now c.args.bytes.now c.args.at c.in-Some.end (λ z m n h. ap (λ (t : ModuleTree). t.types) h.2.added) a.added
    (between_so _ _ c.args.bytes.now c.args.at c.in-Some.end (λ t h z same. h z) a.bytes)

pub returns-in-Some-clause-grown : goal.returns-in-Some-clause-grown
returns-in-Some-clause-grown c = grows_by_none c.args.types.now.groups c.args.state.now.spaces c.add_short_global.new.state.spaces c.in-Some.ensures.types
