use Rattle.wasm_sections_items.specs.limited.Runs.{place_with_offsets}
use Rattle.wasm_sections_items.specs.limited.Walking.{items_left}
use Rattle.wasm_module_validator_section_order.specs.items.AddingLaws.{Stands}
use Rattle.wasm_module_validator_section_order.proofs.items.lent.add_lent_items.Given as goal

abbrev pub invariant-items : goal.invariant-items
invariant-items g l =
    let i = g.T.FromReader in
    let a = g.S.AddLent in
    Stands i.view a.of i.decoder i.grammar a.adds l.fn.section.reader.settings a.reads l.fn.section.count l.fn.section.reader l.fn.state (place_with_offsets l.items) l.state
    × a.grows l.fn.state l.state

abbrev pub decreases-items : goal.decreases-items
decreases-items g l = items_left l.items.end l.items.remaining
