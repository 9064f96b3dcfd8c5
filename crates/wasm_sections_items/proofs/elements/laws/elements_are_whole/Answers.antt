-- By the laws of walks, since expressions have these laws.
use Rattle.wasm_sections_items.specs.elements.WholeLaws.{segments_give}
use Rattle.wasm_sections_items.proofs.elements.laws.elements_are_whole.Goals as goal

pub returns : goal.returns
returns g c =
    let met = g.met.E.FromReader c.lifetimes (assumption c) in
    segments_give g.E.FromReader.view g.E.FromReader.decoder g.E.FromReader.grammar met.exact
