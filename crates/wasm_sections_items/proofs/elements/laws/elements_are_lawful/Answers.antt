-- By the laws of element segments, since expressions have these laws.
use Rattle.wasm_sections_items.specs.elements.DecodeLaws.{lawful-element, decides-element}
use Rattle.wasm_sections_items.proofs.elements.laws.elements_are_lawful.Goals as goal

pub returns : goal.returns
returns g c = λ z.
    let met = g.met.E.FromReader c.lifetimes (assumption c) in
    (lawful-element (g.E.FromReader.decoder z) (met.lawful z), decides-element (g.E.FromReader.decoder z) (g.E.FromReader.grammar z) (met.exact z))
