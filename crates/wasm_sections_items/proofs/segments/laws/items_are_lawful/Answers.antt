-- By the laws of globals and data segments, since expressions have these laws.
use Rattle.wasm_sections_items.specs.segments.DecodeLaws.{lawful-global, decides-global, lawful-data_segment, decides-data_segment}
use Rattle.wasm_sections_items.specs.segments.TableLaws.{lawful-table, decides-table}
use Rattle.wasm_sections_items.proofs.segments.laws.items_are_lawful.Goals as goal

pub returns-clause-globals : goal.returns-clause-globals
returns-clause-globals g c = λ z.
    let met = g.met.E.FromReader c.lifetimes (assumption c) in
    (lawful-global (g.E.FromReader.decoder z) (met.lawful z), decides-global (g.E.FromReader.decoder z) (g.E.FromReader.grammar z) (met.exact z))

pub returns-clause-segments : goal.returns-clause-segments
returns-clause-segments g c = λ z.
    let met = g.met.E.FromReader c.lifetimes (assumption c) in
    (lawful-data_segment (g.E.FromReader.decoder z) (met.lawful z), decides-data_segment (g.E.FromReader.decoder z) (g.E.FromReader.grammar z) (met.exact z))

pub returns-clause-tables : goal.returns-clause-tables
returns-clause-tables g c = λ z.
    let met = g.met.E.FromReader c.lifetimes (assumption c) in
    (lawful-table (g.E.FromReader.decoder z) (met.lawful z), decides-table (g.E.FromReader.decoder z) (g.E.FromReader.grammar z) (met.exact z))
