use Rattle.wasm_types_decoding.specs.ListLaws.{lawful-listed_within, decides-listed_within}
use Rattle.wasm_types_reader.proofs.laws.lists_are_lawful.Goals as goal

pub returns-clause-lawful : goal.returns-clause-lawful
returns-clause-lawful g c = λ z limit. lawful-listed_within limit (g.T.FromReader.decoder z) ((g.met.T.FromReader c.lifetimes (assumption c)).lawful z)

pub returns-clause-exact : goal.returns-clause-exact
returns-clause-exact g c = λ z limit. decides-listed_within limit (g.T.FromReader.decoder z) (g.T.FromReader.grammar z) ((g.met.T.FromReader c.lifetimes (assumption c)).exact z)
