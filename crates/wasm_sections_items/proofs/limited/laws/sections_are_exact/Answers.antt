-- By the laws of walks, since the items' type is read exactly.
use Rattle.wasm_sections_items.specs.limited.WalkLaws.{walk_sound, walk_complete}
use Rattle.wasm_sections_items.proofs.limited.laws.sections_are_exact.Goals as goal

pub returns-clause-sound : goal.returns-clause-sound
returns-clause-sound g c = λ z. walk_sound (g.T.FromReader.decoder z) (g.T.FromReader.grammar z) ((g.met.T.FromReader c.lifetimes (assumption c)).exact z)

pub returns-clause-complete : goal.returns-clause-complete
returns-clause-complete g c = λ z. walk_complete (g.T.FromReader.decoder z) (g.T.FromReader.grammar z) ((g.met.T.FromReader c.lifetimes (assumption c)).exact z)
