-- By the laws of runs, since the items' type is read exactly.
use Rattle.wasm_sections_items.specs.limited.WalkLaws.{run_sound, run_complete}
use Rattle.wasm_sections_items.specs.limited.Runs.{place_in, place_with_offsets, told, plain, with_offset}
use Rattle.wasm_sections_items.proofs.limited.laws.runs_are_exact.Goals as goal

pub returns-clause-sound : goal.returns-clause-sound
returns-clause-sound g c = run_sound g.T.FromReader.view g.T.FromReader.decoder place_in (told g.T.FromReader.takes_memory) (plain g.T.FromReader.view g.T.FromReader.decoder)
    (λ z b x c h. h) g.T.FromReader.grammar (g.met.T.FromReader c.lifetimes (assumption c)).exact

pub returns-clause-complete : goal.returns-clause-complete
returns-clause-complete g c = run_complete g.T.FromReader.view g.T.FromReader.decoder place_in (told g.T.FromReader.takes_memory) (plain g.T.FromReader.view g.T.FromReader.decoder)
    (λ z b x c h. h) g.T.FromReader.grammar (g.met.T.FromReader c.lifetimes (assumption c)).exact

pub returns-clause-sound_with_offsets : goal.returns-clause-sound_with_offsets
returns-clause-sound_with_offsets g c = run_sound (λ x. g.T.FromReader.view x.1) g.T.FromReader.decoder place_with_offsets (told g.T.FromReader.takes_memory)
    (with_offset g.T.FromReader.view g.T.FromReader.decoder) (λ z b x c h. h.1) g.T.FromReader.grammar (g.met.T.FromReader c.lifetimes (assumption c)).exact

pub returns-clause-complete_with_offsets : goal.returns-clause-complete_with_offsets
returns-clause-complete_with_offsets g c = run_complete (λ x. g.T.FromReader.view x.1) g.T.FromReader.decoder place_with_offsets (told g.T.FromReader.takes_memory)
    (with_offset g.T.FromReader.view g.T.FromReader.decoder) (λ z b x c h. h.1) g.T.FromReader.grammar (g.met.T.FromReader c.lifetimes (assumption c)).exact
