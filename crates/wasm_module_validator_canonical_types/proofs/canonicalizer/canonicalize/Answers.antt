use Rattle.std.proofs.Common.{rules}
use Rattle.wasm_types.specs.Entries.{subtypes}
use Rattle.wasm_module_validator_canonical_types.proofs.Fitting.{remapped_canonical}
use Rattle.wasm_module_validator_canonical_types.proofs.canonicalizer.canonicalize.Goals as goal

pub returns-clause-canonical : goal.returns-clause-canonical
returns-clause-canonical c =
    remapped_canonical c.args.ids.now c.requires.ids _ c.remap_indices.result (subtypes c.args.rec_group.now) (subtypes c.remap_indices.new.self) c.remap_indices.ensures.remapped
    (λ i r h. search rules)
