use Rattle.wasm_types.specs.Entries.{composite_of}
use Rattle.wasm_types.specs.IndexLaws.{mapped_declared}
use Rattle.wasm_types.proofs.laws.indices_and_shape_are_all.Goals as goal

pub returns : goal.returns
returns c = λ m x y e h. mapped_declared m x.is_final y.is_final x.supertype_idxs.items y.supertype_idxs.items (composite_of x.composite_type) (composite_of y.composite_type) e h
