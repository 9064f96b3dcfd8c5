-- The parts that are read, one after the other.
use Rattle.wasm_types.specs.Laws.{reaches_then}
use Rattle.wasm_operators_encoding.proofs.immediates.cast.read_cast_branch.Goals as goal

pub returns-clause-forward : goal.returns-clause-forward
returns-clause-forward c =
    reaches_then _ _ _ c.in_ok-flags.ensures.forward (reaches_then _ _ _ c.in_ok-relative_depth.ensures.forward (reaches_then _ _ _ c.in_ok-from_ref_type.ensures.forward c.in_ok-to_ref_type.ensures.forward))
