-- The index of a heap type that was read fits.
use Rattle.std.proofs.Common.{◌≡◌, true, false}
use Rattle.wasm_types.specs.values.HeapLaws.{heap_type-fits}
use Rattle.wasm_operators_encoding.proofs.immediates.cast.read_reference.Goals as goal

pub unreachable-requires : goal.unreachable-requires
unreachable-requires c =
    let no : false ≡ true = c.in-None.ensures.fits.1 (heap_type-fits _ _ _ c.in_ok-heap_type.ensures.answer) in
    cc
