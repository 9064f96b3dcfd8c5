-- The index of a heap type that was read fits.
use Rattle.std.proofs.Common.{◌≡◌, true, false}
use Rattle.wasm_types_values.specs.HeapLaws.{heap_type-fits}
use Rattle.wasm_types_values.proofs.read_value.read_long.Goals as goal

pub unreachable-requires : goal.unreachable-requires
unreachable-requires c =
    let no : false ≡ true = c.in-None.ensures.fits.1 (heap_type-fits _ _ _ c.in_ok-heap_type.ensures.answer) in
    cc
