-- What was passed is what the closure took.
use Rattle.std.proofs.Common.{refl, ap, length, arith}
use Rattle.wasm_types_decoding.specs.Decoder.{State}
use Rattle.wasm_types_reader.proofs.Passed.{fewer_left, passed_is}
use Rattle.wasm_types_reader.proofs.binary_reader.BinaryReader.skip.Goals as goal

pub returns-in-Err-clause-refused : goal.returns-in-Err-clause-refused
returns-in-Err-clause-refused g c = ((_, record { shown = _; shows = refl; left = _; met = c.in-Err.ensures; leaves = refl }), c.clone-start.ensures)

pub overflow_sub-passed : goal.overflow_sub-passed
overflow_sub-passed g c =
    let r = c.requires.goes_on _ (record { shown = _; shows = refl; left = _; met = c.in_default.ensures; leaves = refl }) in
    omega (arith, fewer_left _ _ r, c.bytes_remaining.ensures, c.bytes_remaining-2.ensures, ap (λ (s : State). length s.rest) c.clone-start.ensures)

pub returns-clause-passed : goal.returns-clause-passed
returns-clause-passed g c =
    let r = c.requires.goes_on _ (record { shown = _; shows = refl; left = _; met = c.in_default.ensures; leaves = refl }) in (
      record { shown = _; shows = refl; left = _; met = c.in_default.ensures; leaves = refl },
      passed_is _ _ r _ _ (omega (arith, c.bytes_remaining.ensures, c.bytes_remaining-2.ensures, ap (λ (s : State). length s.rest) c.clone-start.ensures)) (rw c.clone-start.ensures at c.front.ensures),
    )
