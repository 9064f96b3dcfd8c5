-- These rows compute.
use Rattle.std.proofs.Common.{refl}
use Rattle.wasm_types.specs.settings.Features.{has}
use Rattle.wasm_types.specs.decoding.Leb.{unsigned}
use Rattle.wasm_operators_encoding.specs.immediates.MemoryArguments.{memory_argument, flags, after_flags, named_memory, named_ordering, access_ordering, offset}
use Rattle.wasm_operators_encoding.specs.immediates.Bytes.{ordering_by}
use Rattle.wasm_operators_encoding.specs.immediates.Immediates.{immediate}
use Rattle.wasm_operators_tests.specs.worked.ArgumentRows.{ArgumentRows}

pub arguments : ArgumentRows
unfolding has unsigned memory_argument flags after_flags named_memory named_ordering access_ordering ordering_by offset immediate
arguments = record {
  plain = refl;
  memory_named = refl;
  large_memory = refl;
  wide_offset = refl;
  no_wide_offset = refl;
  ordered = refl;
  ordered_as_ever = refl;
  ordered_twice = refl;
  no_memory_named = refl;
  no_memory_named_by_others = refl;
  alignment_too_large = refl;
  flags_too_large = refl;
  plain_takes_no_ordering = refl;
  no_ordering = refl;
  no_ordering_by_others = refl;
  alignment_beside_a_memory = refl;
  ordering_of_both_halves = refl;
  ordering_of_one_half = refl;
  no_flags = refl;
  no_memory = refl;
  half_a_memory = refl;
  no_ordering_left = refl;
  no_offset = refl;
}
