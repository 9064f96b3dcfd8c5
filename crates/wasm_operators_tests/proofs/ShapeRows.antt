-- These rows compute.
use Rattle.std.proofs.Common.{refl}
use Rattle.wasm_operators_tests.specs.list.ShapeRows.{ShapeRows}

pub shapes : ShapeRows
shapes = record {
  accesses = refl;
  of_control = refl;
  parametric = refl;
  of_exceptions = refl;
  of_continuations = refl;
  of_aggregates = refl;
  of_descriptors = refl;
  of_variables_and_memories = refl;
  of_constants = refl;
  of_ranges = refl;
  of_tables_and_references = refl;
  atomic = refl;
  of_shared = refl;
  of_vectors = refl;
}
