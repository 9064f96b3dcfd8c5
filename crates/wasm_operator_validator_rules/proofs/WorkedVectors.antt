-- The worked rows of operators on vectors.
use Rattle.std.proofs.Common.{◌≡◌, [], ◌∷◌, Some, None, false, refl, rules}
use Rattle.wasm_types.specs.settings.Features.{has, judges_vectors}
use Rattle.wasm_operators_immediates.specs.declared.vector.V128.{V128}
use Rattle.wasm_operator_validator_rules.specs.worked.Vectors.{VectorTypesWorked, VectorAccessesWorked, VectorsRefused, VectorRowsWorked}

pub vector_types_worked : (value : V128) → VectorTypesWorked value
unfolding judges_vectors
vector_types_worked value = record {
  unary = refl;
  bits = refl;
  binary = refl;
  swizzle = refl;
  ternary = refl;
  fused = refl;
  chosen = refl;
  compare = refl;
  test = refl;
  all_true = refl;
  bitmask = refl;
  shift = refl;
  convert = refl;
  extend = refl;
  pairwise = refl;
  narrow = refl;
  dot = refl;
  accumulate = refl;
  splat = refl;
  splat_64 = refl;
  splat_float = refl;
  extract = refl;
  extract_float = refl;
  replace = refl;
  replace_float = refl;
  constant = refl;
}

pub vector_accesses_worked : VectorAccessesWorked
unfolding judges_vectors
vector_accesses_worked = record {
  load = refl;
  load_64 = refl;
  load_extended = refl;
  load_splat = refl;
  load_zero = refl;
  store = refl;
  load_lane = refl;
  store_lane = refl;
  over_aligned = refl;
  lane_over_aligned = refl;
  far = refl;
  unknown = refl;
}

pub vectors_refused : (value : V128) → VectorsRefused value
unfolding judges_vectors
vectors_refused value = record {
  sum = refl;
  relaxed = refl;
  load = refl;
  constant = refl;
}

pub vector_rows_worked : (value : V128) → VectorRowsWorked value
unfolding has judges_vectors
vector_rows_worked value = record {
  sum = (search rules, (_, refl, (refl, refl)));
  sum_of_numbers = search rules;
  sum_gives = search rules;
  test_gives = search rules;
  shift_by_vector = search rules;
  constant = (search rules, (_, refl, (refl, refl)));
  unswitched = search rules;
  without_simd = search rules;
  by_simd_alone = (search rules, (_, refl, (refl, refl)));
  without_floats = search rules;
  convert_without_floats = search rules;
  with_floats = (search rules, (_, refl, (refl, refl)));
  relaxed_without = search rules;
  relaxed_with = (search rules, (_, refl, (refl, refl)));
}
