-- The worked groups.
use Rattle.std.proofs.Common.{refl, rules}
use Rattle.wasm_module_validator_canonical_types.specs.Worked.{CanonicalWorked}

pub canonical_is_worked : CanonicalWorked
canonical_is_worked = record {
  first = refl;
  last = refl;
  own = refl;
  next = refl;
  place = refl;
  known = refl;
  types = refl;
  earlier = search rules;
  needs_gc = search rules;
  own_place = search rules;
  past_the_end = search rules;
  allowed = search rules;
  own_supertype = search rules;
  unknown_supertype = search rules;
  unknown_field = search rules;
}
