-- The rows of `Reading`.
use Rattle.std.proofs.Common.{◌≡◌, ◌⊎◌, inl, inr, ℕ, List, [], ◌∷◌, Option, Some, None, refl, arith, rules}
use Rattle.wasm_types.specs.decoding.Decoder.{State}
use Rattle.wasm_types.specs.decoding.ErrorValue.{ErrorValue}
use Rattle.wasm_types.specs.settings.Features.{has}
use Rattle.wasm_types.specs.settings.Settings.{Settings}
use Rattle.wasm_sections_items.specs.declared.segments.segment.DataKindOf.TheVariants.{Active}
use Rattle.wasm_module_validator_initialisers.specs.segments.Refusals.{RefusesData, IsFault}
use Rattle.wasm_module_validator_tests.specs.Reading.{ItemsRead, Begins, no_memory, fault, Refused}

pub items_read : ItemsRead
items_read = record { global = refl; table = refl; null_table = refl }

pub begins : Begins
unfolding has
begins = record {
  tags = search rules;
  tags_not = search rules;
  types = tt;
  imports = tt;
  functions = tt;
  tables = tt;
  memories = tt;
  globals = tt;
  exports = tt;
  start = tt;
  element_segments = tt;
  data_count = tt;
  data_segments = tt;
}

-- where there is no such memory the segment is refused for that alone
at_fault : (z : Settings) (s : State) (offset : ℕ) (e : ErrorValue) → RefusesData z no_memory 0 offset (Active 0 s) e → IsFault offset e
at_fault z s offset e (inl h) = h.1
at_fault z s offset e (inr h) = let f = h.1 in absurd cc

pub refused : (z : Settings) (s : State) → Refused z s
refused z s = record {
  fails = (refl, refl);
  fails_elsewhere = λ h. let n : ◌≡◌ {A = ℕ} 7 8 = h.1 in omega (arith, n);
  fails_otherwise = λ h. let e = h.0 in absurd cc;
  fails_not = tt;
  no_such_memory = inl (refl, (refl, refl));
  no_such_memory_elsewhere = λ h. let n : ◌≡◌ {A = ℕ} 7 8 = (at_fault z s 8 fault h).1 in omega (arith, n);
  no_such_memory_failed = λ h. let e = (at_fault z s 7 _ h).0 in absurd cc;
  next_memory = inl (refl, (refl, refl));
  passive_failed = λ h. h.0;
}
