-- Worked steps over memories.
use Rattle.std.proofs.Common.{◌≡◌, ℕ, List, [], ◌∷◌, refl, ap, arith, inl, inr, get_or}
use Rattle.wasm_types.specs.trees.Trees.{opened}
use Rattle.wasm_types.specs.trees.ValidGroup.{types_from}
use Rattle.wasm_operator_validator_store.specs.Stores.{nothing, bits_of}
use Rattle.wasm_operator_validator_store.specs.worked.Program.{num}
use Rattle.wasm_operator_validator_store.specs.worked.Memories.{LoadsWorked, BoundsWorked, StoresWorked, SizesWorked, RangesWorked, SharedWorked, MemoriesWorked}

not_equal : (n m : ℕ) → num n ∷ [] ≡ num m ∷ [] → (n ≡ m → ⊥) → ⊥
not_equal n m e f = f (ap (λ vs. bits_of (get_or vs 0 nothing)) e)

loads_worked : LoadsWorked
unfolding opened types_from
loads_worked = record {
  word = (_, _, _, (_, _, (refl, refl, refl), refl, (refl, refl)), (refl, refl), refl);
  signed_byte = (_, _, _, (_, _, (refl, refl, refl), refl, (refl, refl)), (refl, refl), refl);
  positive_byte = (_, _, _, (_, _, (refl, refl, refl), refl, (refl, refl)), (refl, refl), refl);
  byte = (_, _, _, (_, _, (refl, refl, refl), refl, (refl, refl)), (refl, refl), refl);
  signed_half = (_, _, _, (_, _, (refl, refl, refl), refl, (refl, refl)), (refl, refl), refl);
  half = (_, _, _, (_, _, (refl, refl, refl), refl, (refl, refl)), (refl, refl), refl);
  order = (_, _, _, (_, _, (refl, refl, refl), refl, (refl, refl)), (refl, refl), refl);
  wide_word = (_, _, _, (_, _, (refl, refl, refl), refl, (refl, refl)), (refl, refl), refl);
  signed_word = (_, _, _, (_, _, (refl, refl, refl), refl, (refl, refl)), (refl, refl), refl);
  unsigned_word = (_, _, _, (_, _, (refl, refl, refl), refl, (refl, refl)), (refl, refl), refl);
  wide_byte = (_, _, _, (_, _, (refl, refl, refl), refl, (refl, refl)), (refl, refl), refl);
  float = (_, _, _, (_, _, (refl, refl, refl), refl, (refl, refl)), (refl, refl), refl);
  double = (_, _, _, (_, _, (refl, refl, refl), refl, (refl, refl)), (refl, refl), refl);
  offset = (_, _, _, (_, _, (refl, refl, refl), refl, (refl, refl)), (refl, refl), refl);
  of_wide_memory = (_, _, _, (_, _, (refl, refl, refl), refl, (refl, refl)), (refl, refl), refl);
  splat = (_, _, _, (_, _, (refl, refl, refl), refl, (refl, refl)), (refl, refl), refl);
  wide_splat = (_, _, _, (_, _, (refl, refl, refl), refl, (refl, refl)), (refl, refl), refl);
  signed_lanes = (_, _, _, (_, _, (refl, refl, refl), refl, (refl, refl)), (refl, refl), refl);
  lanes = (_, _, _, (_, _, (refl, refl, refl), refl, (refl, refl)), (refl, refl), refl);
  wider_lanes = (_, _, _, (_, _, (refl, refl, refl), refl, (refl, refl)), (refl, refl), refl);
  zeros_above = (_, _, _, (_, _, (refl, refl, refl), refl, (refl, refl)), (refl, refl), refl);
  one_lane = (_, _, _, (_, _, (refl, refl, refl), refl, (refl, refl)), (refl, refl), refl);
}

bounds_worked : BoundsWorked
unfolding opened types_from
bounds_worked = record {
  last_word = (_, _, _, (_, _, (refl, refl, refl), refl, (refl, refl)), (refl, refl), refl);
  past_word = (_, _, _, (refl, refl), (refl, (refl, refl)), refl);
  last_by_offset = (_, _, _, (_, _, (refl, refl, refl), refl, (refl, refl)), (refl, refl), refl);
  past_by_offset = (_, _, _, (refl, refl), (refl, (refl, refl)), refl);
  past_byte = (_, _, _, (refl, refl), (refl, (refl, refl)), refl);
  no_wrap = (_, _, _, (refl, refl), (refl, (refl, refl)), refl);
  great_offset = (_, _, _, (refl, refl), (refl, (refl, refl)), refl);
  no_wide_wrap = (_, _, _, (refl, refl), (refl, (refl, refl)), refl);
  great_wide_offset = (_, _, _, (refl, refl), (refl, (refl, refl)), refl);
  past_store = (_, _, _, (refl, refl), (refl, (refl, refl)), refl);
  past_vector = (_, _, _, (refl, refl), (refl, (refl, refl)), refl);
  empty = (_, _, _, (refl, refl), (refl, (refl, refl)), refl);
}

stores_worked : StoresWorked
unfolding opened types_from
stores_worked = record {
  byte_below = (_, _, _, (_, _, (refl, refl, refl), refl, (_, _, (refl, refl, refl), refl, (refl, refl))), (refl, refl), refl);
  byte_written = (_, _, _, (_, _, (refl, refl, refl), refl, (_, _, (refl, refl, refl), refl, (refl, refl))), (refl, refl), refl);
  byte_above = (_, _, _, (_, _, (refl, refl, refl), refl, (_, _, (refl, refl, refl), refl, (refl, refl))), (refl, refl), refl);
  half_low = (_, _, _, (_, _, (refl, refl, refl), refl, (_, _, (refl, refl, refl), refl, (refl, refl))), (refl, refl), refl);
  half_high = (_, _, _, (_, _, (refl, refl, refl), refl, (_, _, (refl, refl, refl), refl, (refl, refl))), (refl, refl), refl);
  half_above = (_, _, _, (_, _, (refl, refl, refl), refl, (_, _, (refl, refl, refl), refl, (refl, refl))), (refl, refl), refl);
  word_within = (_, _, _, (_, _, (refl, refl, refl), refl, (_, _, (refl, refl, refl), refl, (refl, refl))), (refl, refl), refl);
  wide_low = (_, _, _, (_, _, (refl, refl, refl), refl, (_, _, (refl, refl, refl), refl, (refl, refl))), (refl, refl), refl);
  wide_kept = (_, _, _, (_, _, (refl, refl, refl), refl, (_, _, (refl, refl, refl), refl, (refl, refl))), (refl, refl), refl);
  float_bits = (_, _, _, (_, _, (refl, refl, refl), refl, (_, _, (refl, refl, refl), refl, (refl, refl))), (refl, refl), refl);
  lane_stored = (_, _, _, (_, _, (refl, refl, refl), refl, (_, _, (refl, refl, refl), refl, (refl, refl))), (refl, refl), refl);
  second_memory = (_, _, _, (_, _, (refl, refl, refl), refl, (_, _, (refl, refl, refl), refl, (refl, refl))), (refl, refl), refl);
  other_memory = (_, _, _, (_, _, (refl, refl, refl), refl, (_, _, (refl, refl, refl), refl, (refl, refl))), (refl, refl), refl);
}

sizes_worked : SizesWorked
unfolding opened types_from
sizes_worked = record {
  size = (_, _, _, (_, _, (refl, refl, refl), refl, (refl, refl)), (refl, refl), refl);
  wide_size = (_, _, _, (_, _, (refl, refl, refl), refl, (refl, refl)), (refl, refl), refl);
  no_pages = (_, _, _, (_, _, (refl, refl, refl), refl, (refl, refl)), (refl, refl), refl);
  grown_size = (_, _, _, (_, _, inl (refl, refl, refl), refl, (_, _, (refl, refl), refl, (_, _, (refl, refl, refl), refl, (refl, refl)))), (refl, refl), refl);
  grown_zeros = (_, _, _, (_, _, inl (refl, refl, refl), refl, (_, _, (refl, refl), refl, (_, _, (refl, refl, refl), refl, (refl, refl)))), (refl, refl), refl);
  grown_keeps = (_, _, _, (_, _, inl (refl, refl, refl), refl, (_, _, (refl, refl), refl, (_, _, (refl, refl, refl), refl, (refl, refl)))), (refl, refl), refl);
  may_fail = (_, _, _, (_, _, inr (refl, refl, refl), refl, (refl, refl)), (refl, refl), refl);
  past_maximum = (_, _, _, (_, _, (refl, refl, refl), refl, (refl, refl)), (refl, refl), refl);
  past_pages = (_, _, _, (_, _, (refl, refl, refl), refl, (refl, refl)), (refl, refl), refl);
  wide_growth = (_, _, _, (_, _, inl (refl, refl, refl), refl, (refl, refl)), (refl, refl), refl);
}

ranges_worked : RangesWorked
unfolding opened types_from
ranges_worked = record {
  fill_below = (_, _, _, (_, _, (refl, refl, refl), refl, (_, _, (refl, refl, refl), refl, (refl, refl))), (refl, refl), refl);
  filled_first = (_, _, _, (_, _, (refl, refl, refl), refl, (_, _, (refl, refl, refl), refl, (refl, refl))), (refl, refl), refl);
  filled_last = (_, _, _, (_, _, (refl, refl, refl), refl, (_, _, (refl, refl, refl), refl, (refl, refl))), (refl, refl), refl);
  fill_above = (_, _, _, (_, _, (refl, refl, refl), refl, (_, _, (refl, refl, refl), refl, (refl, refl))), (refl, refl), refl);
  fill_past = (_, _, _, (refl, refl), (refl, (refl, refl)), refl);
  fill_nothing_past = (_, _, _, (refl, refl), (refl, (refl, refl)), refl);
  fill_nothing_at_end = (_, _, _, (_, _, (refl, refl, refl), refl, (_, _, (refl, refl, refl), refl, (refl, refl))), (refl, refl), refl);
  copied_first = (_, _, _, (_, _, (refl, refl, refl), refl, (_, _, (refl, refl, refl), refl, (refl, refl))), (refl, refl), refl);
  copied_second = (_, _, _, (_, _, (refl, refl, refl), refl, (_, _, (refl, refl, refl), refl, (refl, refl))), (refl, refl), refl);
  copied_over_itself = (_, _, _, (_, _, (refl, refl, refl), refl, (_, _, (refl, refl, refl), refl, (refl, refl))), (refl, refl), refl);
  copied_between = (_, _, _, (_, _, (refl, refl, refl), refl, (_, _, (refl, refl, refl), refl, (refl, refl))), (refl, refl), refl);
  copied_past_source = (_, _, _, (refl, refl), (refl, (refl, refl)), refl);
  copied_past_target = (_, _, _, (refl, refl), (refl, (refl, refl)), refl);
  initialised = (_, _, _, (_, _, (refl, refl, refl), refl, (_, _, (refl, refl, refl), refl, (refl, refl))), (refl, refl), refl);
  second_segment = (_, _, _, (_, _, (refl, refl, refl), refl, (_, _, (refl, refl, refl), refl, (refl, refl))), (refl, refl), refl);
  init_past_segment = (_, _, _, (refl, refl), (refl, (refl, refl)), refl);
  init_past_memory = (_, _, _, (refl, refl), (refl, (refl, refl)), refl);
  dropped = (_, _, _, (_, _, (refl, refl, refl), refl, (refl, refl)), (refl, (refl, refl)), refl);
  dropped_nothing = (_, _, _, (_, _, (refl, refl, refl), refl, (_, _, (refl, refl, refl), refl, (_, _, (refl, refl, refl), refl, (refl, refl)))), (refl, refl), refl);
  other_kept = (_, _, _, (_, _, (refl, refl, refl), refl, (_, _, (refl, refl, refl), refl, (_, _, (refl, refl, refl), refl, (refl, refl)))), (refl, refl), refl);
  array_of_data = (_, _, _, (_, _, (refl, (refl, refl, refl)), refl, (_, _, (refl, refl, refl), refl, (_, _, (refl, refl, refl), refl, (refl, refl)))), (refl, refl), refl);
  array_past_data = (_, _, _, (refl, refl), (refl, (refl, refl)), refl);
  array_from_data = (_, _, _, (_, _, (refl, refl, refl), refl, (_, _, (refl, refl, refl), refl, (_, _, (refl, refl, refl), refl, (refl, refl)))), (refl, refl), refl);
  array_init_past_data = (_, _, _, (refl, refl), (refl, (refl, refl)), refl);
  array_init_past_array = (_, _, _, (refl, refl), (refl, (refl, refl)), refl);
}

shared_worked : SharedWorked
unfolding opened types_from
shared_worked = record {
  any_byte = (_, _, _, (_, _, inr (9 ∷ [], refl, (refl, tt), (refl, refl, refl)), refl, (refl, refl)), (refl, refl), refl);
  past_shared = (_, _, _, (refl, refl), inl (refl, (refl, (refl, refl))), refl);
  load_determined = refl;
  shared_open = refl;
  no_trap_within = refl;
  trap_past = refl;
  grow_never_traps = refl;
  page = refl;
  pages = refl;
  grown_pages = refl;
  too_many_pages = refl;
  most = refl;
  most_bytes = refl;
  most_told = refl;
  most_told_pages = refl;
  grown_so_far = refl;
  no_further = refl;
  most_wide = refl;
  not_this = λ u g. not_equal 253 4294967293 g.0 (omega arith);
  not_grown_past = λ u g. not_equal 8 4294967295 g.0 (omega arith);
}

pub memories_worked : MemoriesWorked
memories_worked = record { loads = loads_worked; bounds = bounds_worked; stores = stores_worked; sizes = sizes_worked; ranges = ranges_worked; shared = shared_worked }
