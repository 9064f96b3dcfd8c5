-- Worked steps over memories: atomic accesses.
use Rattle.std.proofs.Common.{◌≡◌, ℕ, [], ◌∷◌, refl, ap, arith, inl, inr, get_or, true≢false}
use Rattle.wasm_types.specs.trees.Trees.{opened}
use Rattle.wasm_types.specs.trees.ValidGroup.{types_from}
use Rattle.wasm_operator_validator_store.specs.Stores.{Store, nothing, bits_of, memory_in}
use Rattle.wasm_operator_validator_store.specs.worked.Program.{num}
use Rattle.wasm_operator_validator_store.specs.worked.Atomics.{AtomicLoadsWorked, AtomicBoundsWorked, AtomicStoresWorked, AtomicChangesWorked, AtomicExchangesWorked, AtomicThreadsWorked, AtomicsWorked}

apart : (n m : ℕ) → n ≡ m → (n ≡ m → ⊥) → ⊥
apart n m e f = f e

unlike : (n m : ℕ) → num n ∷ [] ≡ num m ∷ [] → (n ≡ m → ⊥) → ⊥
unlike n m e f = f (ap (λ vs. bits_of (get_or vs 0 nothing)) e)

-- a byte of the first memory
abbrev first_byte : ℕ → Store → ℕ
first_byte i s = get_or (memory_in s 0) i 0

atomic_loads_worked : AtomicLoadsWorked
unfolding opened types_from
atomic_loads_worked = record {
  word = (_, _, _, (_, _, (refl, refl, refl), refl, (refl, refl)), (refl, refl), refl);
  byte = (_, _, _, (_, _, (refl, refl, refl), refl, (refl, refl)), (refl, refl), refl);
  half = (_, _, _, (_, _, (refl, refl, refl), refl, (refl, refl)), (refl, refl), refl);
  offset = (_, _, _, (_, _, (refl, refl, refl), refl, (refl, refl)), (refl, refl), refl);
  of_wide_memory = (_, _, _, (_, _, (refl, refl, refl), refl, (refl, refl)), (refl, refl), refl);
  wide_word = (_, _, _, (_, _, (refl, refl, refl), refl, (refl, refl)), (refl, refl), refl);
  wide_low = (_, _, _, (_, _, (refl, refl, refl), refl, (refl, refl)), (refl, refl), refl);
  wide_byte = (_, _, _, (_, _, (refl, refl, refl), refl, (refl, refl)), (refl, refl), refl);
  no_other = λ u g. unlike 253 254 g.0 (omega arith);
  no_sign = λ u g. unlike 4294967294 254 g.0 (omega arith);
  no_change = λ a u g. g.2;
}

atomic_bounds_worked : AtomicBoundsWorked
unfolding opened types_from
atomic_bounds_worked = record {
  last_word = (_, _, _, (_, _, (refl, refl, refl), refl, (refl, refl)), (refl, refl), refl);
  past_word = (_, _, _, (refl, refl), (refl, (refl, refl)), refl);
  past_by_offset = (_, _, _, (refl, refl), (refl, (refl, refl)), refl);
  no_wrap = (_, _, _, (refl, refl), (refl, (refl, refl)), refl);
  misaligned_word = (_, _, _, (refl, refl), (refl, (refl, refl)), refl);
  misaligned_half = (_, _, _, (refl, refl), (refl, (refl, refl)), refl);
  misaligned_by_offset = (_, _, _, (refl, refl), (refl, (refl, refl)), refl);
  aligned_by_offset = (_, _, _, (_, _, (refl, refl, refl), refl, (refl, refl)), (refl, refl), refl);
  misaligned_wide = (_, _, _, (refl, refl), (refl, (refl, refl)), refl);
  past_store = (_, _, _, (refl, refl), (refl, (refl, refl)), refl);
  misaligned_store = (_, _, _, (refl, refl), (refl, (refl, refl)), refl);
  past_add = (_, _, _, (refl, refl), (refl, (refl, refl)), refl);
  misaligned_add = (_, _, _, (refl, refl), (refl, (refl, refl)), refl);
  past_exchange = (_, _, _, (refl, refl), (refl, (refl, refl)), refl);
  misaligned_exchange = (_, _, _, (refl, refl), (refl, (refl, refl)), refl);
  empty = (_, _, _, (refl, refl), (refl, (refl, refl)), refl);
  not_within = λ u g. true≢false g.1;
  not_misaligned = λ a u g. g.0;
}

atomic_stores_worked : AtomicStoresWorked
unfolding opened types_from
atomic_stores_worked = record {
  low = (_, _, _, (_, _, (refl, refl, refl), refl, (_, _, (refl, refl, refl), refl, (refl, refl))), (refl, refl), refl);
  high = (_, _, _, (_, _, (refl, refl, refl), refl, (_, _, (refl, refl, refl), refl, (refl, refl))), (refl, refl), refl);
  above = (_, _, _, (_, _, (refl, refl, refl), refl, (_, _, (refl, refl, refl), refl, (refl, refl))), (refl, refl), refl);
  word = (_, _, _, (_, _, (refl, refl, refl), refl, (_, _, (refl, refl, refl), refl, (refl, refl))), (refl, refl), refl);
  wide = (_, _, _, (_, _, (refl, refl, refl), refl, (_, _, (refl, refl, refl), refl, (refl, refl))), (refl, refl), refl);
  something = λ g. apart 1 9 (ap (first_byte 0) g.2) (omega arith);
}

atomic_changes_worked : AtomicChangesWorked
unfolding opened types_from
atomic_changes_worked = record {
  add = (_, _, _, (_, _, (refl, refl, refl), refl, (_, _, (refl, refl), refl, (_, _, (refl, refl, refl), refl, (refl, refl)))), (refl, refl), refl);
  add_carries = (_, _, _, (_, _, (refl, refl, refl), refl, (_, _, (refl, refl), refl, (_, _, (refl, refl, refl), refl, (refl, refl)))), (refl, refl), refl);
  add_wraps = (_, _, _, (_, _, (refl, refl, refl), refl, (_, _, (refl, refl), refl, (_, _, (refl, refl, refl), refl, (refl, refl)))), (refl, refl), refl);
  add_stays_within = (
    _,
    _,
    _,
    (_, _, (refl, refl, refl), refl, (_, _, (refl, refl), refl, (_, _, (refl, refl, refl), refl, (refl, refl)))),
    (refl, refl),
    refl,
  );
  add_low_bits = (_, _, _, (_, _, (refl, refl, refl), refl, (_, _, (refl, refl), refl, (_, _, (refl, refl, refl), refl, (refl, refl)))), (refl, refl), refl);
  add_wide = (_, _, _, (_, _, (refl, refl, refl), refl, (_, _, (refl, refl), refl, (_, _, (refl, refl, refl), refl, (refl, refl)))), (refl, refl), refl);
  subtract = (_, _, _, (_, _, (refl, refl, refl), refl, (_, _, (refl, refl), refl, (_, _, (refl, refl, refl), refl, (refl, refl)))), (refl, refl), refl);
  subtract_wraps = (_, _, _, (_, _, (refl, refl, refl), refl, (_, _, (refl, refl), refl, (_, _, (refl, refl, refl), refl, (refl, refl)))), (refl, refl), refl);
  subtract_low_bits = (
    _,
    _,
    _,
    (_, _, (refl, refl, refl), refl, (_, _, (refl, refl), refl, (_, _, (refl, refl, refl), refl, (refl, refl)))),
    (refl, refl),
    refl,
  );
  conjunction = (_, _, _, (_, _, (refl, refl, refl), refl, (_, _, (refl, refl), refl, (_, _, (refl, refl, refl), refl, (refl, refl)))), (refl, refl), refl);
  disjunction = (_, _, _, (_, _, (refl, refl, refl), refl, (_, _, (refl, refl), refl, (_, _, (refl, refl, refl), refl, (refl, refl)))), (refl, refl), refl);
  difference = (_, _, _, (_, _, (refl, refl, refl), refl, (_, _, (refl, refl), refl, (_, _, (refl, refl, refl), refl, (refl, refl)))), (refl, refl), refl);
  exchange = (_, _, _, (_, _, (refl, refl, refl), refl, (_, _, (refl, refl), refl, (_, _, (refl, refl, refl), refl, (refl, refl)))), (refl, refl), refl);
  not_new = λ u g. unlike 2 1 g.0 (omega arith);
  something = λ a g. apart 1 2 (ap (first_byte 0) g.2) (omega arith);
}

atomic_exchanges_worked : AtomicExchangesWorked
unfolding opened types_from
atomic_exchanges_worked = record {
  equal = (_, _, _, (_, _, (refl, refl, refl), refl, (_, _, (refl, refl), refl, (_, _, (refl, refl, refl), refl, (refl, refl)))), (refl, refl), refl);
  equal_all = (_, _, _, (_, _, (refl, refl, refl), refl, (_, _, (refl, refl), refl, (_, _, (refl, refl, refl), refl, (refl, refl)))), (refl, refl), refl);
  equal_low_bits = (_, _, _, (_, _, (refl, refl, refl), refl, (_, _, (refl, refl), refl, (_, _, (refl, refl, refl), refl, (refl, refl)))), (refl, refl), refl);
  equal_wide = (_, _, _, (_, _, (refl, refl, refl), refl, (_, _, (refl, refl), refl, (_, _, (refl, refl, refl), refl, (refl, refl)))), (refl, refl), refl);
  unequal = (_, _, _, (_, _, (refl, refl, refl), refl, (_, _, (refl, refl), refl, (_, _, (refl, refl, refl), refl, (refl, refl)))), (refl, refl), refl);
  unequal_changes_nothing = λ a u g. g.2;
  equal_changes_something = λ a g. apart 5 9 (ap (first_byte 4) g.2) (omega arith);
}

atomic_threads_worked : AtomicThreadsWorked
unfolding opened types_from
atomic_threads_worked = record {
  none_woken = (_, _, _, (_, _, (refl, refl, refl), refl, (refl, refl)), (refl, refl), refl);
  notify_past = (_, _, _, (refl, refl), (refl, (refl, refl)), refl);
  notify_misaligned = (_, _, _, (refl, refl), (refl, (refl, refl)), refl);
  not_woken = λ u g. unlike 1 0 g.0 (omega arith);
  wait = (_, _, _, (refl, refl), (refl, (refl, refl)), refl);
  wide_wait = (_, _, _, (refl, refl), (refl, (refl, refl)), refl);
  fence = (_, _, _, (_, _, (refl, refl), refl, (_, _, (refl, refl, refl), refl, (refl, refl))), (refl, refl), refl);
  any_number = (
    _,
    _,
    _,
    (_, _, inr (9 ∷ 0 ∷ 0 ∷ 0 ∷ [], refl, (refl, (refl, (refl, (refl, tt)))), (refl, refl, refl)), refl, (refl, refl)),
    (refl, refl),
    refl,
  );
  any_woken = (_, _, _, (_, _, ((((tt, refl), tt), tt), (refl, tt), refl, λ e. refl), refl, (refl, refl)), (refl, refl), refl);
  any_wait = (_, _, _, (_, _, ((((tt, refl), tt), tt), (refl, tt), refl, λ e. refl), refl, (refl, refl)), (refl, refl), refl);
  own_determined = refl;
  wait_determined = refl;
  fence_determined = refl;
  shared_open = refl;
  own_exact = refl;
  shared_inexact = refl;
  no_trap_within = refl;
  trap_misaligned = refl;
  trap_past = refl;
  trap_waiting = refl;
  shared_past = (_, _, _, (refl, refl), inl (refl, (refl, (refl, refl))), refl);
  shared_misaligned = λ a u g. g.0;
  no_trap_shared = refl;
  trap_shared_misaligned = refl;
  trap_shared_waiting = refl;
  trap_shared_woken = refl;
  no_trap_woken = refl;
  no_trap_at_fence = refl;
}

pub atomics_worked : AtomicsWorked
atomics_worked = record {
  loads = atomic_loads_worked;
  bounds = atomic_bounds_worked;
  stores = atomic_stores_worked;
  changes = atomic_changes_worked;
  exchanges = atomic_exchanges_worked;
  threads = atomic_threads_worked;
}
