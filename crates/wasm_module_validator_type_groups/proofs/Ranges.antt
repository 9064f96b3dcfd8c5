-- The ids of a group are known, and stand one after the other.
use Rattle.std.proofs.Common.{◌≡◌, ℕ, zero, suc, ◌+◌, ◌≤◌, List, [], ◌∷◌, ◌++◌, length, ap, Option, Some, arith}
use Rattle.std.specs.Prelude.{slice_get, unwrap_or}
use Rattle.wasm_module_validator_type_storage.specs.trees.Groups.{Group, count, group_ranges}
use Rattle.wasm_module_validator_type_storage.specs.trees.laws.Unrolled.{count_push}
use Rattle.wasm_module_validator_type_list.specs.Lookups.{HasIds}

range_at : (g : Group) (earlier : List Group) (n : ℕ) → count earlier + length g.types ≤ n → (rs : List (ℕ × ℕ))
    → ((k first end : ℕ) → slice_get rs k ≡ Some (first, end) → (first ≤ end) × (end ≤ n))
    → (k first end : ℕ) → slice_get (rs ++ (count earlier, count earlier + length g.types) ∷ []) k ≡ Some (first, end) → (first ≤ end) × (end ≤ n)
range_at g earlier n le [] h zero first end e =
    let pair : Some (count earlier, count earlier + length g.types) ≡ Some (first, end) = e in
    let a : count earlier ≡ first = ap (λ (x : Option (ℕ × ℕ)). (unwrap_or x (0, 0)).0) pair in
    let b : count earlier + length g.types ≡ end = ap (λ (x : Option (ℕ × ℕ)). (unwrap_or x (0, 0)).1) pair in
    (omega arith, omega arith)
range_at g earlier n le [] h (suc k) first end e = absurd cc
range_at g earlier n le (r ∷ rs) h zero first end e = h zero first end e
range_at g earlier n le (r ∷ rs) h (suc k) first end e = range_at g earlier n le rs (λ j a b f. h (suc j) a b f) k first end e

pub range_within : (groups : List Group) (k first end : ℕ) → HasIds groups k first end → (first ≤ end) × (end ≤ count groups)
unfolding group_ranges
range_within [] k first end e = absurd cc
range_within (g ∷ earlier) k first end e =
    let pushed = count_push g earlier in
    range_at g earlier (count (g ∷ earlier)) (omega arith) (group_ranges earlier)
    (λ j a b f. let w = range_within earlier j a b f in let x = w.0 in let y = w.1 in (x, omega arith))
    k first end e
