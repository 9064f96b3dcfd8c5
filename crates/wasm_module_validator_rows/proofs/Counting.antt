-- How many types a list has, and the row of each.
use Rattle.std.proofs.Common.{◌≡◌, ◌∙◌, ℕ, zero, suc, ◌+◌, ◌-◌, ◌<◌, ◌≤◌, ◌^◌, true, false, List, [], ◌∷◌, length, take, drop, min, refl, ap, sym, Option, Some, None, is_some, arith}
use Rattle.std.specs.Prelude.{slice_get, option_map}
use Rattle.std.proofs.lemmas.Bool.{false≢true, true≢false}
use Rattle.std.proofs.lemmas.List.{length-take}
use Rattle.std.proofs.lemmas.Option.{slice_get_within}
use Rattle.wasm_types.specs.trees.declared.index.CoreTypeId.{CoreTypeId}
use Rattle.wasm_types.specs.Entries.{Declared}
use Rattle.wasm_module_validator_type_storage.specs.trees.Groups.{Group, count, declared_by_id}
use Rattle.wasm_module_validator_type_storage.specs.trees.laws.Ids.{length_stored}
use Rattle.wasm_module_validator_index_spaces.specs.view.Shown.{ids_from}
use Rattle.wasm_module_validator_rows.specs.Types.{short, told_type, told_from, type_rows}
use Rattle.wasm_module_validator_rows.proofs.Places.{at_past, at_drop, at_take, none_past, same_at}

-- ---- what was looked up

module _ {X : Type 0} (groups : List Group) (i : ℕ) (f : X → Declared) where
  -- something is there exactly below the count
  pub some_known : (o : Option X) → option_map f o ≡ slice_get (declared_by_id groups) i → is_some o ≡ true → i < count groups
  some_known None e t = absurd (false≢true t)
  some_known (Some x) e t =
      let within = slice_get_within (declared_by_id groups) i (f x) (sym e) in
      let long = length_stored groups in
      omega arith

  pub none_known : (o : Option X) → option_map f o ≡ slice_get (declared_by_id groups) i → is_some o ≡ false → count groups ≤ i
  none_known None e t =
      let past = none_past (declared_by_id groups) i (sym e) in
      let long = length_stored groups in
      omega arith
  none_known (Some x) e t = absurd (true≢false t)

-- ---- ids one behind the other

pub first_id : (first n : ℕ) (x : CoreTypeId) (rest : List CoreTypeId) → ids_from first n ≡ x ∷ rest → x.0 ≡ first
first_id first zero x rest e = absurd cc
first_id first (suc n) x rest e = let same : record { 0 = first } ≡ x = cc in sym (ap (λ (y : CoreTypeId). y.0) same)

pub no_id : (first n : ℕ) → 0 < n → ids_from first n ≡ [] → ⊥
no_id first zero lt e = omega arith
no_id first (suc n) lt e = cc

-- ---- the rows of types

at_told : (groups : List Group) (first i : ℕ) (ds : List Declared) → slice_get (told_from groups first ds) i ≡ option_map (told_type groups (first + i)) (slice_get ds i)
at_told groups first i [] = refl
at_told groups first zero (d ∷ ds) = let e : first ≡ first + 0 = omega arith in ap (λ (n : ℕ). Some (told_type groups n d)) e
at_told groups first (suc i) (d ∷ ds) =
    let e : suc first + i ≡ first + suc i = omega arith in
    at_told groups (suc first) i ds ∙ ap (λ (n : ℕ). option_map (told_type groups n) (slice_get ds i)) e

length_told : (groups : List Group) (first : ℕ) (ds : List Declared) → length (told_from groups first ds) ≡ length ds
length_told groups first [] = refl
length_told groups first (d ∷ ds) = ap suc (length_told groups (suc first) ds)

-- as many as there are types
taken : (n : ℕ) (groups : List Group) → length (take n (told_from groups 0 (declared_by_id groups))) ≡ min (count groups) n
taken n groups =
    let long = length-take n (told_from groups 0 (declared_by_id groups)) in
    let told = length_told groups 0 (declared_by_id groups) in
    let stored = length_stored groups in
    omega arith

pub rows_counted : (groups : List Group) → length (type_rows groups) ≡ short (count groups)
rows_counted groups = taken (2 ^ 32 - 1) groups

-- the row so many places behind an id
row_of_taken : (n : ℕ) (groups : List Group) (first behind id : ℕ) → id ≡ first + behind → id < min (count groups) n
    → slice_get (drop first (take n (told_from groups 0 (declared_by_id groups)))) behind ≡ option_map (told_type groups id) (slice_get (declared_by_id groups) id)
row_of_taken n groups first behind id e lt =
    let all = told_from groups 0 (declared_by_id groups) in
    let zero_more : 0 + id ≡ id = omega arith in
    at_drop first behind (take n all)
    ∙ same_at (take n all) (first + behind) id (sym e)
    ∙ at_take n id all (omega arith)
    ∙ at_told groups 0 id (declared_by_id groups)
    ∙ ap (λ (k : ℕ). option_map (told_type groups k) (slice_get (declared_by_id groups) id)) zero_more

pub row_of_type : (groups : List Group) (first behind id : ℕ) → id ≡ first + behind → id < short (count groups)
    → slice_get (drop first (type_rows groups)) behind ≡ option_map (told_type groups id) (slice_get (declared_by_id groups) id)
row_of_type groups first behind id e lt = row_of_taken (2 ^ 32 - 1) groups first behind id e lt

-- there is none past the last
past_taken : (n : ℕ) (groups : List Group) (first behind : ℕ) → min (count groups) n ≤ first + behind
    → None ≡ slice_get (drop first (take n (told_from groups 0 (declared_by_id groups)))) behind
past_taken n groups first behind le =
    let all = told_from groups 0 (declared_by_id groups) in
    let long = taken n groups in
    sym (at_drop first behind (take n all) ∙ at_past (take n all) (first + behind) (omega arith))

pub row_past_types : (groups : List Group) (first behind : ℕ) → short (count groups) ≤ first + behind → None ≡ slice_get (drop first (type_rows groups)) behind
row_past_types groups first behind le = past_taken (2 ^ 32 - 1) groups first behind le
