-- Numbers in ascending order, beside something that is sought: `order n` tells where the number `n` stands beside it.
use Rattle.std.specs.Prelude.{◌≡◌, ◌≢◌, ◌⊎◌, ◌≤◌, ℕ, List, ◌∷◌, ◌++◌, length, take, drop, All, AllPairs, Contains}
use Rattle.std.specs.declared.cmp.Ordering.{Ordering}
use Rattle.std.specs.declared.cmp.Ordering.TheVariants.{Less, Equal, Greater}

-- of each two numbers the former is less than what is sought, or the latter is greater
unfoldable pub Ascends : (ℕ → Ordering) → List ℕ → Type 0
Ascends order ns = AllPairs (λ a b. (order a ≡ Less) ⊎ (order b ≡ Greater)) ns

-- no number is equal to what is sought
unfoldable pub Misses : (ℕ → Ordering) → List ℕ → Type 0
Misses order ns = All (λ n. order n ≢ Equal) ns

-- `n` is one of the numbers, and equal to what is sought
pub record Finds (order : ℕ → Ordering) (ns : List ℕ) (n : ℕ) : Type 0 where
  pub among : Contains ns n
  pub equal : order n ≡ Equal

-- `n` was put between the numbers that are less and those that are greater
pub record IsPut (order : ℕ → Ordering) (n : ℕ) (old new : List ℕ) : Type 0 where
  pub before : List ℕ
  pub after : List ℕ
  pub was : old ≡ before ++ after
  pub is : new ≡ before ++ n ∷ after
  pub less : All (λ m. order m ≡ Less) before
  pub greater : All (λ m. order m ≡ Greater) after

-- a place in a list: all before it are less than what is sought, and all from it on are greater
pub record IsPlace (order : ℕ → Ordering) (ns : List ℕ) (at : ℕ) : Type 0 where
  pub within : at ≤ length ns
  pub less : All (λ m. order m ≡ Less) (take at ns)
  pub greater : All (λ m. order m ≡ Greater) (drop at ns)
