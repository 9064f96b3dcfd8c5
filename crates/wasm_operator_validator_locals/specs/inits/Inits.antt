-- Which locals are initialised (WebAssembly 3.0, validation, conventions, local types).
use Rattle.std.specs.Prelude.{◌≡◌, ◌==◌, ◌<◌, ◌||◌, ◌∷◌, ◌++◌, [], ℕ, Bool, false, List, Option, Some, None, get_or, if◌then◌else◌}
use Rattle.std.specs.List.{list_any}

-- what is known of the locals: for each whether it has a value from the start; those that were set since, in order; and those that
-- were set where an attempt began, if one has begun
pub record Inits : Type 0 where
  pub first : List Bool
  pub set : List ℕ
  pub saved : Option (List ℕ)

-- a local is one of these
abbrev pub is_among : List ℕ → ℕ → Bool
is_among xs k = list_any (λ x. x == k) xs

-- a local has a value
abbrev pub has_value : Inits → ℕ → Bool
has_value l k = is_among l.set k || get_or l.first k false

-- those that are set once this one is too
abbrev pub with_set : Inits → ℕ → List ℕ
with_set l k = if has_value l k then l.set else l.set ++ k ∷ []

-- the list without its last item
abbrev pub IsWithoutLast : List ℕ → List ℕ → Type 0
IsWithoutLast before after = (x : ℕ) × (before ≡ after ++ x ∷ [])

-- each of them is among the first so many locals
abbrev pub AreBelow : ℕ → List ℕ → Type 0
AreBelow n [] = Unit {0}
AreBelow n (x ∷ xs) = (x < n) × AreBelow n xs

abbrev pub AreSavedBelow : ℕ → Option (List ℕ) → Type 0
AreSavedBelow n None = Unit {0}
AreSavedBelow n (Some xs) = AreBelow n xs
