-- Open frames, the innermost apart.
use Rattle.std.proofs.Common.{◌≡◌, ◌∙◌, ◌<◌, ℕ, List, [], ◌∷◌, Some, refl, sym, ap, subst, arith, length, drop, slice_get}
use Rattle.wasm_operator_validator_fast_tables.specs.declared.tables.Open.{Open}
use Rattle.wasm_operator_validator_fast_tables.specs.Nested.{Nested, nested}

module _ (frames : List Open) (now : Nested) (is : nested frames ≡ now) where
  pub inner_is : (o : Open) → slice_get frames 0 ≡ Some o → o ≡ now.inner
  inner_is o there = first frames there ∙ ap (λ (n : Nested). n.inner) is
    where
      first : (xs : List Open) → slice_get xs 0 ≡ Some o → o ≡ (nested xs).inner
      first [] e = absurd cc
      first (x ∷ xs) e = let same : x ≡ o = cc in sym same

  -- there is one
  module _ (some : 0 < length frames) where
    pub whole : frames ≡ now.inner ∷ now.outer
    whole = parts frames some ∙ ap (λ (n : Nested). n.inner ∷ n.outer) is
      where
        parts : (xs : List Open) → 0 < length xs → xs ≡ (nested xs).inner ∷ (nested xs).outer
        parts [] h = absurd (omega (arith, h))
        parts (x ∷ xs) h = refl

    pub behind_is : (depth : ℕ) (o : Open) → slice_get frames depth ≡ Some o → slice_get (now.inner ∷ now.outer) depth ≡ Some o
    behind_is depth o there = subst (λ (xs : List Open). slice_get xs depth ≡ Some o) whole there

    pub entered : (news : List Open) (later : Nested) (o : Open) → news ≡ o ∷ frames → nested news ≡ later → later ≡ record { inner = o; outer = now.inner ∷ now.outer }
    entered news later o put then = sym then ∙ ap nested put ∙ ap (λ (xs : List Open). record { inner = o; outer = xs }) whole

    pub turned : (news : List Open) (later : Nested) (o : Open) → news ≡ o ∷ drop 1 frames → nested news ≡ later → later ≡ record { inner = o; outer = now.outer }
    turned news later o put then = sym then ∙ ap nested put ∙ ap (λ (n : Nested). record { inner = o; outer = n.outer }) is

-- the last one
pub alone : (frames : List Open) (now : Nested) → nested frames ≡ now → length frames < 2 → now.outer ≡ []
alone [] now is few = sym (ap (λ (n : Nested). n.outer) is)
alone (x ∷ []) now is few = sym (ap (λ (n : Nested). n.outer) is)
alone (x ∷ y ∷ zs) now is few = absurd (omega (arith, few))

-- some are left
pub some_left : (frames news : List Open) → news ≡ drop 1 frames → 1 < length frames → 0 < length news
some_left [] news e more = absurd (omega (arith, more))
some_left (x ∷ []) news e more = absurd (omega (arith, more))
some_left (x ∷ y ∷ zs) news e more = let f : news ≡ y ∷ zs = e in let long = ap (λ (l : List Open). length l) f in omega (arith, long)

pub left : (frames news : List Open) (now later : Nested) → nested frames ≡ now → news ≡ drop 1 frames → nested news ≡ later → 1 < length frames → now.outer ≡ later.inner ∷ later.outer
left frames news now later is shorter then more =
    sym (ap (λ (n : Nested). n.outer) is) ∙ sym shorter ∙ whole news later then (some_left frames news shorter more)
