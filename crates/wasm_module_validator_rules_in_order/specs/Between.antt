-- Bytes that stand from one offset of a text to another.
use Rattle.std.specs.Prelude.{◌≡◌, ◌+◌, ◌≤◌, ℕ, List, ◌++◌, length, drop}

-- from one offset to the other stand these bytes, and they are such
pub record IsBetween (Such : List ℕ → Type 0) (text : List ℕ) (i j : ℕ) : Type 0 where
  pub front : List ℕ
  pub whole : drop i text ≡ front ++ drop j text
  pub place : j ≡ i + length front
  pub inside : j ≤ length text
  pub such : Such front
