-- Answers of what may be full.
use Rattle.std.proofs.Common.{◌⊎◌, inl, inr, Result, Ok, Err}
use Rattle.wasm_types.specs.decoding.ErrorValue.{ErrorValue}
use Rattle.wasm_module_validator_section_order.specs.items.Adding.{UnlessFull}

-- what follows on each side
pub either_from : {A B C D : Type 0} → (A → C) → (B → D) → A ⊎ B → C ⊎ D
either_from f g (inl a) = inl (f a)
either_from f g (inr b) = inr (g b)

module _ {X : Type 0} where
  -- what holds anyhow
  pub unless_full : (Full : ErrorValue → Type 0) (r : Result X ErrorValue) (P : Type 0) → P → UnlessFull Full r P
  unless_full Full (Ok x) P p = p
  unless_full Full (Err e) P p = inr p

  -- what follows, of what is full because of another
  pub unless_full_from : (Full Fuller : ErrorValue → Type 0) (r : Result X ErrorValue) (P Q : Type 0) → ((e : ErrorValue) → Full e → Fuller e) → (P → Q) → UnlessFull Full r P → UnlessFull Fuller r Q
  unless_full_from Full Fuller (Ok x) P Q f g h = g h
  unless_full_from Full Fuller (Err e) P Q f g h = either_from (f e) g h

  -- what follows of two
  pub unless_full_both : (Full Fuller : ErrorValue → Type 0) (r : Result X ErrorValue) (P Q R : Type 0) → ((e : ErrorValue) → Full e → Fuller e) → (P → Q → R)
      → UnlessFull Full r P → UnlessFull Full r Q → UnlessFull Fuller r R
  unless_full_both Full Fuller (Ok x) P Q R f g p q = g p q
  unless_full_both Full Fuller (Err e) P Q R f g (inl full) q = inl (f e full)
  unless_full_both Full Fuller (Err e) P Q R f g (inr p) q = either_from (f e) (g p) q

  -- of what is never full it holds
  pub never_full : (Full : ErrorValue → Type 0) → ((e : ErrorValue) → Full e → ⊥) → (r : Result X ErrorValue) (P : Type 0) → UnlessFull Full r P → P
  never_full Full none (Ok x) P h = h
  never_full Full none (Err e) P (inl h) = absurd (none e h)
  never_full Full none (Err e) P (inr h) = h
