-- Which messages refusals have.
use Rattle.std.proofs.Common.{◌≡◌, ℕ, List, refl, Bool, true, false, nat_lt, codes, Err, Result}
use Rattle.wasm_types_decoding.specs.Decoder.{State, Outcome, Done, Short, Fault, continue_with}
use Rattle.wasm_types_decoding.specs.Leb.{u32}
use Rattle.wasm_types_decoding.specs.Lists.{at_most_or, size_within}
use Rattle.wasm_types_decoding.specs.ErrorText.{cut_to, message_of}
use Rattle.wasm_types_decoding.specs.ErrorValue.{ErrorValue}
use Rattle.wasm_types_reader.specs.Messages.{is_above, SaysIf}

-- it says so anyhow
pub says : (X : Type 0) (b : Bool) (P : List ℕ → Type 0) (e : ErrorValue) → P e.message → SaysIf {X = X} b P (Err e)
says X true P e h = h
says X false P e h = tt

-- this is not so
pub says_nothing : (X : Type 0) (b : Bool) (P : List ℕ → Type 0) (result : Result X ErrorValue) → b ≡ false → SaysIf b P result
says_nothing X true P result e = cc
says_nothing X false P result e = tt

-- a number within the limit is not above it
within : (limit place : ℕ) (o : Outcome ℕ) (n : ℕ) (t : State) → continue_with o (at_most_or limit place) ≡ Done n t → is_above limit o ≡ false
within limit place (Done m u) n t e = small (nat_lt limit m) refl
  where
    small : (b : Bool) → nat_lt limit m ≡ b → nat_lt limit m ≡ false
    small true is = absurd (let e' = rw is at e in cc)
    small false is = is
within limit place (Short p h) n t e = refl
within limit place (Fault k p) n t e = refl

pub not_above : (limit : ℕ) (s : State) (n : ℕ) (t : State) → size_within limit s ≡ Done n t → is_above limit (u32 s) ≡ false
unfolding size_within
not_above limit s n t e = within limit s.place (u32 s) n t e

-- texts that have room as messages
pub malformed_fits : message_of (codes "malformed UTF-8 encoding") ≡ codes "malformed UTF-8 encoding"
unfolding cut_to
malformed_fits = refl

pub too_long_fits : message_of (codes "string size out of bounds") ≡ codes "string size out of bounds"
unfolding cut_to
too_long_fits = refl
