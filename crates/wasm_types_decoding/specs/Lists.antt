-- Numbers and counts with a limit, and lists that are counted so.
use Rattle.std.specs.Prelude.{ℕ, ◌≤◌, List, length, nat_lt, if◌then◌else◌}
use Rattle.wasm_types_decoding.specs.declared.Refusal.{Refusal}
use Rattle.wasm_types_decoding.specs.declared.Refusal.TheVariants.{Other}
use Rattle.wasm_types_decoding.specs.Decoder.{Decoder, Fault, Grammar, ◌>>=◌, pure, repeated}
use Rattle.wasm_types_decoding.specs.Leb.{u32, IsUnsigned, IsListed}

-- a fault at an offset
abbrev pub refuse_at : {A : Type 0} → Refusal → ℕ → Decoder A
refuse_at k place s = Fault k place

-- a number of at most this much, or else it is refused at this offset
abbrev pub at_most_or : ℕ → ℕ → ℕ → Decoder ℕ
at_most_or limit place n = if nat_lt limit n then refuse_at Other place else pure n

-- a number of 32 bits that is at most limit; where it is more, it is refused at its own offset
unfoldable pub size_within : ℕ → Decoder ℕ
size_within limit s = (u32 >>= at_most_or limit s.place) s

-- a count of at most limit, and as many values
unfoldable pub listed_within : {A : Type 0} → ℕ → Decoder A → Decoder (List A)
listed_within limit d = size_within limit >>= λ n. repeated n d

-- ---- grammars

-- a number of 32 bits that is at most limit
pub record IsSizeWithin (limit n : ℕ) (text : List ℕ) : Type 0 where
  pub number : IsUnsigned 32 n text
  pub within : n ≤ limit

-- standard: impl: list(X) with at most as many values as the limit
-- a list of at most limit values (appendix, implementation limitations)
pub record IsListedWithin {A : Type 0} (limit : ℕ) (g : Grammar A) (xs : List A) (text : List ℕ) : Type 0 where
  pub listed : IsListed g xs text
  pub within : length xs ≤ limit
