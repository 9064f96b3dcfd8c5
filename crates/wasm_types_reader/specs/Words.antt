-- A byte below 128.
use Rattle.std.specs.Prelude.{◌≡◌, ℕ, ◌<◌, List, [], ◌∷◌, nat_lt, if◌then◌else◌}
use Rattle.wasm_types_decoding.specs.declared.Refusal.TheVariants.{Other}
use Rattle.wasm_types_decoding.specs.Decoder.{Decoder, ◌>>=◌, pure, refuse, byte}

-- this byte, if it is below 128
abbrev pub small_byte : ℕ → Decoder ℕ
small_byte b = if nat_lt b 128 then pure b else refuse Other 1

-- a byte below 128; any other is refused at its offset
unfoldable pub u7 : Decoder ℕ
u7 = byte >>= small_byte

-- n:byte => n  if n < 2^7
pub record IsSmallByte (n : ℕ) (text : List ℕ) : Type 0 where
  pub small : n < 128
  pub whole : text ≡ n ∷ []
