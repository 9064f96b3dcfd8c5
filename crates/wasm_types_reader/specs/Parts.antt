-- A part of a reader's bytes, as a reader of its own.
use Rattle.std.specs.Prelude.{◌≡◌, ℕ, List}
use Rattle.wasm_types_decoding.specs.Decoder.{State, Decoder, Takes, ◌>>=◌, continue_with, pure, bytes}
use Rattle.wasm_types_decoding.specs.Leb.{u32}

-- a reader over these bytes, which begin where s stands
abbrev pub part_at : State → List ℕ → State
part_at s text = record { rest = text; place = s.place; settings = s.settings; start = s.place }

-- the next n bytes, as a reader of their own
abbrev pub next_part : ℕ → Decoder State
next_part n s = continue_with (bytes n s) (λ text. pure (part_at s text))

-- a count, and a reader over as many bytes
unfoldable pub counted_part : Decoder State
counted_part = u32 >>= next_part

-- a reader over what was taken from s to t
pub record IsPassed (s t passed : State) : Type 0 where
  pub text : List ℕ
  pub taken : Takes s text t
  pub part : passed ≡ part_at s text
