-- Items that are passed, and a section over them.
use Rattle.std.specs.Prelude.{◌≡◌, ℕ, List, []}
use Rattle.wasm_types.specs.decoding.Decoder.{State, Outcome, Done, Short, Fault, Decoder, ◌>>=◌, pure, repeated, Takes}
use Rattle.wasm_types.specs.decoding.Leb.{u32}
use Rattle.wasm_types.specs.reader.Parts.{part_at}

-- n values, which are not kept
unfoldable pub passed : {A : Type 0} → ℕ → Decoder A → Decoder (Unit {0})
passed n d = repeated n d >>= λ xs. pure tt

-- a count, and as many values, which are not kept
unfoldable pub passed_list : {A : Type 0} → Decoder A → Decoder (Unit {0})
passed_list d = u32 >>= λ n. passed n d

-- the values of an outcome, none where it is refused
abbrev pub values_of : {A : Type 0} → Outcome (List A) → List A
values_of (Done xs t) = xs
values_of (Short p h) = []
values_of (Fault k p) = []

-- the next n values
abbrev pub items_at : {A : Type 0} → Decoder A → ℕ → State → List A
items_at d n s = values_of (repeated n d s)

-- A count n, which is read, and a reader of n values: together they are the bytes from s to t, and no byte is left behind the
-- last value.
pub record Holds {A : Type 0} (d : Decoder A) (s t : State) (n : ℕ) (reader : State) : Type 0 where
  pub text : List ℕ
  pub items : List A
  pub end : State
  pub taken : Takes s text t
  pub counted : u32 (part_at s text) ≡ Done n reader
  pub read : repeated n d reader ≡ Done items end
  pub none_left : end.rest ≡ []
