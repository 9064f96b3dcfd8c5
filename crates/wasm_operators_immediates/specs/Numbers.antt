-- Numbers that stand in bytes one after the other.
use Rattle.std.specs.Prelude.{◌≡◌, ℕ, Bool, false, List, [], length, ◌==◌, Result, Ok, Err}
use Rattle.wasm_types.specs.decoding.Decoder.{State, Outcome, Done, Short, Fault, repeated}
use Rattle.wasm_types.specs.decoding.Leb.{u32}
use Rattle.wasm_types.specs.settings.Settings.{no_features}
use Rattle.wasm_types.specs.decoding.ErrorValue.{ErrorValue}
use Rattle.wasm_types.specs.reader.Reading.{Fails}

-- the next n numbers of 32 bits
unfoldable pub numbers_at : ℕ → State → Outcome (List ℕ)
numbers_at n s = repeated n u32 s

-- n numbers of 32 bits at the front of these bytes
abbrev pub numbers_in : ℕ → List ℕ → Outcome (List ℕ)
numbers_in n text = numbers_at n (record { rest = text; place = 0; settings = no_features; start = 0 })

-- what was read, or nothing
abbrev pub values : Outcome (List ℕ) → List ℕ
values (Done xs s) = xs
values (Short p h) = []
values (Fault k p) = []

-- whether all of the bytes were read
abbrev pub is_whole : Outcome (List ℕ) → Bool
is_whole (Done xs s) = length s.rest == 0
is_whole (Short p h) = false
is_whole (Fault k p) = false

-- n numbers were passed, or they are refused as what reads them does
abbrev pub Passes : ℕ → Result (Unit {0}) ErrorValue → State → State → Type 0
Passes n (Ok u) before after = (xs : List ℕ) × (repeated n u32 before ≡ Done xs after)
Passes n (Err e) before after = Fails e (repeated n u32 before)
