-- Which message a refusal has, where two faults are of one kind at one offset.
use Rattle.std.specs.Prelude.{ℕ, List, Bool, true, false, nat_lt, if◌then◌else◌, Result, Ok, Err}
use Rattle.wasm_types_decoding.specs.Decoder.{Outcome, Done, Short, Fault, bytes}
use Rattle.wasm_types_decoding.specs.ErrorValue.{ErrorValue}
use Rattle.wasm_types_reader.specs.Reading.{is_read}

-- a number that is more than this
abbrev pub is_above : ℕ → Outcome ℕ → Bool
is_above limit (Done n t) = nat_lt limit n
is_above limit (Short p h) = false
is_above limit (Fault k p) = false

-- a count behind which as many bytes stand
abbrev pub is_whole : Outcome ℕ → Bool
is_whole (Done n t) = is_read (bytes n t)
is_whole (Short p h) = false
is_whole (Fault k p) = false

-- the same, of a count of at most this
abbrev pub is_whole_within : ℕ → Outcome ℕ → Bool
is_whole_within limit o = if is_above limit o then false else is_whole o

-- Where it is refused and this is so, its message is one of these.
abbrev pub SaysIf : {X : Type 0} → Bool → (List ℕ → Type 0) → Result X ErrorValue → Type 0
SaysIf true P (Err e) = P e.message
SaysIf true P (Ok x) = Unit {0}
SaysIf false P result = Unit {0}
