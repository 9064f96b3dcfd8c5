-- Numbers in LEB128 that begin at an offset in a slice, and how they are refused.
use Rattle.std.specs.Prelude.{◌≡◌, ℕ, ◌+◌, ◌-◌, ◌/◌, ◌%◌, ◌^◌, ◌<◌, ◌≤◌, ◌⊎◌, ℤ, pos, negsuc, ◌+ℤ◌, ◌*ℤ◌, List, length, Result, Ok, Err, drop}
use Rattle.wasm_types_decoding.specs.declared.Refusal.TheVariants.{Other}
use Rattle.wasm_types_decoding.specs.Decoder.{State, Outcome, Done, Short, Fault, Decoder}
use Rattle.wasm_types_decoding.specs.Leb.{unsigned, signed, seven_bits}
use Rattle.wasm_types_decoding.specs.declared.long.Flaw.{Flaw}
use Rattle.wasm_types_decoding.specs.declared.long.Flaw.TheVariants.{Ended, NoRoom}

-- the state behind n more bytes
abbrev pub behind : ℕ → State → State
behind n s = record s { rest = drop n s.rest; place = s.place + n }

-- a number of this many bits
abbrev pub unsigned_of : ℕ → Decoder ℕ
unsigned_of bits = unsigned ((bits - 1) / 7) ((bits - 1) % 7 + 1)

-- the same, with a sign
abbrev pub signed_of : ℕ → Decoder ℤ
signed_of bits = signed ((bits - 1) / 7) ((bits - 1) % 7 + 1)

-- v lies from -2^k up to 2^k, which itself is too large
abbrev pub IsWithin : ℕ → ℤ → Type 0
IsWithin k (pos n) = n < 2 ^ k
IsWithin k (negsuc n) = n < 2 ^ k

-- a byte that ends a signed number which takes so many of its bits: those above them are as the highest of them, the sign
abbrev pub EndsSigned : ℕ → ℕ → Type 0
EndsSigned bits b = (b < 2 ^ (bits - 1)) ⊎ ((2 ^ 7 - 2 ^ (bits - 1) ≤ b) × (b < 2 ^ 7))

-- the signed number of two bytes, of which the first says that more follow
abbrev pub two_groups : ℕ → ℕ → ℤ
two_groups first second = pos 128 *ℤ seven_bits second +ℤ pos (first - 128)

-- no value was read
abbrev pub IsRefused : {X : Type 0} → Outcome X → Type 0
IsRefused (Done x s) = ⊥
IsRefused (Short p h) = Unit {0}
IsRefused (Fault k p) = Unit {0}

-- Wherever in an input these bytes stand, d gives this value of those that begin at one offset and end before another.
pub record GivesAt {X : Type 0} (d : Decoder X) (text : List ℕ) (at_offset : ℕ) (x : X) (end_offset : ℕ) : Type 0 where
  pub forward : at_offset < end_offset
  pub inside : end_offset ≤ length text
  pub gives : (s : State) → s.rest ≡ drop at_offset text → d s ≡ Done x (behind (end_offset - at_offset) s)

-- wherever they stand, d gives no value of those that begin there
abbrev pub RefusedAt : {X : Type 0} → Decoder X → List ℕ → ℕ → Type 0
RefusedAt d text at_offset = (s : State) → s.rest ≡ drop at_offset text → IsRefused (d s)

-- the offset in the slice that shows a flaw
abbrev pub flaw_offset : Flaw → ℕ
flaw_offset (Ended offset) = offset
flaw_offset (NoRoom offset b) = offset

-- what is answered at a flaw so many bytes behind a state
abbrev pub FlawedBehind : {X : Type 0} → Flaw → ℕ → State → Outcome X → Type 0
FlawedBehind (Ended offset) n s o = o ≡ Short (s.place + n) 1
FlawedBehind (NoRoom offset b) n s o = o ≡ Fault Other (s.place + n)

-- Wherever these bytes stand, d refuses those that begin at this offset, for this flaw.
pub record FlawedAt {X : Type 0} (d : Decoder X) (text : List ℕ) (at_offset : ℕ) (flaw : Flaw) : Type 0 where
  pub forward : at_offset ≤ flaw_offset flaw
  pub inside : flaw_offset flaw ≤ length text
  pub refuses : (s : State) → s.rest ≡ drop at_offset text → FlawedBehind flaw (flaw_offset flaw - at_offset) s (d s)

-- what was read at this offset: a value with the offset behind it, or a flaw
abbrev pub ReadsAt : {X : Type 0} → Decoder X → List ℕ → ℕ → Result (X × ℕ) Flaw → Type 0
ReadsAt d text at_offset (Ok r) = GivesAt d text at_offset r.0 r.1
ReadsAt d text at_offset (Err f) = FlawedAt d text at_offset f
