-- Immediates of one byte or of a few bytes (WebAssembly 3.0, binary format, instructions; orderings by the proposal on shared
-- everything), and how they are read.
use Rattle.std.specs.Prelude.{◌≡◌, ℕ, ◌<◌, ◌==◌, List, [], ◌∷◌, length, Bool, true, false, nat_lt, if◌then◌else◌}
use Rattle.wasm_types.specs.decoding.declared.Refusal.TheVariants.{Other}
use Rattle.wasm_types.specs.decoding.Decoder.{Decoder, Grammar, ◌>>=◌, pure, refuse, byte, bytes, repeated, choice, Many}
use Rattle.wasm_types.specs.decoding.Leb.{u32, IsUnsigned}
use Rattle.wasm_types.specs.decoding.Lists.{listed_within, IsListedWithin}
use Rattle.wasm_types.specs.settings.Settings.{Settings}
use Rattle.wasm_types.specs.values.declared.value.ValType.{ValType}
use Rattle.wasm_types.specs.values.DecodeValues.{value_type}
use Rattle.wasm_types.specs.values.Spelled.{SpelledValue}
use Rattle.wasm_operators_immediates.specs.declared.memory.Ordering.{Ordering}
use Rattle.wasm_operators_immediates.specs.declared.memory.Ordering.TheVariants.{AcqRel, SeqCst}
use Rattle.wasm_operators_immediates.specs.declared.vector.V128.{V128}

-- ---- decoders

-- zero alone, or the byte is refused
abbrev pub zero_after : ℕ → Decoder ℕ
zero_after b = if b == 0 then pure 0 else refuse Other 1

-- a byte that is zero
unfoldable pub zero_byte : Decoder ℕ
zero_byte = byte >>= zero_after

-- an index where it is allowed, and else a byte that is zero
unfoldable pub index_or_zero : Bool → Decoder ℕ
index_or_zero allowed = if allowed then u32 else zero_byte

-- the two orderings by their bytes
abbrev pub orderings : ℕ → List (ℕ × Decoder Ordering)
orderings n = (0x00, pure SeqCst) ∷ (n, pure AcqRel) ∷ []

-- an ordering, where this byte stands for acquire and release
unfoldable pub ordering_by : ℕ → Decoder Ordering
ordering_by n = byte >>= choice (orderings n) (refuse Other 1)

-- a lane below this number, or the byte is refused
abbrev pub lane_after : ℕ → ℕ → Decoder ℕ
lane_after lanes b = if nat_lt b lanes then pure b else refuse Other 1

-- the index of a lane, of so many
unfoldable pub lane : ℕ → Decoder ℕ
lane lanes = byte >>= lane_after lanes

-- the lanes of a shuffle
unfoldable pub shuffle : Decoder (List ℕ)
shuffle = repeated 16 (lane 32)

-- a vector of its bytes
abbrev pub vector_of : List ℕ → V128
vector_of text = record { 0 = text }

-- 16 bytes, the lowest first
unfoldable pub vector : Decoder V128
vector = bytes 16 >>= λ text. pure (vector_of text)

-- the types of a `select`, counted, within their limit
unfoldable pub select_types : Settings → Decoder (List ValType)
select_types z = listed_within z.limits.select_types value_type

-- ---- grammars

-- standard: part of IsIndexOrZero
-- 0x00 => 0
pub record IsZero (n : ℕ) (text : List ℕ) : Type 0 where
  pub value : n ≡ 0
  pub whole : text ≡ 0x00 ∷ []

-- standard: binary-instr-memory: memidx (differs: 0x00 alone without multi-memory)
-- standard: binary-instr-control: tableidx of call_indirect (differs: 0x00 alone without call-indirect-overlong)
-- x:idx => x, or 0x00 => 0
abbrev pub IsIndexOrZero : Bool → Grammar ℕ
IsIndexOrZero true = IsUnsigned 32
IsIndexOrZero false = IsZero

-- standard: proposal-shared-everything-threads: the ordering of an atomic access
-- 0x00 => seq_cst
-- n    => acq_rel
abbrev pub SpelledOrdering : ℕ → Grammar Ordering
SpelledOrdering n SeqCst text = text ≡ 0x00 ∷ []
SpelledOrdering n AcqRel text = text ≡ n ∷ []

-- standard: binary-instr-vec: laneidx (differs: below the number of lanes, else malformed instead of invalid)
-- laneidx ::= l:byte => l
pub record IsLane (lanes l : ℕ) (text : List ℕ) : Type 0 where
  pub below : l < lanes
  pub whole : text ≡ l ∷ []

-- standard: binary-instr-vec: laneidx^16 (differs: below 32, else malformed instead of invalid)
-- 16 lanes of two vectors of 16
abbrev pub IsShuffle : Grammar (List ℕ)
IsShuffle = Many (IsLane 32) 16

-- standard: binary-instr-vec: v128.const, byte^16
-- b*:byte^16 => the vector of these bytes
pub record SpelledVector (v : V128) (text : List ℕ) : Type 0 where
  pub count : length v.0 ≡ 16
  pub whole : text ≡ v.0

-- standard: binary-instr-parametric: select t*: list(valtype) (differs: at most as many as the limit)
-- t*:list(valtype) => t*
abbrev pub SpelledTypes : Settings → Grammar (List ValType)
SpelledTypes z = IsListedWithin z.limits.select_types SpelledValue
