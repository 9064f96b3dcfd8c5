-- Opcodes as bytes (WebAssembly 3.0, binary format, instructions).
use Rattle.std.specs.Prelude.{◌≡◌, ◌==◌, if◌then◌else◌, ℕ, Bool, true, false, ◌||◌, List, [], ◌∷◌, Option, Some, None}
use Rattle.wasm_types.specs.decoding.Decoder.{Decoder, Grammar, ◌>>=◌, pure, byte}
use Rattle.wasm_types.specs.decoding.Leb.{u32, IsUnsigned}

-- a byte, or a code behind a prefix
pub record Opcode : Type 0 where
  pub prefix : Option ℕ
  pub code : ℕ

-- the bytes that a code follows
abbrev pub is_prefix : ℕ → Bool
is_prefix b = (b == 0xfb) || (b == 0xfc) || (b == 0xfd) || (b == 0xfe)

-- an opcode of one byte
abbrev pub plain : ℕ → Opcode
plain b = record { prefix = None; code = b }

-- an opcode of a prefix and a code
abbrev pub prefixed : ℕ → ℕ → Opcode
prefixed b code = record { prefix = Some b; code = code }

-- an opcode by its first byte
abbrev pub opcode_after : ℕ → Decoder Opcode
opcode_after b = if is_prefix b then (u32 >>= λ code. pure (prefixed b code)) else pure (plain b)

-- an opcode from its first byte on
unfoldable pub opcode : Decoder Opcode
opcode = byte >>= opcode_after

-- standard: binary-instr: an opcode: a byte, or a prefix and a u32
-- a byte that is no prefix, or a prefix and a u32
abbrev pub Spells : Option ℕ → ℕ → List ℕ → Type 0
Spells None code text = (is_prefix code ≡ false) × (text ≡ code ∷ [])
Spells (Some b) code text = (rest : List ℕ) × (is_prefix b ≡ true) × IsUnsigned 32 code rest × (text ≡ b ∷ rest)

-- standard: part of Spells
-- the same of an opcode
abbrev pub SpelledOpcode : Grammar Opcode
SpelledOpcode o text = Spells o.prefix o.code text
