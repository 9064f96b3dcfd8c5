-- The immediates of a branch on a cast as bytes (WebAssembly 3.0, binary format, control instructions), and how they are read.
use Rattle.std.specs.Prelude.{◌≡◌, ℕ, ◌+◌, ◌/◌, ◌%◌, ◌==◌, List, ◌∷◌, ◌++◌, nat_lt, if◌then◌else◌}
use Rattle.wasm_types.specs.decoding.declared.Refusal.TheVariants.{Other}
use Rattle.wasm_types.specs.decoding.Decoder.{Decoder, ◌>>=◌, pure, refuse, byte}
use Rattle.wasm_types.specs.decoding.Leb.{u32, IsUnsigned}
use Rattle.wasm_types.specs.values.Reference.{Reference}
use Rattle.wasm_types.specs.values.Decode.{long_reference}
use Rattle.wasm_types.specs.values.Spelled.{Spelled}
use Rattle.wasm_operators_encoding.specs.declared.immediates.cast.CastBranch.{CastBranch}
use Rattle.wasm_operators_encoding.specs.immediates.MemoryArguments.{weight}

-- what a branch on a cast carries, of its parts
abbrev pub branch : ℕ → Reference → Reference → CastBranch
branch depth from to = record { relative_depth = depth; from_ref_type = from; to_ref_type = to }

-- what follows the flags: bit 0 says whether the type before the cast takes null, and bit 1 the same of the type behind it
unfoldable pub cast_after : ℕ → Decoder CastBranch
cast_after b = if nat_lt b 4 then (u32 >>= λ depth. long_reference (b % 2 == 1) >>= λ from. long_reference (b / 2 == 1) >>= λ to. pure (branch depth from to)) else refuse Other 1

-- a branch on a cast from its flags on
unfoldable pub cast_branch : Decoder CastBranch
cast_branch = byte >>= cast_after

-- standard: binary-instr-ref: castop and two heap types, of a branch on a cast
-- castop l:labelidx ht_1:heaptype ht_2:heaptype => l, (ref null? ht_1), (ref null? ht_2)
-- castop ::= 0x00 => neither takes null | 0x01 => the first | 0x02 => the second | 0x03 => both
pub record SpelledCast (c : CastBranch) (text : List ℕ) : Type 0 where
  pub label_text : List ℕ
  pub from_text : List ℕ
  pub to_text : List ℕ
  pub label : IsUnsigned 32 c.relative_depth label_text
  pub before : Spelled c.from_ref_type.heap from_text
  pub after : Spelled c.to_ref_type.heap to_text
  pub whole : text ≡ (weight c.from_ref_type.nullable 1 + weight c.to_ref_type.nullable 2) ∷ (label_text ++ (from_text ++ to_text))
