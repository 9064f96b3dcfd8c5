-- Block types as bytes (WebAssembly 3.0, binary format, control instructions), and how they are read.
use Rattle.std.specs.Prelude.{◌≡◌, ℕ, ◌<◌, ◌^◌, ◌==◌, [], ◌∷◌, Bool, true, false, nat_lt, if◌then◌else◌, ℤ, pos, negsuc}
use Rattle.wasm_types.specs.decoding.declared.Refusal.{Refusal}
use Rattle.wasm_types.specs.decoding.declared.Refusal.TheVariants.{Other}
use Rattle.wasm_types.specs.decoding.Decoder.{Decoder, Grammar, Fault, ◌>>=◌, pure, refuse, byte, look}
use Rattle.wasm_types.specs.decoding.Leb.{s33, IsSigned}
use Rattle.wasm_types.specs.values.Decode.{begins_index}
use Rattle.wasm_types.specs.values.DecodeValues.{value_type}
use Rattle.wasm_types.specs.values.Spelled.{SpelledValue}
use Rattle.wasm_operators_immediates.specs.declared.block.BlockType.{BlockType}
use Rattle.wasm_operators_immediates.specs.declared.block.BlockType.TheVariants.{Empty, Val, FuncType}

-- a fault at the offset reached
abbrev pub refuse_here : {A : Type 0} → Refusal → Decoder A
refuse_here k s = Fault k s.place

-- the type at an index, of a number with a sign
abbrev pub indexed : ℤ → Decoder BlockType
indexed (pos n) = if nat_lt n 0x1_0000_0000 then pure (FuncType n) else refuse_here Other
indexed (negsuc n) = refuse_here Other

-- a function type by its index, a number of 33 bits with a sign
unfoldable pub function_block : Decoder BlockType
function_block = s33 >>= indexed

-- a byte below 0x80 that begins a value type: the long forms of references, abstract heap types, numbers and vectors
abbrev pub begins_value : ℕ → Bool
begins_value b = if nat_lt b 0x63 then false else (if nat_lt b 0x66 then true else (if nat_lt b 0x68 then false else (if nat_lt b 0x76 then true else nat_lt 0x7a b)))

-- one value type, which is the result
unfoldable pub value_block : Decoder BlockType
value_block = value_type >>= λ ty. pure (Val ty)

-- the byte of the empty type, which was read; another one is refused where it is
abbrev pub empty_after : ℕ → Decoder BlockType
empty_after b = if b == 0x40 then pure Empty else refuse Other 1

-- the byte that remains
unfoldable pub empty_block : Decoder BlockType
empty_block = byte >>= empty_after

-- a block type by its first byte, which is looked at
abbrev pub block_at : ℕ → Decoder BlockType
block_at b = if begins_index b then function_block else (if begins_value b then value_block else empty_block)

-- a block type from its first byte on
unfoldable pub block_type : Decoder BlockType
block_type = look block_at

-- standard: binary-instr-control: blocktype
-- blocktype ::= 0x40          => no type
--             | t:valtype     => t
--             | i:s33         => the function type with index i   if i >= 0
abbrev pub SpelledBlock : Grammar BlockType
SpelledBlock Empty text = text ≡ 0x40 ∷ []
SpelledBlock (Val ty) text = SpelledValue ty text
SpelledBlock (FuncType n) text = IsSigned 33 (pos n) text × (n < 2 ^ 32)
