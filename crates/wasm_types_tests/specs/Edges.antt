-- Numbers in LEB128 at the edges of their widths, as the productions of the standard spell them (WebAssembly 3.0, binary
-- format, integers): no byte, a number cut short, one byte, the largest and the least number, padded to all its bytes, one
-- beyond each edge, and a byte too many.
use Rattle.std.specs.Prelude.{◌≡◌, [], ◌∷◌, pos, negsuc}
use Rattle.wasm_types.specs.decoding.declared.Refusal.TheVariants.{Other}
use Rattle.wasm_types.specs.decoding.Decoder.{Done, Short, Fault}
use Rattle.wasm_types.specs.decoding.Leb.{u32, u64, s32, s33, s64}
use Rattle.wasm_types.specs.decoding.Rows.{start_of, behind}

pub record UnsignedEdges32 : Type 0 where
  pub none : u32 (start_of []) ≡ Short 7 1
  pub cut_short : u32 (start_of (0x80 ∷ 0x80 ∷ 0x80 ∷ 0x80 ∷ [])) ≡ Short 11 1
  pub one_byte : u32 (start_of (0x7f ∷ [])) ≡ Done 127 (behind 1 [])
  pub largest : u32 (start_of (0xff ∷ 0xff ∷ 0xff ∷ 0xff ∷ 0x0f ∷ [])) ≡ Done 4294967295 (behind 5 [])
  pub padded : u32 (start_of (0x80 ∷ 0x80 ∷ 0x80 ∷ 0x80 ∷ 0x00 ∷ [])) ≡ Done 0 (behind 5 [])
  pub one_too_large : u32 (start_of (0x80 ∷ 0x80 ∷ 0x80 ∷ 0x80 ∷ 0x10 ∷ [])) ≡ Fault Other 11
  pub far_too_large : u32 (start_of (0xff ∷ 0xff ∷ 0xff ∷ 0xff ∷ 0x7f ∷ [])) ≡ Fault Other 11
  pub too_long : u32 (start_of (0x80 ∷ 0x80 ∷ 0x80 ∷ 0x80 ∷ 0x80 ∷ [])) ≡ Fault Other 11
  pub too_long_and_large : u32 (start_of (0xff ∷ 0xff ∷ 0xff ∷ 0xff ∷ 0x8f ∷ [])) ≡ Fault Other 11

pub record UnsignedEdges64 : Type 0 where
  pub none : u64 (start_of []) ≡ Short 7 1
  pub cut_short : u64 (start_of (0x80 ∷ 0x80 ∷ 0x80 ∷ 0x80 ∷ 0x80 ∷ 0x80 ∷ 0x80 ∷ 0x80 ∷ 0x80 ∷ [])) ≡ Short 16 1
  pub one_byte : u64 (start_of (0x7f ∷ [])) ≡ Done 127 (behind 1 [])
  pub largest : u64 (start_of (0xff ∷ 0xff ∷ 0xff ∷ 0xff ∷ 0xff ∷ 0xff ∷ 0xff ∷ 0xff ∷ 0xff ∷ 0x01 ∷ [])) ≡ Done 18446744073709551615 (behind 10 [])
  pub padded : u64 (start_of (0x80 ∷ 0x80 ∷ 0x80 ∷ 0x80 ∷ 0x80 ∷ 0x80 ∷ 0x80 ∷ 0x80 ∷ 0x80 ∷ 0x00 ∷ [])) ≡ Done 0 (behind 10 [])
  pub one_too_large : u64 (start_of (0x80 ∷ 0x80 ∷ 0x80 ∷ 0x80 ∷ 0x80 ∷ 0x80 ∷ 0x80 ∷ 0x80 ∷ 0x80 ∷ 0x02 ∷ [])) ≡ Fault Other 16
  pub far_too_large : u64 (start_of (0xff ∷ 0xff ∷ 0xff ∷ 0xff ∷ 0xff ∷ 0xff ∷ 0xff ∷ 0xff ∷ 0xff ∷ 0x7f ∷ [])) ≡ Fault Other 16
  pub too_long : u64 (start_of (0x80 ∷ 0x80 ∷ 0x80 ∷ 0x80 ∷ 0x80 ∷ 0x80 ∷ 0x80 ∷ 0x80 ∷ 0x80 ∷ 0x80 ∷ [])) ≡ Fault Other 16
  pub too_long_and_large : u64 (start_of (0xff ∷ 0xff ∷ 0xff ∷ 0xff ∷ 0xff ∷ 0xff ∷ 0xff ∷ 0xff ∷ 0xff ∷ 0x81 ∷ [])) ≡ Fault Other 16

pub record SignedEdges32 : Type 0 where
  pub none : s32 (start_of []) ≡ Short 7 1
  pub cut_short : s32 (start_of (0x80 ∷ 0x80 ∷ 0x80 ∷ 0x80 ∷ [])) ≡ Short 11 1
  pub one_byte_positive : s32 (start_of (0x3f ∷ [])) ≡ Done (pos 63) (behind 1 [])
  pub one_byte_negative : s32 (start_of (0x40 ∷ [])) ≡ Done (negsuc 63) (behind 1 [])
  pub largest : s32 (start_of (0xff ∷ 0xff ∷ 0xff ∷ 0xff ∷ 0x07 ∷ [])) ≡ Done (pos 2147483647) (behind 5 [])
  pub least : s32 (start_of (0x80 ∷ 0x80 ∷ 0x80 ∷ 0x80 ∷ 0x78 ∷ [])) ≡ Done (negsuc 2147483647) (behind 5 [])
  pub padded : s32 (start_of (0x80 ∷ 0x80 ∷ 0x80 ∷ 0x80 ∷ 0x00 ∷ [])) ≡ Done (pos 0) (behind 5 [])
  pub padded_negative : s32 (start_of (0xff ∷ 0xff ∷ 0xff ∷ 0xff ∷ 0x7f ∷ [])) ≡ Done (negsuc 0) (behind 5 [])
  pub one_too_large : s32 (start_of (0x80 ∷ 0x80 ∷ 0x80 ∷ 0x80 ∷ 0x08 ∷ [])) ≡ Fault Other 11
  pub one_too_small : s32 (start_of (0xff ∷ 0xff ∷ 0xff ∷ 0xff ∷ 0x77 ∷ [])) ≡ Fault Other 11
  pub too_long : s32 (start_of (0x80 ∷ 0x80 ∷ 0x80 ∷ 0x80 ∷ 0x80 ∷ [])) ≡ Fault Other 11
  pub too_long_and_large : s32 (start_of (0xff ∷ 0xff ∷ 0xff ∷ 0xff ∷ 0xff ∷ [])) ≡ Fault Other 11

pub record SignedEdges33 : Type 0 where
  pub none : s33 (start_of []) ≡ Short 7 1
  pub cut_short : s33 (start_of (0x80 ∷ 0x80 ∷ 0x80 ∷ 0x80 ∷ [])) ≡ Short 11 1
  pub one_byte_positive : s33 (start_of (0x3f ∷ [])) ≡ Done (pos 63) (behind 1 [])
  pub one_byte_negative : s33 (start_of (0x40 ∷ [])) ≡ Done (negsuc 63) (behind 1 [])
  pub largest : s33 (start_of (0xff ∷ 0xff ∷ 0xff ∷ 0xff ∷ 0x0f ∷ [])) ≡ Done (pos 4294967295) (behind 5 [])
  pub least : s33 (start_of (0x80 ∷ 0x80 ∷ 0x80 ∷ 0x80 ∷ 0x70 ∷ [])) ≡ Done (negsuc 4294967295) (behind 5 [])
  pub padded : s33 (start_of (0x80 ∷ 0x80 ∷ 0x80 ∷ 0x80 ∷ 0x00 ∷ [])) ≡ Done (pos 0) (behind 5 [])
  pub padded_negative : s33 (start_of (0xff ∷ 0xff ∷ 0xff ∷ 0xff ∷ 0x7f ∷ [])) ≡ Done (negsuc 0) (behind 5 [])
  pub one_too_large : s33 (start_of (0x80 ∷ 0x80 ∷ 0x80 ∷ 0x80 ∷ 0x10 ∷ [])) ≡ Fault Other 11
  pub one_too_small : s33 (start_of (0xff ∷ 0xff ∷ 0xff ∷ 0xff ∷ 0x6f ∷ [])) ≡ Fault Other 11
  pub too_long : s33 (start_of (0x80 ∷ 0x80 ∷ 0x80 ∷ 0x80 ∷ 0x80 ∷ [])) ≡ Fault Other 11
  pub too_long_and_large : s33 (start_of (0xff ∷ 0xff ∷ 0xff ∷ 0xff ∷ 0xff ∷ [])) ≡ Fault Other 11

pub record SignedEdges64 : Type 0 where
  pub none : s64 (start_of []) ≡ Short 7 1
  pub cut_short : s64 (start_of (0x80 ∷ 0x80 ∷ 0x80 ∷ 0x80 ∷ 0x80 ∷ 0x80 ∷ 0x80 ∷ 0x80 ∷ 0x80 ∷ [])) ≡ Short 16 1
  pub one_byte_positive : s64 (start_of (0x3f ∷ [])) ≡ Done (pos 63) (behind 1 [])
  pub one_byte_negative : s64 (start_of (0x40 ∷ [])) ≡ Done (negsuc 63) (behind 1 [])
  pub largest : s64 (start_of (0xff ∷ 0xff ∷ 0xff ∷ 0xff ∷ 0xff ∷ 0xff ∷ 0xff ∷ 0xff ∷ 0xff ∷ 0x00 ∷ [])) ≡ Done (pos 9223372036854775807) (behind 10 [])
  pub least : s64 (start_of (0x80 ∷ 0x80 ∷ 0x80 ∷ 0x80 ∷ 0x80 ∷ 0x80 ∷ 0x80 ∷ 0x80 ∷ 0x80 ∷ 0x7f ∷ [])) ≡ Done (negsuc 9223372036854775807) (behind 10 [])
  pub padded : s64 (start_of (0x80 ∷ 0x80 ∷ 0x80 ∷ 0x80 ∷ 0x80 ∷ 0x80 ∷ 0x80 ∷ 0x80 ∷ 0x80 ∷ 0x00 ∷ [])) ≡ Done (pos 0) (behind 10 [])
  pub padded_negative : s64 (start_of (0xff ∷ 0xff ∷ 0xff ∷ 0xff ∷ 0xff ∷ 0xff ∷ 0xff ∷ 0xff ∷ 0xff ∷ 0x7f ∷ [])) ≡ Done (negsuc 0) (behind 10 [])
  pub one_too_large : s64 (start_of (0x80 ∷ 0x80 ∷ 0x80 ∷ 0x80 ∷ 0x80 ∷ 0x80 ∷ 0x80 ∷ 0x80 ∷ 0x80 ∷ 0x01 ∷ [])) ≡ Fault Other 16
  pub one_too_small : s64 (start_of (0xff ∷ 0xff ∷ 0xff ∷ 0xff ∷ 0xff ∷ 0xff ∷ 0xff ∷ 0xff ∷ 0xff ∷ 0x7e ∷ [])) ≡ Fault Other 16
  pub too_long : s64 (start_of (0x80 ∷ 0x80 ∷ 0x80 ∷ 0x80 ∷ 0x80 ∷ 0x80 ∷ 0x80 ∷ 0x80 ∷ 0x80 ∷ 0x80 ∷ [])) ≡ Fault Other 16
  pub too_long_and_large : s64 (start_of (0xff ∷ 0xff ∷ 0xff ∷ 0xff ∷ 0xff ∷ 0xff ∷ 0xff ∷ 0xff ∷ 0xff ∷ 0xff ∷ [])) ≡ Fault Other 16
