-- Operators on vectors, with immediates, as the list has them (written by docs/operators/make_list_rows.py).
use Rattle.std.specs.Prelude.{List, [], ◌∷◌, codes, Some}
use Rattle.wasm_operators_immediates.specs.declared.proposal.Proposal.TheVariants as proposal
use Rattle.wasm_operators_immediates.specs.Kinds.{MemoryArgument, V128Constant, Lane, Lanes, Plain}
use Rattle.wasm_operators_enums.specs.declared.vector.SimdOperator.TheVariants as simd
use Rattle.wasm_operators_enums.specs.Op as op
use Rattle.wasm_operators_tests.specs.list.Listed.{Carried, Listed, listed}

abbrev pub simd_rows : Carried → List Listed
simd_rows c =
    listed (op.Simd (simd.V128Load c.memarg)) proposal.Simd (codes "v128.load") (Some 0xfd) 0x00 (MemoryArgument Plain 4 ∷ []) ∷
    listed (op.Simd (simd.V128Load8x8S c.memarg)) proposal.Simd (codes "v128.load8x8_s") (Some 0xfd) 0x01 (MemoryArgument Plain 3 ∷ []) ∷
    listed (op.Simd (simd.V128Load8x8U c.memarg)) proposal.Simd (codes "v128.load8x8_u") (Some 0xfd) 0x02 (MemoryArgument Plain 3 ∷ []) ∷
    listed (op.Simd (simd.V128Load16x4S c.memarg)) proposal.Simd (codes "v128.load16x4_s") (Some 0xfd) 0x03 (MemoryArgument Plain 3 ∷ []) ∷
    listed (op.Simd (simd.V128Load16x4U c.memarg)) proposal.Simd (codes "v128.load16x4_u") (Some 0xfd) 0x04 (MemoryArgument Plain 3 ∷ []) ∷
    listed (op.Simd (simd.V128Load32x2S c.memarg)) proposal.Simd (codes "v128.load32x2_s") (Some 0xfd) 0x05 (MemoryArgument Plain 3 ∷ []) ∷
    listed (op.Simd (simd.V128Load32x2U c.memarg)) proposal.Simd (codes "v128.load32x2_u") (Some 0xfd) 0x06 (MemoryArgument Plain 3 ∷ []) ∷
    listed (op.Simd (simd.V128Load8Splat c.memarg)) proposal.Simd (codes "v128.load8_splat") (Some 0xfd) 0x07 (MemoryArgument Plain 0 ∷ []) ∷
    listed (op.Simd (simd.V128Load16Splat c.memarg)) proposal.Simd (codes "v128.load16_splat") (Some 0xfd) 0x08 (MemoryArgument Plain 1 ∷ []) ∷
    listed (op.Simd (simd.V128Load32Splat c.memarg)) proposal.Simd (codes "v128.load32_splat") (Some 0xfd) 0x09 (MemoryArgument Plain 2 ∷ []) ∷
    listed (op.Simd (simd.V128Load64Splat c.memarg)) proposal.Simd (codes "v128.load64_splat") (Some 0xfd) 0x0a (MemoryArgument Plain 3 ∷ []) ∷
    listed (op.Simd (simd.V128Store c.memarg)) proposal.Simd (codes "v128.store") (Some 0xfd) 0x0b (MemoryArgument Plain 4 ∷ []) ∷
    listed (op.Simd (simd.V128Const c.vector)) proposal.Simd (codes "v128.const") (Some 0xfd) 0x0c (V128Constant ∷ []) ∷
    listed (op.Simd (simd.I8x16Shuffle c.lanes)) proposal.Simd (codes "i8x16.shuffle") (Some 0xfd) 0x0d (Lanes ∷ []) ∷
    listed (op.Simd (simd.I8x16ExtractLaneS c.number)) proposal.Simd (codes "i8x16.extract_lane_s") (Some 0xfd) 0x15 (Lane 16 ∷ []) ∷
    listed (op.Simd (simd.I8x16ExtractLaneU c.number)) proposal.Simd (codes "i8x16.extract_lane_u") (Some 0xfd) 0x16 (Lane 16 ∷ []) ∷
    listed (op.Simd (simd.I8x16ReplaceLane c.number)) proposal.Simd (codes "i8x16.replace_lane") (Some 0xfd) 0x17 (Lane 16 ∷ []) ∷
    listed (op.Simd (simd.I16x8ExtractLaneS c.number)) proposal.Simd (codes "i16x8.extract_lane_s") (Some 0xfd) 0x18 (Lane 8 ∷ []) ∷
    listed (op.Simd (simd.I16x8ExtractLaneU c.number)) proposal.Simd (codes "i16x8.extract_lane_u") (Some 0xfd) 0x19 (Lane 8 ∷ []) ∷
    listed (op.Simd (simd.I16x8ReplaceLane c.number)) proposal.Simd (codes "i16x8.replace_lane") (Some 0xfd) 0x1a (Lane 8 ∷ []) ∷
    listed (op.Simd (simd.I32x4ExtractLane c.number)) proposal.Simd (codes "i32x4.extract_lane") (Some 0xfd) 0x1b (Lane 4 ∷ []) ∷
    listed (op.Simd (simd.I32x4ReplaceLane c.number)) proposal.Simd (codes "i32x4.replace_lane") (Some 0xfd) 0x1c (Lane 4 ∷ []) ∷
    listed (op.Simd (simd.I64x2ExtractLane c.number)) proposal.Simd (codes "i64x2.extract_lane") (Some 0xfd) 0x1d (Lane 2 ∷ []) ∷
    listed (op.Simd (simd.I64x2ReplaceLane c.number)) proposal.Simd (codes "i64x2.replace_lane") (Some 0xfd) 0x1e (Lane 2 ∷ []) ∷
    listed (op.Simd (simd.F32x4ExtractLane c.number)) proposal.Simd (codes "f32x4.extract_lane") (Some 0xfd) 0x1f (Lane 4 ∷ []) ∷
    listed (op.Simd (simd.F32x4ReplaceLane c.number)) proposal.Simd (codes "f32x4.replace_lane") (Some 0xfd) 0x20 (Lane 4 ∷ []) ∷
    listed (op.Simd (simd.F64x2ExtractLane c.number)) proposal.Simd (codes "f64x2.extract_lane") (Some 0xfd) 0x21 (Lane 2 ∷ []) ∷
    listed (op.Simd (simd.F64x2ReplaceLane c.number)) proposal.Simd (codes "f64x2.replace_lane") (Some 0xfd) 0x22 (Lane 2 ∷ []) ∷
    listed (op.Simd (simd.V128Load8Lane c.memarg c.number)) proposal.Simd (codes "v128.load8_lane") (Some 0xfd) 0x54 (MemoryArgument Plain 0 ∷ Lane 16 ∷ []) ∷
    listed (op.Simd (simd.V128Load16Lane c.memarg c.number)) proposal.Simd (codes "v128.load16_lane") (Some 0xfd) 0x55 (MemoryArgument Plain 1 ∷ Lane 8 ∷ []) ∷
    listed (op.Simd (simd.V128Load32Lane c.memarg c.number)) proposal.Simd (codes "v128.load32_lane") (Some 0xfd) 0x56 (MemoryArgument Plain 2 ∷ Lane 4 ∷ []) ∷
    listed (op.Simd (simd.V128Load64Lane c.memarg c.number)) proposal.Simd (codes "v128.load64_lane") (Some 0xfd) 0x57 (MemoryArgument Plain 3 ∷ Lane 2 ∷ []) ∷
    listed (op.Simd (simd.V128Store8Lane c.memarg c.number)) proposal.Simd (codes "v128.store8_lane") (Some 0xfd) 0x58 (MemoryArgument Plain 0 ∷ Lane 16 ∷ []) ∷
    listed (op.Simd (simd.V128Store16Lane c.memarg c.number)) proposal.Simd (codes "v128.store16_lane") (Some 0xfd) 0x59 (MemoryArgument Plain 1 ∷ Lane 8 ∷ []) ∷
    listed (op.Simd (simd.V128Store32Lane c.memarg c.number)) proposal.Simd (codes "v128.store32_lane") (Some 0xfd) 0x5a (MemoryArgument Plain 2 ∷ Lane 4 ∷ []) ∷
    listed (op.Simd (simd.V128Store64Lane c.memarg c.number)) proposal.Simd (codes "v128.store64_lane") (Some 0xfd) 0x5b (MemoryArgument Plain 3 ∷ Lane 2 ∷ []) ∷
    listed (op.Simd (simd.V128Load32Zero c.memarg)) proposal.Simd (codes "v128.load32_zero") (Some 0xfd) 0x5c (MemoryArgument Plain 2 ∷ []) ∷
    listed (op.Simd (simd.V128Load64Zero c.memarg)) proposal.Simd (codes "v128.load64_zero") (Some 0xfd) 0x5d (MemoryArgument Plain 3 ∷ []) ∷ []
