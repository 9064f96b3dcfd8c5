-- Operators on vectors: what each carries behind its opcode, in the order of the bytes (WebAssembly 3.0, binary format, vector
-- instructions).
use Rattle.std.specs.Prelude.{List, [], ◌∷◌}
use Rattle.wasm_operators_immediates.specs.Kinds.{Plain}
use Rattle.wasm_operators_immediates.specs.Immediates.{Immediate, Lane, Lanes, MemoryArgument, V128Constant}
use Rattle.wasm_operators_enums.specs.declared.vector.SimdOperator.{SimdOperator}
use Rattle.wasm_operators_enums.specs.declared.vector.SimdOperator.TheVariants as simd
use Rattle.wasm_operators_enums.specs.declared.vector_numeric.SimdNumericOperator.{SimdNumericOperator}

-- standard: binary-instr-vec: what follows each opcode
-- of operators that carry something
abbrev pub simd_immediates : SimdOperator → List Immediate
simd_immediates (simd.V128Load memarg) = MemoryArgument Plain 4 memarg ∷ []
simd_immediates (simd.V128Load8x8S memarg) = MemoryArgument Plain 3 memarg ∷ []
simd_immediates (simd.V128Load8x8U memarg) = MemoryArgument Plain 3 memarg ∷ []
simd_immediates (simd.V128Load16x4S memarg) = MemoryArgument Plain 3 memarg ∷ []
simd_immediates (simd.V128Load16x4U memarg) = MemoryArgument Plain 3 memarg ∷ []
simd_immediates (simd.V128Load32x2S memarg) = MemoryArgument Plain 3 memarg ∷ []
simd_immediates (simd.V128Load32x2U memarg) = MemoryArgument Plain 3 memarg ∷ []
simd_immediates (simd.V128Load8Splat memarg) = MemoryArgument Plain 0 memarg ∷ []
simd_immediates (simd.V128Load16Splat memarg) = MemoryArgument Plain 1 memarg ∷ []
simd_immediates (simd.V128Load32Splat memarg) = MemoryArgument Plain 2 memarg ∷ []
simd_immediates (simd.V128Load64Splat memarg) = MemoryArgument Plain 3 memarg ∷ []
simd_immediates (simd.V128Store memarg) = MemoryArgument Plain 4 memarg ∷ []
simd_immediates (simd.V128Const value) = V128Constant value ∷ []
simd_immediates (simd.I8x16Shuffle lanes) = Lanes lanes ∷ []
simd_immediates (simd.I8x16ExtractLaneS lane) = Lane 16 lane ∷ []
simd_immediates (simd.I8x16ExtractLaneU lane) = Lane 16 lane ∷ []
simd_immediates (simd.I8x16ReplaceLane lane) = Lane 16 lane ∷ []
simd_immediates (simd.I16x8ExtractLaneS lane) = Lane 8 lane ∷ []
simd_immediates (simd.I16x8ExtractLaneU lane) = Lane 8 lane ∷ []
simd_immediates (simd.I16x8ReplaceLane lane) = Lane 8 lane ∷ []
simd_immediates (simd.I32x4ExtractLane lane) = Lane 4 lane ∷ []
simd_immediates (simd.I32x4ReplaceLane lane) = Lane 4 lane ∷ []
simd_immediates (simd.I64x2ExtractLane lane) = Lane 2 lane ∷ []
simd_immediates (simd.I64x2ReplaceLane lane) = Lane 2 lane ∷ []
simd_immediates (simd.F32x4ExtractLane lane) = Lane 4 lane ∷ []
simd_immediates (simd.F32x4ReplaceLane lane) = Lane 4 lane ∷ []
simd_immediates (simd.F64x2ExtractLane lane) = Lane 2 lane ∷ []
simd_immediates (simd.F64x2ReplaceLane lane) = Lane 2 lane ∷ []
simd_immediates (simd.V128Load8Lane memarg lane) = MemoryArgument Plain 0 memarg ∷ Lane 16 lane ∷ []
simd_immediates (simd.V128Load16Lane memarg lane) = MemoryArgument Plain 1 memarg ∷ Lane 8 lane ∷ []
simd_immediates (simd.V128Load32Lane memarg lane) = MemoryArgument Plain 2 memarg ∷ Lane 4 lane ∷ []
simd_immediates (simd.V128Load64Lane memarg lane) = MemoryArgument Plain 3 memarg ∷ Lane 2 lane ∷ []
simd_immediates (simd.V128Store8Lane memarg lane) = MemoryArgument Plain 0 memarg ∷ Lane 16 lane ∷ []
simd_immediates (simd.V128Store16Lane memarg lane) = MemoryArgument Plain 1 memarg ∷ Lane 8 lane ∷ []
simd_immediates (simd.V128Store32Lane memarg lane) = MemoryArgument Plain 2 memarg ∷ Lane 4 lane ∷ []
simd_immediates (simd.V128Store64Lane memarg lane) = MemoryArgument Plain 3 memarg ∷ Lane 2 lane ∷ []
simd_immediates (simd.V128Load32Zero memarg) = MemoryArgument Plain 2 memarg ∷ []
simd_immediates (simd.V128Load64Zero memarg) = MemoryArgument Plain 3 memarg ∷ []

-- standard: binary-instr-vec: nothing follows an opcode
-- none of the others carries anything
abbrev pub simd_numeric_immediates : SimdNumericOperator → List Immediate
simd_numeric_immediates o = []
