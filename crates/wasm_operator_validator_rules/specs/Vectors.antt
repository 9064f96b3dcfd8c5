-- Operators on vectors by class (WebAssembly 3.0, validation, vector instructions and memory instructions; relaxed ones among them).
--
-- They are judged if the features have the switch (`judges_vectors`); without it none of them has a row.
use Rattle.std.specs.Prelude.{Bool, true, false, List, [], ◌∷◌, ◌||◌}
use Rattle.wasm_types.specs.trees.Types.{Number, i32, i64, f32, f64, v128}
use Rattle.wasm_operators_immediates.specs.declared.memory.MemArg.{MemArg}
use Rattle.wasm_operators_enums.specs.declared.vector.SimdOperator.{SimdOperator}
use Rattle.wasm_operators_enums.specs.declared.vector.SimdOperator.TheVariants as simd
use Rattle.wasm_operators_enums.specs.declared.vector_numeric.SimdNumericOperator.{SimdNumericOperator}
use Rattle.wasm_operators_enums.specs.declared.vector_numeric.SimdNumericOperator.TheVariants as lanes
use Rattle.wasm_operator_validator_rules.specs.Numbers.{is_float}
use Rattle.wasm_operator_validator_rules.specs.Accesses.{Access, AccessOf, load, store, load_lane}

-- ---- classes

-- what the lanes of a vector are; its bits alone
pub data Shape : Type 0 where
  i8x16 : Shape
  i16x8 : Shape
  i32x4 : Shape
  i64x2 : Shape
  f32x4 : Shape
  f64x2 : Shape
  bits128 : Shape

-- the number that stands for a lane as an operand
abbrev pub lane_of : Shape → Number
lane_of i8x16 = i32
lane_of i16x8 = i32
lane_of i32x4 = i32
lane_of i64x2 = i64
lane_of f32x4 = f32
lane_of f64x2 = f64
lane_of bits128 = i32

-- What an operator does with vectors of a shape. A shift is by a number; a conversion makes lanes of another shape; two vectors are joined
-- to one of another shape, and what they make may be added to a third; a lane is repeated, taken out, or replaced.
pub data VectorClass : Type 0 where
  constant : VectorClass
  unary : Shape → VectorClass
  binary : Shape → VectorClass
  ternary : Shape → VectorClass
  compare : Shape → VectorClass
  test : Shape → VectorClass
  shift : Shape → VectorClass
  convert : Shape → Shape → VectorClass
  join : Shape → Shape → VectorClass
  accumulate : Shape → Shape → VectorClass
  splat : Shape → VectorClass
  extract : Shape → VectorClass
  replace : Shape → VectorClass

-- standard: part of vector_class
abbrev pub vectors_taken : VectorClass → List Number
vectors_taken constant = []
vectors_taken (unary s) = v128 ∷ []
vectors_taken (binary s) = v128 ∷ v128 ∷ []
vectors_taken (ternary s) = v128 ∷ v128 ∷ v128 ∷ []
vectors_taken (compare s) = v128 ∷ v128 ∷ []
vectors_taken (test s) = v128 ∷ []
vectors_taken (shift s) = v128 ∷ i32 ∷ []
vectors_taken (convert s t) = v128 ∷ []
vectors_taken (join s t) = v128 ∷ v128 ∷ []
vectors_taken (accumulate s t) = v128 ∷ v128 ∷ v128 ∷ []
vectors_taken (splat s) = lane_of s ∷ []
vectors_taken (extract s) = v128 ∷ []
vectors_taken (replace s) = v128 ∷ lane_of s ∷ []

-- standard: part of vector_class
abbrev pub vectors_given : VectorClass → List Number
vectors_given (test s) = i32 ∷ []
vectors_given (extract s) = lane_of s ∷ []
vectors_given c = v128 ∷ []

-- standard: changes: floats are a feature of their own
-- whether lanes are floats, on either side: those are a feature of their own
abbrev pub has_float_lanes : VectorClass → Bool
has_float_lanes constant = false
has_float_lanes (unary s) = is_float (lane_of s)
has_float_lanes (binary s) = is_float (lane_of s)
has_float_lanes (ternary s) = is_float (lane_of s)
has_float_lanes (compare s) = is_float (lane_of s)
has_float_lanes (test s) = is_float (lane_of s)
has_float_lanes (shift s) = is_float (lane_of s)
has_float_lanes (convert s t) = is_float (lane_of s) || is_float (lane_of t)
has_float_lanes (join s t) = is_float (lane_of s) || is_float (lane_of t)
has_float_lanes (accumulate s t) = is_float (lane_of s) || is_float (lane_of t)
has_float_lanes (splat s) = is_float (lane_of s)
has_float_lanes (extract s) = is_float (lane_of s)
has_float_lanes (replace s) = is_float (lane_of s)

-- what an operator that carries something does: it works on vectors, or reaches into a memory
pub data VectorWork : Type 0 where
  on_lanes : VectorClass → VectorWork
  reaches : AccessOf → VectorWork

abbrev pub has_float_work : VectorWork → Bool
has_float_work (on_lanes c) = has_float_lanes c
has_float_work (reaches a) = false

abbrev reaching : Access → MemArg → VectorWork
reaching access a = reaches (record { access = access; argument = a })

-- ---- the table of those that carry something

-- standard: valid-instr-vec: v128.const (for on_lanes constant)
-- standard: valid-instr-vec: shuffle (for on_lanes (binary)
-- standard: valid-instr-vec: extract_lane (for on_lanes (extract)
-- standard: valid-instr-vec: replace_lane (for on_lanes (replace)
-- standard: valid-instr-memory: v128.load, v128.loadNxM_sx, v128.loadN_splat, v128.loadN_zero (for reaching (load v128)
-- standard: valid-instr-memory: v128.loadN_lane (for reaching load_lane)
-- standard: valid-instr-memory: v128.store, v128.storeN_lane (for reaching (store v128)
abbrev pub work_of : SimdOperator → VectorWork
work_of (simd.V128Load memarg) = reaching (load v128) memarg
work_of (simd.V128Load8x8S memarg) = reaching (load v128) memarg
work_of (simd.V128Load8x8U memarg) = reaching (load v128) memarg
work_of (simd.V128Load16x4S memarg) = reaching (load v128) memarg
work_of (simd.V128Load16x4U memarg) = reaching (load v128) memarg
work_of (simd.V128Load32x2S memarg) = reaching (load v128) memarg
work_of (simd.V128Load32x2U memarg) = reaching (load v128) memarg
work_of (simd.V128Load8Splat memarg) = reaching (load v128) memarg
work_of (simd.V128Load16Splat memarg) = reaching (load v128) memarg
work_of (simd.V128Load32Splat memarg) = reaching (load v128) memarg
work_of (simd.V128Load64Splat memarg) = reaching (load v128) memarg
work_of (simd.V128Store memarg) = reaching (store v128) memarg
work_of (simd.V128Const value) = on_lanes constant
work_of (simd.I8x16Shuffle lanes) = on_lanes (binary i8x16)
work_of (simd.I8x16ExtractLaneS lane) = on_lanes (extract i8x16)
work_of (simd.I8x16ExtractLaneU lane) = on_lanes (extract i8x16)
work_of (simd.I8x16ReplaceLane lane) = on_lanes (replace i8x16)
work_of (simd.I16x8ExtractLaneS lane) = on_lanes (extract i16x8)
work_of (simd.I16x8ExtractLaneU lane) = on_lanes (extract i16x8)
work_of (simd.I16x8ReplaceLane lane) = on_lanes (replace i16x8)
work_of (simd.I32x4ExtractLane lane) = on_lanes (extract i32x4)
work_of (simd.I32x4ReplaceLane lane) = on_lanes (replace i32x4)
work_of (simd.I64x2ExtractLane lane) = on_lanes (extract i64x2)
work_of (simd.I64x2ReplaceLane lane) = on_lanes (replace i64x2)
work_of (simd.F32x4ExtractLane lane) = on_lanes (extract f32x4)
work_of (simd.F32x4ReplaceLane lane) = on_lanes (replace f32x4)
work_of (simd.F64x2ExtractLane lane) = on_lanes (extract f64x2)
work_of (simd.F64x2ReplaceLane lane) = on_lanes (replace f64x2)
work_of (simd.V128Load8Lane memarg lane) = reaching load_lane memarg
work_of (simd.V128Load16Lane memarg lane) = reaching load_lane memarg
work_of (simd.V128Load32Lane memarg lane) = reaching load_lane memarg
work_of (simd.V128Load64Lane memarg lane) = reaching load_lane memarg
work_of (simd.V128Store8Lane memarg lane) = reaching (store v128) memarg
work_of (simd.V128Store16Lane memarg lane) = reaching (store v128) memarg
work_of (simd.V128Store32Lane memarg lane) = reaching (store v128) memarg
work_of (simd.V128Store64Lane memarg lane) = reaching (store v128) memarg
work_of (simd.V128Load32Zero memarg) = reaching (load v128) memarg
work_of (simd.V128Load64Zero memarg) = reaching (load v128) memarg

-- ---- the table of those that carry nothing

-- standard: valid-instr-vec: v128.vvunop, shape.vunop (for unary)
-- standard: valid-instr-vec: v128.vvbinop, shape.vbinop, shape.vswizzlop (for binary)
-- standard: valid-instr-vec: v128.vvternop, shape.vternop (for ternary)
-- standard: valid-instr-vec: shape.vrelop (for compare)
-- standard: valid-instr-vec: v128.vvtestop, shape.vtestop, shape.bitmask (for test)
-- standard: valid-instr-vec: shape.vshiftop (for shift)
-- standard: valid-instr-vec: shape.vcvtop, shape.vextunop (for convert)
-- standard: valid-instr-vec: shape.narrow, shape.vextbinop (for join)
-- standard: valid-instr-vec: shape.vextternop (for accumulate)
-- standard: valid-instr-vec: shape.splat (for splat)
abbrev pub vector_class : SimdNumericOperator → VectorClass
vector_class lanes.I8x16Swizzle = binary i8x16
vector_class lanes.I8x16Splat = splat i8x16
vector_class lanes.I16x8Splat = splat i16x8
vector_class lanes.I32x4Splat = splat i32x4
vector_class lanes.I64x2Splat = splat i64x2
vector_class lanes.F32x4Splat = splat f32x4
vector_class lanes.F64x2Splat = splat f64x2
vector_class lanes.I8x16Eq = compare i8x16
vector_class lanes.I8x16Ne = compare i8x16
vector_class lanes.I8x16LtS = compare i8x16
vector_class lanes.I8x16LtU = compare i8x16
vector_class lanes.I8x16GtS = compare i8x16
vector_class lanes.I8x16GtU = compare i8x16
vector_class lanes.I8x16LeS = compare i8x16
vector_class lanes.I8x16LeU = compare i8x16
vector_class lanes.I8x16GeS = compare i8x16
vector_class lanes.I8x16GeU = compare i8x16
vector_class lanes.I16x8Eq = compare i16x8
vector_class lanes.I16x8Ne = compare i16x8
vector_class lanes.I16x8LtS = compare i16x8
vector_class lanes.I16x8LtU = compare i16x8
vector_class lanes.I16x8GtS = compare i16x8
vector_class lanes.I16x8GtU = compare i16x8
vector_class lanes.I16x8LeS = compare i16x8
vector_class lanes.I16x8LeU = compare i16x8
vector_class lanes.I16x8GeS = compare i16x8
vector_class lanes.I16x8GeU = compare i16x8
vector_class lanes.I32x4Eq = compare i32x4
vector_class lanes.I32x4Ne = compare i32x4
vector_class lanes.I32x4LtS = compare i32x4
vector_class lanes.I32x4LtU = compare i32x4
vector_class lanes.I32x4GtS = compare i32x4
vector_class lanes.I32x4GtU = compare i32x4
vector_class lanes.I32x4LeS = compare i32x4
vector_class lanes.I32x4LeU = compare i32x4
vector_class lanes.I32x4GeS = compare i32x4
vector_class lanes.I32x4GeU = compare i32x4
vector_class lanes.F32x4Eq = compare f32x4
vector_class lanes.F32x4Ne = compare f32x4
vector_class lanes.F32x4Lt = compare f32x4
vector_class lanes.F32x4Gt = compare f32x4
vector_class lanes.F32x4Le = compare f32x4
vector_class lanes.F32x4Ge = compare f32x4
vector_class lanes.F64x2Eq = compare f64x2
vector_class lanes.F64x2Ne = compare f64x2
vector_class lanes.F64x2Lt = compare f64x2
vector_class lanes.F64x2Gt = compare f64x2
vector_class lanes.F64x2Le = compare f64x2
vector_class lanes.F64x2Ge = compare f64x2
vector_class lanes.V128Not = unary bits128
vector_class lanes.V128And = binary bits128
vector_class lanes.V128AndNot = binary bits128
vector_class lanes.V128Or = binary bits128
vector_class lanes.V128Xor = binary bits128
vector_class lanes.V128Bitselect = ternary bits128
vector_class lanes.V128AnyTrue = test bits128
vector_class lanes.F32x4DemoteF64x2Zero = convert f64x2 f32x4
vector_class lanes.F64x2PromoteLowF32x4 = convert f32x4 f64x2
vector_class lanes.I8x16Abs = unary i8x16
vector_class lanes.I8x16Neg = unary i8x16
vector_class lanes.I8x16Popcnt = unary i8x16
vector_class lanes.I8x16AllTrue = test i8x16
vector_class lanes.I8x16Bitmask = test i8x16
vector_class lanes.I8x16NarrowI16x8S = join i16x8 i8x16
vector_class lanes.I8x16NarrowI16x8U = join i16x8 i8x16
vector_class lanes.F32x4Ceil = unary f32x4
vector_class lanes.F32x4Floor = unary f32x4
vector_class lanes.F32x4Trunc = unary f32x4
vector_class lanes.F32x4Nearest = unary f32x4
vector_class lanes.I8x16Shl = shift i8x16
vector_class lanes.I8x16ShrS = shift i8x16
vector_class lanes.I8x16ShrU = shift i8x16
vector_class lanes.I8x16Add = binary i8x16
vector_class lanes.I8x16AddSatS = binary i8x16
vector_class lanes.I8x16AddSatU = binary i8x16
vector_class lanes.I8x16Sub = binary i8x16
vector_class lanes.I8x16SubSatS = binary i8x16
vector_class lanes.I8x16SubSatU = binary i8x16
vector_class lanes.F64x2Ceil = unary f64x2
vector_class lanes.F64x2Floor = unary f64x2
vector_class lanes.I8x16MinS = binary i8x16
vector_class lanes.I8x16MinU = binary i8x16
vector_class lanes.I8x16MaxS = binary i8x16
vector_class lanes.I8x16MaxU = binary i8x16
vector_class lanes.F64x2Trunc = unary f64x2
vector_class lanes.I8x16AvgrU = binary i8x16
vector_class lanes.I16x8ExtAddPairwiseI8x16S = convert i8x16 i16x8
vector_class lanes.I16x8ExtAddPairwiseI8x16U = convert i8x16 i16x8
vector_class lanes.I32x4ExtAddPairwiseI16x8S = convert i16x8 i32x4
vector_class lanes.I32x4ExtAddPairwiseI16x8U = convert i16x8 i32x4
vector_class lanes.I16x8Abs = unary i16x8
vector_class lanes.I16x8Neg = unary i16x8
vector_class lanes.I16x8Q15MulrSatS = binary i16x8
vector_class lanes.I16x8AllTrue = test i16x8
vector_class lanes.I16x8Bitmask = test i16x8
vector_class lanes.I16x8NarrowI32x4S = join i32x4 i16x8
vector_class lanes.I16x8NarrowI32x4U = join i32x4 i16x8
vector_class lanes.I16x8ExtendLowI8x16S = convert i8x16 i16x8
vector_class lanes.I16x8ExtendHighI8x16S = convert i8x16 i16x8
vector_class lanes.I16x8ExtendLowI8x16U = convert i8x16 i16x8
vector_class lanes.I16x8ExtendHighI8x16U = convert i8x16 i16x8
vector_class lanes.I16x8Shl = shift i16x8
vector_class lanes.I16x8ShrS = shift i16x8
vector_class lanes.I16x8ShrU = shift i16x8
vector_class lanes.I16x8Add = binary i16x8
vector_class lanes.I16x8AddSatS = binary i16x8
vector_class lanes.I16x8AddSatU = binary i16x8
vector_class lanes.I16x8Sub = binary i16x8
vector_class lanes.I16x8SubSatS = binary i16x8
vector_class lanes.I16x8SubSatU = binary i16x8
vector_class lanes.F64x2Nearest = unary f64x2
vector_class lanes.I16x8Mul = binary i16x8
vector_class lanes.I16x8MinS = binary i16x8
vector_class lanes.I16x8MinU = binary i16x8
vector_class lanes.I16x8MaxS = binary i16x8
vector_class lanes.I16x8MaxU = binary i16x8
vector_class lanes.I16x8AvgrU = binary i16x8
vector_class lanes.I16x8ExtMulLowI8x16S = join i8x16 i16x8
vector_class lanes.I16x8ExtMulHighI8x16S = join i8x16 i16x8
vector_class lanes.I16x8ExtMulLowI8x16U = join i8x16 i16x8
vector_class lanes.I16x8ExtMulHighI8x16U = join i8x16 i16x8
vector_class lanes.I32x4Abs = unary i32x4
vector_class lanes.I32x4Neg = unary i32x4
vector_class lanes.I32x4AllTrue = test i32x4
vector_class lanes.I32x4Bitmask = test i32x4
vector_class lanes.I32x4ExtendLowI16x8S = convert i16x8 i32x4
vector_class lanes.I32x4ExtendHighI16x8S = convert i16x8 i32x4
vector_class lanes.I32x4ExtendLowI16x8U = convert i16x8 i32x4
vector_class lanes.I32x4ExtendHighI16x8U = convert i16x8 i32x4
vector_class lanes.I32x4Shl = shift i32x4
vector_class lanes.I32x4ShrS = shift i32x4
vector_class lanes.I32x4ShrU = shift i32x4
vector_class lanes.I32x4Add = binary i32x4
vector_class lanes.I32x4Sub = binary i32x4
vector_class lanes.I32x4Mul = binary i32x4
vector_class lanes.I32x4MinS = binary i32x4
vector_class lanes.I32x4MinU = binary i32x4
vector_class lanes.I32x4MaxS = binary i32x4
vector_class lanes.I32x4MaxU = binary i32x4
vector_class lanes.I32x4DotI16x8S = join i16x8 i32x4
vector_class lanes.I32x4ExtMulLowI16x8S = join i16x8 i32x4
vector_class lanes.I32x4ExtMulHighI16x8S = join i16x8 i32x4
vector_class lanes.I32x4ExtMulLowI16x8U = join i16x8 i32x4
vector_class lanes.I32x4ExtMulHighI16x8U = join i16x8 i32x4
vector_class lanes.I64x2Abs = unary i64x2
vector_class lanes.I64x2Neg = unary i64x2
vector_class lanes.I64x2AllTrue = test i64x2
vector_class lanes.I64x2Bitmask = test i64x2
vector_class lanes.I64x2ExtendLowI32x4S = convert i32x4 i64x2
vector_class lanes.I64x2ExtendHighI32x4S = convert i32x4 i64x2
vector_class lanes.I64x2ExtendLowI32x4U = convert i32x4 i64x2
vector_class lanes.I64x2ExtendHighI32x4U = convert i32x4 i64x2
vector_class lanes.I64x2Shl = shift i64x2
vector_class lanes.I64x2ShrS = shift i64x2
vector_class lanes.I64x2ShrU = shift i64x2
vector_class lanes.I64x2Add = binary i64x2
vector_class lanes.I64x2Sub = binary i64x2
vector_class lanes.I64x2Mul = binary i64x2
vector_class lanes.I64x2Eq = compare i64x2
vector_class lanes.I64x2Ne = compare i64x2
vector_class lanes.I64x2LtS = compare i64x2
vector_class lanes.I64x2GtS = compare i64x2
vector_class lanes.I64x2LeS = compare i64x2
vector_class lanes.I64x2GeS = compare i64x2
vector_class lanes.I64x2ExtMulLowI32x4S = join i32x4 i64x2
vector_class lanes.I64x2ExtMulHighI32x4S = join i32x4 i64x2
vector_class lanes.I64x2ExtMulLowI32x4U = join i32x4 i64x2
vector_class lanes.I64x2ExtMulHighI32x4U = join i32x4 i64x2
vector_class lanes.F32x4Abs = unary f32x4
vector_class lanes.F32x4Neg = unary f32x4
vector_class lanes.F32x4Sqrt = unary f32x4
vector_class lanes.F32x4Add = binary f32x4
vector_class lanes.F32x4Sub = binary f32x4
vector_class lanes.F32x4Mul = binary f32x4
vector_class lanes.F32x4Div = binary f32x4
vector_class lanes.F32x4Min = binary f32x4
vector_class lanes.F32x4Max = binary f32x4
vector_class lanes.F32x4PMin = binary f32x4
vector_class lanes.F32x4PMax = binary f32x4
vector_class lanes.F64x2Abs = unary f64x2
vector_class lanes.F64x2Neg = unary f64x2
vector_class lanes.F64x2Sqrt = unary f64x2
vector_class lanes.F64x2Add = binary f64x2
vector_class lanes.F64x2Sub = binary f64x2
vector_class lanes.F64x2Mul = binary f64x2
vector_class lanes.F64x2Div = binary f64x2
vector_class lanes.F64x2Min = binary f64x2
vector_class lanes.F64x2Max = binary f64x2
vector_class lanes.F64x2PMin = binary f64x2
vector_class lanes.F64x2PMax = binary f64x2
vector_class lanes.I32x4TruncSatF32x4S = convert f32x4 i32x4
vector_class lanes.I32x4TruncSatF32x4U = convert f32x4 i32x4
vector_class lanes.F32x4ConvertI32x4S = convert i32x4 f32x4
vector_class lanes.F32x4ConvertI32x4U = convert i32x4 f32x4
vector_class lanes.I32x4TruncSatF64x2SZero = convert f64x2 i32x4
vector_class lanes.I32x4TruncSatF64x2UZero = convert f64x2 i32x4
vector_class lanes.F64x2ConvertLowI32x4S = convert i32x4 f64x2
vector_class lanes.F64x2ConvertLowI32x4U = convert i32x4 f64x2
vector_class lanes.I8x16RelaxedSwizzle = binary i8x16
vector_class lanes.I32x4RelaxedTruncF32x4S = convert f32x4 i32x4
vector_class lanes.I32x4RelaxedTruncF32x4U = convert f32x4 i32x4
vector_class lanes.I32x4RelaxedTruncF64x2SZero = convert f64x2 i32x4
vector_class lanes.I32x4RelaxedTruncF64x2UZero = convert f64x2 i32x4
vector_class lanes.F32x4RelaxedMadd = ternary f32x4
vector_class lanes.F32x4RelaxedNmadd = ternary f32x4
vector_class lanes.F64x2RelaxedMadd = ternary f64x2
vector_class lanes.F64x2RelaxedNmadd = ternary f64x2
vector_class lanes.I8x16RelaxedLaneselect = ternary i8x16
vector_class lanes.I16x8RelaxedLaneselect = ternary i16x8
vector_class lanes.I32x4RelaxedLaneselect = ternary i32x4
vector_class lanes.I64x2RelaxedLaneselect = ternary i64x2
vector_class lanes.F32x4RelaxedMin = binary f32x4
vector_class lanes.F32x4RelaxedMax = binary f32x4
vector_class lanes.F64x2RelaxedMin = binary f64x2
vector_class lanes.F64x2RelaxedMax = binary f64x2
vector_class lanes.I16x8RelaxedQ15mulrS = binary i16x8
vector_class lanes.I16x8RelaxedDotI8x16I7x16S = join i8x16 i16x8
vector_class lanes.I32x4RelaxedDotI8x16I7x16AddS = accumulate i8x16 i32x4
