-- Operators on numbers, as the list has them (written by docs/operators/make_list_rows.py).
use Rattle.std.specs.Prelude.{List, [], ◌∷◌, codes, Some, None}
use Rattle.wasm_operators_immediates.specs.declared.proposal.Proposal.TheVariants as proposal
use Rattle.wasm_operators_enums.specs.declared.numeric.NumericOperator.TheVariants as numeric
use Rattle.wasm_operators_enums.specs.Op as op
use Rattle.wasm_operators_tests.specs.list.Listed.{Carried, Listed, listed}

abbrev pub numeric_rows : Carried → List Listed
numeric_rows c =
    listed (op.Numeric numeric.I32Eqz) proposal.Mvp (codes "i32.eqz") None 0x45 [] ∷
    listed (op.Numeric numeric.I32Eq) proposal.Mvp (codes "i32.eq") None 0x46 [] ∷
    listed (op.Numeric numeric.I32Ne) proposal.Mvp (codes "i32.ne") None 0x47 [] ∷
    listed (op.Numeric numeric.I32LtS) proposal.Mvp (codes "i32.lt_s") None 0x48 [] ∷
    listed (op.Numeric numeric.I32LtU) proposal.Mvp (codes "i32.lt_u") None 0x49 [] ∷
    listed (op.Numeric numeric.I32GtS) proposal.Mvp (codes "i32.gt_s") None 0x4a [] ∷
    listed (op.Numeric numeric.I32GtU) proposal.Mvp (codes "i32.gt_u") None 0x4b [] ∷
    listed (op.Numeric numeric.I32LeS) proposal.Mvp (codes "i32.le_s") None 0x4c [] ∷
    listed (op.Numeric numeric.I32LeU) proposal.Mvp (codes "i32.le_u") None 0x4d [] ∷
    listed (op.Numeric numeric.I32GeS) proposal.Mvp (codes "i32.ge_s") None 0x4e [] ∷
    listed (op.Numeric numeric.I32GeU) proposal.Mvp (codes "i32.ge_u") None 0x4f [] ∷
    listed (op.Numeric numeric.I64Eqz) proposal.Mvp (codes "i64.eqz") None 0x50 [] ∷
    listed (op.Numeric numeric.I64Eq) proposal.Mvp (codes "i64.eq") None 0x51 [] ∷
    listed (op.Numeric numeric.I64Ne) proposal.Mvp (codes "i64.ne") None 0x52 [] ∷
    listed (op.Numeric numeric.I64LtS) proposal.Mvp (codes "i64.lt_s") None 0x53 [] ∷
    listed (op.Numeric numeric.I64LtU) proposal.Mvp (codes "i64.lt_u") None 0x54 [] ∷
    listed (op.Numeric numeric.I64GtS) proposal.Mvp (codes "i64.gt_s") None 0x55 [] ∷
    listed (op.Numeric numeric.I64GtU) proposal.Mvp (codes "i64.gt_u") None 0x56 [] ∷
    listed (op.Numeric numeric.I64LeS) proposal.Mvp (codes "i64.le_s") None 0x57 [] ∷
    listed (op.Numeric numeric.I64LeU) proposal.Mvp (codes "i64.le_u") None 0x58 [] ∷
    listed (op.Numeric numeric.I64GeS) proposal.Mvp (codes "i64.ge_s") None 0x59 [] ∷
    listed (op.Numeric numeric.I64GeU) proposal.Mvp (codes "i64.ge_u") None 0x5a [] ∷
    listed (op.Numeric numeric.F32Eq) proposal.Mvp (codes "f32.eq") None 0x5b [] ∷
    listed (op.Numeric numeric.F32Ne) proposal.Mvp (codes "f32.ne") None 0x5c [] ∷
    listed (op.Numeric numeric.F32Lt) proposal.Mvp (codes "f32.lt") None 0x5d [] ∷
    listed (op.Numeric numeric.F32Gt) proposal.Mvp (codes "f32.gt") None 0x5e [] ∷
    listed (op.Numeric numeric.F32Le) proposal.Mvp (codes "f32.le") None 0x5f [] ∷
    listed (op.Numeric numeric.F32Ge) proposal.Mvp (codes "f32.ge") None 0x60 [] ∷
    listed (op.Numeric numeric.F64Eq) proposal.Mvp (codes "f64.eq") None 0x61 [] ∷
    listed (op.Numeric numeric.F64Ne) proposal.Mvp (codes "f64.ne") None 0x62 [] ∷
    listed (op.Numeric numeric.F64Lt) proposal.Mvp (codes "f64.lt") None 0x63 [] ∷
    listed (op.Numeric numeric.F64Gt) proposal.Mvp (codes "f64.gt") None 0x64 [] ∷
    listed (op.Numeric numeric.F64Le) proposal.Mvp (codes "f64.le") None 0x65 [] ∷
    listed (op.Numeric numeric.F64Ge) proposal.Mvp (codes "f64.ge") None 0x66 [] ∷
    listed (op.Numeric numeric.I32Clz) proposal.Mvp (codes "i32.clz") None 0x67 [] ∷
    listed (op.Numeric numeric.I32Ctz) proposal.Mvp (codes "i32.ctz") None 0x68 [] ∷
    listed (op.Numeric numeric.I32Popcnt) proposal.Mvp (codes "i32.popcnt") None 0x69 [] ∷
    listed (op.Numeric numeric.I32Add) proposal.Mvp (codes "i32.add") None 0x6a [] ∷
    listed (op.Numeric numeric.I32Sub) proposal.Mvp (codes "i32.sub") None 0x6b [] ∷
    listed (op.Numeric numeric.I32Mul) proposal.Mvp (codes "i32.mul") None 0x6c [] ∷
    listed (op.Numeric numeric.I32DivS) proposal.Mvp (codes "i32.div_s") None 0x6d [] ∷
    listed (op.Numeric numeric.I32DivU) proposal.Mvp (codes "i32.div_u") None 0x6e [] ∷
    listed (op.Numeric numeric.I32RemS) proposal.Mvp (codes "i32.rem_s") None 0x6f [] ∷
    listed (op.Numeric numeric.I32RemU) proposal.Mvp (codes "i32.rem_u") None 0x70 [] ∷
    listed (op.Numeric numeric.I32And) proposal.Mvp (codes "i32.and") None 0x71 [] ∷
    listed (op.Numeric numeric.I32Or) proposal.Mvp (codes "i32.or") None 0x72 [] ∷
    listed (op.Numeric numeric.I32Xor) proposal.Mvp (codes "i32.xor") None 0x73 [] ∷
    listed (op.Numeric numeric.I32Shl) proposal.Mvp (codes "i32.shl") None 0x74 [] ∷
    listed (op.Numeric numeric.I32ShrS) proposal.Mvp (codes "i32.shr_s") None 0x75 [] ∷
    listed (op.Numeric numeric.I32ShrU) proposal.Mvp (codes "i32.shr_u") None 0x76 [] ∷
    listed (op.Numeric numeric.I32Rotl) proposal.Mvp (codes "i32.rotl") None 0x77 [] ∷
    listed (op.Numeric numeric.I32Rotr) proposal.Mvp (codes "i32.rotr") None 0x78 [] ∷
    listed (op.Numeric numeric.I64Clz) proposal.Mvp (codes "i64.clz") None 0x79 [] ∷
    listed (op.Numeric numeric.I64Ctz) proposal.Mvp (codes "i64.ctz") None 0x7a [] ∷
    listed (op.Numeric numeric.I64Popcnt) proposal.Mvp (codes "i64.popcnt") None 0x7b [] ∷
    listed (op.Numeric numeric.I64Add) proposal.Mvp (codes "i64.add") None 0x7c [] ∷
    listed (op.Numeric numeric.I64Sub) proposal.Mvp (codes "i64.sub") None 0x7d [] ∷
    listed (op.Numeric numeric.I64Mul) proposal.Mvp (codes "i64.mul") None 0x7e [] ∷
    listed (op.Numeric numeric.I64DivS) proposal.Mvp (codes "i64.div_s") None 0x7f [] ∷
    listed (op.Numeric numeric.I64DivU) proposal.Mvp (codes "i64.div_u") None 0x80 [] ∷
    listed (op.Numeric numeric.I64RemS) proposal.Mvp (codes "i64.rem_s") None 0x81 [] ∷
    listed (op.Numeric numeric.I64RemU) proposal.Mvp (codes "i64.rem_u") None 0x82 [] ∷
    listed (op.Numeric numeric.I64And) proposal.Mvp (codes "i64.and") None 0x83 [] ∷
    listed (op.Numeric numeric.I64Or) proposal.Mvp (codes "i64.or") None 0x84 [] ∷
    listed (op.Numeric numeric.I64Xor) proposal.Mvp (codes "i64.xor") None 0x85 [] ∷
    listed (op.Numeric numeric.I64Shl) proposal.Mvp (codes "i64.shl") None 0x86 [] ∷
    listed (op.Numeric numeric.I64ShrS) proposal.Mvp (codes "i64.shr_s") None 0x87 [] ∷
    listed (op.Numeric numeric.I64ShrU) proposal.Mvp (codes "i64.shr_u") None 0x88 [] ∷
    listed (op.Numeric numeric.I64Rotl) proposal.Mvp (codes "i64.rotl") None 0x89 [] ∷
    listed (op.Numeric numeric.I64Rotr) proposal.Mvp (codes "i64.rotr") None 0x8a [] ∷
    listed (op.Numeric numeric.F32Abs) proposal.Mvp (codes "f32.abs") None 0x8b [] ∷
    listed (op.Numeric numeric.F32Neg) proposal.Mvp (codes "f32.neg") None 0x8c [] ∷
    listed (op.Numeric numeric.F32Ceil) proposal.Mvp (codes "f32.ceil") None 0x8d [] ∷
    listed (op.Numeric numeric.F32Floor) proposal.Mvp (codes "f32.floor") None 0x8e [] ∷
    listed (op.Numeric numeric.F32Trunc) proposal.Mvp (codes "f32.trunc") None 0x8f [] ∷
    listed (op.Numeric numeric.F32Nearest) proposal.Mvp (codes "f32.nearest") None 0x90 [] ∷
    listed (op.Numeric numeric.F32Sqrt) proposal.Mvp (codes "f32.sqrt") None 0x91 [] ∷
    listed (op.Numeric numeric.F32Add) proposal.Mvp (codes "f32.add") None 0x92 [] ∷
    listed (op.Numeric numeric.F32Sub) proposal.Mvp (codes "f32.sub") None 0x93 [] ∷
    listed (op.Numeric numeric.F32Mul) proposal.Mvp (codes "f32.mul") None 0x94 [] ∷
    listed (op.Numeric numeric.F32Div) proposal.Mvp (codes "f32.div") None 0x95 [] ∷
    listed (op.Numeric numeric.F32Min) proposal.Mvp (codes "f32.min") None 0x96 [] ∷
    listed (op.Numeric numeric.F32Max) proposal.Mvp (codes "f32.max") None 0x97 [] ∷
    listed (op.Numeric numeric.F32Copysign) proposal.Mvp (codes "f32.copysign") None 0x98 [] ∷
    listed (op.Numeric numeric.F64Abs) proposal.Mvp (codes "f64.abs") None 0x99 [] ∷
    listed (op.Numeric numeric.F64Neg) proposal.Mvp (codes "f64.neg") None 0x9a [] ∷
    listed (op.Numeric numeric.F64Ceil) proposal.Mvp (codes "f64.ceil") None 0x9b [] ∷
    listed (op.Numeric numeric.F64Floor) proposal.Mvp (codes "f64.floor") None 0x9c [] ∷
    listed (op.Numeric numeric.F64Trunc) proposal.Mvp (codes "f64.trunc") None 0x9d [] ∷
    listed (op.Numeric numeric.F64Nearest) proposal.Mvp (codes "f64.nearest") None 0x9e [] ∷
    listed (op.Numeric numeric.F64Sqrt) proposal.Mvp (codes "f64.sqrt") None 0x9f [] ∷
    listed (op.Numeric numeric.F64Add) proposal.Mvp (codes "f64.add") None 0xa0 [] ∷
    listed (op.Numeric numeric.F64Sub) proposal.Mvp (codes "f64.sub") None 0xa1 [] ∷
    listed (op.Numeric numeric.F64Mul) proposal.Mvp (codes "f64.mul") None 0xa2 [] ∷
    listed (op.Numeric numeric.F64Div) proposal.Mvp (codes "f64.div") None 0xa3 [] ∷
    listed (op.Numeric numeric.F64Min) proposal.Mvp (codes "f64.min") None 0xa4 [] ∷
    listed (op.Numeric numeric.F64Max) proposal.Mvp (codes "f64.max") None 0xa5 [] ∷
    listed (op.Numeric numeric.F64Copysign) proposal.Mvp (codes "f64.copysign") None 0xa6 [] ∷
    listed (op.Numeric numeric.I32WrapI64) proposal.Mvp (codes "i32.wrap_i64") None 0xa7 [] ∷
    listed (op.Numeric numeric.I32TruncF32S) proposal.Mvp (codes "i32.trunc_f32_s") None 0xa8 [] ∷
    listed (op.Numeric numeric.I32TruncF32U) proposal.Mvp (codes "i32.trunc_f32_u") None 0xa9 [] ∷
    listed (op.Numeric numeric.I32TruncF64S) proposal.Mvp (codes "i32.trunc_f64_s") None 0xaa [] ∷
    listed (op.Numeric numeric.I32TruncF64U) proposal.Mvp (codes "i32.trunc_f64_u") None 0xab [] ∷
    listed (op.Numeric numeric.I64ExtendI32S) proposal.Mvp (codes "i64.extend_i32_s") None 0xac [] ∷
    listed (op.Numeric numeric.I64ExtendI32U) proposal.Mvp (codes "i64.extend_i32_u") None 0xad [] ∷
    listed (op.Numeric numeric.I64TruncF32S) proposal.Mvp (codes "i64.trunc_f32_s") None 0xae [] ∷
    listed (op.Numeric numeric.I64TruncF32U) proposal.Mvp (codes "i64.trunc_f32_u") None 0xaf [] ∷
    listed (op.Numeric numeric.I64TruncF64S) proposal.Mvp (codes "i64.trunc_f64_s") None 0xb0 [] ∷
    listed (op.Numeric numeric.I64TruncF64U) proposal.Mvp (codes "i64.trunc_f64_u") None 0xb1 [] ∷
    listed (op.Numeric numeric.F32ConvertI32S) proposal.Mvp (codes "f32.convert_i32_s") None 0xb2 [] ∷
    listed (op.Numeric numeric.F32ConvertI32U) proposal.Mvp (codes "f32.convert_i32_u") None 0xb3 [] ∷
    listed (op.Numeric numeric.F32ConvertI64S) proposal.Mvp (codes "f32.convert_i64_s") None 0xb4 [] ∷
    listed (op.Numeric numeric.F32ConvertI64U) proposal.Mvp (codes "f32.convert_i64_u") None 0xb5 [] ∷
    listed (op.Numeric numeric.F32DemoteF64) proposal.Mvp (codes "f32.demote_f64") None 0xb6 [] ∷
    listed (op.Numeric numeric.F64ConvertI32S) proposal.Mvp (codes "f64.convert_i32_s") None 0xb7 [] ∷
    listed (op.Numeric numeric.F64ConvertI32U) proposal.Mvp (codes "f64.convert_i32_u") None 0xb8 [] ∷
    listed (op.Numeric numeric.F64ConvertI64S) proposal.Mvp (codes "f64.convert_i64_s") None 0xb9 [] ∷
    listed (op.Numeric numeric.F64ConvertI64U) proposal.Mvp (codes "f64.convert_i64_u") None 0xba [] ∷
    listed (op.Numeric numeric.F64PromoteF32) proposal.Mvp (codes "f64.promote_f32") None 0xbb [] ∷
    listed (op.Numeric numeric.I32ReinterpretF32) proposal.Mvp (codes "i32.reinterpret_f32") None 0xbc [] ∷
    listed (op.Numeric numeric.I64ReinterpretF64) proposal.Mvp (codes "i64.reinterpret_f64") None 0xbd [] ∷
    listed (op.Numeric numeric.F32ReinterpretI32) proposal.Mvp (codes "f32.reinterpret_i32") None 0xbe [] ∷
    listed (op.Numeric numeric.F64ReinterpretI64) proposal.Mvp (codes "f64.reinterpret_i64") None 0xbf [] ∷
    listed (op.Numeric numeric.I32Extend8S) proposal.SignExtension (codes "i32.extend8_s") None 0xc0 [] ∷
    listed (op.Numeric numeric.I32Extend16S) proposal.SignExtension (codes "i32.extend16_s") None 0xc1 [] ∷
    listed (op.Numeric numeric.I64Extend8S) proposal.SignExtension (codes "i64.extend8_s") None 0xc2 [] ∷
    listed (op.Numeric numeric.I64Extend16S) proposal.SignExtension (codes "i64.extend16_s") None 0xc3 [] ∷
    listed (op.Numeric numeric.I64Extend32S) proposal.SignExtension (codes "i64.extend32_s") None 0xc4 [] ∷
    listed (op.Numeric numeric.I32TruncSatF32S) proposal.SaturatingFloatToInt (codes "i32.trunc_sat_f32_s") (Some 0xfc) 0x00 [] ∷
    listed (op.Numeric numeric.I32TruncSatF32U) proposal.SaturatingFloatToInt (codes "i32.trunc_sat_f32_u") (Some 0xfc) 0x01 [] ∷
    listed (op.Numeric numeric.I32TruncSatF64S) proposal.SaturatingFloatToInt (codes "i32.trunc_sat_f64_s") (Some 0xfc) 0x02 [] ∷
    listed (op.Numeric numeric.I32TruncSatF64U) proposal.SaturatingFloatToInt (codes "i32.trunc_sat_f64_u") (Some 0xfc) 0x03 [] ∷
    listed (op.Numeric numeric.I64TruncSatF32S) proposal.SaturatingFloatToInt (codes "i64.trunc_sat_f32_s") (Some 0xfc) 0x04 [] ∷
    listed (op.Numeric numeric.I64TruncSatF32U) proposal.SaturatingFloatToInt (codes "i64.trunc_sat_f32_u") (Some 0xfc) 0x05 [] ∷
    listed (op.Numeric numeric.I64TruncSatF64S) proposal.SaturatingFloatToInt (codes "i64.trunc_sat_f64_s") (Some 0xfc) 0x06 [] ∷
    listed (op.Numeric numeric.I64TruncSatF64U) proposal.SaturatingFloatToInt (codes "i64.trunc_sat_f64_u") (Some 0xfc) 0x07 [] ∷
    listed (op.Numeric numeric.I64Add128) proposal.WideArithmetic (codes "i64.add128") (Some 0xfc) 0x13 [] ∷
    listed (op.Numeric numeric.I64Sub128) proposal.WideArithmetic (codes "i64.sub128") (Some 0xfc) 0x14 [] ∷
    listed (op.Numeric numeric.I64MulWideS) proposal.WideArithmetic (codes "i64.mul_wide_s") (Some 0xfc) 0x15 [] ∷
    listed (op.Numeric numeric.I64MulWideU) proposal.WideArithmetic (codes "i64.mul_wide_u") (Some 0xfc) 0x16 [] ∷ []
