-- Operators on numbers are found by prefix and code, and made of their immediates.
use Rattle.std.proofs.Common.{List, [], ◌∷◌, map, refl}
use Rattle.wasm_operators_immediates.proofs.Codes.{Told, Made}
use Rattle.wasm_operators_immediates.specs.Immediates.{kind_of}
use Rattle.wasm_operators_immediates.proofs.Makers.{Maker, bare}
use Rattle.wasm_operators_enums.specs.numbers.Table.{numeric_info}
use Rattle.wasm_operators_enums.specs.numbers.Immediates.{numeric_immediates}
use Rattle.wasm_operators_enums.specs.declared.numeric.NumericOperator.{NumericOperator}
use Rattle.wasm_operators_enums.specs.declared.numeric.NumericOperator.TheVariants as numeric

-- ---- numeric

abbrev pub numeric_operators : List NumericOperator
numeric_operators =
    numeric.I32Eqz ∷ numeric.I32Eq ∷ numeric.I32Ne ∷ numeric.I32LtS ∷ numeric.I32LtU ∷ numeric.I32GtS ∷
    numeric.I32GtU ∷ numeric.I32LeS ∷ numeric.I32LeU ∷ numeric.I32GeS ∷ numeric.I32GeU ∷ numeric.I64Eqz ∷
    numeric.I64Eq ∷ numeric.I64Ne ∷ numeric.I64LtS ∷ numeric.I64LtU ∷ numeric.I64GtS ∷ numeric.I64GtU ∷
    numeric.I64LeS ∷ numeric.I64LeU ∷ numeric.I64GeS ∷ numeric.I64GeU ∷ numeric.F32Eq ∷ numeric.F32Ne ∷
    numeric.F32Lt ∷ numeric.F32Gt ∷ numeric.F32Le ∷ numeric.F32Ge ∷ numeric.F64Eq ∷ numeric.F64Ne ∷ numeric.F64Lt ∷
    numeric.F64Gt ∷ numeric.F64Le ∷ numeric.F64Ge ∷ numeric.I32Clz ∷ numeric.I32Ctz ∷ numeric.I32Popcnt ∷
    numeric.I32Add ∷ numeric.I32Sub ∷ numeric.I32Mul ∷ numeric.I32DivS ∷ numeric.I32DivU ∷ numeric.I32RemS ∷
    numeric.I32RemU ∷ numeric.I32And ∷ numeric.I32Or ∷ numeric.I32Xor ∷ numeric.I32Shl ∷ numeric.I32ShrS ∷
    numeric.I32ShrU ∷ numeric.I32Rotl ∷ numeric.I32Rotr ∷ numeric.I64Clz ∷ numeric.I64Ctz ∷ numeric.I64Popcnt ∷
    numeric.I64Add ∷ numeric.I64Sub ∷ numeric.I64Mul ∷ numeric.I64DivS ∷ numeric.I64DivU ∷ numeric.I64RemS ∷
    numeric.I64RemU ∷ numeric.I64And ∷ numeric.I64Or ∷ numeric.I64Xor ∷ numeric.I64Shl ∷ numeric.I64ShrS ∷
    numeric.I64ShrU ∷ numeric.I64Rotl ∷ numeric.I64Rotr ∷ numeric.F32Abs ∷ numeric.F32Neg ∷ numeric.F32Ceil ∷
    numeric.F32Floor ∷ numeric.F32Trunc ∷ numeric.F32Nearest ∷ numeric.F32Sqrt ∷ numeric.F32Add ∷ numeric.F32Sub ∷
    numeric.F32Mul ∷ numeric.F32Div ∷ numeric.F32Min ∷ numeric.F32Max ∷ numeric.F32Copysign ∷ numeric.F64Abs ∷
    numeric.F64Neg ∷ numeric.F64Ceil ∷ numeric.F64Floor ∷ numeric.F64Trunc ∷ numeric.F64Nearest ∷ numeric.F64Sqrt ∷
    numeric.F64Add ∷ numeric.F64Sub ∷ numeric.F64Mul ∷ numeric.F64Div ∷ numeric.F64Min ∷ numeric.F64Max ∷
    numeric.F64Copysign ∷ numeric.I32WrapI64 ∷ numeric.I32TruncF32S ∷ numeric.I32TruncF32U ∷ numeric.I32TruncF64S ∷
    numeric.I32TruncF64U ∷ numeric.I64ExtendI32S ∷ numeric.I64ExtendI32U ∷ numeric.I64TruncF32S ∷
    numeric.I64TruncF32U ∷ numeric.I64TruncF64S ∷ numeric.I64TruncF64U ∷ numeric.F32ConvertI32S ∷
    numeric.F32ConvertI32U ∷ numeric.F32ConvertI64S ∷ numeric.F32ConvertI64U ∷ numeric.F32DemoteF64 ∷
    numeric.F64ConvertI32S ∷ numeric.F64ConvertI32U ∷ numeric.F64ConvertI64S ∷ numeric.F64ConvertI64U ∷
    numeric.F64PromoteF32 ∷ numeric.I32ReinterpretF32 ∷ numeric.I64ReinterpretF64 ∷ numeric.F32ReinterpretI32 ∷
    numeric.F64ReinterpretI64 ∷ numeric.I32Extend8S ∷ numeric.I32Extend16S ∷ numeric.I64Extend8S ∷
    numeric.I64Extend16S ∷ numeric.I64Extend32S ∷ numeric.I32TruncSatF32S ∷ numeric.I32TruncSatF32U ∷
    numeric.I32TruncSatF64S ∷ numeric.I32TruncSatF64U ∷ numeric.I64TruncSatF32S ∷ numeric.I64TruncSatF32U ∷
    numeric.I64TruncSatF64S ∷ numeric.I64TruncSatF64U ∷ numeric.I64Add128 ∷ numeric.I64Sub128 ∷ numeric.I64MulWideS ∷
    numeric.I64MulWideU ∷ []

abbrev pub numeric_list : List (NumericOperator × Maker NumericOperator)
numeric_list = map (λ (o : NumericOperator). (o, bare o)) numeric_operators

pub numeric_told : (o : NumericOperator) → Told numeric_info numeric_immediates (map kind_of) numeric_list o
numeric_told numeric.I32Eqz = (refl, refl)
numeric_told numeric.I32Eq = (refl, refl)
numeric_told numeric.I32Ne = (refl, refl)
numeric_told numeric.I32LtS = (refl, refl)
numeric_told numeric.I32LtU = (refl, refl)
numeric_told numeric.I32GtS = (refl, refl)
numeric_told numeric.I32GtU = (refl, refl)
numeric_told numeric.I32LeS = (refl, refl)
numeric_told numeric.I32LeU = (refl, refl)
numeric_told numeric.I32GeS = (refl, refl)
numeric_told numeric.I32GeU = (refl, refl)
numeric_told numeric.I64Eqz = (refl, refl)
numeric_told numeric.I64Eq = (refl, refl)
numeric_told numeric.I64Ne = (refl, refl)
numeric_told numeric.I64LtS = (refl, refl)
numeric_told numeric.I64LtU = (refl, refl)
numeric_told numeric.I64GtS = (refl, refl)
numeric_told numeric.I64GtU = (refl, refl)
numeric_told numeric.I64LeS = (refl, refl)
numeric_told numeric.I64LeU = (refl, refl)
numeric_told numeric.I64GeS = (refl, refl)
numeric_told numeric.I64GeU = (refl, refl)
numeric_told numeric.F32Eq = (refl, refl)
numeric_told numeric.F32Ne = (refl, refl)
numeric_told numeric.F32Lt = (refl, refl)
numeric_told numeric.F32Gt = (refl, refl)
numeric_told numeric.F32Le = (refl, refl)
numeric_told numeric.F32Ge = (refl, refl)
numeric_told numeric.F64Eq = (refl, refl)
numeric_told numeric.F64Ne = (refl, refl)
numeric_told numeric.F64Lt = (refl, refl)
numeric_told numeric.F64Gt = (refl, refl)
numeric_told numeric.F64Le = (refl, refl)
numeric_told numeric.F64Ge = (refl, refl)
numeric_told numeric.I32Clz = (refl, refl)
numeric_told numeric.I32Ctz = (refl, refl)
numeric_told numeric.I32Popcnt = (refl, refl)
numeric_told numeric.I32Add = (refl, refl)
numeric_told numeric.I32Sub = (refl, refl)
numeric_told numeric.I32Mul = (refl, refl)
numeric_told numeric.I32DivS = (refl, refl)
numeric_told numeric.I32DivU = (refl, refl)
numeric_told numeric.I32RemS = (refl, refl)
numeric_told numeric.I32RemU = (refl, refl)
numeric_told numeric.I32And = (refl, refl)
numeric_told numeric.I32Or = (refl, refl)
numeric_told numeric.I32Xor = (refl, refl)
numeric_told numeric.I32Shl = (refl, refl)
numeric_told numeric.I32ShrS = (refl, refl)
numeric_told numeric.I32ShrU = (refl, refl)
numeric_told numeric.I32Rotl = (refl, refl)
numeric_told numeric.I32Rotr = (refl, refl)
numeric_told numeric.I64Clz = (refl, refl)
numeric_told numeric.I64Ctz = (refl, refl)
numeric_told numeric.I64Popcnt = (refl, refl)
numeric_told numeric.I64Add = (refl, refl)
numeric_told numeric.I64Sub = (refl, refl)
numeric_told numeric.I64Mul = (refl, refl)
numeric_told numeric.I64DivS = (refl, refl)
numeric_told numeric.I64DivU = (refl, refl)
numeric_told numeric.I64RemS = (refl, refl)
numeric_told numeric.I64RemU = (refl, refl)
numeric_told numeric.I64And = (refl, refl)
numeric_told numeric.I64Or = (refl, refl)
numeric_told numeric.I64Xor = (refl, refl)
numeric_told numeric.I64Shl = (refl, refl)
numeric_told numeric.I64ShrS = (refl, refl)
numeric_told numeric.I64ShrU = (refl, refl)
numeric_told numeric.I64Rotl = (refl, refl)
numeric_told numeric.I64Rotr = (refl, refl)
numeric_told numeric.F32Abs = (refl, refl)
numeric_told numeric.F32Neg = (refl, refl)
numeric_told numeric.F32Ceil = (refl, refl)
numeric_told numeric.F32Floor = (refl, refl)
numeric_told numeric.F32Trunc = (refl, refl)
numeric_told numeric.F32Nearest = (refl, refl)
numeric_told numeric.F32Sqrt = (refl, refl)
numeric_told numeric.F32Add = (refl, refl)
numeric_told numeric.F32Sub = (refl, refl)
numeric_told numeric.F32Mul = (refl, refl)
numeric_told numeric.F32Div = (refl, refl)
numeric_told numeric.F32Min = (refl, refl)
numeric_told numeric.F32Max = (refl, refl)
numeric_told numeric.F32Copysign = (refl, refl)
numeric_told numeric.F64Abs = (refl, refl)
numeric_told numeric.F64Neg = (refl, refl)
numeric_told numeric.F64Ceil = (refl, refl)
numeric_told numeric.F64Floor = (refl, refl)
numeric_told numeric.F64Trunc = (refl, refl)
numeric_told numeric.F64Nearest = (refl, refl)
numeric_told numeric.F64Sqrt = (refl, refl)
numeric_told numeric.F64Add = (refl, refl)
numeric_told numeric.F64Sub = (refl, refl)
numeric_told numeric.F64Mul = (refl, refl)
numeric_told numeric.F64Div = (refl, refl)
numeric_told numeric.F64Min = (refl, refl)
numeric_told numeric.F64Max = (refl, refl)
numeric_told numeric.F64Copysign = (refl, refl)
numeric_told numeric.I32WrapI64 = (refl, refl)
numeric_told numeric.I32TruncF32S = (refl, refl)
numeric_told numeric.I32TruncF32U = (refl, refl)
numeric_told numeric.I32TruncF64S = (refl, refl)
numeric_told numeric.I32TruncF64U = (refl, refl)
numeric_told numeric.I64ExtendI32S = (refl, refl)
numeric_told numeric.I64ExtendI32U = (refl, refl)
numeric_told numeric.I64TruncF32S = (refl, refl)
numeric_told numeric.I64TruncF32U = (refl, refl)
numeric_told numeric.I64TruncF64S = (refl, refl)
numeric_told numeric.I64TruncF64U = (refl, refl)
numeric_told numeric.F32ConvertI32S = (refl, refl)
numeric_told numeric.F32ConvertI32U = (refl, refl)
numeric_told numeric.F32ConvertI64S = (refl, refl)
numeric_told numeric.F32ConvertI64U = (refl, refl)
numeric_told numeric.F32DemoteF64 = (refl, refl)
numeric_told numeric.F64ConvertI32S = (refl, refl)
numeric_told numeric.F64ConvertI32U = (refl, refl)
numeric_told numeric.F64ConvertI64S = (refl, refl)
numeric_told numeric.F64ConvertI64U = (refl, refl)
numeric_told numeric.F64PromoteF32 = (refl, refl)
numeric_told numeric.I32ReinterpretF32 = (refl, refl)
numeric_told numeric.I64ReinterpretF64 = (refl, refl)
numeric_told numeric.F32ReinterpretI32 = (refl, refl)
numeric_told numeric.F64ReinterpretI64 = (refl, refl)
numeric_told numeric.I32Extend8S = (refl, refl)
numeric_told numeric.I32Extend16S = (refl, refl)
numeric_told numeric.I64Extend8S = (refl, refl)
numeric_told numeric.I64Extend16S = (refl, refl)
numeric_told numeric.I64Extend32S = (refl, refl)
numeric_told numeric.I32TruncSatF32S = (refl, refl)
numeric_told numeric.I32TruncSatF32U = (refl, refl)
numeric_told numeric.I32TruncSatF64S = (refl, refl)
numeric_told numeric.I32TruncSatF64U = (refl, refl)
numeric_told numeric.I64TruncSatF32S = (refl, refl)
numeric_told numeric.I64TruncSatF32U = (refl, refl)
numeric_told numeric.I64TruncSatF64S = (refl, refl)
numeric_told numeric.I64TruncSatF64U = (refl, refl)
numeric_told numeric.I64Add128 = (refl, refl)
numeric_told numeric.I64Sub128 = (refl, refl)
numeric_told numeric.I64MulWideS = (refl, refl)
numeric_told numeric.I64MulWideU = (refl, refl)

pub numeric_made : (o : NumericOperator) → Made numeric_info numeric_immediates (map kind_of) numeric_list o
numeric_made numeric.I32Eqz = refl
numeric_made numeric.I32Eq = refl
numeric_made numeric.I32Ne = refl
numeric_made numeric.I32LtS = refl
numeric_made numeric.I32LtU = refl
numeric_made numeric.I32GtS = refl
numeric_made numeric.I32GtU = refl
numeric_made numeric.I32LeS = refl
numeric_made numeric.I32LeU = refl
numeric_made numeric.I32GeS = refl
numeric_made numeric.I32GeU = refl
numeric_made numeric.I64Eqz = refl
numeric_made numeric.I64Eq = refl
numeric_made numeric.I64Ne = refl
numeric_made numeric.I64LtS = refl
numeric_made numeric.I64LtU = refl
numeric_made numeric.I64GtS = refl
numeric_made numeric.I64GtU = refl
numeric_made numeric.I64LeS = refl
numeric_made numeric.I64LeU = refl
numeric_made numeric.I64GeS = refl
numeric_made numeric.I64GeU = refl
numeric_made numeric.F32Eq = refl
numeric_made numeric.F32Ne = refl
numeric_made numeric.F32Lt = refl
numeric_made numeric.F32Gt = refl
numeric_made numeric.F32Le = refl
numeric_made numeric.F32Ge = refl
numeric_made numeric.F64Eq = refl
numeric_made numeric.F64Ne = refl
numeric_made numeric.F64Lt = refl
numeric_made numeric.F64Gt = refl
numeric_made numeric.F64Le = refl
numeric_made numeric.F64Ge = refl
numeric_made numeric.I32Clz = refl
numeric_made numeric.I32Ctz = refl
numeric_made numeric.I32Popcnt = refl
numeric_made numeric.I32Add = refl
numeric_made numeric.I32Sub = refl
numeric_made numeric.I32Mul = refl
numeric_made numeric.I32DivS = refl
numeric_made numeric.I32DivU = refl
numeric_made numeric.I32RemS = refl
numeric_made numeric.I32RemU = refl
numeric_made numeric.I32And = refl
numeric_made numeric.I32Or = refl
numeric_made numeric.I32Xor = refl
numeric_made numeric.I32Shl = refl
numeric_made numeric.I32ShrS = refl
numeric_made numeric.I32ShrU = refl
numeric_made numeric.I32Rotl = refl
numeric_made numeric.I32Rotr = refl
numeric_made numeric.I64Clz = refl
numeric_made numeric.I64Ctz = refl
numeric_made numeric.I64Popcnt = refl
numeric_made numeric.I64Add = refl
numeric_made numeric.I64Sub = refl
numeric_made numeric.I64Mul = refl
numeric_made numeric.I64DivS = refl
numeric_made numeric.I64DivU = refl
numeric_made numeric.I64RemS = refl
numeric_made numeric.I64RemU = refl
numeric_made numeric.I64And = refl
numeric_made numeric.I64Or = refl
numeric_made numeric.I64Xor = refl
numeric_made numeric.I64Shl = refl
numeric_made numeric.I64ShrS = refl
numeric_made numeric.I64ShrU = refl
numeric_made numeric.I64Rotl = refl
numeric_made numeric.I64Rotr = refl
numeric_made numeric.F32Abs = refl
numeric_made numeric.F32Neg = refl
numeric_made numeric.F32Ceil = refl
numeric_made numeric.F32Floor = refl
numeric_made numeric.F32Trunc = refl
numeric_made numeric.F32Nearest = refl
numeric_made numeric.F32Sqrt = refl
numeric_made numeric.F32Add = refl
numeric_made numeric.F32Sub = refl
numeric_made numeric.F32Mul = refl
numeric_made numeric.F32Div = refl
numeric_made numeric.F32Min = refl
numeric_made numeric.F32Max = refl
numeric_made numeric.F32Copysign = refl
numeric_made numeric.F64Abs = refl
numeric_made numeric.F64Neg = refl
numeric_made numeric.F64Ceil = refl
numeric_made numeric.F64Floor = refl
numeric_made numeric.F64Trunc = refl
numeric_made numeric.F64Nearest = refl
numeric_made numeric.F64Sqrt = refl
numeric_made numeric.F64Add = refl
numeric_made numeric.F64Sub = refl
numeric_made numeric.F64Mul = refl
numeric_made numeric.F64Div = refl
numeric_made numeric.F64Min = refl
numeric_made numeric.F64Max = refl
numeric_made numeric.F64Copysign = refl
numeric_made numeric.I32WrapI64 = refl
numeric_made numeric.I32TruncF32S = refl
numeric_made numeric.I32TruncF32U = refl
numeric_made numeric.I32TruncF64S = refl
numeric_made numeric.I32TruncF64U = refl
numeric_made numeric.I64ExtendI32S = refl
numeric_made numeric.I64ExtendI32U = refl
numeric_made numeric.I64TruncF32S = refl
numeric_made numeric.I64TruncF32U = refl
numeric_made numeric.I64TruncF64S = refl
numeric_made numeric.I64TruncF64U = refl
numeric_made numeric.F32ConvertI32S = refl
numeric_made numeric.F32ConvertI32U = refl
numeric_made numeric.F32ConvertI64S = refl
numeric_made numeric.F32ConvertI64U = refl
numeric_made numeric.F32DemoteF64 = refl
numeric_made numeric.F64ConvertI32S = refl
numeric_made numeric.F64ConvertI32U = refl
numeric_made numeric.F64ConvertI64S = refl
numeric_made numeric.F64ConvertI64U = refl
numeric_made numeric.F64PromoteF32 = refl
numeric_made numeric.I32ReinterpretF32 = refl
numeric_made numeric.I64ReinterpretF64 = refl
numeric_made numeric.F32ReinterpretI32 = refl
numeric_made numeric.F64ReinterpretI64 = refl
numeric_made numeric.I32Extend8S = refl
numeric_made numeric.I32Extend16S = refl
numeric_made numeric.I64Extend8S = refl
numeric_made numeric.I64Extend16S = refl
numeric_made numeric.I64Extend32S = refl
numeric_made numeric.I32TruncSatF32S = refl
numeric_made numeric.I32TruncSatF32U = refl
numeric_made numeric.I32TruncSatF64S = refl
numeric_made numeric.I32TruncSatF64U = refl
numeric_made numeric.I64TruncSatF32S = refl
numeric_made numeric.I64TruncSatF32U = refl
numeric_made numeric.I64TruncSatF64S = refl
numeric_made numeric.I64TruncSatF64U = refl
numeric_made numeric.I64Add128 = refl
numeric_made numeric.I64Sub128 = refl
numeric_made numeric.I64MulWideS = refl
numeric_made numeric.I64MulWideU = refl
