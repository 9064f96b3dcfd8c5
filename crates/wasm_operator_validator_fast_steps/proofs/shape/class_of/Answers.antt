-- The code of each class of one code, and what the operators of the others take and give.
use Rattle.std.proofs.Common.{refl}
use Rattle.wasm_operators_enums.specs.declared.numeric.NumericOperator.TheVariants as numeric
use Rattle.wasm_operator_validator_fast_steps.proofs.Coded.{coded, coded_sign}
use Rattle.wasm_operator_validator_fast_steps.proofs.shape.class_of.Goals as goal

pub returns-in-0 : goal.returns-in-0
returns-in-0 c = c.in-0.is

pub returns-in-1 : goal.returns-in-1
returns-in-1 c = c.in-1.is

pub returns-in-2 : goal.returns-in-2
returns-in-2 c = c.in-2.is

pub returns-in-3 : goal.returns-in-3
returns-in-3 c = c.in-3.is

pub returns-in-4 : goal.returns-in-4
returns-in-4 c = c.in-4.is

pub returns-in-5 : goal.returns-in-5
returns-in-5 c = c.in-5.is

pub returns-in-11 : goal.returns-in-11
returns-in-11 c = c.in-11.is

pub returns-in-12 : goal.returns-in-12
returns-in-12 c = c.in-12.is

pub returns-in-13 : goal.returns-in-13
returns-in-13 c = c.in-13.is

pub returns-in-14 : goal.returns-in-14
returns-in-14 c = c.in-14.is

pub returns-in-15 : goal.returns-in-15
returns-in-15 c = c.in-15.is

pub returns-in-16 : goal.returns-in-16
returns-in-16 c = c.in-16.is

pub returns-in-17 : goal.returns-in-17
returns-in-17 c = c.in-17.is

pub returns-in-18 : goal.returns-in-18
returns-in-18 c = c.in-18.is

pub returns-in-19 : goal.returns-in-19
returns-in-19 c = c.in-19.is

pub returns-in-26 : goal.returns-in-26
returns-in-26 c = c.in-26.is

pub returns-in-27 : goal.returns-in-27
returns-in-27 c = c.in-27.is

pub returns-in-32 : goal.returns-in-32
returns-in-32 c = c.in-32.is

pub returns-in-33 : goal.returns-in-33
returns-in-33 c = c.in-33.is

pub returns-in-34 : goal.returns-in-34
returns-in-34 c = c.in-34.is

pub returns-in-35 : goal.returns-in-35
returns-in-35 c = c.in-35.is

pub returns-in-36 : goal.returns-in-36
returns-in-36 c = c.in-36.is

pub returns-in-40 : goal.returns-in-40
returns-in-40 c = c.in-40.is

pub returns-in-41 : goal.returns-in-41
returns-in-41 c = c.in-41.is

pub returns-in-45 : goal.returns-in-45
returns-in-45 c = c.in-45.is

pub returns-in-54 : goal.returns-in-54
returns-in-54 c = c.in-54.is

pub returns-in-55 : goal.returns-in-55
returns-in-55 c = c.in-55.is

pub returns-in-63 : goal.returns-in-63
returns-in-63 c = c.in-63.is

pub returns-in-64 : goal.returns-in-64
returns-in-64 c = c.in-64.is

pub returns-in-65 : goal.returns-in-65
returns-in-65 c = c.in-65.is

pub returns-in-66 : goal.returns-in-66
returns-in-66 c = c.in-66.is

pub returns-in-67 : goal.returns-in-67
returns-in-67 c = c.in-67.is

pub returns-in-68 : goal.returns-in-68
returns-in-68 c = c.in-68.is

pub returns-in-69 : goal.returns-in-69
returns-in-69 c = coded numeric.I32Eqz c.in-69.is refl refl refl refl (λ ids. refl) (λ ids. refl)

pub returns-in-70 : goal.returns-in-70
returns-in-70 c = coded numeric.I32Eq c.in-70.is refl refl refl refl (λ ids. refl) (λ ids. refl)

pub returns-in-71 : goal.returns-in-71
returns-in-71 c = coded numeric.I32Ne c.in-71.is refl refl refl refl (λ ids. refl) (λ ids. refl)

pub returns-in-72 : goal.returns-in-72
returns-in-72 c = coded numeric.I32LtS c.in-72.is refl refl refl refl (λ ids. refl) (λ ids. refl)

pub returns-in-73 : goal.returns-in-73
returns-in-73 c = coded numeric.I32LtU c.in-73.is refl refl refl refl (λ ids. refl) (λ ids. refl)

pub returns-in-74 : goal.returns-in-74
returns-in-74 c = coded numeric.I32GtS c.in-74.is refl refl refl refl (λ ids. refl) (λ ids. refl)

pub returns-in-75 : goal.returns-in-75
returns-in-75 c = coded numeric.I32GtU c.in-75.is refl refl refl refl (λ ids. refl) (λ ids. refl)

pub returns-in-76 : goal.returns-in-76
returns-in-76 c = coded numeric.I32LeS c.in-76.is refl refl refl refl (λ ids. refl) (λ ids. refl)

pub returns-in-77 : goal.returns-in-77
returns-in-77 c = coded numeric.I32LeU c.in-77.is refl refl refl refl (λ ids. refl) (λ ids. refl)

pub returns-in-78 : goal.returns-in-78
returns-in-78 c = coded numeric.I32GeS c.in-78.is refl refl refl refl (λ ids. refl) (λ ids. refl)

pub returns-in-79 : goal.returns-in-79
returns-in-79 c = coded numeric.I32GeU c.in-79.is refl refl refl refl (λ ids. refl) (λ ids. refl)

pub returns-in-80 : goal.returns-in-80
returns-in-80 c = coded numeric.I64Eqz c.in-80.is refl refl refl refl (λ ids. refl) (λ ids. refl)

pub returns-in-81 : goal.returns-in-81
returns-in-81 c = coded numeric.I64Eq c.in-81.is refl refl refl refl (λ ids. refl) (λ ids. refl)

pub returns-in-82 : goal.returns-in-82
returns-in-82 c = coded numeric.I64Ne c.in-82.is refl refl refl refl (λ ids. refl) (λ ids. refl)

pub returns-in-83 : goal.returns-in-83
returns-in-83 c = coded numeric.I64LtS c.in-83.is refl refl refl refl (λ ids. refl) (λ ids. refl)

pub returns-in-84 : goal.returns-in-84
returns-in-84 c = coded numeric.I64LtU c.in-84.is refl refl refl refl (λ ids. refl) (λ ids. refl)

pub returns-in-85 : goal.returns-in-85
returns-in-85 c = coded numeric.I64GtS c.in-85.is refl refl refl refl (λ ids. refl) (λ ids. refl)

pub returns-in-86 : goal.returns-in-86
returns-in-86 c = coded numeric.I64GtU c.in-86.is refl refl refl refl (λ ids. refl) (λ ids. refl)

pub returns-in-87 : goal.returns-in-87
returns-in-87 c = coded numeric.I64LeS c.in-87.is refl refl refl refl (λ ids. refl) (λ ids. refl)

pub returns-in-88 : goal.returns-in-88
returns-in-88 c = coded numeric.I64LeU c.in-88.is refl refl refl refl (λ ids. refl) (λ ids. refl)

pub returns-in-89 : goal.returns-in-89
returns-in-89 c = coded numeric.I64GeS c.in-89.is refl refl refl refl (λ ids. refl) (λ ids. refl)

pub returns-in-90 : goal.returns-in-90
returns-in-90 c = coded numeric.I64GeU c.in-90.is refl refl refl refl (λ ids. refl) (λ ids. refl)

pub returns-in-91 : goal.returns-in-91
returns-in-91 c = coded numeric.F32Eq c.in-91.is refl refl refl refl (λ ids. refl) (λ ids. refl)

pub returns-in-92 : goal.returns-in-92
returns-in-92 c = coded numeric.F32Ne c.in-92.is refl refl refl refl (λ ids. refl) (λ ids. refl)

pub returns-in-93 : goal.returns-in-93
returns-in-93 c = coded numeric.F32Lt c.in-93.is refl refl refl refl (λ ids. refl) (λ ids. refl)

pub returns-in-94 : goal.returns-in-94
returns-in-94 c = coded numeric.F32Gt c.in-94.is refl refl refl refl (λ ids. refl) (λ ids. refl)

pub returns-in-95 : goal.returns-in-95
returns-in-95 c = coded numeric.F32Le c.in-95.is refl refl refl refl (λ ids. refl) (λ ids. refl)

pub returns-in-96 : goal.returns-in-96
returns-in-96 c = coded numeric.F32Ge c.in-96.is refl refl refl refl (λ ids. refl) (λ ids. refl)

pub returns-in-97 : goal.returns-in-97
returns-in-97 c = coded numeric.F64Eq c.in-97.is refl refl refl refl (λ ids. refl) (λ ids. refl)

pub returns-in-98 : goal.returns-in-98
returns-in-98 c = coded numeric.F64Ne c.in-98.is refl refl refl refl (λ ids. refl) (λ ids. refl)

pub returns-in-99 : goal.returns-in-99
returns-in-99 c = coded numeric.F64Lt c.in-99.is refl refl refl refl (λ ids. refl) (λ ids. refl)

pub returns-in-100 : goal.returns-in-100
returns-in-100 c = coded numeric.F64Gt c.in-100.is refl refl refl refl (λ ids. refl) (λ ids. refl)

pub returns-in-101 : goal.returns-in-101
returns-in-101 c = coded numeric.F64Le c.in-101.is refl refl refl refl (λ ids. refl) (λ ids. refl)

pub returns-in-102 : goal.returns-in-102
returns-in-102 c = coded numeric.F64Ge c.in-102.is refl refl refl refl (λ ids. refl) (λ ids. refl)

pub returns-in-103 : goal.returns-in-103
returns-in-103 c = coded numeric.I32Clz c.in-103.is refl refl refl refl (λ ids. refl) (λ ids. refl)

pub returns-in-104 : goal.returns-in-104
returns-in-104 c = coded numeric.I32Ctz c.in-104.is refl refl refl refl (λ ids. refl) (λ ids. refl)

pub returns-in-105 : goal.returns-in-105
returns-in-105 c = coded numeric.I32Popcnt c.in-105.is refl refl refl refl (λ ids. refl) (λ ids. refl)

pub returns-in-106 : goal.returns-in-106
returns-in-106 c = coded numeric.I32Add c.in-106.is refl refl refl refl (λ ids. refl) (λ ids. refl)

pub returns-in-107 : goal.returns-in-107
returns-in-107 c = coded numeric.I32Sub c.in-107.is refl refl refl refl (λ ids. refl) (λ ids. refl)

pub returns-in-108 : goal.returns-in-108
returns-in-108 c = coded numeric.I32Mul c.in-108.is refl refl refl refl (λ ids. refl) (λ ids. refl)

pub returns-in-109 : goal.returns-in-109
returns-in-109 c = coded numeric.I32DivS c.in-109.is refl refl refl refl (λ ids. refl) (λ ids. refl)

pub returns-in-110 : goal.returns-in-110
returns-in-110 c = coded numeric.I32DivU c.in-110.is refl refl refl refl (λ ids. refl) (λ ids. refl)

pub returns-in-111 : goal.returns-in-111
returns-in-111 c = coded numeric.I32RemS c.in-111.is refl refl refl refl (λ ids. refl) (λ ids. refl)

pub returns-in-112 : goal.returns-in-112
returns-in-112 c = coded numeric.I32RemU c.in-112.is refl refl refl refl (λ ids. refl) (λ ids. refl)

pub returns-in-113 : goal.returns-in-113
returns-in-113 c = coded numeric.I32And c.in-113.is refl refl refl refl (λ ids. refl) (λ ids. refl)

pub returns-in-114 : goal.returns-in-114
returns-in-114 c = coded numeric.I32Or c.in-114.is refl refl refl refl (λ ids. refl) (λ ids. refl)

pub returns-in-115 : goal.returns-in-115
returns-in-115 c = coded numeric.I32Xor c.in-115.is refl refl refl refl (λ ids. refl) (λ ids. refl)

pub returns-in-116 : goal.returns-in-116
returns-in-116 c = coded numeric.I32Shl c.in-116.is refl refl refl refl (λ ids. refl) (λ ids. refl)

pub returns-in-117 : goal.returns-in-117
returns-in-117 c = coded numeric.I32ShrS c.in-117.is refl refl refl refl (λ ids. refl) (λ ids. refl)

pub returns-in-118 : goal.returns-in-118
returns-in-118 c = coded numeric.I32ShrU c.in-118.is refl refl refl refl (λ ids. refl) (λ ids. refl)

pub returns-in-119 : goal.returns-in-119
returns-in-119 c = coded numeric.I32Rotl c.in-119.is refl refl refl refl (λ ids. refl) (λ ids. refl)

pub returns-in-120 : goal.returns-in-120
returns-in-120 c = coded numeric.I32Rotr c.in-120.is refl refl refl refl (λ ids. refl) (λ ids. refl)

pub returns-in-124 : goal.returns-in-124
returns-in-124 c = coded numeric.I64Add c.in-124.is refl refl refl refl (λ ids. refl) (λ ids. refl)

pub returns-in-125 : goal.returns-in-125
returns-in-125 c = coded numeric.I64Sub c.in-125.is refl refl refl refl (λ ids. refl) (λ ids. refl)

pub returns-in-126 : goal.returns-in-126
returns-in-126 c = coded numeric.I64Mul c.in-126.is refl refl refl refl (λ ids. refl) (λ ids. refl)

pub returns-in-127 : goal.returns-in-127
returns-in-127 c = coded numeric.I64DivS c.in-127.is refl refl refl refl (λ ids. refl) (λ ids. refl)

pub returns-in-128 : goal.returns-in-128
returns-in-128 c = coded numeric.I64DivU c.in-128.is refl refl refl refl (λ ids. refl) (λ ids. refl)

pub returns-in-129 : goal.returns-in-129
returns-in-129 c = coded numeric.I64RemS c.in-129.is refl refl refl refl (λ ids. refl) (λ ids. refl)

pub returns-in-130 : goal.returns-in-130
returns-in-130 c = coded numeric.I64RemU c.in-130.is refl refl refl refl (λ ids. refl) (λ ids. refl)

pub returns-in-131 : goal.returns-in-131
returns-in-131 c = coded numeric.I64And c.in-131.is refl refl refl refl (λ ids. refl) (λ ids. refl)

pub returns-in-132 : goal.returns-in-132
returns-in-132 c = coded numeric.I64Or c.in-132.is refl refl refl refl (λ ids. refl) (λ ids. refl)

pub returns-in-133 : goal.returns-in-133
returns-in-133 c = coded numeric.I64Xor c.in-133.is refl refl refl refl (λ ids. refl) (λ ids. refl)

pub returns-in-134 : goal.returns-in-134
returns-in-134 c = coded numeric.I64Shl c.in-134.is refl refl refl refl (λ ids. refl) (λ ids. refl)

pub returns-in-135 : goal.returns-in-135
returns-in-135 c = coded numeric.I64ShrS c.in-135.is refl refl refl refl (λ ids. refl) (λ ids. refl)

pub returns-in-136 : goal.returns-in-136
returns-in-136 c = coded numeric.I64ShrU c.in-136.is refl refl refl refl (λ ids. refl) (λ ids. refl)

pub returns-in-137 : goal.returns-in-137
returns-in-137 c = coded numeric.I64Rotl c.in-137.is refl refl refl refl (λ ids. refl) (λ ids. refl)

pub returns-in-138 : goal.returns-in-138
returns-in-138 c = coded numeric.I64Rotr c.in-138.is refl refl refl refl (λ ids. refl) (λ ids. refl)

pub returns-in-146 : goal.returns-in-146
returns-in-146 c = coded numeric.F32Add c.in-146.is refl refl refl refl (λ ids. refl) (λ ids. refl)

pub returns-in-147 : goal.returns-in-147
returns-in-147 c = coded numeric.F32Sub c.in-147.is refl refl refl refl (λ ids. refl) (λ ids. refl)

pub returns-in-148 : goal.returns-in-148
returns-in-148 c = coded numeric.F32Mul c.in-148.is refl refl refl refl (λ ids. refl) (λ ids. refl)

pub returns-in-149 : goal.returns-in-149
returns-in-149 c = coded numeric.F32Div c.in-149.is refl refl refl refl (λ ids. refl) (λ ids. refl)

pub returns-in-150 : goal.returns-in-150
returns-in-150 c = coded numeric.F32Min c.in-150.is refl refl refl refl (λ ids. refl) (λ ids. refl)

pub returns-in-151 : goal.returns-in-151
returns-in-151 c = coded numeric.F32Max c.in-151.is refl refl refl refl (λ ids. refl) (λ ids. refl)

pub returns-in-152 : goal.returns-in-152
returns-in-152 c = coded numeric.F32Copysign c.in-152.is refl refl refl refl (λ ids. refl) (λ ids. refl)

pub returns-in-160 : goal.returns-in-160
returns-in-160 c = coded numeric.F64Add c.in-160.is refl refl refl refl (λ ids. refl) (λ ids. refl)

pub returns-in-161 : goal.returns-in-161
returns-in-161 c = coded numeric.F64Sub c.in-161.is refl refl refl refl (λ ids. refl) (λ ids. refl)

pub returns-in-162 : goal.returns-in-162
returns-in-162 c = coded numeric.F64Mul c.in-162.is refl refl refl refl (λ ids. refl) (λ ids. refl)

pub returns-in-163 : goal.returns-in-163
returns-in-163 c = coded numeric.F64Div c.in-163.is refl refl refl refl (λ ids. refl) (λ ids. refl)

pub returns-in-164 : goal.returns-in-164
returns-in-164 c = coded numeric.F64Min c.in-164.is refl refl refl refl (λ ids. refl) (λ ids. refl)

pub returns-in-165 : goal.returns-in-165
returns-in-165 c = coded numeric.F64Max c.in-165.is refl refl refl refl (λ ids. refl) (λ ids. refl)

pub returns-in-166 : goal.returns-in-166
returns-in-166 c = coded numeric.F64Copysign c.in-166.is refl refl refl refl (λ ids. refl) (λ ids. refl)

pub returns-in-167 : goal.returns-in-167
returns-in-167 c = coded numeric.I32WrapI64 c.in-167.is refl refl refl refl (λ ids. refl) (λ ids. refl)

pub returns-in-172 : goal.returns-in-172
returns-in-172 c = coded numeric.I64ExtendI32S c.in-172.is refl refl refl refl (λ ids. refl) (λ ids. refl)

pub returns-in-173 : goal.returns-in-173
returns-in-173 c = coded numeric.I64ExtendI32U c.in-173.is refl refl refl refl (λ ids. refl) (λ ids. refl)

pub returns-in-192 : goal.returns-in-192
returns-in-192 c = coded_sign numeric.I32Extend8S c.in-192.is refl refl refl refl (λ ids. refl) (λ ids. refl)

pub returns-in-193 : goal.returns-in-193
returns-in-193 c = coded_sign numeric.I32Extend16S c.in-193.is refl refl refl refl (λ ids. refl) (λ ids. refl)

pub returns-in-251 : goal.returns-in-251
returns-in-251 c = c.in-251.is

pub returns-in-252 : goal.returns-in-252
returns-in-252 c = c.in-252.is
