-- Each operator that carries nothing is of its class.
use Rattle.std.proofs.Common.{refl}
use Rattle.wasm_operators_enums.specs.declared.vector_numeric.SimdNumericOperator.TheVariants as lanes
use Rattle.wasm_operator_validator_fast_objects.proofs.VectorCodes.{numeric}
use Rattle.wasm_operator_validator_fast_objects.proofs.vector_shape.vector_class_of.Goals as goal

pub returns-in-11 : goal.returns-in-11
returns-in-11 c = c.in-11.is

pub returns-in-12 : goal.returns-in-12
returns-in-12 c = c.in-12.is

pub returns-in-13 : goal.returns-in-13
returns-in-13 c = c.in-13.is

pub returns-in-14 : goal.returns-in-14
returns-in-14 c = numeric lanes.I8x16Swizzle c.in-14.is refl refl (λ ids. refl) (λ ids. refl)

pub returns-in-35 : goal.returns-in-35
returns-in-35 c = numeric lanes.I8x16Eq c.in-35.is refl refl (λ ids. refl) (λ ids. refl)

pub returns-in-36 : goal.returns-in-36
returns-in-36 c = numeric lanes.I8x16Ne c.in-36.is refl refl (λ ids. refl) (λ ids. refl)

pub returns-in-37 : goal.returns-in-37
returns-in-37 c = numeric lanes.I8x16LtS c.in-37.is refl refl (λ ids. refl) (λ ids. refl)

pub returns-in-38 : goal.returns-in-38
returns-in-38 c = numeric lanes.I8x16LtU c.in-38.is refl refl (λ ids. refl) (λ ids. refl)

pub returns-in-39 : goal.returns-in-39
returns-in-39 c = numeric lanes.I8x16GtS c.in-39.is refl refl (λ ids. refl) (λ ids. refl)

pub returns-in-40 : goal.returns-in-40
returns-in-40 c = numeric lanes.I8x16GtU c.in-40.is refl refl (λ ids. refl) (λ ids. refl)

pub returns-in-41 : goal.returns-in-41
returns-in-41 c = numeric lanes.I8x16LeS c.in-41.is refl refl (λ ids. refl) (λ ids. refl)

pub returns-in-42 : goal.returns-in-42
returns-in-42 c = numeric lanes.I8x16LeU c.in-42.is refl refl (λ ids. refl) (λ ids. refl)

pub returns-in-43 : goal.returns-in-43
returns-in-43 c = numeric lanes.I8x16GeS c.in-43.is refl refl (λ ids. refl) (λ ids. refl)

pub returns-in-44 : goal.returns-in-44
returns-in-44 c = numeric lanes.I8x16GeU c.in-44.is refl refl (λ ids. refl) (λ ids. refl)

pub returns-in-45 : goal.returns-in-45
returns-in-45 c = numeric lanes.I16x8Eq c.in-45.is refl refl (λ ids. refl) (λ ids. refl)

pub returns-in-46 : goal.returns-in-46
returns-in-46 c = numeric lanes.I16x8Ne c.in-46.is refl refl (λ ids. refl) (λ ids. refl)

pub returns-in-47 : goal.returns-in-47
returns-in-47 c = numeric lanes.I16x8LtS c.in-47.is refl refl (λ ids. refl) (λ ids. refl)

pub returns-in-48 : goal.returns-in-48
returns-in-48 c = numeric lanes.I16x8LtU c.in-48.is refl refl (λ ids. refl) (λ ids. refl)

pub returns-in-49 : goal.returns-in-49
returns-in-49 c = numeric lanes.I16x8GtS c.in-49.is refl refl (λ ids. refl) (λ ids. refl)

pub returns-in-50 : goal.returns-in-50
returns-in-50 c = numeric lanes.I16x8GtU c.in-50.is refl refl (λ ids. refl) (λ ids. refl)

pub returns-in-51 : goal.returns-in-51
returns-in-51 c = numeric lanes.I16x8LeS c.in-51.is refl refl (λ ids. refl) (λ ids. refl)

pub returns-in-52 : goal.returns-in-52
returns-in-52 c = numeric lanes.I16x8LeU c.in-52.is refl refl (λ ids. refl) (λ ids. refl)

pub returns-in-53 : goal.returns-in-53
returns-in-53 c = numeric lanes.I16x8GeS c.in-53.is refl refl (λ ids. refl) (λ ids. refl)

pub returns-in-54 : goal.returns-in-54
returns-in-54 c = numeric lanes.I16x8GeU c.in-54.is refl refl (λ ids. refl) (λ ids. refl)

pub returns-in-55 : goal.returns-in-55
returns-in-55 c = numeric lanes.I32x4Eq c.in-55.is refl refl (λ ids. refl) (λ ids. refl)

pub returns-in-56 : goal.returns-in-56
returns-in-56 c = numeric lanes.I32x4Ne c.in-56.is refl refl (λ ids. refl) (λ ids. refl)

pub returns-in-57 : goal.returns-in-57
returns-in-57 c = numeric lanes.I32x4LtS c.in-57.is refl refl (λ ids. refl) (λ ids. refl)

pub returns-in-58 : goal.returns-in-58
returns-in-58 c = numeric lanes.I32x4LtU c.in-58.is refl refl (λ ids. refl) (λ ids. refl)

pub returns-in-59 : goal.returns-in-59
returns-in-59 c = numeric lanes.I32x4GtS c.in-59.is refl refl (λ ids. refl) (λ ids. refl)

pub returns-in-60 : goal.returns-in-60
returns-in-60 c = numeric lanes.I32x4GtU c.in-60.is refl refl (λ ids. refl) (λ ids. refl)

pub returns-in-61 : goal.returns-in-61
returns-in-61 c = numeric lanes.I32x4LeS c.in-61.is refl refl (λ ids. refl) (λ ids. refl)

pub returns-in-62 : goal.returns-in-62
returns-in-62 c = numeric lanes.I32x4LeU c.in-62.is refl refl (λ ids. refl) (λ ids. refl)

pub returns-in-63 : goal.returns-in-63
returns-in-63 c = numeric lanes.I32x4GeS c.in-63.is refl refl (λ ids. refl) (λ ids. refl)

pub returns-in-64 : goal.returns-in-64
returns-in-64 c = numeric lanes.I32x4GeU c.in-64.is refl refl (λ ids. refl) (λ ids. refl)

pub returns-in-65 : goal.returns-in-65
returns-in-65 c = numeric lanes.F32x4Eq c.in-65.is refl refl (λ ids. refl) (λ ids. refl)

pub returns-in-66 : goal.returns-in-66
returns-in-66 c = numeric lanes.F32x4Ne c.in-66.is refl refl (λ ids. refl) (λ ids. refl)

pub returns-in-67 : goal.returns-in-67
returns-in-67 c = numeric lanes.F32x4Lt c.in-67.is refl refl (λ ids. refl) (λ ids. refl)

pub returns-in-68 : goal.returns-in-68
returns-in-68 c = numeric lanes.F32x4Gt c.in-68.is refl refl (λ ids. refl) (λ ids. refl)

pub returns-in-69 : goal.returns-in-69
returns-in-69 c = numeric lanes.F32x4Le c.in-69.is refl refl (λ ids. refl) (λ ids. refl)

pub returns-in-70 : goal.returns-in-70
returns-in-70 c = numeric lanes.F32x4Ge c.in-70.is refl refl (λ ids. refl) (λ ids. refl)

pub returns-in-71 : goal.returns-in-71
returns-in-71 c = numeric lanes.F64x2Eq c.in-71.is refl refl (λ ids. refl) (λ ids. refl)

pub returns-in-72 : goal.returns-in-72
returns-in-72 c = numeric lanes.F64x2Ne c.in-72.is refl refl (λ ids. refl) (λ ids. refl)

pub returns-in-73 : goal.returns-in-73
returns-in-73 c = numeric lanes.F64x2Lt c.in-73.is refl refl (λ ids. refl) (λ ids. refl)

pub returns-in-74 : goal.returns-in-74
returns-in-74 c = numeric lanes.F64x2Gt c.in-74.is refl refl (λ ids. refl) (λ ids. refl)

pub returns-in-75 : goal.returns-in-75
returns-in-75 c = numeric lanes.F64x2Le c.in-75.is refl refl (λ ids. refl) (λ ids. refl)

pub returns-in-76 : goal.returns-in-76
returns-in-76 c = numeric lanes.F64x2Ge c.in-76.is refl refl (λ ids. refl) (λ ids. refl)

pub returns-in-77 : goal.returns-in-77
returns-in-77 c = numeric lanes.V128Not c.in-77.is refl refl (λ ids. refl) (λ ids. refl)

pub returns-in-78 : goal.returns-in-78
returns-in-78 c = numeric lanes.V128And c.in-78.is refl refl (λ ids. refl) (λ ids. refl)

pub returns-in-79 : goal.returns-in-79
returns-in-79 c = numeric lanes.V128AndNot c.in-79.is refl refl (λ ids. refl) (λ ids. refl)

pub returns-in-80 : goal.returns-in-80
returns-in-80 c = numeric lanes.V128Or c.in-80.is refl refl (λ ids. refl) (λ ids. refl)

pub returns-in-81 : goal.returns-in-81
returns-in-81 c = numeric lanes.V128Xor c.in-81.is refl refl (λ ids. refl) (λ ids. refl)

pub returns-in-82 : goal.returns-in-82
returns-in-82 c = numeric lanes.V128Bitselect c.in-82.is refl refl (λ ids. refl) (λ ids. refl)

pub returns-in-83 : goal.returns-in-83
returns-in-83 c = numeric lanes.V128AnyTrue c.in-83.is refl refl (λ ids. refl) (λ ids. refl)

pub returns-in-94 : goal.returns-in-94
returns-in-94 c = numeric lanes.F32x4DemoteF64x2Zero c.in-94.is refl refl (λ ids. refl) (λ ids. refl)

pub returns-in-95 : goal.returns-in-95
returns-in-95 c = numeric lanes.F64x2PromoteLowF32x4 c.in-95.is refl refl (λ ids. refl) (λ ids. refl)

pub returns-in-96 : goal.returns-in-96
returns-in-96 c = numeric lanes.I8x16Abs c.in-96.is refl refl (λ ids. refl) (λ ids. refl)

pub returns-in-97 : goal.returns-in-97
returns-in-97 c = numeric lanes.I8x16Neg c.in-97.is refl refl (λ ids. refl) (λ ids. refl)

pub returns-in-98 : goal.returns-in-98
returns-in-98 c = numeric lanes.I8x16Popcnt c.in-98.is refl refl (λ ids. refl) (λ ids. refl)

pub returns-in-99 : goal.returns-in-99
returns-in-99 c = numeric lanes.I8x16AllTrue c.in-99.is refl refl (λ ids. refl) (λ ids. refl)

pub returns-in-100 : goal.returns-in-100
returns-in-100 c = numeric lanes.I8x16Bitmask c.in-100.is refl refl (λ ids. refl) (λ ids. refl)

pub returns-in-101 : goal.returns-in-101
returns-in-101 c = numeric lanes.I8x16NarrowI16x8S c.in-101.is refl refl (λ ids. refl) (λ ids. refl)

pub returns-in-102 : goal.returns-in-102
returns-in-102 c = numeric lanes.I8x16NarrowI16x8U c.in-102.is refl refl (λ ids. refl) (λ ids. refl)

pub returns-in-103 : goal.returns-in-103
returns-in-103 c = numeric lanes.F32x4Ceil c.in-103.is refl refl (λ ids. refl) (λ ids. refl)

pub returns-in-104 : goal.returns-in-104
returns-in-104 c = numeric lanes.F32x4Floor c.in-104.is refl refl (λ ids. refl) (λ ids. refl)

pub returns-in-105 : goal.returns-in-105
returns-in-105 c = numeric lanes.F32x4Trunc c.in-105.is refl refl (λ ids. refl) (λ ids. refl)

pub returns-in-106 : goal.returns-in-106
returns-in-106 c = numeric lanes.F32x4Nearest c.in-106.is refl refl (λ ids. refl) (λ ids. refl)

pub returns-in-107 : goal.returns-in-107
returns-in-107 c = numeric lanes.I8x16Shl c.in-107.is refl refl (λ ids. refl) (λ ids. refl)

pub returns-in-108 : goal.returns-in-108
returns-in-108 c = numeric lanes.I8x16ShrS c.in-108.is refl refl (λ ids. refl) (λ ids. refl)

pub returns-in-109 : goal.returns-in-109
returns-in-109 c = numeric lanes.I8x16ShrU c.in-109.is refl refl (λ ids. refl) (λ ids. refl)

pub returns-in-110 : goal.returns-in-110
returns-in-110 c = numeric lanes.I8x16Add c.in-110.is refl refl (λ ids. refl) (λ ids. refl)

pub returns-in-111 : goal.returns-in-111
returns-in-111 c = numeric lanes.I8x16AddSatS c.in-111.is refl refl (λ ids. refl) (λ ids. refl)

pub returns-in-112 : goal.returns-in-112
returns-in-112 c = numeric lanes.I8x16AddSatU c.in-112.is refl refl (λ ids. refl) (λ ids. refl)

pub returns-in-113 : goal.returns-in-113
returns-in-113 c = numeric lanes.I8x16Sub c.in-113.is refl refl (λ ids. refl) (λ ids. refl)

pub returns-in-114 : goal.returns-in-114
returns-in-114 c = numeric lanes.I8x16SubSatS c.in-114.is refl refl (λ ids. refl) (λ ids. refl)

pub returns-in-115 : goal.returns-in-115
returns-in-115 c = numeric lanes.I8x16SubSatU c.in-115.is refl refl (λ ids. refl) (λ ids. refl)

pub returns-in-116 : goal.returns-in-116
returns-in-116 c = numeric lanes.F64x2Ceil c.in-116.is refl refl (λ ids. refl) (λ ids. refl)

pub returns-in-117 : goal.returns-in-117
returns-in-117 c = numeric lanes.F64x2Floor c.in-117.is refl refl (λ ids. refl) (λ ids. refl)

pub returns-in-118 : goal.returns-in-118
returns-in-118 c = numeric lanes.I8x16MinS c.in-118.is refl refl (λ ids. refl) (λ ids. refl)

pub returns-in-119 : goal.returns-in-119
returns-in-119 c = numeric lanes.I8x16MinU c.in-119.is refl refl (λ ids. refl) (λ ids. refl)

pub returns-in-120 : goal.returns-in-120
returns-in-120 c = numeric lanes.I8x16MaxS c.in-120.is refl refl (λ ids. refl) (λ ids. refl)

pub returns-in-121 : goal.returns-in-121
returns-in-121 c = numeric lanes.I8x16MaxU c.in-121.is refl refl (λ ids. refl) (λ ids. refl)

pub returns-in-122 : goal.returns-in-122
returns-in-122 c = numeric lanes.F64x2Trunc c.in-122.is refl refl (λ ids. refl) (λ ids. refl)

pub returns-in-123 : goal.returns-in-123
returns-in-123 c = numeric lanes.I8x16AvgrU c.in-123.is refl refl (λ ids. refl) (λ ids. refl)

pub returns-in-124 : goal.returns-in-124
returns-in-124 c = numeric lanes.I16x8ExtAddPairwiseI8x16S c.in-124.is refl refl (λ ids. refl) (λ ids. refl)

pub returns-in-125 : goal.returns-in-125
returns-in-125 c = numeric lanes.I16x8ExtAddPairwiseI8x16U c.in-125.is refl refl (λ ids. refl) (λ ids. refl)

pub returns-in-126 : goal.returns-in-126
returns-in-126 c = numeric lanes.I32x4ExtAddPairwiseI16x8S c.in-126.is refl refl (λ ids. refl) (λ ids. refl)

pub returns-in-127 : goal.returns-in-127
returns-in-127 c = numeric lanes.I32x4ExtAddPairwiseI16x8U c.in-127.is refl refl (λ ids. refl) (λ ids. refl)

pub returns-in-128 : goal.returns-in-128
returns-in-128 c = numeric lanes.I16x8Abs c.in-128.is refl refl (λ ids. refl) (λ ids. refl)

pub returns-in-129 : goal.returns-in-129
returns-in-129 c = numeric lanes.I16x8Neg c.in-129.is refl refl (λ ids. refl) (λ ids. refl)

pub returns-in-130 : goal.returns-in-130
returns-in-130 c = numeric lanes.I16x8Q15MulrSatS c.in-130.is refl refl (λ ids. refl) (λ ids. refl)

pub returns-in-131 : goal.returns-in-131
returns-in-131 c = numeric lanes.I16x8AllTrue c.in-131.is refl refl (λ ids. refl) (λ ids. refl)

pub returns-in-132 : goal.returns-in-132
returns-in-132 c = numeric lanes.I16x8Bitmask c.in-132.is refl refl (λ ids. refl) (λ ids. refl)

pub returns-in-133 : goal.returns-in-133
returns-in-133 c = numeric lanes.I16x8NarrowI32x4S c.in-133.is refl refl (λ ids. refl) (λ ids. refl)

pub returns-in-134 : goal.returns-in-134
returns-in-134 c = numeric lanes.I16x8NarrowI32x4U c.in-134.is refl refl (λ ids. refl) (λ ids. refl)

pub returns-in-135 : goal.returns-in-135
returns-in-135 c = numeric lanes.I16x8ExtendLowI8x16S c.in-135.is refl refl (λ ids. refl) (λ ids. refl)

pub returns-in-136 : goal.returns-in-136
returns-in-136 c = numeric lanes.I16x8ExtendHighI8x16S c.in-136.is refl refl (λ ids. refl) (λ ids. refl)

pub returns-in-137 : goal.returns-in-137
returns-in-137 c = numeric lanes.I16x8ExtendLowI8x16U c.in-137.is refl refl (λ ids. refl) (λ ids. refl)

pub returns-in-138 : goal.returns-in-138
returns-in-138 c = numeric lanes.I16x8ExtendHighI8x16U c.in-138.is refl refl (λ ids. refl) (λ ids. refl)

pub returns-in-139 : goal.returns-in-139
returns-in-139 c = numeric lanes.I16x8Shl c.in-139.is refl refl (λ ids. refl) (λ ids. refl)

pub returns-in-140 : goal.returns-in-140
returns-in-140 c = numeric lanes.I16x8ShrS c.in-140.is refl refl (λ ids. refl) (λ ids. refl)

pub returns-in-141 : goal.returns-in-141
returns-in-141 c = numeric lanes.I16x8ShrU c.in-141.is refl refl (λ ids. refl) (λ ids. refl)

pub returns-in-142 : goal.returns-in-142
returns-in-142 c = numeric lanes.I16x8Add c.in-142.is refl refl (λ ids. refl) (λ ids. refl)

pub returns-in-143 : goal.returns-in-143
returns-in-143 c = numeric lanes.I16x8AddSatS c.in-143.is refl refl (λ ids. refl) (λ ids. refl)

pub returns-in-144 : goal.returns-in-144
returns-in-144 c = numeric lanes.I16x8AddSatU c.in-144.is refl refl (λ ids. refl) (λ ids. refl)

pub returns-in-145 : goal.returns-in-145
returns-in-145 c = numeric lanes.I16x8Sub c.in-145.is refl refl (λ ids. refl) (λ ids. refl)

pub returns-in-146 : goal.returns-in-146
returns-in-146 c = numeric lanes.I16x8SubSatS c.in-146.is refl refl (λ ids. refl) (λ ids. refl)

pub returns-in-147 : goal.returns-in-147
returns-in-147 c = numeric lanes.I16x8SubSatU c.in-147.is refl refl (λ ids. refl) (λ ids. refl)

pub returns-in-148 : goal.returns-in-148
returns-in-148 c = numeric lanes.F64x2Nearest c.in-148.is refl refl (λ ids. refl) (λ ids. refl)

pub returns-in-149 : goal.returns-in-149
returns-in-149 c = numeric lanes.I16x8Mul c.in-149.is refl refl (λ ids. refl) (λ ids. refl)

pub returns-in-150 : goal.returns-in-150
returns-in-150 c = numeric lanes.I16x8MinS c.in-150.is refl refl (λ ids. refl) (λ ids. refl)

pub returns-in-151 : goal.returns-in-151
returns-in-151 c = numeric lanes.I16x8MinU c.in-151.is refl refl (λ ids. refl) (λ ids. refl)

pub returns-in-152 : goal.returns-in-152
returns-in-152 c = numeric lanes.I16x8MaxS c.in-152.is refl refl (λ ids. refl) (λ ids. refl)

pub returns-in-153 : goal.returns-in-153
returns-in-153 c = numeric lanes.I16x8MaxU c.in-153.is refl refl (λ ids. refl) (λ ids. refl)

pub returns-in-155 : goal.returns-in-155
returns-in-155 c = numeric lanes.I16x8AvgrU c.in-155.is refl refl (λ ids. refl) (λ ids. refl)

pub returns-in-156 : goal.returns-in-156
returns-in-156 c = numeric lanes.I16x8ExtMulLowI8x16S c.in-156.is refl refl (λ ids. refl) (λ ids. refl)

pub returns-in-157 : goal.returns-in-157
returns-in-157 c = numeric lanes.I16x8ExtMulHighI8x16S c.in-157.is refl refl (λ ids. refl) (λ ids. refl)

pub returns-in-158 : goal.returns-in-158
returns-in-158 c = numeric lanes.I16x8ExtMulLowI8x16U c.in-158.is refl refl (λ ids. refl) (λ ids. refl)

pub returns-in-159 : goal.returns-in-159
returns-in-159 c = numeric lanes.I16x8ExtMulHighI8x16U c.in-159.is refl refl (λ ids. refl) (λ ids. refl)

pub returns-in-160 : goal.returns-in-160
returns-in-160 c = numeric lanes.I32x4Abs c.in-160.is refl refl (λ ids. refl) (λ ids. refl)

pub returns-in-161 : goal.returns-in-161
returns-in-161 c = numeric lanes.I32x4Neg c.in-161.is refl refl (λ ids. refl) (λ ids. refl)

pub returns-in-163 : goal.returns-in-163
returns-in-163 c = numeric lanes.I32x4AllTrue c.in-163.is refl refl (λ ids. refl) (λ ids. refl)

pub returns-in-164 : goal.returns-in-164
returns-in-164 c = numeric lanes.I32x4Bitmask c.in-164.is refl refl (λ ids. refl) (λ ids. refl)

pub returns-in-167 : goal.returns-in-167
returns-in-167 c = numeric lanes.I32x4ExtendLowI16x8S c.in-167.is refl refl (λ ids. refl) (λ ids. refl)

pub returns-in-168 : goal.returns-in-168
returns-in-168 c = numeric lanes.I32x4ExtendHighI16x8S c.in-168.is refl refl (λ ids. refl) (λ ids. refl)

pub returns-in-169 : goal.returns-in-169
returns-in-169 c = numeric lanes.I32x4ExtendLowI16x8U c.in-169.is refl refl (λ ids. refl) (λ ids. refl)

pub returns-in-170 : goal.returns-in-170
returns-in-170 c = numeric lanes.I32x4ExtendHighI16x8U c.in-170.is refl refl (λ ids. refl) (λ ids. refl)

pub returns-in-171 : goal.returns-in-171
returns-in-171 c = numeric lanes.I32x4Shl c.in-171.is refl refl (λ ids. refl) (λ ids. refl)

pub returns-in-172 : goal.returns-in-172
returns-in-172 c = numeric lanes.I32x4ShrS c.in-172.is refl refl (λ ids. refl) (λ ids. refl)

pub returns-in-173 : goal.returns-in-173
returns-in-173 c = numeric lanes.I32x4ShrU c.in-173.is refl refl (λ ids. refl) (λ ids. refl)

pub returns-in-174 : goal.returns-in-174
returns-in-174 c = numeric lanes.I32x4Add c.in-174.is refl refl (λ ids. refl) (λ ids. refl)

pub returns-in-177 : goal.returns-in-177
returns-in-177 c = numeric lanes.I32x4Sub c.in-177.is refl refl (λ ids. refl) (λ ids. refl)

pub returns-in-181 : goal.returns-in-181
returns-in-181 c = numeric lanes.I32x4Mul c.in-181.is refl refl (λ ids. refl) (λ ids. refl)

pub returns-in-182 : goal.returns-in-182
returns-in-182 c = numeric lanes.I32x4MinS c.in-182.is refl refl (λ ids. refl) (λ ids. refl)

pub returns-in-183 : goal.returns-in-183
returns-in-183 c = numeric lanes.I32x4MinU c.in-183.is refl refl (λ ids. refl) (λ ids. refl)

pub returns-in-184 : goal.returns-in-184
returns-in-184 c = numeric lanes.I32x4MaxS c.in-184.is refl refl (λ ids. refl) (λ ids. refl)

pub returns-in-185 : goal.returns-in-185
returns-in-185 c = numeric lanes.I32x4MaxU c.in-185.is refl refl (λ ids. refl) (λ ids. refl)

pub returns-in-186 : goal.returns-in-186
returns-in-186 c = numeric lanes.I32x4DotI16x8S c.in-186.is refl refl (λ ids. refl) (λ ids. refl)

pub returns-in-188 : goal.returns-in-188
returns-in-188 c = numeric lanes.I32x4ExtMulLowI16x8S c.in-188.is refl refl (λ ids. refl) (λ ids. refl)

pub returns-in-189 : goal.returns-in-189
returns-in-189 c = numeric lanes.I32x4ExtMulHighI16x8S c.in-189.is refl refl (λ ids. refl) (λ ids. refl)

pub returns-in-190 : goal.returns-in-190
returns-in-190 c = numeric lanes.I32x4ExtMulLowI16x8U c.in-190.is refl refl (λ ids. refl) (λ ids. refl)

pub returns-in-191 : goal.returns-in-191
returns-in-191 c = numeric lanes.I32x4ExtMulHighI16x8U c.in-191.is refl refl (λ ids. refl) (λ ids. refl)

pub returns-in-192 : goal.returns-in-192
returns-in-192 c = numeric lanes.I64x2Abs c.in-192.is refl refl (λ ids. refl) (λ ids. refl)

pub returns-in-193 : goal.returns-in-193
returns-in-193 c = numeric lanes.I64x2Neg c.in-193.is refl refl (λ ids. refl) (λ ids. refl)

pub returns-in-195 : goal.returns-in-195
returns-in-195 c = numeric lanes.I64x2AllTrue c.in-195.is refl refl (λ ids. refl) (λ ids. refl)

pub returns-in-196 : goal.returns-in-196
returns-in-196 c = numeric lanes.I64x2Bitmask c.in-196.is refl refl (λ ids. refl) (λ ids. refl)

pub returns-in-199 : goal.returns-in-199
returns-in-199 c = numeric lanes.I64x2ExtendLowI32x4S c.in-199.is refl refl (λ ids. refl) (λ ids. refl)

pub returns-in-200 : goal.returns-in-200
returns-in-200 c = numeric lanes.I64x2ExtendHighI32x4S c.in-200.is refl refl (λ ids. refl) (λ ids. refl)

pub returns-in-201 : goal.returns-in-201
returns-in-201 c = numeric lanes.I64x2ExtendLowI32x4U c.in-201.is refl refl (λ ids. refl) (λ ids. refl)

pub returns-in-202 : goal.returns-in-202
returns-in-202 c = numeric lanes.I64x2ExtendHighI32x4U c.in-202.is refl refl (λ ids. refl) (λ ids. refl)

pub returns-in-203 : goal.returns-in-203
returns-in-203 c = numeric lanes.I64x2Shl c.in-203.is refl refl (λ ids. refl) (λ ids. refl)

pub returns-in-204 : goal.returns-in-204
returns-in-204 c = numeric lanes.I64x2ShrS c.in-204.is refl refl (λ ids. refl) (λ ids. refl)

pub returns-in-205 : goal.returns-in-205
returns-in-205 c = numeric lanes.I64x2ShrU c.in-205.is refl refl (λ ids. refl) (λ ids. refl)

pub returns-in-206 : goal.returns-in-206
returns-in-206 c = numeric lanes.I64x2Add c.in-206.is refl refl (λ ids. refl) (λ ids. refl)

pub returns-in-209 : goal.returns-in-209
returns-in-209 c = numeric lanes.I64x2Sub c.in-209.is refl refl (λ ids. refl) (λ ids. refl)

pub returns-in-213 : goal.returns-in-213
returns-in-213 c = numeric lanes.I64x2Mul c.in-213.is refl refl (λ ids. refl) (λ ids. refl)

pub returns-in-214 : goal.returns-in-214
returns-in-214 c = numeric lanes.I64x2Eq c.in-214.is refl refl (λ ids. refl) (λ ids. refl)

pub returns-in-215 : goal.returns-in-215
returns-in-215 c = numeric lanes.I64x2Ne c.in-215.is refl refl (λ ids. refl) (λ ids. refl)

pub returns-in-216 : goal.returns-in-216
returns-in-216 c = numeric lanes.I64x2LtS c.in-216.is refl refl (λ ids. refl) (λ ids. refl)

pub returns-in-217 : goal.returns-in-217
returns-in-217 c = numeric lanes.I64x2GtS c.in-217.is refl refl (λ ids. refl) (λ ids. refl)

pub returns-in-218 : goal.returns-in-218
returns-in-218 c = numeric lanes.I64x2LeS c.in-218.is refl refl (λ ids. refl) (λ ids. refl)

pub returns-in-219 : goal.returns-in-219
returns-in-219 c = numeric lanes.I64x2GeS c.in-219.is refl refl (λ ids. refl) (λ ids. refl)

pub returns-in-220 : goal.returns-in-220
returns-in-220 c = numeric lanes.I64x2ExtMulLowI32x4S c.in-220.is refl refl (λ ids. refl) (λ ids. refl)

pub returns-in-221 : goal.returns-in-221
returns-in-221 c = numeric lanes.I64x2ExtMulHighI32x4S c.in-221.is refl refl (λ ids. refl) (λ ids. refl)

pub returns-in-222 : goal.returns-in-222
returns-in-222 c = numeric lanes.I64x2ExtMulLowI32x4U c.in-222.is refl refl (λ ids. refl) (λ ids. refl)

pub returns-in-223 : goal.returns-in-223
returns-in-223 c = numeric lanes.I64x2ExtMulHighI32x4U c.in-223.is refl refl (λ ids. refl) (λ ids. refl)

pub returns-in-224 : goal.returns-in-224
returns-in-224 c = numeric lanes.F32x4Abs c.in-224.is refl refl (λ ids. refl) (λ ids. refl)

pub returns-in-225 : goal.returns-in-225
returns-in-225 c = numeric lanes.F32x4Neg c.in-225.is refl refl (λ ids. refl) (λ ids. refl)

pub returns-in-227 : goal.returns-in-227
returns-in-227 c = numeric lanes.F32x4Sqrt c.in-227.is refl refl (λ ids. refl) (λ ids. refl)

pub returns-in-228 : goal.returns-in-228
returns-in-228 c = numeric lanes.F32x4Add c.in-228.is refl refl (λ ids. refl) (λ ids. refl)

pub returns-in-229 : goal.returns-in-229
returns-in-229 c = numeric lanes.F32x4Sub c.in-229.is refl refl (λ ids. refl) (λ ids. refl)

pub returns-in-230 : goal.returns-in-230
returns-in-230 c = numeric lanes.F32x4Mul c.in-230.is refl refl (λ ids. refl) (λ ids. refl)

pub returns-in-231 : goal.returns-in-231
returns-in-231 c = numeric lanes.F32x4Div c.in-231.is refl refl (λ ids. refl) (λ ids. refl)

pub returns-in-232 : goal.returns-in-232
returns-in-232 c = numeric lanes.F32x4Min c.in-232.is refl refl (λ ids. refl) (λ ids. refl)

pub returns-in-233 : goal.returns-in-233
returns-in-233 c = numeric lanes.F32x4Max c.in-233.is refl refl (λ ids. refl) (λ ids. refl)

pub returns-in-234 : goal.returns-in-234
returns-in-234 c = numeric lanes.F32x4PMin c.in-234.is refl refl (λ ids. refl) (λ ids. refl)

pub returns-in-235 : goal.returns-in-235
returns-in-235 c = numeric lanes.F32x4PMax c.in-235.is refl refl (λ ids. refl) (λ ids. refl)

pub returns-in-236 : goal.returns-in-236
returns-in-236 c = numeric lanes.F64x2Abs c.in-236.is refl refl (λ ids. refl) (λ ids. refl)

pub returns-in-237 : goal.returns-in-237
returns-in-237 c = numeric lanes.F64x2Neg c.in-237.is refl refl (λ ids. refl) (λ ids. refl)

pub returns-in-239 : goal.returns-in-239
returns-in-239 c = numeric lanes.F64x2Sqrt c.in-239.is refl refl (λ ids. refl) (λ ids. refl)

pub returns-in-240 : goal.returns-in-240
returns-in-240 c = numeric lanes.F64x2Add c.in-240.is refl refl (λ ids. refl) (λ ids. refl)

pub returns-in-241 : goal.returns-in-241
returns-in-241 c = numeric lanes.F64x2Sub c.in-241.is refl refl (λ ids. refl) (λ ids. refl)

pub returns-in-242 : goal.returns-in-242
returns-in-242 c = numeric lanes.F64x2Mul c.in-242.is refl refl (λ ids. refl) (λ ids. refl)

pub returns-in-243 : goal.returns-in-243
returns-in-243 c = numeric lanes.F64x2Div c.in-243.is refl refl (λ ids. refl) (λ ids. refl)

pub returns-in-244 : goal.returns-in-244
returns-in-244 c = numeric lanes.F64x2Min c.in-244.is refl refl (λ ids. refl) (λ ids. refl)

pub returns-in-245 : goal.returns-in-245
returns-in-245 c = numeric lanes.F64x2Max c.in-245.is refl refl (λ ids. refl) (λ ids. refl)

pub returns-in-246 : goal.returns-in-246
returns-in-246 c = numeric lanes.F64x2PMin c.in-246.is refl refl (λ ids. refl) (λ ids. refl)

pub returns-in-247 : goal.returns-in-247
returns-in-247 c = numeric lanes.F64x2PMax c.in-247.is refl refl (λ ids. refl) (λ ids. refl)

pub returns-in-248 : goal.returns-in-248
returns-in-248 c = numeric lanes.I32x4TruncSatF32x4S c.in-248.is refl refl (λ ids. refl) (λ ids. refl)

pub returns-in-249 : goal.returns-in-249
returns-in-249 c = numeric lanes.I32x4TruncSatF32x4U c.in-249.is refl refl (λ ids. refl) (λ ids. refl)

pub returns-in-250 : goal.returns-in-250
returns-in-250 c = numeric lanes.F32x4ConvertI32x4S c.in-250.is refl refl (λ ids. refl) (λ ids. refl)

pub returns-in-251 : goal.returns-in-251
returns-in-251 c = numeric lanes.F32x4ConvertI32x4U c.in-251.is refl refl (λ ids. refl) (λ ids. refl)

pub returns-in-252 : goal.returns-in-252
returns-in-252 c = numeric lanes.I32x4TruncSatF64x2SZero c.in-252.is refl refl (λ ids. refl) (λ ids. refl)

pub returns-in-253 : goal.returns-in-253
returns-in-253 c = numeric lanes.I32x4TruncSatF64x2UZero c.in-253.is refl refl (λ ids. refl) (λ ids. refl)

pub returns-in-254 : goal.returns-in-254
returns-in-254 c = numeric lanes.F64x2ConvertLowI32x4S c.in-254.is refl refl (λ ids. refl) (λ ids. refl)

pub returns-in-255 : goal.returns-in-255
returns-in-255 c = numeric lanes.F64x2ConvertLowI32x4U c.in-255.is refl refl (λ ids. refl) (λ ids. refl)

pub returns-in-256 : goal.returns-in-256
returns-in-256 c = numeric lanes.I8x16RelaxedSwizzle c.in-256.is refl refl (λ ids. refl) (λ ids. refl)

pub returns-in-257 : goal.returns-in-257
returns-in-257 c = numeric lanes.I32x4RelaxedTruncF32x4S c.in-257.is refl refl (λ ids. refl) (λ ids. refl)

pub returns-in-258 : goal.returns-in-258
returns-in-258 c = numeric lanes.I32x4RelaxedTruncF32x4U c.in-258.is refl refl (λ ids. refl) (λ ids. refl)

pub returns-in-259 : goal.returns-in-259
returns-in-259 c = numeric lanes.I32x4RelaxedTruncF64x2SZero c.in-259.is refl refl (λ ids. refl) (λ ids. refl)

pub returns-in-260 : goal.returns-in-260
returns-in-260 c = numeric lanes.I32x4RelaxedTruncF64x2UZero c.in-260.is refl refl (λ ids. refl) (λ ids. refl)

pub returns-in-261 : goal.returns-in-261
returns-in-261 c = numeric lanes.F32x4RelaxedMadd c.in-261.is refl refl (λ ids. refl) (λ ids. refl)

pub returns-in-262 : goal.returns-in-262
returns-in-262 c = numeric lanes.F32x4RelaxedNmadd c.in-262.is refl refl (λ ids. refl) (λ ids. refl)

pub returns-in-263 : goal.returns-in-263
returns-in-263 c = numeric lanes.F64x2RelaxedMadd c.in-263.is refl refl (λ ids. refl) (λ ids. refl)

pub returns-in-264 : goal.returns-in-264
returns-in-264 c = numeric lanes.F64x2RelaxedNmadd c.in-264.is refl refl (λ ids. refl) (λ ids. refl)

pub returns-in-265 : goal.returns-in-265
returns-in-265 c = numeric lanes.I8x16RelaxedLaneselect c.in-265.is refl refl (λ ids. refl) (λ ids. refl)

pub returns-in-266 : goal.returns-in-266
returns-in-266 c = numeric lanes.I16x8RelaxedLaneselect c.in-266.is refl refl (λ ids. refl) (λ ids. refl)

pub returns-in-267 : goal.returns-in-267
returns-in-267 c = numeric lanes.I32x4RelaxedLaneselect c.in-267.is refl refl (λ ids. refl) (λ ids. refl)

pub returns-in-268 : goal.returns-in-268
returns-in-268 c = numeric lanes.I64x2RelaxedLaneselect c.in-268.is refl refl (λ ids. refl) (λ ids. refl)

pub returns-in-269 : goal.returns-in-269
returns-in-269 c = numeric lanes.F32x4RelaxedMin c.in-269.is refl refl (λ ids. refl) (λ ids. refl)

pub returns-in-270 : goal.returns-in-270
returns-in-270 c = numeric lanes.F32x4RelaxedMax c.in-270.is refl refl (λ ids. refl) (λ ids. refl)

pub returns-in-271 : goal.returns-in-271
returns-in-271 c = numeric lanes.F64x2RelaxedMin c.in-271.is refl refl (λ ids. refl) (λ ids. refl)

pub returns-in-272 : goal.returns-in-272
returns-in-272 c = numeric lanes.F64x2RelaxedMax c.in-272.is refl refl (λ ids. refl) (λ ids. refl)

pub returns-in-273 : goal.returns-in-273
returns-in-273 c = numeric lanes.I16x8RelaxedQ15mulrS c.in-273.is refl refl (λ ids. refl) (λ ids. refl)

pub returns-in-274 : goal.returns-in-274
returns-in-274 c = numeric lanes.I16x8RelaxedDotI8x16I7x16S c.in-274.is refl refl (λ ids. refl) (λ ids. refl)

pub returns-in-275 : goal.returns-in-275
returns-in-275 c = numeric lanes.I32x4RelaxedDotI8x16I7x16AddS c.in-275.is refl refl (λ ids. refl) (λ ids. refl)
