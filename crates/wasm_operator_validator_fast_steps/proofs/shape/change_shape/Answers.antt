-- Each of them has its shape.
use Rattle.std.proofs.Common.{refl}
use Rattle.wasm_operators_enums.specs.declared.numeric.NumericOperator.TheVariants as numeric
use Rattle.wasm_operator_validator_fast_steps.proofs.Coded.{coded, coded_sign}
use Rattle.wasm_operator_validator_fast_steps.proofs.shape.change_shape.Goals as goal

pub returns-in-121 : goal.returns-in-121
returns-in-121 c lt = coded numeric.I64Clz c.in-121.is refl refl refl refl (λ ids. refl) (λ ids. refl)

pub returns-in-122 : goal.returns-in-122
returns-in-122 c lt = coded numeric.I64Ctz c.in-122.is refl refl refl refl (λ ids. refl) (λ ids. refl)

pub returns-in-123 : goal.returns-in-123
returns-in-123 c lt = coded numeric.I64Popcnt c.in-123.is refl refl refl refl (λ ids. refl) (λ ids. refl)

pub returns-in-139 : goal.returns-in-139
returns-in-139 c lt = coded numeric.F32Abs c.in-139.is refl refl refl refl (λ ids. refl) (λ ids. refl)

pub returns-in-140 : goal.returns-in-140
returns-in-140 c lt = coded numeric.F32Neg c.in-140.is refl refl refl refl (λ ids. refl) (λ ids. refl)

pub returns-in-141 : goal.returns-in-141
returns-in-141 c lt = coded numeric.F32Ceil c.in-141.is refl refl refl refl (λ ids. refl) (λ ids. refl)

pub returns-in-142 : goal.returns-in-142
returns-in-142 c lt = coded numeric.F32Floor c.in-142.is refl refl refl refl (λ ids. refl) (λ ids. refl)

pub returns-in-143 : goal.returns-in-143
returns-in-143 c lt = coded numeric.F32Trunc c.in-143.is refl refl refl refl (λ ids. refl) (λ ids. refl)

pub returns-in-144 : goal.returns-in-144
returns-in-144 c lt = coded numeric.F32Nearest c.in-144.is refl refl refl refl (λ ids. refl) (λ ids. refl)

pub returns-in-145 : goal.returns-in-145
returns-in-145 c lt = coded numeric.F32Sqrt c.in-145.is refl refl refl refl (λ ids. refl) (λ ids. refl)

pub returns-in-153 : goal.returns-in-153
returns-in-153 c lt = coded numeric.F64Abs c.in-153.is refl refl refl refl (λ ids. refl) (λ ids. refl)

pub returns-in-154 : goal.returns-in-154
returns-in-154 c lt = coded numeric.F64Neg c.in-154.is refl refl refl refl (λ ids. refl) (λ ids. refl)

pub returns-in-155 : goal.returns-in-155
returns-in-155 c lt = coded numeric.F64Ceil c.in-155.is refl refl refl refl (λ ids. refl) (λ ids. refl)

pub returns-in-156 : goal.returns-in-156
returns-in-156 c lt = coded numeric.F64Floor c.in-156.is refl refl refl refl (λ ids. refl) (λ ids. refl)

pub returns-in-157 : goal.returns-in-157
returns-in-157 c lt = coded numeric.F64Trunc c.in-157.is refl refl refl refl (λ ids. refl) (λ ids. refl)

pub returns-in-158 : goal.returns-in-158
returns-in-158 c lt = coded numeric.F64Nearest c.in-158.is refl refl refl refl (λ ids. refl) (λ ids. refl)

pub returns-in-159 : goal.returns-in-159
returns-in-159 c lt = coded numeric.F64Sqrt c.in-159.is refl refl refl refl (λ ids. refl) (λ ids. refl)

pub returns-in-168 : goal.returns-in-168
returns-in-168 c lt = coded numeric.I32TruncF32S c.in-168.is refl refl refl refl (λ ids. refl) (λ ids. refl)

pub returns-in-169 : goal.returns-in-169
returns-in-169 c lt = coded numeric.I32TruncF32U c.in-169.is refl refl refl refl (λ ids. refl) (λ ids. refl)

pub returns-in-170 : goal.returns-in-170
returns-in-170 c lt = coded numeric.I32TruncF64S c.in-170.is refl refl refl refl (λ ids. refl) (λ ids. refl)

pub returns-in-171 : goal.returns-in-171
returns-in-171 c lt = coded numeric.I32TruncF64U c.in-171.is refl refl refl refl (λ ids. refl) (λ ids. refl)

pub returns-in-174 : goal.returns-in-174
returns-in-174 c lt = coded numeric.I64TruncF32S c.in-174.is refl refl refl refl (λ ids. refl) (λ ids. refl)

pub returns-in-175 : goal.returns-in-175
returns-in-175 c lt = coded numeric.I64TruncF32U c.in-175.is refl refl refl refl (λ ids. refl) (λ ids. refl)

pub returns-in-176 : goal.returns-in-176
returns-in-176 c lt = coded numeric.I64TruncF64S c.in-176.is refl refl refl refl (λ ids. refl) (λ ids. refl)

pub returns-in-177 : goal.returns-in-177
returns-in-177 c lt = coded numeric.I64TruncF64U c.in-177.is refl refl refl refl (λ ids. refl) (λ ids. refl)

pub returns-in-178 : goal.returns-in-178
returns-in-178 c lt = coded numeric.F32ConvertI32S c.in-178.is refl refl refl refl (λ ids. refl) (λ ids. refl)

pub returns-in-179 : goal.returns-in-179
returns-in-179 c lt = coded numeric.F32ConvertI32U c.in-179.is refl refl refl refl (λ ids. refl) (λ ids. refl)

pub returns-in-180 : goal.returns-in-180
returns-in-180 c lt = coded numeric.F32ConvertI64S c.in-180.is refl refl refl refl (λ ids. refl) (λ ids. refl)

pub returns-in-181 : goal.returns-in-181
returns-in-181 c lt = coded numeric.F32ConvertI64U c.in-181.is refl refl refl refl (λ ids. refl) (λ ids. refl)

pub returns-in-182 : goal.returns-in-182
returns-in-182 c lt = coded numeric.F32DemoteF64 c.in-182.is refl refl refl refl (λ ids. refl) (λ ids. refl)

pub returns-in-183 : goal.returns-in-183
returns-in-183 c lt = coded numeric.F64ConvertI32S c.in-183.is refl refl refl refl (λ ids. refl) (λ ids. refl)

pub returns-in-184 : goal.returns-in-184
returns-in-184 c lt = coded numeric.F64ConvertI32U c.in-184.is refl refl refl refl (λ ids. refl) (λ ids. refl)

pub returns-in-185 : goal.returns-in-185
returns-in-185 c lt = coded numeric.F64ConvertI64S c.in-185.is refl refl refl refl (λ ids. refl) (λ ids. refl)

pub returns-in-186 : goal.returns-in-186
returns-in-186 c lt = coded numeric.F64ConvertI64U c.in-186.is refl refl refl refl (λ ids. refl) (λ ids. refl)

pub returns-in-187 : goal.returns-in-187
returns-in-187 c lt = coded numeric.F64PromoteF32 c.in-187.is refl refl refl refl (λ ids. refl) (λ ids. refl)

pub returns-in-188 : goal.returns-in-188
returns-in-188 c lt = coded numeric.I32ReinterpretF32 c.in-188.is refl refl refl refl (λ ids. refl) (λ ids. refl)

pub returns-in-189 : goal.returns-in-189
returns-in-189 c lt = coded numeric.I64ReinterpretF64 c.in-189.is refl refl refl refl (λ ids. refl) (λ ids. refl)

pub returns-in-190 : goal.returns-in-190
returns-in-190 c lt = coded numeric.F32ReinterpretI32 c.in-190.is refl refl refl refl (λ ids. refl) (λ ids. refl)

pub returns-in-191 : goal.returns-in-191
returns-in-191 c lt = coded numeric.F64ReinterpretI64 c.in-191.is refl refl refl refl (λ ids. refl) (λ ids. refl)

pub returns-in-194 : goal.returns-in-194
returns-in-194 c lt = coded_sign numeric.I64Extend8S c.in-194.is refl refl refl refl (λ ids. refl) (λ ids. refl)

pub returns-in-195 : goal.returns-in-195
returns-in-195 c lt = coded_sign numeric.I64Extend16S c.in-195.is refl refl refl refl (λ ids. refl) (λ ids. refl)

pub returns-in-196 : goal.returns-in-196
returns-in-196 c lt = coded_sign numeric.I64Extend32S c.in-196.is refl refl refl refl (λ ids. refl) (λ ids. refl)
