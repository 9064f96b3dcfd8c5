-- Only codes above all runs are in none.
use Rattle.std.proofs.Common.{arith}
use Rattle.wasm_operators_decode.proofs.SimdNumericCodes.{none_above}
use Rattle.wasm_operators_decode.proofs.simd_numeric.simd_numeric_of.Goals as goal

pub returns-in_default-clause-known : goal.returns-in_default-clause-known
returns-in_default-clause-known c = none_above c.args.code (omega arith)
