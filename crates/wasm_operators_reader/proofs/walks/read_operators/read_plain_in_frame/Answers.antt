use Rattle.std.proofs.Common.{rules}
use Rattle.wasm_operators_reader.specs.walks.InFrameLaws.{refused_plain}
use Rattle.wasm_operators_reader.proofs.walks.read_operators.read_plain_in_frame.Goals as goal

pub returns-in-Err-clause-refused : goal.returns-in-Err-clause-refused
returns-in-Err-clause-refused c = (
  refused_plain c.args.frame c.args.reader.now c.clone-start.result c.in-Err.error c.unread_in_frame.result c.in-Err.ensures.refused.0 c.clone-start.ensures c.unread_in_frame.ensures.told,
  c.in-Err.ensures.refused.1,
)

pub returns-then-is_simd-clause-read : goal.returns-then-is_simd-clause-read
returns-then-is_simd-clause-read c = search rules
