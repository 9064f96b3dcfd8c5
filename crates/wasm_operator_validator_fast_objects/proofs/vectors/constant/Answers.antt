use Rattle.std.proofs.Common.{◌+◌, ◌≤◌, length, refl, arith}
use Rattle.wasm_operator_validator_fast_objects.proofs.VectorRows.{took_const}
use Rattle.wasm_operator_validator_fast_objects.proofs.vectors.constant.Goals as goal

pub returns-clause-leads : goal.returns-clause-leads
returns-clause-leads c =
    let room : c.args.middle + 16 ≤ length c.args.bytes.now = omega (arith, c.if-bytes-middle-lt16.false, c.requires.begins.begins.code_there.inside) in
    took_const c.args.tables.now c.args.bytes.now c.args.at (c.args.middle + 16) c.args.opens.now.inner c.args.opens.now.outer c.args.stack.now c.put.new.self c.args.code c.args.middle c.requires.begins c.requires.class room refl (c.if-not-put.ensures refl)
