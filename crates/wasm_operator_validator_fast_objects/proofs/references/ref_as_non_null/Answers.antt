use Rattle.std.proofs.Common.{◌+◌, refl}
use Rattle.wasm_operator_validator_fast_objects.proofs.Referring.{took_as_non_null}
use Rattle.wasm_operator_validator_fast_objects.proofs.references.ref_as_non_null.Goals as goal

pub returns-clause-leads : goal.returns-clause-leads
returns-clause-leads c =
    let (rest, taken, put) = c.if-not-change.ensures refl in
    took_as_non_null c.args.tables.now c.args.bytes.now c.args.at (c.args.at + 1) c.args.opens.now.inner c.args.opens.now.outer c.args.stack.now c.change.new.self c.if-not-tables.false c.requires refl c.in-Some.code c.never_null.result rest c.if-code-lt8.false (c.never_null.ensures c.if-code-lt8.false) taken put
