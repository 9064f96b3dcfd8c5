use Rattle.std.proofs.Common.{◌∙◌, sym, refl, arith}
use Rattle.wasm_operator_validator_fast_objects.proofs.TableRows.{took_elem_drop}
use Rattle.wasm_operator_validator_fast_objects.proofs.tables.elem_drop.Goals as goal

pub returns-clause-leads : goal.returns-clause-leads
returns-clause-leads c =
    took_elem_drop c.args.tables.now c.args.bytes.now c.args.at c.in-Some.end c.args.opens.now.inner c.args.opens.now.outer c.args.stack.now c.args.stack.now
    c.args.middle c.in-Some._code c.requires (sym c.bulk_memory.ensures ∙ c.if-not-bulk_memory.false) c.in-Some.ensures refl

pub returns-clause-forward : goal.returns-clause-forward
returns-clause-forward c = omega (arith, c.requires.code_there.forward, c.in-Some.ensures.read.forward)

pub returns-clause-inside : goal.returns-clause-inside
returns-clause-inside c = c.in-Some.ensures.read.inside
