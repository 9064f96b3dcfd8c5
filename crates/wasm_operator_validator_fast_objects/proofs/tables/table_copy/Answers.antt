use Rattle.std.proofs.Common.{◌∷◌, ◌∙◌, ap, sym, refl, arith}
use Rattle.wasm_operator_validator_fast_tables.specs.Stacks.{Values}
use Rattle.wasm_operator_validator_fast_objects.proofs.TableRows.{took_table_copy}
use Rattle.wasm_operator_validator_fast_objects.proofs.tables.table_copy.Goals as goal

pub returns-clause-leads : goal.returns-clause-leads
returns-clause-leads c =
    let one = c.if-not-take.ensures refl in
    let two = c.if-not-take-2.ensures refl in
    let three = c.if-not-take-3.ensures refl in
    let all = one ∙ ap (λ (x : Values). (c.shorter-least.result ∷ x.0, x.1)) (two ∙ ap (λ (x : Values). (c.in-Some-table_named.from.index ∷ x.0, x.1)) three) in
    took_table_copy c.args.tables.now c.args.bytes.now c.args.at c.in-Some-table_named.end c.args.opens.now.inner c.args.opens.now.outer c.args.stack.now
    c.take-else-not-take-2.new.self c.args.middle c.in-Some.next c.in-Some-table_named.from c.in-Some.to c.shorter-least.result c.requires
    (sym c.bulk_memory.ensures ∙ c.if-not-bulk_memory.false) c.in-Some.ensures c.in-Some-table_named.ensures (c.if-not-may_be_taken.ensures refl) c.shorter-least.ensures all

pub returns-clause-forward : goal.returns-clause-forward
returns-clause-forward c = omega (arith, c.requires.code_there.forward, c.in-Some.ensures.read.forward, c.in-Some-table_named.ensures.read.forward)

pub returns-clause-inside : goal.returns-clause-inside
returns-clause-inside c = c.in-Some-table_named.ensures.read.inside
