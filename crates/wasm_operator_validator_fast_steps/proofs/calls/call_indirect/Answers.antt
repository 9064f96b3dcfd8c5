use Rattle.std.proofs.Common.{◌∷◌, get_or, refl, arith}
use Rattle.std.proofs.lemmas.Option.{slice_get-get_or}
use Rattle.wasm_operator_validator_fast_tables.specs.declared.tables.Sig.{Sig}
use Rattle.wasm_operator_validator_fast_tables.specs.Stacks.{with_all}
use Rattle.wasm_operator_validator_fast_tables.specs.Tables.{params_in, results_in}
use Rattle.wasm_operator_validator_fast_tables.proofs.Lowering.{lowered, lower_past}
use Rattle.wasm_operator_validator_fast_steps.proofs.Rows.{took_indirect}
use Rattle.wasm_operator_validator_fast_steps.proofs.calls.call_indirect.Goals as goal

pub returns-clause-leads : goal.returns-clause-leads
returns-clause-leads c =
    let types = c.as_slice-types.ensures.value in
    let none : Sig = record { params = 0; param_count = 0; results = 0; result_count = 0 } in
    let s = get_or c.args.tables.now.known.types.items c.in-Some.index none in
    let ps = params_in c.args.tables.now.known.flat.items s in
    let (m, low, put) = rw types at (c.if-not-pass.ensures.passed refl) in
    let opens = c.args.opens.now.inner ∷ c.args.opens.now.outer in
    lowered c.args.tables.now c.args.bytes.now c.args.at c.in-Some-table_index_at.end c.args.opens.now.inner c.args.opens.now.outer opens c.args.stack.now (c.calls_through-code.result ∷ (with_all ps m).0, m.1) c.pass.new.stack
    (lower_past c.args.tables.now.known.order c.calls_through-code.result c.args.stack.now c.take.new.self (with_all ps m) (c.if-not-take.ensures refl) low)
    (took_indirect c.args.tables.now c.args.bytes.now c.args.at c.in-Some-table_index_at.end c.args.opens.now.inner c.args.opens.now.outer (c.calls_through-code.result ∷ (with_all ps m).0, m.1) c.pass.new.stack c.requires c.in-Some-table_index_at.table c.calls_through-code.result (c.calls_through-code.ensures c.if-code-ge-NO_CODE.false) c.in-Some.index c.in-Some.middle c.in-Some.ensures
    c.in-Some-table_index_at.ensures
    s (slice_get-get_or c.args.tables.now.known.types.items c.in-Some.index none (rw types at c.if-index-types.false))
    (rw types at (c.if-not-pass.ensures.usable refl)) ps (results_in c.args.tables.now.known.flat.items s) refl refl (with_all ps m) m refl refl put)

pub returns-clause-forward : goal.returns-clause-forward
returns-clause-forward c = omega (arith, c.in-Some.ensures.forward, c.in-Some-table_index_at.ensures.forward)

pub returns-clause-inside : goal.returns-clause-inside
returns-clause-inside c = c.in-Some-table_index_at.ensures.inside
