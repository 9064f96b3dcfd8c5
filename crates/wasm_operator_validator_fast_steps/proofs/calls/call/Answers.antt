use Rattle.std.proofs.Common.{◌∷◌, get_or, refl}
use Rattle.std.proofs.lemmas.Option.{slice_get-get_or}
use Rattle.wasm_operator_validator_fast_tables.specs.declared.tables.Sig.{Sig}
use Rattle.wasm_operator_validator_fast_tables.specs.Stacks.{with_all}
use Rattle.wasm_operator_validator_fast_tables.specs.Tables.{params_in, results_in}
use Rattle.wasm_operator_validator_fast_tables.proofs.Lowering.{lowered}
use Rattle.wasm_operator_validator_fast_steps.proofs.Rows.{took_call}
use Rattle.wasm_operator_validator_fast_steps.proofs.calls.call.Goals as goal

pub returns-clause-leads : goal.returns-clause-leads
returns-clause-leads c =
    let callees = c.as_slice-callees.ensures.value in
    let none : Sig = record { params = 0; param_count = 0; results = 0; result_count = 0 } in
    let s = get_or c.args.tables.now.known.callees.items c.in-Some.index none in
    let ps = params_in c.args.tables.now.known.flat.items s in
    let (m, low, put) = rw callees at (c.if-not-pass.ensures.passed refl) in
    let opens = c.args.opens.now.inner ∷ c.args.opens.now.outer in
    lowered c.args.tables.now c.args.bytes.now c.args.at c.in-Some.end c.args.opens.now.inner c.args.opens.now.outer opens c.args.stack.now (with_all ps m) c.pass.new.stack low
    (took_call c.args.tables.now c.args.bytes.now c.args.at c.in-Some.end c.args.opens.now.inner c.args.opens.now.outer (with_all ps m) c.pass.new.stack c.requires c.in-Some.index c.in-Some.ensures
    s (slice_get-get_or c.args.tables.now.known.callees.items c.in-Some.index none (rw callees at c.if-index-callees.false))
    (rw callees at (c.if-not-pass.ensures.usable refl)) ps (results_in c.args.tables.now.known.flat.items s) refl refl m refl put)
