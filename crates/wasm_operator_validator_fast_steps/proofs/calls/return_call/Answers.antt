use Rattle.std.proofs.Common.{[], ◌∷◌, ◌∙◌, sym, refl}
use Rattle.std.proofs.lemmas.Option.{slice_get-get_or}
use Rattle.wasm_operator_validator_fast_tables.specs.Stacks.{with_all}
use Rattle.wasm_operator_validator_fast_tables.proofs.Lowering.{lowered}
use Rattle.wasm_operator_validator_fast_steps.proofs.Rows.{took_return_call}
use Rattle.wasm_operator_validator_fast_steps.proofs.Unreaching.{leads_then}
use Rattle.wasm_operator_validator_fast_steps.proofs.calls.return_call.Goals as goal

pub returns-clause-leads : goal.returns-clause-leads
returns-clause-leads c =
    let functions = c.as_slice-functions.ensures.value in
    let opens = c.args.opens.now.inner ∷ c.args.opens.now.outer in
    let (rs, onwards) = c.in-Some-unreached.ensures.leads in
    let after = with_all rs ([], c.take_all.new.self.1) in
    leads_then c.args.tables.now c.args.bytes.now c.args.at c.in-Some.end c.in-Some-unreached.next opens opens opens c.args.stack.now after c.unreached.new.stack
    (lowered c.args.tables.now c.args.bytes.now c.args.at c.in-Some.end c.args.opens.now.inner c.args.opens.now.outer opens c.args.stack.now (with_all c.in-Some-returned.params.now c.take_all.new.self) after
    (c.if-not-take_all.ensures refl)
    (took_return_call c.args.tables.now c.args.bytes.now c.args.at c.in-Some.end c.args.opens.now.inner c.args.opens.now.outer (with_all c.in-Some-returned.params.now c.take_all.new.self) after c.requires
    (sym c.tail_call.ensures ∙ c.if-not-tail_call.false) c.in-Some.index c.in-Some.ensures
    _ (slice_get-get_or c.args.tables.now.known.functions.items c.in-Some.index 0 (rw functions at c.if-index-functions.false))
    c.in-Some-returned.params.now (rw functions at c.in-Some-returned.ensures) c.take_all.new.self rs refl refl)) onwards
