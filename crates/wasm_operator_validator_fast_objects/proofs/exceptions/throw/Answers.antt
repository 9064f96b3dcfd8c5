use Rattle.std.proofs.Common.{[], ◌∷◌, refl}
use Rattle.std.proofs.lemmas.Option.{slice_get-get_or}
use Rattle.wasm_operator_validator_fast_tables.specs.Stacks.{with_all}
use Rattle.wasm_operator_validator_fast_tables.proofs.Lowering.{lowered}
use Rattle.wasm_operator_validator_fast_steps.proofs.Throwing.{took_throw}
use Rattle.wasm_operator_validator_fast_steps.proofs.Unreaching.{leads_then}
use Rattle.wasm_operator_validator_fast_objects.proofs.exceptions.throw.Goals as goal

pub returns-clause-leads : goal.returns-clause-leads
returns-clause-leads c =
    let tags = c.as_slice-tags.ensures.value in
    let flat = c.as_slice-flat.ensures.value in
    let params = c.in-Some-part.params.now in
    let m = c.take_all.new.self in
    let opens = c.args.opens.now.inner ∷ c.args.opens.now.outer in
    let (rs, onwards) = c.in-Some-unreached.ensures.leads in
    let after = with_all rs ([], m.1) in
    leads_then c.args.tables.now c.args.bytes.now c.args.at c.in-Some.end c.in-Some-unreached.next opens opens opens c.args.stack.now after c.unreached.new.stack
    (lowered c.args.tables.now c.args.bytes.now c.args.at c.in-Some.end c.args.opens.now.inner c.args.opens.now.outer opens c.args.stack.now (with_all params m) after (c.if-not-take_all.ensures refl)
    (took_throw c.args.tables.now c.args.bytes.now c.args.at c.in-Some.end c.args.opens.now.inner c.args.opens.now.outer (with_all params m) after c.if-not-tables.false c.requires c.in-Some.index c.in-Some.ensures
    _ (slice_get-get_or c.args.tables.now.known.tags.items c.in-Some.index (record { params = 0; param_count = 0; results = 0; result_count = 0 }) (rw tags at c.if-index-tags.false)) (rw (flat, tags) at c.in-Some-part.ensures.within)
    params (rw (flat, tags) at c.in-Some-part.ensures.value) m rs refl refl)) onwards
