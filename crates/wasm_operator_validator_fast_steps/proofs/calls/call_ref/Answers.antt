use Rattle.std.proofs.Common.{get_or, ◌∷◌, refl}
use Rattle.std.proofs.lemmas.Option.{slice_get-get_or}
use Rattle.wasm_operator_validator_fast_tables.specs.declared.tables.Defined.TheVariants.{Other}
use Rattle.wasm_operator_validator_fast_tables.specs.Stacks.{with_all}
use Rattle.wasm_operator_validator_fast_tables.proofs.Lowering.{lower_more, lowered}
use Rattle.wasm_operator_validator_fast_steps.proofs.Calling.{took_call_ref}
use Rattle.wasm_operator_validator_fast_steps.proofs.calls.call_ref.Goals as goal

pub returns-clause-leads : goal.returns-clause-leads
returns-clause-leads c =
    let code = (get_or c.args.tables.now.known.named.items c.in-Some.index (record { code = 0; defined = Other })).code in
    let named = c.as_slice-named.ensures.value in
    let types = c.as_slice-types.ensures.value in
    let flat = c.as_slice-flat.ensures.value in
    let m = with_all c.in-Some-part.params.now c.take_all.new.self in
    lowered c.args.tables.now c.args.bytes.now c.args.at c.in-Some.end c.args.opens.now.inner c.args.opens.now.outer (c.args.opens.now.inner ∷ c.args.opens.now.outer) c.args.stack.now (code ∷ m.0, m.1) c.put_all.new.self
    (lower_more c.args.tables.now.known.order code c.args.stack.now c.take_below.new.self m (rw named at (c.if-not-take_below.ensures refl)) (c.if-not-take_all.ensures refl))
    (took_call_ref c.args.tables.now c.args.bytes.now c.args.at c.in-Some.end c.args.opens.now.inner c.args.opens.now.outer (code ∷ m.0, m.1) c.put_all.new.self c.if-not-tables.false c.requires c.in-Some.index c.in-Some.ensures
    _ (slice_get-get_or c.args.tables.now.known.named.items c.in-Some.index (record { code = 0; defined = Other }) (rw named at c.if-index-named.false)) (rw named at c.if-code-ge-NO_CODE.false)
    _ (slice_get-get_or c.args.tables.now.known.types.items c.in-Some.index (record { params = 0; param_count = 0; results = 0; result_count = 0 }) (rw types at c.if-index-types.false))
    (rw (flat, types) at c.in-Some-part.ensures.within) c.in-Some-part.params.now c.in-Some-part-2.results.now
    (rw (flat, types) at c.in-Some-part.ensures.value) (rw (flat, types) at c.in-Some-part-2.ensures.value) c.take_all.new.self refl (c.if-not-put_all.ensures refl))
