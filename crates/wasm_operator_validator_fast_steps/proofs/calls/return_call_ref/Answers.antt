use Rattle.std.proofs.Common.{[], get_or, ◌∷◌, ◌∙◌, sym, refl}
use Rattle.std.proofs.lemmas.Option.{slice_get-get_or}
use Rattle.wasm_operator_validator_fast_tables.specs.declared.tables.Defined.TheVariants.{Other}
use Rattle.wasm_operator_validator_fast_tables.specs.Stacks.{with_all}
use Rattle.wasm_operator_validator_fast_tables.proofs.Lowering.{lower_more, lowered}
use Rattle.wasm_operator_validator_fast_steps.proofs.Calling.{took_return_ref}
use Rattle.wasm_operator_validator_fast_steps.proofs.Unreaching.{leads_then}
use Rattle.wasm_operator_validator_fast_steps.proofs.calls.return_call_ref.Goals as goal

pub returns-clause-leads : goal.returns-clause-leads
returns-clause-leads c =
    let code = (get_or c.args.tables.now.known.named.items c.in-Some.ty (record { code = 0; defined = Other })).code in
    let named = c.as_slice-named.ensures.value in
    let params = c.in-Some-returned.params.now in
    let m = c.take_all.new.self in
    let opens = c.args.opens.now.inner ∷ c.args.opens.now.outer in
    let (rs, onwards) = c.in-Some-unreached.ensures.leads in
    let after = with_all rs ([], m.1) in
    leads_then c.args.tables.now c.args.bytes.now c.args.at c.in-Some.end c.in-Some-unreached.next opens opens opens c.args.stack.now after c.unreached.new.stack
    (lowered c.args.tables.now c.args.bytes.now c.args.at c.in-Some.end c.args.opens.now.inner c.args.opens.now.outer opens c.args.stack.now (code ∷ (with_all params m).0, m.1) after
    (lower_more c.args.tables.now.known.order code c.args.stack.now c.take_below.new.self (with_all params m) (rw named at (c.if-not-take_below.ensures refl)) (c.if-not-take_all.ensures refl))
    (took_return_ref c.args.tables.now c.args.bytes.now c.args.at c.in-Some.end c.args.opens.now.inner c.args.opens.now.outer (code ∷ (with_all params m).0, m.1) after c.requires (sym c.tail_call.ensures ∙ c.if-not-tail_call.false) c.in-Some.ty c.in-Some.ensures
    _ (slice_get-get_or c.args.tables.now.known.named.items c.in-Some.ty (record { code = 0; defined = Other }) (rw named at c.if-index-named.false)) (rw named at c.if-code-ge-NO_CODE.false)
    params c.in-Some-returned.ensures m rs refl refl)) onwards
