use Rattle.std.proofs.Common.{◌∙◌, ap, Bool, Some, false, refl}
use Rattle.std.proofs.lemmas.Option.{slice_get-get_or}
use Rattle.wasm_operator_validator_fast_tables.specs.declared.tables.Defined.TheVariants.{Other}
use Rattle.wasm_operator_validator_fast_objects.proofs.Referring.{took_ref_func}
use Rattle.wasm_operator_validator_fast_objects.proofs.references.ref_func.Goals as goal

pub returns-clause-leads : goal.returns-clause-leads
returns-clause-leads c =
    let functions = c.as_slice-functions.ensures.value in
    let referenced = c.as_slice-referenced.ensures.value in
    let named = c.as_slice-named.ensures.value in
    let x = c.in-Some.index in
    let known = c.args.tables.now.known in
    took_ref_func c.args.tables.now c.args.bytes.now c.args.at c.in-Some.end c.args.opens.now.inner c.args.opens.now.outer c.args.stack.now c.put.new.self c.if-not-tables.false c.requires x c.in-Some.ensures
    _ (slice_get-get_or known.functions.items x 0 (rw functions at c.if-index-functions.false))
    (slice_get-get_or known.referenced.items x false (rw referenced at c.if-index-referenced.false) ∙ ap (λ (b : Bool). Some b) (rw referenced at c.if-not-referenced-index.false))
    _ (slice_get-get_or known.named.items _ (record { code = 0; defined = Other }) (rw (functions, named) at c.if-ty-named.false))
    (rw (functions, named) at c.if-code-ge-NO_CODE.false) (rw (functions, named) at (c.if-not-put.ensures refl))
