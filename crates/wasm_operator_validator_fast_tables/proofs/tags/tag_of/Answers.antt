use Rattle.std.proofs.Common.{refl, ap, sym, ◌∙◌, length}
use Rattle.wasm_operator_validator_state.specs.State.{types_in}
use Rattle.wasm_operator_validator_fast_tables.proofs.Tagging.{no_types, tagged}
use Rattle.wasm_operator_validator_fast_tables.proofs.tags.tag_of.Goals as goal

pub returns-clause-tag : goal.returns-clause-tag
returns-clause-tag g c =
    let m = g.R.WasmModuleResources.meaning c.args.resources.now in
    let f = c.in-Some.function.now in
    let (ps, e, p) = c.if-not-put_codes.ensures.codes refl in
    tagged m c.args.at _ f c.args.flat.now.items ps c.put_codes.new.flat.items e (ap (types_in m) (sym c.params-params.ensures) ∙ p m) (ap length c.as_slice-from.ensures.value)
    (ap length c.params-params.ensures) (no_types f.results (ap length (sym c.results.ensures) ∙ c.if-results-ne0.false)) c.in-Some.ensures
