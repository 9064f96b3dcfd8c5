use Rattle.std.proofs.Common.{◌∙◌, sym, length}
use Rattle.std.proofs.lemmas.Bool.{eqb-true}
use Rattle.wasm_operator_validator_control.proofs.Tags.{tag_unknown, tag_is, emptied}
use Rattle.wasm_operator_validator_control.proofs.exceptions.exception_tag.Goals as goal

pub returns-in_default : goal.returns-in_default
returns-in_default g c = tag_unknown (g.R.WasmModuleResources.meaning c.args.resources.now) c.args.tag_index c.in_default.ensures

pub returns : goal.returns
returns g c =
    tag_is (g.R.WasmModuleResources.meaning c.args.resources.now) c.args.tag_index c.in-Some.tag.now c.in-Some.ensures
    (sym c.results.ensures ∙ emptied c.results.result.now (eqb-true (length c.results.result.now) 0 (sym c.is_empty.ensures ∙ c.if-not-is_empty.false)))
