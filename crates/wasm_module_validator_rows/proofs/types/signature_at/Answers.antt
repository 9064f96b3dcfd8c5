use Rattle.std.proofs.Common.{◌∙◌, ap, List, map, Some, slice_get, ◌++◌}
use Rattle.wasm_types.specs.values.declared.value.ValType.{ValType}
use Rattle.wasm_types.specs.values.Values.{value_of}
use Rattle.wasm_module_validator_rows.specs.Rows.{told_value}
use Rattle.wasm_module_validator_rows.proofs.Places.{row_left, row_right, row_behind}
use Rattle.wasm_module_validator_rows.proofs.types.signature_at.Goals as goal

pub returns-then-place-params : goal.returns-then-place-params
returns-then-place-params c =
    let ps : List ValType = c.params-params.result.now in
    ap Some c.value_row.ensures.value
    ∙ row_left told_value value_of ps c.args.ty.now.results c.args.place c.index-params-place.result c.if-place-params.true c.index-params-place.is
    ∙ ap (λ (l : List ValType). slice_get (map told_value (map value_of l) ++ map told_value (map value_of c.args.ty.now.results)) c.args.place) c.params-params.ensures

pub returns-then-behind-results : goal.returns-then-behind-results
returns-then-behind-results c =
    let ps : List ValType = c.params-params.result.now in
    let rs : List ValType = c.results-results.result.now in
    ap Some c.value_row-then-behind-results.ensures.value
    ∙ row_right told_value value_of ps rs c.args.place c.index-results-behind.result c.if-place-params.false c.if-behind-results.true c.index-results-behind.is
    ∙ ap (λ (l : List ValType). slice_get (map told_value (map value_of l) ++ map told_value (map value_of rs)) c.args.place) c.params-params.ensures
    ∙ ap (λ (l : List ValType). slice_get (map told_value (map value_of c.args.ty.now.params) ++ map told_value (map value_of l)) c.args.place) c.results-results.ensures

pub returns-else-behind-results : goal.returns-else-behind-results
returns-else-behind-results c =
    let ps : List ValType = c.params-params.result.now in
    let rs : List ValType = c.results-results.result.now in
    row_behind told_value value_of ps rs c.args.place c.if-place-params.false c.if-behind-results.false
    ∙ ap (λ (l : List ValType). slice_get (map told_value (map value_of l) ++ map told_value (map value_of rs)) c.args.place) c.params-params.ensures
    ∙ ap (λ (l : List ValType). slice_get (map told_value (map value_of c.args.ty.now.params) ++ map told_value (map value_of l)) c.args.place) c.results-results.ensures
