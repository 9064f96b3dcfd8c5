use Rattle.std.proofs.Common.{◌∙◌, sym, ap}
use Rattle.std.specs.Prelude.{option_map, slice_get}
use Rattle.wasm_operator_validator_state.specs.resources.Meaning.{table_in}
use Rattle.wasm_module_validator_initialisers.proofs.Places.{fits, fits_not, place_denied, place_refused, offset_answer, offset_refused}
use Rattle.wasm_module_validator_initialisers.proofs.elements.modes.check_place.Goals as goal

pub returns-then-not-is_subtype-clause-answer : goal.returns-then-not-is_subtype-clause-answer
returns-then-not-is_subtype-clause-answer g c =
    let m = g.R.WasmModuleResources.meaning c.args.resources.now in
    let t = c.in-Some.table in
    place_denied c.args.settings.now m c.args.imported_globals c.args.ty c.args.table_index c.args.offset_expr.now t
    (ap (slice_get m.«module».tables) (sym c.table_index_of-index.ensures) ∙ sym c.table_at.ensures ∙ ap (option_map (table_in m)) c.in-Some.is) c.does_not_fit.result.kind
    (fits_not c.args.settings.now m c.args.imported_globals c.args.ty t c.is_subtype.result c.is_subtype.ensures c.if-not-is_subtype.true)

pub returns-then-not-is_subtype-clause-refused : goal.returns-then-not-is_subtype-clause-refused
returns-then-not-is_subtype-clause-refused g c =
    let m = g.R.WasmModuleResources.meaning c.args.resources.now in
    let t = c.in-Some.table in
    place_refused c.args.settings.now m c.args.imported_globals c.args.ty c.args.table_index c.args.offset_expr.now t
    (ap (slice_get m.«module».tables) (sym c.table_index_of-index.ensures) ∙ sym c.table_at.ensures ∙ ap (option_map (table_in m)) c.in-Some.is) c.args.offset c.does_not_fit.result
    (fits_not c.args.settings.now m c.args.imported_globals c.args.ty t c.is_subtype.result c.is_subtype.ensures c.if-not-is_subtype.true) (c.does_not_fit.ensures.kind, c.does_not_fit.ensures.at)

pub returns-clause-answer : goal.returns-clause-answer
returns-clause-answer g c =
    let m = g.R.WasmModuleResources.meaning c.args.resources.now in
    let t = c.in-Some.table in
    offset_answer c.args.settings.now m c.args.imported_globals c.args.ty c.args.table_index c.args.offset_expr.now t
    (ap (slice_get m.«module».tables) (sym c.table_index_of-index.ensures) ∙ sym c.table_at.ensures ∙ ap (option_map (table_in m)) c.in-Some.is) _ _ c.index_type.ensures
    (fits c.args.settings.now m c.args.imported_globals c.args.ty t c.is_subtype.result c.is_subtype.ensures c.if-not-is_subtype.false) c.take_constant.ensures.answer

pub returns-clause-refused : goal.returns-clause-refused
returns-clause-refused g c =
    let m = g.R.WasmModuleResources.meaning c.args.resources.now in
    let t = c.in-Some.table in
    offset_refused c.args.settings.now m c.args.imported_globals c.args.ty c.args.table_index c.args.offset_expr.now t
    (ap (slice_get m.«module».tables) (sym c.table_index_of-index.ensures) ∙ sym c.table_at.ensures ∙ ap (option_map (table_in m)) c.in-Some.is) _ _ c.index_type.ensures
    (fits c.args.settings.now m c.args.imported_globals c.args.ty t c.is_subtype.result c.is_subtype.ensures c.if-not-is_subtype.false) c.args.offset c.take_constant.ensures.refused
