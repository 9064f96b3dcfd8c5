use Rattle.std.proofs.Common.{◌≡◌}
use Rattle.wasm_types.specs.decoding.Places.{end_of}
use Rattle.wasm_operators_encoding.specs.ConstantDecoder.{constant}
use Rattle.wasm_sections_items.specs.limited.Walking.{fresh, items_left}
use Rattle.wasm_sections_items.specs.limited.Runs.{place_with_offsets}
use Rattle.wasm_operator_validator_state.specs.resources.Meaning.{type_in}
use Rattle.wasm_module_validator_initialisers.specs.segments.Judged.{IsConstantText}
use Rattle.wasm_module_validator_resources.specs.referring.Naming.{NamesMore}
use Rattle.wasm_module_validator_initialisers.specs.elements.Refusals.{RefusesConstant}
use Rattle.wasm_module_validator_initialisers.proofs.Walks.{Walked}
use Rattle.wasm_module_validator_initialisers.proofs.elements.items.check_constants.Given as goal

abbrev pub invariant-elements : goal.invariant-elements
invariant-elements g l =
    let m = g.R.WasmModuleResources.meaning l.resources in
    let t = type_in m l.ty in
    Walked (IsConstantText l.settings m.«module» l.imported_globals t) (NamesMore l.settings) constant (RefusesConstant l.settings m l.imported_globals t)
    (fresh l.fn.constants.count l.fn.constants.reader) l.fn.names.items (place_with_offsets l.elements) l.names.items
    × (end_of (place_with_offsets l.elements).reader ≡ end_of l.fn.constants.reader)

abbrev pub decreases-elements : goal.decreases-elements
decreases-elements g l = items_left l.elements.end l.elements.remaining
