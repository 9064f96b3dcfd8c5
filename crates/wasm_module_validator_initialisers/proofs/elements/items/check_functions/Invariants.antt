use Rattle.wasm_sections_items.specs.limited.Walking.{fresh}
use Rattle.wasm_sections_items.specs.limited.Runs.{place_with_offsets}
use Rattle.wasm_module_validator_initialisers.specs.elements.Items.{IsFunction, function_index}
use Rattle.wasm_module_validator_initialisers.specs.elements.Naming.{NamesFunction}
use Rattle.wasm_module_validator_initialisers.specs.elements.Refusals.{RefusesFunction}
use Rattle.wasm_module_validator_initialisers.proofs.Walks.{Walked}
use Rattle.wasm_module_validator_initialisers.proofs.elements.items.check_functions.Given as goal

abbrev pub invariant-loop-found : goal.invariant-loop-found
invariant-loop-found g l =
    let m = g.R.WasmModuleResources.meaning l.resources in
    Walked (IsFunction m.«module») NamesFunction function_index (RefusesFunction m.«module»)
    (fresh l.fn.functions.count l.fn.functions.reader) l.fn.names.items (place_with_offsets l.found-iterator) l.names.items
