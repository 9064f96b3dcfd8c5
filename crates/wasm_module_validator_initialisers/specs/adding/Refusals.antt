-- Why an item with constants is refused, and where: for itself or for its constants, or because there are as many as the limit.
use Rattle.std.specs.Prelude.{◌⊎◌, ◌≤◌, ℕ, List, length}
use Rattle.wasm_types.specs.decoding.Decoder.{State}
use Rattle.wasm_types.specs.decoding.ErrorValue.{ErrorValue}
use Rattle.wasm_sections_items.specs.declared.segments.global.GlobalOf.{GlobalOf}
use Rattle.wasm_sections_items.specs.declared.segments.table.TableOf.{TableOf}
use Rattle.wasm_sections_items.specs.declared.elements.element.ElementOf.{ElementOf}
use Rattle.wasm_module_validator_type_storage.specs.trees.Groups.{Group}
use Rattle.wasm_module_validator_state.specs.Items.{Items}
use Rattle.wasm_module_validator_checks.specs.rules.Valid.{most_tables}
use Rattle.wasm_module_validator_initialisers.specs.segments.Refusals.{IsFault, RefusesGlobal, RefusesTable}
use Rattle.wasm_module_validator_initialisers.specs.elements.Refusals.{RefusesElement}
use Rattle.wasm_module_validator_state.specs.invariant.Standing.{constants_of}

-- so many are there, which is the limit, and the item is refused where it begins
abbrev pub IsOneTooMany : ℕ → ℕ → ℕ → ErrorValue → Type 0
IsOneTooMany there most offset e = (most ≤ there) × IsFault offset e

abbrev pub RefusesNewGlobal : List Group → Items → ℕ → GlobalOf State → ErrorValue → Type 0
RefusesNewGlobal groups s offset x e = RefusesGlobal s.spaces.settings (constants_of groups s.spaces) s.spaces.imported_globals offset x e
    ⊎ IsOneTooMany (length s.spaces.globals) s.spaces.settings.limits.globals offset e

abbrev pub RefusesNewTable : List Group → Items → ℕ → TableOf State → ErrorValue → Type 0
RefusesNewTable groups s offset x e = RefusesTable s.spaces.settings (constants_of groups s.spaces) s.spaces.imported_globals offset x e
    ⊎ IsOneTooMany (length s.spaces.tables) (most_tables s.spaces.settings) offset e

abbrev pub RefusesNewElement : List Group → Items → ℕ → ElementOf State → ErrorValue → Type 0
RefusesNewElement groups s offset x e = RefusesElement s.spaces.settings (constants_of groups s.spaces) s.spaces.imported_globals offset x e
    ⊎ IsOneTooMany (length s.spaces.elements) s.spaces.settings.limits.element_segments offset e
