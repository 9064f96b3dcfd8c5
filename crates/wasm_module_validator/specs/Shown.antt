-- What a validator learned of a module that was read, or of which some was read; and what is looked up in it.
use Rattle.std.specs.Prelude.{List}
use Rattle.wasm_module_validator_index_spaces.specs.view.Shown.{Shown}
use Rattle.wasm_module_validator_index_spaces.specs.declared.view.validator_id.ValidatorId.{ValidatorId}
use Rattle.wasm_module_validator_drivers.specs.payloads.Progress.{Kept}
use Rattle.wasm_module_validator_drivers.specs.state.Items.{Items}
use Rattle.wasm_module_validator_type_storage.specs.trees.Groups.{Group}

-- the id of the validator, and what was read
pub record Learned : Type 0 where
  pub id : ValidatorId
  pub kept : Kept

-- the id, the groups of the list of types, the index spaces, the imports by their names, and the exports
abbrev pub shown_of : ValidatorId → List Group → Items → Shown
shown_of id groups items = record {
  id = id;
  groups = groups;
  spaces = items.spaces;
  imports = items.imports;
  exports = items.exports;
}

abbrev pub shown : Learned → Shown
shown l = shown_of l.id l.kept.groups l.kept.items
