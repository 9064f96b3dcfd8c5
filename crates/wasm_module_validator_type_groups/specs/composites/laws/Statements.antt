-- Laws of valid composite types over ids: what the functions of src/laws.rt promise.
use Rattle.std.specs.Prelude.{◌↔◌, ℕ, List}
use Rattle.wasm_types.specs.trees.declared.index.UnpackedIndex.{UnpackedIndex}
use Rattle.wasm_types.specs.trees.Types.{EntryOf, entry_map}
use Rattle.wasm_types.specs.trees.Each.{EachInner}
use Rattle.wasm_types.specs.trees.ValidGroup.{IsValidComposite}
use Rattle.wasm_module_validator_type_storage.specs.trees.Groups.{Group, count}
use Rattle.wasm_module_validator_type_storage.specs.trees.Formed.{IsFormed, AreCanonical}
use Rattle.wasm_module_validator_type_storage.specs.trees.ByIds.{tree_named}
use Rattle.wasm_module_validator_type_storage.specs.trees.BelowIds.{IsIdBelow}
use Rattle.wasm_module_validator_type_groups.specs.composites.Composites.{IsCompositeValid}

-- a composite type over ids is valid exactly where it is over the types that the ids stand for
abbrev pub CompositesAreValidAsTypes : Type 0
CompositesAreValidAsTypes = (groups : List Group) → IsFormed groups → AreCanonical groups → (bits : ℕ) (x : EntryOf UnpackedIndex)
    → EachInner (IsIdBelow (count groups)) x.inner → IsCompositeValid groups bits x ↔ IsValidComposite bits (entry_map (tree_named groups) x)
