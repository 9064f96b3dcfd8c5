-- Types all of whose supertypes are of one kind: of one sharedness, and below one abstract type.
use Rattle.std.specs.Prelude.{◌≡◌, ℕ, Bool, true, List, Option, Some, None, slice_get}
use Rattle.wasm_types.specs.trees.declared.index.CoreTypeId.{CoreTypeId}
use Rattle.wasm_types.specs.trees.declared.index.UnpackedIndex.{UnpackedIndex}
use Rattle.wasm_types.specs.trees.Types.{EntryOf}
use Rattle.wasm_types.specs.trees.Below.{abstract_above}
use Rattle.wasm_types.specs.declared.sub_type.SubType.{SubType}
use Rattle.wasm_types.specs.Entries.{declared_of}

-- two types of one kind
abbrev pub AreAlike : EntryOf UnpackedIndex → EntryOf UnpackedIndex → Type 0
AreAlike x y = (x.shared ≡ y.shared) × (abstract_above x.inner ≡ abstract_above y.inner)

-- a type without a supertype is, and one that is like its supertype if that is
pub data IsUniform (types : List SubType) (supertypes : List (Option CoreTypeId)) (flags : List Bool) (n : ℕ) : Type 0 where
  alone : slice_get supertypes n ≡ Some None → IsUniform types supertypes flags n
  like : (above : CoreTypeId) (own upper : SubType) → slice_get supertypes n ≡ Some (Some above) → slice_get types n ≡ Some own → slice_get types above.0 ≡ Some upper
      → slice_get flags above.0 ≡ Some true → AreAlike (declared_of own).entry (declared_of upper).entry
      → IsUniform types supertypes flags n

-- those that are said to be are
abbrev pub AreUniform : List SubType → List (Option CoreTypeId) → List Bool → Type 0
AreUniform types supertypes flags = (n : ℕ) → slice_get flags n ≡ Some true → IsUniform types supertypes flags n
