-- Where the ancestors of a type are found by their depth: its display.
use Rattle.std.specs.Prelude.{◌≡◌, ℕ, ◌+◌, ◌*◌, ◌<◌, ◌≤◌, List, Option, Some, length, slice_get}
use Rattle.wasm_types.specs.trees.declared.index.CoreTypeId.{CoreTypeId}
use Rattle.wasm_module_validator_type_storage.specs.declared.displays.Display.{Display}
use Rattle.wasm_module_validator_type_storage.specs.snapshots.Pieces.{Listed}
use Rattle.wasm_module_validator_type_storage.specs.displays.Chains.{IsUnder, HasDepth}

-- the entry at this place is the id itself or above it, and has the depth
pub record HoldsAncestor (supertypes : List (Option CoreTypeId)) (entries : List CoreTypeId) (a : CoreTypeId) (at depth : ℕ) : Type 0 where
  pub ancestor : CoreTypeId
  pub there : slice_get entries at ≡ Some ancestor
  pub above : IsUnder supertypes a ancestor
  pub depth_is : HasDepth supertypes ancestor depth

-- an id and its display: sixteen depths are a block; the ancestors in the id's own block lie one after the other, that of its own
-- depth the last, and so do those that end the blocks above it
pub record HasDisplay (supertypes : List (Option CoreTypeId)) (entries : List CoreTypeId) (a : CoreTypeId) (d : Display) : Type 0 where
  pub within : d.place ≤ 15
  pub depth : HasDepth supertypes a (16 * d.blocks + d.place)
  pub near : (j : ℕ) → j ≤ d.place → HoldsAncestor supertypes entries a (d.near + j) (16 * d.blocks + j)
  pub far : (k : ℕ) → k < d.blocks → HoldsAncestor supertypes entries a (d.far + k) (16 * k + 15)

-- the displays that are kept are right
abbrev pub AreDisplays : List (Option CoreTypeId) → List CoreTypeId → List (Option Display) → Type 0
AreDisplays supertypes entries displays = (a : CoreTypeId) (d : Display) → slice_get displays a.0 ≡ Some (Some d) → HasDisplay supertypes entries a d

-- ---- which types have one

-- the id has a display
pub record IsDisplayed (displays : List (Option Display)) (a : CoreTypeId) : Type 0 where
  pub display : Display
  pub there : slice_get displays a.0 ≡ Some (Some display)

-- the supertype of each type is an earlier one
abbrev pub AreEarlier : List (Option CoreTypeId) → Type 0
AreEarlier supertypes = (i : ℕ) (above : CoreTypeId) → slice_get supertypes i ≡ Some (Some above) → above.0 < i

-- at most 255 types are declared above the type of an id
pub record IsShallow (supertypes : List (Option CoreTypeId)) (a : CoreTypeId) : Type 0 where
  pub depth : ℕ
  pub is_depth : HasDepth supertypes a depth
  pub within : depth ≤ 255

-- each such type has its display, of those that displays were made for
abbrev pub AreAllDisplayed : List (Option CoreTypeId) → List (Option Display) → Type 0
AreAllDisplayed supertypes displays = AreEarlier supertypes → (a : CoreTypeId) → a.0 < length displays → IsShallow supertypes a → IsDisplayed displays a

-- the type of an id gets no display: its supertype has none, or has 255 types above it
pub data LacksDisplay (supertypes : List (Option CoreTypeId)) (displays : List (Option Display)) (own : CoreTypeId) : Type 0 where
  alike : (above : CoreTypeId) → slice_get supertypes own.0 ≡ Some (Some above) → (IsDisplayed displays above → ⊥) → LacksDisplay supertypes displays own
  deep : (above : CoreTypeId) (n : ℕ) → slice_get supertypes own.0 ≡ Some (Some above) → HasDepth supertypes above n → 255 ≤ n → LacksDisplay supertypes displays own

-- ---- how they are made

-- each entry stays
abbrev pub Keeps : List CoreTypeId → List CoreTypeId → Type 0
Keeps old new = (i : ℕ) (x : CoreTypeId) → slice_get old i ≡ Some x → slice_get new i ≡ Some x

-- from this place on there are as many entries as from another, and one more
pub record IsExtended (old new : List CoreTypeId) (start count : ℕ) (x : CoreTypeId) (at : ℕ) : Type 0 where
  pub same : (j : ℕ) (y : CoreTypeId) → j < count → slice_get old (start + j) ≡ Some y → slice_get new (at + j) ≡ Some y
  pub last : slice_get new (at + count) ≡ Some x

-- the displays of some of the types, the first ones, and room for those of the others and of so many further ones: each takes at
-- most sixteen entries
pub record AreSoFar (supertypes : List (Option CoreTypeId)) (displays : Listed (Option Display)) (entries : Listed CoreTypeId) (further : ℕ) : Type 0 where
  pub right : AreDisplays supertypes entries.items displays.items
  pub whole : AreAllDisplayed supertypes displays.items
  pub some : length displays.items ≤ length supertypes
  pub few : length supertypes + further ≤ 0x1000_0000
  pub entries_few : length entries.items ≤ 16 * length displays.items
  pub displays_room : length supertypes + further ≤ length displays.items + displays.room
  pub entries_room : 16 * (length supertypes + further) ≤ 16 * length displays.items + entries.room

-- each type that has at most 255 above it has its display, and there is room for so many further types
pub record AreKept (supertypes : Listed (Option CoreTypeId)) (displays : Listed (Option Display)) (entries : Listed CoreTypeId) (further : ℕ) : Type 0 where
  pub so_far : AreSoFar supertypes.items displays entries further
  pub all : length displays.items ≡ length supertypes.items
  pub supertypes_room : further ≤ supertypes.room
