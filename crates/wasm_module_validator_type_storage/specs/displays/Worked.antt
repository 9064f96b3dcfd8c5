-- Worked chains, of which types have displays: 2 is declared below 1, and 1 below 0; 3 stands alone.
use Rattle.std.specs.Prelude.{◌≡◌, ℕ, List, [], ◌∷◌, Option, Some, None}
use Rattle.wasm_types.specs.trees.declared.index.CoreTypeId.{CoreTypeId}
use Rattle.wasm_module_validator_type_storage.specs.declared.displays.Display.{Display}
use Rattle.wasm_module_validator_type_storage.specs.snapshots.Pieces.{Listed}
use Rattle.wasm_module_validator_type_storage.specs.displays.Chains.{IsUnder, HasDepth}
use Rattle.wasm_module_validator_type_storage.specs.displays.Entries.{AreEarlier, IsShallow, AreAllDisplayed, LacksDisplay, AreKept}

abbrev pub id : ℕ → CoreTypeId
id n = record { 0 = n }

abbrev pub three_and_one : List (Option CoreTypeId)
three_and_one = None ∷ Some (id 0) ∷ Some (id 1) ∷ None ∷ []

pub record ChainsWorked : Type 0 where
  pub itself : IsUnder three_and_one (id 3) (id 3)
  pub two_steps : IsUnder three_and_one (id 2) (id 0)
  pub upside_down : IsUnder three_and_one (id 0) (id 2) → ⊥
  pub apart : IsUnder three_and_one (id 2) (id 3) → ⊥
  pub first_depth : HasDepth three_and_one (id 0) 0
  pub third_depth : HasDepth three_and_one (id 2) 2
  pub not_three : HasDepth three_and_one (id 2) 3 → ⊥
  pub unknown : HasDepth three_and_one (id 4) 0 → ⊥

-- a list without room
abbrev pub just : {A : Type 0} → List A → Listed A
just xs = record { items = xs; room = 0 }

-- for any display
pub record DisplaysWorked (d : Display) : Type 0 where
  pub earlier : AreEarlier three_and_one
  pub above_itself : AreEarlier (Some (id 0) ∷ []) → ⊥
  pub shallow : IsShallow three_and_one (id 2)
  pub no_type : IsShallow three_and_one (id 4) → ⊥
  pub displayed : AreAllDisplayed (None ∷ []) (Some d ∷ [])
  pub missing : AreAllDisplayed (None ∷ []) (None ∷ []) → ⊥
  pub lacking : LacksDisplay three_and_one (None ∷ []) (id 1)
  pub not_lacking : LacksDisplay three_and_one (Some d ∷ []) (id 1) → ⊥
  pub no_supertype : LacksDisplay three_and_one (None ∷ []) (id 0) → ⊥
  pub none_kept : AreKept (just []) (just []) (just []) 0
  pub no_room : AreKept (just []) (just []) (just []) 1 → ⊥
  pub not_made : AreKept (just (None ∷ [])) (just []) (just []) 0 → ⊥
