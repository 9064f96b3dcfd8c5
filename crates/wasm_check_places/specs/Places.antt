-- The place of a fault, and what it has to do with the fault's offset.
use Rattle.std.specs.Prelude.{◌≡◌, ◌<◌, ◌≤◌, ℕ, Option, None, IfSome}
use Rattle.wasm_check_places.specs.declared.place.Place.{Place}
use Rattle.wasm_check_places.specs.declared.place.Offsets.{Offsets}
use Rattle.wasm_check_places.specs.declared.place.Item.{Item}
use Rattle.wasm_check_places.specs.declared.place.OperatorAt.{OperatorAt}

-- the offset is among these, or right after them
pub record IsIn (offset : ℕ) (o : Offsets) : Type 0 where
  pub after_start : o.start ≤ offset
  pub before_end : offset ≤ o.end

-- the operator, if one is told, begins at the offset or before it
abbrev pub BeginsBy : ℕ → Option OperatorAt → Type 0
BeginsBy offset operator = IfSome operator (λ o. o.offset ≤ offset)

-- the item, if one is told, is one of so many
abbrev pub IsAnItem : Option Item → Type 0
IsAnItem item = IfSome item (λ i. i.number < i.count)

-- Of a fault at this offset: the section that is told has the offset, the item is one of the section's, and the operator begins no later.
pub record IsPlaceOf (offset : ℕ) (p : Place) : Type 0 where
  pub range : IfSome p.range (IsIn offset)
  pub item : IsAnItem p.item
  pub operator : BeginsBy offset p.operator

-- nothing is told but a part
pub record IsEmpty (p : Place) : Type 0 where
  pub range : p.range ≡ None
  pub item : p.item ≡ None
  pub operator : p.operator ≡ None
