-- The lists that a list of types keeps side by side.
use Rattle.std.specs.Prelude.{◌≡◌, ℕ, ◌+◌, ◌≤◌, ◌<◌, ◌^◌, length, vec_len, vec_capacity}
use Rattle.wasm_module_validator_type_list.specs.declared.lists.Lists.{Lists}

-- the same items in each, apart from the depths
pub record SameItems (a b : Lists) : Type 0 where
  pub forms : b.forms.items ≡ a.forms.items
  pub types : b.types.items ≡ a.types.items
  pub homes : b.homes.items ≡ a.homes.items
  pub supertypes : b.supertypes.items ≡ a.supertypes.items
  pub elements : b.elements.items ≡ a.elements.items
  pub uniform : b.uniform.items ≡ a.uniform.items

-- room for a group of n types
pub record HasRoomFor (l : Lists) (n : ℕ) : Type 0 where
  pub forms : 1 ≤ l.forms.room
  pub types : n ≤ l.types.room
  pub homes : n ≤ l.homes.room
  pub supertypes : n ≤ l.supertypes.room
  pub elements : 1 ≤ l.elements.room
  pub depths : vec_len l.depths + n ≤ vec_capacity l.depths

-- with such a group there are fewer than 2^64 items
pub record AreShort (l : Lists) (n : ℕ) : Type 0 where
  pub forms : length l.forms.items + 1 < 2 ^ 64
  pub types : length l.types.items + n < 2 ^ 64
  pub homes : length l.homes.items + n < 2 ^ 64
  pub supertypes : length l.supertypes.items + n < 2 ^ 64
  pub elements : length l.elements.items + 1 < 2 ^ 64
