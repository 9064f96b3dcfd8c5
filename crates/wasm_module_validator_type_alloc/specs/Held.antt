-- A value that is owned, or shared.
use Rattle.std.specs.Prelude.{Bool, true, false, Option, Some, None}

-- the value, and whether it is owned
pub record Held (T : Type 0) : Type 0 where
  pub value : Option T
  pub is_owned : Bool

-- what is held, by the own value and the shared one
abbrev pub held : {T : Type 0} → Option T → Option T → Held T
held (Some x) shared = record { value = Some x; is_owned = true }
held None shared = record { value = shared; is_owned = false }
