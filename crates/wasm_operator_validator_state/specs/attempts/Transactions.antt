-- Whether an attempt is under way.
use Rattle.std.specs.Prelude.{◌≡◌, Result, Ok}
use Rattle.std.specs.declared.alloc.AllocError.{AllocError}
use Rattle.wasm_operator_validator_state.specs.attempts.Log.{Log}
use Rattle.wasm_operator_validator_state.specs.declared.attempts.transaction.Transaction.{Transaction}
use Rattle.wasm_operator_validator_state.specs.declared.attempts.transaction.Transaction.TheVariants as transaction

-- an attempt is under way, with this log
abbrev pub IsActive : Transaction → Log → Type 0
IsActive (transaction.Active l) k = l ≡ k
IsActive (transaction.Inactive a) k = ⊥

-- none is
abbrev pub IsInactive : Transaction → Type 0
IsInactive (transaction.Active l) = ⊥
IsInactive (transaction.Inactive a) = Unit {0}

-- where an attempt is under way, its log was told by this call; else nothing was done
abbrev pub Maps : (Log → Result (Unit {0}) AllocError → Log → Type 0) → Transaction → Result (Unit {0}) AllocError → Transaction → Type 0
Maps Told (transaction.Active l) answer (transaction.Active k) = Told l answer k
Maps Told (transaction.Active l) answer (transaction.Inactive a) = ⊥
Maps Told (transaction.Inactive a) answer after = (answer ≡ Ok tt) × (after ≡ transaction.Inactive a)
