use Rattle.std.specs.Prelude.{◌≡◌, ℕ, length}
use Rattle.wasm_module_validator_type_storage.specs.displays.Entries.{AreSoFar}
use Rattle.wasm_module_validator_type_storage.proofs.displays.filling.fill.Given as goal

abbrev pub invariant-types : goal.invariant-types
invariant-types l = AreSoFar l.supertypes.items l.displays l.entries 0
    × ((further : ℕ) → AreSoFar l.supertypes.items l.fn.displays l.fn.entries further → AreSoFar l.supertypes.items l.displays l.entries further)
    × (l.number ≡ length l.displays.items)
