use Rattle.std.proofs.Common.{rules, ◌≡◌, ◌∙◌, ◌*◌, ◌+◌, ◌<◌, ◌≤◌, ℕ, List, [], ◌∷◌, length, ap, sym, subst, refl, arith, true, false, Some, None}
use Rattle.std.specs.Prelude.{slice_get}
use Rattle.wasm_module_validator_type_storage.proofs.Filling.{committed}
use Rattle.wasm_module_validator_type_storage.proofs.displays.Displays.commit.Goals as goal

pub invariant_of-self : goal.invariant_of-self
invariant_of-self c = committed c.self.inside.supertypes _ c.self.inside.displays _ c.self.inside.entries _ c.self.inside.room c.commit.ensures.stays refl refl c.self.invariant

pub invariant_of-self-in_err-displays : goal.invariant_of-self-in_err-displays
invariant_of-self-in_err-displays c =
    committed c.self.inside.supertypes _ c.self.inside.displays _ c.self.inside.entries _ c.self.inside.room c.commit.ensures.stays c.commit-2.ensures.stays refl c.self.invariant

pub invariant_of-self-in_err-entries : goal.invariant_of-self-in_err-entries
invariant_of-self-in_err-entries c =
    committed c.self.inside.supertypes _ c.self.inside.displays _ c.self.inside.entries _ c.self.inside.room c.commit.ensures.stays c.commit-2.ensures.stays
    c.commit-3.ensures.stays c.self.invariant

pub invariant_of-result : goal.invariant_of-result
invariant_of-result c =
    committed c.self.inside.supertypes _ c.self.inside.displays _ c.self.inside.entries _ c.self.inside.room c.in_ok-supertypes.ensures.same c.in_ok-displays.ensures.same
    c.in_ok-entries.ensures.same c.self.invariant

pub invariant_of-self-2 : goal.invariant_of-self-2
invariant_of-self-2 c =
    committed c.self.inside.supertypes _ c.self.inside.displays _ c.self.inside.entries _ c.self.inside.room c.commit.ensures.stays c.commit-2.ensures.stays
    c.commit-3.ensures.stays c.self.invariant
