use Rattle.std.proofs.Common.{rules, ◌≡◌, ◌∙◌, ◌*◌, ◌+◌, ◌<◌, ◌≤◌, ℕ, List, [], ◌∷◌, length, ap, sym, subst, refl, arith, true, false, Some, None}
use Rattle.std.specs.Prelude.{slice_get}
use Rattle.wasm_module_validator_type_storage.proofs.Filling.{shallow_displayed, both_told_of}
use Rattle.wasm_module_validator_type_storage.proofs.displays.Displays.is_below.Goals as goal

pub returns-clause-told : goal.returns-clause-told
returns-clause-told c =
    both_told_of c.self.inside.supertypes.items c.args.self.now.items c.is_below.result c.args.a c.args.b (ap (λ l. l.items) c.self.view_is)
    (λ earlier. c.is_below.ensures.told (shallow_displayed c.self.inside.supertypes c.self.inside.displays c.self.inside.entries c.self.inside.room c.self.invariant earlier))
