use Rattle.std.proofs.Common.{rules, ◌≡◌, ◌∙◌, ◌*◌, ◌+◌, ◌<◌, ◌≤◌, ℕ, List, [], ◌∷◌, length, ap, sym, subst, refl, arith, true, false, Some, None}
use Rattle.std.specs.Prelude.{slice_get}
use Rattle.wasm_module_validator_type_storage.specs.displays.Chains.{HasDepth}
use Rattle.wasm_module_validator_type_storage.specs.displays.Entries.{IsDisplayed}
use Rattle.wasm_module_validator_type_storage.proofs.Filling.{shallow_displayed, one_told_of}
use Rattle.wasm_module_validator_type_storage.proofs.displays.Displays.depth.Goals as goal

pub returns-in-Some-clause-depth : goal.returns-in-Some-clause-depth
returns-in-Some-clause-depth c =
    let has = c.self.invariant.so_far.right c.args.id c.in-Some.display c.in-Some.ensures in
    subst (λ l. HasDepth l.items c.args.id (c.from.result * 16 + c.from-in-Some.result)) c.self.view_is
    (subst (λ n. HasDepth c.self.inside.supertypes.items c.args.id n) (omega (arith, c.from.ensures, c.from-in-Some.ensures)) has.depth)

pub returns-in-None-clause-told : goal.returns-in-None-clause-told
returns-in-None-clause-told c =
    let not : IsDisplayed c.self.inside.displays.items c.args.id → ⊥ = search rules in
    one_told_of c.self.inside.supertypes.items c.args.self.now.items None c.args.id (ap (λ l. l.items) c.self.view_is)
    (λ earlier s. absurd (not (shallow_displayed c.self.inside.supertypes c.self.inside.displays c.self.inside.entries c.self.inside.room c.self.invariant earlier c.args.id s)))
