use Rattle.std.proofs.Common.{rules, ◌≡◌, ◌∙◌, ap, sym, true, Some}
use Rattle.std.specs.Prelude.{slice_get}
use Rattle.wasm_module_validator_type_storage.specs.trees.Groups.{declared_by_id, supertype_ids}
use Rattle.wasm_module_validator_type_list.proofs.Likeness.{like_all}
use Rattle.wasm_module_validator_type_list.proofs.list.TypeList.is_like_all_above.Goals as goal

pub returns-in-Some : goal.returns-in-Some
returns-in-Some c = λ t j below.
    let got : slice_get c.self.inside.lists.uniform.items c.number.result ≡ Some c.in-Some.flag.now = search rules in
    let at : slice_get c.self.inside.lists.uniform.items c.args.id.0 ≡ Some true = ap (λ k. slice_get c.self.inside.lists.uniform.items k) (sym c.number.ensures) ∙ got ∙ ap (λ b. Some b) t in
    like_all c.args.self.now.groups c.self.inside.lists.types.items c.self.inside.lists.supertypes.items c.self.inside.lists.uniform.items c.self.invariant.uniform
    (c.self.invariant.types ∙ ap (λ l. declared_by_id l.groups) c.self.view_is) (c.self.invariant.supertypes ∙ ap (λ l. supertype_ids l.groups) c.self.view_is) c.args.id j at below
