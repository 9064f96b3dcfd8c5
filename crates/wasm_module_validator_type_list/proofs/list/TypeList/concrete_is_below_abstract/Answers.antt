use Rattle.wasm_types.specs.values.Trees.{abstract_of}
use Rattle.wasm_module_validator_type_list.proofs.Likeness.{under_alone, under_all}
use Rattle.wasm_module_validator_type_list.proofs.list.TypeList.concrete_is_below_abstract.Goals as goal

pub returns-then-is_like_all_above : goal.returns-then-is_like_all_above
returns-then-is_like_all_above c =
    let alike = c.is_like_all_above.ensures c.if-is_like_all_above.true in (
      λ t. under_all c.args.self.now.groups c.args.id alike c.args.shared (abstract_of c.args.ty) (c.is_under.ensures.0 t),
      λ h. c.is_under.ensures.1 (under_alone c.args.self.now.groups c.args.id alike c.args.shared (abstract_of c.args.ty) h),
    )
