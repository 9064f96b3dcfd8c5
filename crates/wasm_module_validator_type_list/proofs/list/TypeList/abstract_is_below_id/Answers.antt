use Rattle.std.proofs.Common.{◌≡◌, ◌∙◌, ◌<◌, sym, refl, true, false, arith}
use Rattle.wasm_types.specs.values.Trees.{abstract_of}
use Rattle.wasm_module_validator_type_storage.specs.trees.ByIds.{itself, declared}
use Rattle.wasm_module_validator_type_storage.specs.trees.BelowIds.{IsOver}
use Rattle.wasm_module_validator_type_list.proofs.Chains.{all_next, all_none}
use Rattle.wasm_module_validator_type_list.proofs.list.TypeList.abstract_is_below_id.Goals as goal

pub returns-then-not-is_over : goal.returns-then-not-is_over
returns-then-not-is_over c = (
  λ t. let z : false ≡ true = t in absurd cc,
  λ h. let all = c.chain.invariant.1.0 h in sym c.if-not-is_over.true ∙ c.is_over.ensures.1 (all c.chain.at itself),
)

pub chain-preserved : goal.chain-preserved
chain-preserved c =
    let up = sym c.in-Some.ensures.declared in
    let earlier : c.in-Some.above.0 < c.chain.at.0 = c.in-Some.ensures.earlier in
    let known = c.chain.invariant.0 in
    let same = c.chain.invariant.1 in
    let P = IsOver c.args.self.now.groups c.args.shared (abstract_of c.args.ty) in
    let here = c.is_over.ensures.0 c.if-not-is_over.false in (
      omega arith,
      (
        λ h j below. same.0 h j (declared up below),
        λ h. same.1 (all_next P c.chain.at c.in-Some.above up here h),
      ),
    )

pub returns-in-None : goal.returns-in-None
returns-in-None c =
    let same = c.chain.invariant.1 in
    let P = IsOver c.args.self.now.groups c.args.shared (abstract_of c.args.ty) in
    let here = c.is_over.ensures.0 c.if-not-is_over.false in
    (λ t. same.1 (all_none P c.chain.at (sym c.in-None.ensures.declared) here), λ h. refl)
