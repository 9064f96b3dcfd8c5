use Rattle.std.proofs.Common.{◌≡◌, ◌∙◌, ◌<◌, sym, refl, true, false, arith}
use Rattle.wasm_types.specs.values.Trees.{abstract_of}
use Rattle.wasm_module_validator_type_storage.specs.trees.ByIds.{itself, declared}
use Rattle.wasm_module_validator_type_storage.specs.trees.BelowIds.{IsUnder}
use Rattle.wasm_module_validator_type_list.proofs.Chains.{some_next, some_none}
use Rattle.wasm_module_validator_type_list.proofs.list.TypeList.id_is_below_abstract.Goals as goal

pub returns-then-is_under : goal.returns-then-is_under
returns-then-is_under c = (λ h. c.chain.invariant.1.1 (c.chain.at, itself, c.is_under.ensures.0 c.if-is_under.true), λ h. refl)

pub chain-preserved : goal.chain-preserved
chain-preserved c =
    let up = sym c.in-Some.ensures.declared in
    let earlier : c.in-Some.above.0 < c.chain.at.0 = c.in-Some.ensures.earlier in
    let known = c.chain.invariant.0 in
    let same = c.chain.invariant.1 in
    let P = IsUnder c.args.self.now.groups c.args.shared (abstract_of c.args.ty) in
    let fails : P c.chain.at → ⊥ = λ u. let z : false ≡ true = sym c.if-is_under.false ∙ c.is_under.ensures.1 u in cc in (
      omega arith,
      (
        λ h. let q = same.0 h in (q.0, some_next P c.chain.at c.in-Some.above q.0 q.1 q.2 up fails, q.2),
        λ h. same.1 (h.0, declared up h.1, h.2),
      ),
    )

pub returns-in-None : goal.returns-in-None
returns-in-None c =
    let same = c.chain.invariant.1 in
    let P = IsUnder c.args.self.now.groups c.args.shared (abstract_of c.args.ty) in
    let fails : P c.chain.at → ⊥ = λ u. let z : false ≡ true = sym c.if-is_under.false ∙ c.is_under.ensures.1 u in cc in (
      λ t. let z : false ≡ true = t in absurd cc,
      λ h. let q = same.0 h in absurd (some_none P c.chain.at q.0 q.1 q.2 (sym c.in-None.ensures.declared) fails),
    )
