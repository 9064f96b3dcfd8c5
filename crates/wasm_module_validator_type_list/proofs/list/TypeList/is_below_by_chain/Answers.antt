use Rattle.std.proofs.Common.{rules}
use Rattle.std.proofs.Common.{◌≡◌, ◌∙◌, ◌<◌, ℕ, ap, sym, subst, refl, true, false, arith}
use Rattle.std.proofs.lemmas.Bool.{eqb-true, eq-eqb}
use Rattle.wasm_types.specs.trees.declared.index.CoreTypeId.{CoreTypeId}
use Rattle.wasm_module_validator_type_storage.specs.trees.ByIds.{IdBelow, itself, declared}
use Rattle.wasm_module_validator_type_list.proofs.Finding.{below_next}
use Rattle.wasm_module_validator_type_list.proofs.list.TypeList.is_below_by_chain.Goals as goal

pub returns-then-eq : goal.returns-then-eq
returns-then-eq c =
    let e : c.chain.at.0 ≡ c.args.b.0 = eqb-true c.chain.at.0 c.args.b.0 (sym c.eq.ensures ∙ c.if-eq.true) in
    let same : c.chain.at ≡ c.args.b = ap (λ (n : ℕ). record { 0 = n }) e in
    (λ h. c.chain.invariant.1.1 (subst (λ (x : CoreTypeId). IdBelow c.args.self.now.groups c.chain.at x) same itself), λ h. refl)

pub chain-preserved : goal.chain-preserved
chain-preserved c =
    let up = sym c.in-Some.ensures.declared in
    let earlier : c.in-Some.above.0 < c.chain.at.0 = c.in-Some.ensures.earlier in
    let known = c.chain.invariant.0 in
    let apart : c.chain.at ≡ c.args.b → false ≡ true = λ e. sym c.if-eq.false ∙ (c.eq.ensures ∙ eq-eqb c.chain.at.0 c.args.b.0 (ap (λ (x : CoreTypeId). x.0) e)) in
    (omega arith, (λ h. below_next (c.chain.invariant.1.0 h) c.in-Some.above up (λ e. let z = apart e in cc), λ h. c.chain.invariant.1.1 (declared up h)))

pub returns-in-None : goal.returns-in-None
returns-in-None c = search rules
