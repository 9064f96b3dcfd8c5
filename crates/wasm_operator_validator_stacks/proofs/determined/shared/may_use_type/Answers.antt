use Rattle.std.proofs.Common.{◌∙◌, ◌↔◌, Bool, IsTrue, sym, subst, refl}
use Rattle.wasm_operator_validator_stacks.proofs.Sharing.{number_is_shared, reference_is_shared}
use Rattle.wasm_operator_validator_stacks.proofs.determined.shared.may_use_type.Goals as goal

pub returns-in-None : goal.returns-in-None
returns-in-None g c = (λ a f. number_is_shared (g.R.WasmModuleResources.meaning c.args.resources.now) c.args.ty.now c.in-None.ensures, λ f. refl)

pub returns : goal.returns
returns g c =
    let e = reference_is_shared (g.R.WasmModuleResources.meaning c.args.resources.now) c.args.ty.now c.in-Some.reference c.in-Some.ensures in
    subst (λ (x : Bool). IsTrue c.may_use.result ↔ (IsTrue c.args.validator.now.given.shared → IsTrue x)) (c.is_shared.ensures ∙ sym e) c.may_use.ensures
