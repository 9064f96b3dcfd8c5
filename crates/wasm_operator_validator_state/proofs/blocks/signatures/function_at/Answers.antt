use Rattle.std.proofs.Common.{◌∙◌, ap, sym, subst, option_map, Option}
use Rattle.wasm_operator_validator_rules.specs.Context.{Signature}
use Rattle.wasm_operator_validator_state.specs.blocks.Signatures.{signature_in, IsFunctionAt}
use Rattle.wasm_operator_validator_state.proofs.Signing.{map_twice, some_at}
use Rattle.wasm_operator_validator_state.proofs.blocks.signatures.function_at.Goals as goal

pub returns : goal.returns
returns g c =
    let m = g.R.WasmModuleResources.meaning c.args.resources.now in
    let e = ap (option_map (signature_in m)) (sym c.function_of.ensures) ∙ map_twice (λ f. f.now) (signature_in m) c.function_of.result in
    subst (λ (r : Option Signature). IsFunctionAt m c.args.type_index r) e (some_at m c.args.type_index c.in-Some.sub_type.now c.in-Some.ensures)
