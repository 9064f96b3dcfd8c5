use Rattle.std.proofs.Common.{sym, ap}
use Rattle.wasm_operator_validator_rules.specs.Context.{Signature}
use Rattle.wasm_operator_validator_state.proofs.Signing.{signature_none}
use Rattle.wasm_operator_validator_state.proofs.blocks.signatures.block_params.Goals as goal

pub returns-in-None : goal.returns-in-None
returns-in-None g c =
    rw c.in-FuncType.is
    (sym (ap (λ (b : Signature). b.params) (signature_none (g.R.WasmModuleResources.meaning c.args.resources.now) c.in-FuncType.type_index c.in-None.ensures)))
