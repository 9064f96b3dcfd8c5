use Rattle.wasm_operator_validator_proposals.proofs.Meanings.{unknown_id}
use Rattle.wasm_operator_validator_proposals.proofs.naming.named_type.Goals as goal

pub returns-then-not-knows_id : goal.returns-then-not-knows_id
returns-then-not-knows_id g c =
    let m = g.R.WasmModuleResources.meaning c.args.resources.now in
    rw c.in-Id.is (unknown_id m c.in-Id.id (λ k. (let x = c.knows_id.ensures.1 k in cc)))
