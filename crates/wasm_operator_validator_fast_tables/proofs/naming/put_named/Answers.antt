use Rattle.wasm_operator_validator_fast_tables.proofs.Defining.{placed_next}
use Rattle.wasm_operator_validator_fast_tables.proofs.naming.put_named.Goals as goal

pub returns-clause-placed : goal.returns-clause-placed
returns-clause-placed c = λ h.
    placed_next c.args.flat.now.items c.push.new.self.items c.push-2.new.self.items c.args.named.now.items c.push-3.new.self.items c.args.it c.code_after.result c.requires
    c.in-Ok.ensures.items c.in-Ok-push.ensures.items c.code_after.ensures c.in-Ok-push-2.ensures.items h
