use Rattle.std.proofs.Common.{arith}
use Rattle.wasm_module_validator_index_spaces.proofs.Referring.{set_noted, past_all, with_functions}
use Rattle.wasm_module_validator_index_spaces.specs.contracts.module.Module.{the_view}
use Rattle.wasm_module_validator_index_spaces.proofs.module.Module.refer_to_function.Goals as goal

pub returns-then-at-len : goal.returns-then-at-len
returns-then-at-len c =
    let within = c.len.ensures in
    rw (← c.self.view_is)
    (with_functions (the_view c.self.inside) _ _ (set_noted c.self.inside.functions.items c.args.at c.index-function.result.now (omega arith) c.index-function.ensures))

pub returns-else-at-len : goal.returns-else-at-len
returns-else-at-len c =
    let past = c.len.ensures in
    rw (← c.self.view_is) (with_functions (the_view c.self.inside) _ _ (past_all c.self.inside.functions.items c.args.at (omega arith)))
