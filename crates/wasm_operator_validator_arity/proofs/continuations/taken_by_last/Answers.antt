use Rattle.std.proofs.Common.{sym}
use Rattle.wasm_operator_validator_arity.proofs.Continuing.{last_counted}
use Rattle.wasm_operator_validator_arity.proofs.continuations.taken_by_last.Goals as goal

pub returns : goal.returns
returns g c =
    last_counted (g.M.ModuleArity.meaning c.args.known.now) c.args.types.now c.in-Some.last.now c.in-Some-type_referred.ty.now c.counts_resumed.result c.params_of.result
    (sym c.in-Some.ensures.value) c.in-Some-type_referred.ensures c.counts_resumed.ensures c.params_of.ensures
