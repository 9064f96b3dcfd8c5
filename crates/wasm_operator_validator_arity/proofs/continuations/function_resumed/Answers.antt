use Rattle.wasm_operator_validator_arity.proofs.ById.{function_gone_to}
use Rattle.wasm_operator_validator_arity.proofs.continuations.function_resumed.Goals as goal

pub returns : goal.returns
returns g c =
    function_gone_to (λ f. f.now) c.function_of.result (g.M.ModuleArity.meaning c.args.known.now) c.args.ty.now.composite_type.inner c.in-Some.index c.in-Some-sub_type_named.function.now
    c.in-Some.ensures c.function_of.ensures c.in-Some-sub_type_named.ensures
