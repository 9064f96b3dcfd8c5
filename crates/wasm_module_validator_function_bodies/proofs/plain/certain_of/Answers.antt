use Rattle.std.proofs.Common.{inl}
use Rattle.wasm_module_validator_function_bodies.proofs.Judged.{certain_more}
use Rattle.wasm_module_validator_function_bodies.proofs.plain.certain_of.Goals as goal

pub loop-certain-init : goal.loop-certain-init
loop-certain-init c = λ x lt few. inl few

pub loop-certain-preserved : goal.loop-certain-preserved
loop-certain-preserved c =
    certain_more c.args.locals.now c.args.params c.loop-certain.certain c.loop-certain.invariant (c.has_default.ensures c.if-not-has_default.false)
