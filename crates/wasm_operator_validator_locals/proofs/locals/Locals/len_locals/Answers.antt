use Rattle.wasm_operator_validator_locals.proofs.Runs.{last_end}
use Rattle.wasm_operator_validator_locals.proofs.locals.Locals.len_locals.Goals as goal

pub returns-in-Some : goal.returns-in-Some
returns-in-Some c = last_end _ _ _ _ _ c.deref.ensures.value c.in-Some.ensures.value c.self.invariant.0 c.self.view_is
