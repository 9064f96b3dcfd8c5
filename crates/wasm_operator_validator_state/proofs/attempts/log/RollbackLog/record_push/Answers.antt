use Rattle.std.proofs.Common.{ap}
use Rattle.wasm_operator_validator_state.specs.attempts.Log.{Log, undone}
use Rattle.wasm_operator_validator_state.proofs.Noting.{counted}
use Rattle.wasm_operator_validator_state.proofs.attempts.log.RollbackLog.record_push.Goals as goal

pub returns : goal.returns
returns c = λ s x few. rw (counted x s.operands c.self.inside.pushed _ c.saturating_add-self-inside.ensures few.operands) (ap (λ (l : Log). undone l s) c.self.view_is)
