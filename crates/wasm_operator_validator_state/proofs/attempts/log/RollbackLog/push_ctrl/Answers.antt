use Rattle.std.proofs.Common.{ap}
use Rattle.wasm_operator_validator_state.specs.attempts.Log.{Log, undone}
use Rattle.wasm_operator_validator_state.proofs.Noting.{counted}
use Rattle.wasm_operator_validator_state.proofs.attempts.log.RollbackLog.push_ctrl.Goals as goal

pub returns : goal.returns
returns c = λ s f few. rw (counted f s.frames c.self.inside.opened _ c.saturating_add-self-inside.ensures few.frames) (ap (λ (l : Log). undone l s) c.self.view_is)
