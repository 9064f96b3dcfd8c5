use Rattle.std.proofs.Common.{ap, ◌∙◌, reverse, arith}
use Rattle.wasm_operator_validator_state.specs.contracts.attempts.log.RollbackLog.{the_view}
use Rattle.wasm_operator_validator_state.specs.attempts.Log.{Log, undone, with_frame, with_set}
use Rattle.wasm_operator_validator_state.proofs.Noting.{leaves_opened, leaves_standing, unset_some}
use Rattle.wasm_operator_validator_state.proofs.attempts.log.RollbackLog.pop_ctrl.Goals as goal

pub returns-then-self-gt0-clause-noted : goal.returns-then-self-gt0-clause-noted
returns-then-self-gt0-clause-noted c = λ s is few.
    let l = the_view c.self.inside in
    let now = reverse c.put_below.new.unset.items in
    leaves_opened l s c.args.frame c.args.inits.now now c.least-self-inside.result c.if-self-gt0.true
    (unset_some l.kept c.args.frame.init_height c.least-self-inside.result s.set c.args.inits.now c.lost.result.now l.unset now is c.least-self-inside.ensures c.lost.ensures c.in_ok-put_below.ensures.done)
    ∙ ap (λ (x : Log). undone x (with_frame c.args.frame (with_set c.args.inits.now s))) c.self.view_is

pub returns-clause-noted : goal.returns-clause-noted
returns-clause-noted c = λ s is few.
    let l = the_view c.self.inside in
    let now = reverse c.put_below.new.unset.items in
    leaves_standing l s c.args.frame c.reached-stood.result c.put.new.items.items c.args.inits.now now c.least-self-inside-2.result (omega (arith, c.if-self-gt0.false)) c.reached-stood.ensures c.in_default.ensures.done
    (unset_some l.kept c.args.frame.init_height c.least-self-inside-2.result s.set c.args.inits.now c.lost.result.now l.unset now is c.least-self-inside-2.ensures c.lost.ensures c.in_ok-put_below.ensures.done)
    ∙ ap (λ (x : Log). undone x (with_frame c.args.frame (with_set c.args.inits.now s))) c.self.view_is
