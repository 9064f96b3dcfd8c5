use Rattle.std.proofs.Common.{subst}
use Rattle.wasm_types.specs.decoding.Denials.{Tells}
use Rattle.wasm_types.specs.settings.Settings.{Settings}
use Rattle.wasm_check_command.proofs.judging.judge_by.Goals as goal

pub returns : goal.returns
returns g c = subst (λ (z : Settings). Tells c.judge.result (g.J.Judge.accepts z c.args.bytes.now)) c.judged_features.ensures c.judge.ensures
