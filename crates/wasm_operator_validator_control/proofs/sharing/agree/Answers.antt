use Rattle.std.proofs.Common.{rules}
use Rattle.wasm_operator_validator_control.proofs.sharing.agree.Goals as goal

pub loop-place-init : goal.loop-place-init
loop-place-init g c =
    record {
      agree = search rules;
      named = rw c.targets.ensures at c.distinct-named.ensures;
    }
