use Rattle.std.proofs.Common.{subst}
use Rattle.std.specs.Prelude.{IfOk}
use Rattle.wasm_types.specs.decoding.Denials.{Tells}
use Rattle.wasm_types.specs.settings.Settings.{Settings}
use Rattle.wasm_module_validator_rules.specs.Accepts.{AcceptsUnder}
use Rattle.wasm_module_validator.specs.soundness.Soundness.{RunsSoundly}
use Rattle.wasm_module_validator.specs.Lists.{AreToldUnder}
use Rattle.wasm_module_validator.proofs.validator.validate.Goals as goal

pub returns-clause-verdict : goal.returns-clause-verdict
returns-clause-verdict c =
    subst (λ (z : Settings). Tells c.validate_all.result (AcceptsUnder z c.args.bytes.now)) c.new.ensures.settings (c.validate_all.ensures.alone c.new.ensures.empty)

pub returns-clause-id : goal.returns-clause-id
returns-clause-id c = rw c.new.ensures.id at c.validate_all.ensures.id

pub returns-clause-sound : goal.returns-clause-sound
returns-clause-sound c =
    subst (λ (z : Settings). IfOk c.validate_all.result (λ _. RunsSoundly z c.args.bytes.now)) c.new.ensures.settings c.validate_all.ensures.sound

pub returns-clause-told : goal.returns-clause-told
returns-clause-told c =
    subst (λ (z : Settings). IfOk c.validate_all.result (λ t. AreToldUnder z t.kept.groups t.kept.groups)) c.new.ensures.settings c.validate_all.ensures.told
