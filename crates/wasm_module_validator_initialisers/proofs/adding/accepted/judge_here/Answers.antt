use Rattle.std.proofs.Common.{◌∙◌, ap, subst}
use Rattle.std.specs.Prelude.{IfSome}
use Rattle.wasm_types.specs.settings.Settings.{Settings}
use Rattle.wasm_operator_validator_state.specs.resources.Meaning.{Meaning}
use Rattle.wasm_module_validator_resources.specs.referring.Referring.{meaning_with_all}
use Rattle.wasm_module_validator_state.specs.invariant.Standing.{constants_of}
use Rattle.wasm_module_validator_initialisers.specs.adding.Short.{IsTypedGlobal}
use Rattle.wasm_module_validator_initialisers.proofs.adding.accepted.judge_here.Goals as goal

pub returns : goal.returns
returns c =
    let m = c.new.ensures ∙ ap meaning_with_all c.resources-module.ensures in
    let seen = constants_of c.args.types.now.groups c.args.state.now.spaces in
    subst (λ (z : Settings). IfSome c.judge.result (λ r. IsTypedGlobal z seen c.args.ty.now r.0 c.args.bytes.now c.args.at r.1)) c.settings.ensures
    (subst (λ (n : Meaning). IfSome c.judge.result (λ r. IsTypedGlobal c.settings.result n c.args.ty.now r.0 c.args.bytes.now c.args.at r.1)) m c.judge.ensures)
