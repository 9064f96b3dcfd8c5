use Rattle.std.proofs.Common.{◌∙◌, ap}
use Rattle.wasm_types.specs.settings.Settings.{Settings}
use Rattle.wasm_module_validator_payloads.proofs.Comparing.{limits_decide, features_decide}
use Rattle.wasm_module_validator_payloads.proofs.collected.has_settings.Goals as goal

pub returns-then-eq-clause-same : goal.returns-then-eq-clause-same
returns-then-eq-clause-same c =
    let own = c.settings-own.ensures in
    limits_decide c.args.state.now.spaces.settings c.args.settings.now c.features.result.0 c.features-2.result.0 c.eq.result (c.features.ensures ∙ ap (λ (w : Settings). w.features) own)
    c.features-2.ensures c.eq.ensures c.limits.result c.limits-then-eq.result c.eq-then-eq.result c.if-eq.true (c.limits.ensures ∙ ap (λ (w : Settings). w.limits) own)
    c.limits-then-eq.ensures.value c.eq-then-eq.ensures

pub returns-else-eq-clause-same : goal.returns-else-eq-clause-same
returns-else-eq-clause-same c =
    let own = c.settings-own.ensures in
    features_decide c.args.state.now.spaces.settings c.args.settings.now c.features.result.0 c.features-2.result.0 c.eq.result (c.features.ensures ∙ ap (λ (w : Settings). w.features) own)
    c.features-2.ensures c.eq.ensures c.if-eq.false
