use Rattle.std.proofs.Common.{◌∙◌, refl, sym, ap, subst}
use Rattle.wasm_types.specs.settings.Limits.{IsWithinCeilings}
use Rattle.wasm_types.specs.settings.Settings.{Settings}
use Rattle.wasm_module_validator_type_groups.specs.adding.Modules.{settings_of}
use Rattle.wasm_module_validator_payloads.specs.laws.Empty.{nothing_is_over}
use Rattle.wasm_module_validator_payloads.proofs.items.add_or_forget.Goals as goal

pub add_to-requires : goal.add_to-requires
add_to-requires g c = λ k. ((refl, tt), (c.requires.over.0, (c.requires.interning, (c.requires.over.2, c.requires.read))))

pub returns-in-Ok-clause-kept : goal.returns-in-Ok-clause-kept
returns-in-Ok-clause-kept g c =
    let same = ap (λ (z : Settings). z.limits) c.in-Ok.ensures.kept in
    (c.in-Ok.ensures.interning, (c.in-Ok.ensures.over, c.in-Ok.ensures.limits ∙ c.requires.over.1 ∙ sym same, subst IsWithinCeilings (sym same) c.requires.over.2))

pub returns-in-Err-clause-kept : goal.returns-in-Err-clause-kept
returns-in-Err-clause-kept g c =
    let same = c.limits-limits.ensures ∙ ap (λ (z : Settings). z.limits) (c.settings-settings.ensures ∙ c.in-Err.ensures.kept) in
    nothing_is_over c.new-in-Err.result c.new.result (settings_of c.features.result.0 c.limits-limits.result) c.new-in-Err.ensures.groups c.new-in-Err.ensures.can_intern
    c.new-in-Err.ensures.limits c.new.ensures (subst IsWithinCeilings (sym same) c.requires.over.2)
