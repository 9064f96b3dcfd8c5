use Rattle.wasm_module_validator_type_groups.specs.adding.Modules.{settings_of}
use Rattle.wasm_module_validator_payloads.specs.laws.Empty.{nothing_is_over}
use Rattle.wasm_module_validator_payloads.proofs.collected.Collected.new.Goals as goal

pub invariant_of-result : goal.invariant_of-result
invariant_of-result c =
    nothing_is_over c.new-2.result c.new.result (settings_of c.features.result.0 c.limits-limits.result) c.new-2.ensures.groups c.new-2.ensures.can_intern c.new-2.ensures.limits c.new.ensures
    c.limits-limits.ensures.within
