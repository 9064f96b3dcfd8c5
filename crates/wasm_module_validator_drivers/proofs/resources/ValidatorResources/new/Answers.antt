use Rattle.std.proofs.Common.{List, subst}
use Rattle.wasm_module_validator_type_storage.specs.trees.Groups.{Group}
use Rattle.wasm_module_validator_resources.specs.Named.{IsSettledIn}
use Rattle.wasm_module_validator_resources.specs.laws.Settling.{settled_in}
use Rattle.wasm_module_validator_payloads.specs.Progress.{Kept}
use Rattle.wasm_module_validator_drivers.proofs.resources.ValidatorResources.new.Goals as goal

pub invariant_of-result : goal.invariant_of-result
invariant_of-result c =
    let s = settled_in c.types.result.now.groups c.deref.result.now.items.spaces c.type_count-count.ensures.formed c.types.ensures.over in
    record {
      settled = subst (λ (p : Kept). IsSettledIn p.groups p.items.spaces) c.deref.ensures
          (subst (λ (g : List Group). IsSettledIn g c.deref.result.now.items.spaces) c.types.ensures.value s);
    }
