use Rattle.std.proofs.Common.{◌∙◌, ◌<◌, ap}
use Rattle.std.specs.Option.{option_map}
use Rattle.std.specs.Prelude.{slice_get}
use Rattle.wasm_types.specs.trees.declared.index.CoreTypeId.{CoreTypeId}
use Rattle.wasm_types.specs.trees.Trees.{opened}
use Rattle.wasm_module_validator_type_storage.specs.trees.Groups.{count, tree_of}
use Rattle.wasm_module_validator_resources.specs.index_spaces.Spaces.{Spaces}
use Rattle.wasm_module_validator_resources.proofs.Finding.{all_at, type_found, mapped}
use Rattle.wasm_module_validator_payloads.specs.Progress.{Kept}
use Rattle.wasm_module_validator_payloads.specs.state.Items.{Items}
use Rattle.wasm_module_validator_drivers.proofs.resources.ValidatorResourcesWasmModuleResources.sub_type_at.Goals as goal

pub stored-requires : goal.stored-requires
stored-requires c =
    all_at (λ (i : CoreTypeId). i.0 < count (c.args.self.now.shared.value.groups)) (c.args.self.now.shared.value.items.spaces.types) c.args.type_index c.in-Some.id c.args.self.now.settled.known
    (c.in-Some.ensures ∙ ap (λ (m : Spaces). slice_get m.types c.args.type_index) (c.module.ensures ∙ (ap (λ (i : Items). i.spaces) c.state.ensures ∙ ap (λ (p : Kept). p.items.spaces) c.deref.ensures)))

pub returns-in-Some : goal.returns-in-Some
returns-in-Some c =
    type_found (c.args.self.now.shared.value.groups) (c.args.self.now.shared.value.items.spaces.types) c.args.type_index c.in-Some.id _ (c.in-Some.ensures ∙ ap (λ (m : Spaces). slice_get m.types c.args.type_index) (c.module.ensures ∙ (ap (λ (i : Items). i.spaces) c.state.ensures ∙ ap (λ (p : Kept). p.items.spaces) c.deref.ensures))) c.stored.ensures

pub returns-in-None : goal.returns-in-None
returns-in-None c =
    ap (option_map opened) (mapped (λ (i : CoreTypeId). tree_of (c.args.self.now.shared.value.groups) i.0) (c.args.self.now.shared.value.items.spaces.types) c.args.type_index _ (c.in-None.ensures ∙ ap (λ (m : Spaces). slice_get m.types c.args.type_index) (c.module.ensures ∙ (ap (λ (i : Items). i.spaces) c.state.ensures ∙ ap (λ (p : Kept). p.items.spaces) c.deref.ensures))))
