use Rattle.std.proofs.Common.{◌≡◌, ◌∙◌, List, Some, None, ap, subst}
use Rattle.std.specs.Prelude.{slice_get}
use Rattle.wasm_types.specs.Entries.{declared_of}
use Rattle.wasm_module_validator_type_storage.specs.trees.Groups.{Group, declared_by_id}
use Rattle.wasm_module_validator_type_storage.specs.trees.Formed.{IsFormed}
use Rattle.wasm_module_validator_resources.proofs.Finding.{id_past, stored_as, entry_stored}
use Rattle.wasm_module_validator_payloads.specs.Progress.{Kept}
use Rattle.wasm_module_validator_drivers.proofs.resources.ValidatorResources.stored.Goals as goal

pub unreachable-requires : goal.unreachable-requires
unreachable-requires c =
    let same = c.types-types.ensures.value ∙ ap (λ (p : Kept). p.groups) c.deref.ensures in
    id_past (c.args.self.now.shared.value.groups) c.args.id c.requires (subst (λ (g : List Group). None ≡ slice_get (declared_by_id g) c.args.id.0) same c.in-None.ensures)

pub returns : goal.returns
returns c =
    let same = c.types-types.ensures.value ∙ ap (λ (p : Kept). p.groups) c.deref.ensures in
    let d = declared_of c.in-Some.ty.now in
    entry_stored (c.args.self.now.shared.value.items.spaces.settings.features) (c.args.self.now.shared.value.groups) (subst IsFormed same c.type_count-count.ensures.formed) c.args.self.now.settled.settled (c.args.self.now.shared.value.items.spaces.types) c.args.id d c.requires
    (stored_as (c.args.self.now.shared.value.groups) c.args.id.0 d (subst (λ (g : List Group). Some d ≡ slice_get (declared_by_id g) c.args.id.0) same c.in-Some.ensures))
