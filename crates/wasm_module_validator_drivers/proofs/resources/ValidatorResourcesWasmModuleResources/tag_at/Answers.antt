use Rattle.std.proofs.Common.{◌∙◌, ap, sym}
use Rattle.std.specs.Option.{option_map}
use Rattle.std.specs.Prelude.{slice_get}
use Rattle.wasm_types.specs.trees.declared.index.CoreTypeId.{CoreTypeId}
use Rattle.wasm_types.specs.trees.Types.{inner_map}
use Rattle.wasm_types.specs.trees.Below.{expanded}
use Rattle.wasm_types.specs.Entries.{entry_of, inner_of}
use Rattle.wasm_operator_validator_resources.specs.Meaning.{named_type}
use Rattle.wasm_module_validator_type_storage.specs.trees.Groups.{tree_of}
use Rattle.wasm_module_validator_resources.specs.index_spaces.Spaces.{Spaces}
use Rattle.wasm_module_validator_resources.specs.Reading.{names_in}
use Rattle.wasm_module_validator_resources.specs.Named.{IsFunctionKind}
use Rattle.wasm_module_validator_resources.proofs.Finding.{all_at, kind_in, tag_found, mapped, array_kind, struct_kind, cont_kind}
use Rattle.wasm_module_validator_payloads.specs.Progress.{Kept}
use Rattle.wasm_module_validator_payloads.specs.state.Items.{Items}
use Rattle.wasm_module_validator_drivers.proofs.resources.ValidatorResourcesWasmModuleResources.tag_at.Goals as goal

pub stored-requires : goal.stored-requires
stored-requires c =
    (all_at (IsFunctionKind (c.args.self.now.shared.value.groups)) (c.args.self.now.shared.value.items.spaces.tags) c.args.at c.in-Some.id c.args.self.now.settled.tags (c.in-Some.ensures ∙ ap (λ (m : Spaces). slice_get m.tags c.args.at) (c.module.ensures ∙ (ap (λ (i : Items). i.spaces) c.state.ensures ∙ ap (λ (p : Kept). p.items.spaces) c.deref.ensures)))).0

pub unreachable-requires : goal.unreachable-requires
unreachable-requires c =
    array_kind _ _ c.in-Array.is (kind_in (named_type (names_in (c.args.self.now.shared.value.groups) (c.args.self.now.shared.value.items.spaces.types))) (entry_of c.stored.result.now) (tree_of (c.args.self.now.shared.value.groups) c.in-Some.id.0) c.stored.ensures
    (all_at (IsFunctionKind (c.args.self.now.shared.value.groups)) (c.args.self.now.shared.value.items.spaces.tags) c.args.at c.in-Some.id c.args.self.now.settled.tags (c.in-Some.ensures ∙ ap (λ (m : Spaces). slice_get m.tags c.args.at) (c.module.ensures ∙ (ap (λ (i : Items). i.spaces) c.state.ensures ∙ ap (λ (p : Kept). p.items.spaces) c.deref.ensures)))).1)

pub unreachable-requires-in-Struct : goal.unreachable-requires-in-Struct
unreachable-requires-in-Struct c =
    struct_kind _ _ c.in-Struct.is (kind_in (named_type (names_in (c.args.self.now.shared.value.groups) (c.args.self.now.shared.value.items.spaces.types))) (entry_of c.stored.result.now) (tree_of (c.args.self.now.shared.value.groups) c.in-Some.id.0) c.stored.ensures
    (all_at (IsFunctionKind (c.args.self.now.shared.value.groups)) (c.args.self.now.shared.value.items.spaces.tags) c.args.at c.in-Some.id c.args.self.now.settled.tags (c.in-Some.ensures ∙ ap (λ (m : Spaces). slice_get m.tags c.args.at) (c.module.ensures ∙ (ap (λ (i : Items). i.spaces) c.state.ensures ∙ ap (λ (p : Kept). p.items.spaces) c.deref.ensures)))).1)

pub unreachable-requires-in-Cont : goal.unreachable-requires-in-Cont
unreachable-requires-in-Cont c =
    cont_kind _ _ c.in-Cont.is (kind_in (named_type (names_in (c.args.self.now.shared.value.groups) (c.args.self.now.shared.value.items.spaces.types))) (entry_of c.stored.result.now) (tree_of (c.args.self.now.shared.value.groups) c.in-Some.id.0) c.stored.ensures
    (all_at (IsFunctionKind (c.args.self.now.shared.value.groups)) (c.args.self.now.shared.value.items.spaces.tags) c.args.at c.in-Some.id c.args.self.now.settled.tags (c.in-Some.ensures ∙ ap (λ (m : Spaces). slice_get m.tags c.args.at) (c.module.ensures ∙ (ap (λ (i : Items). i.spaces) c.state.ensures ∙ ap (λ (p : Kept). p.items.spaces) c.deref.ensures)))).1)

pub returns-in-Func : goal.returns-in-Func
returns-in-Func c =
    tag_found (c.args.self.now.shared.value.groups) (c.args.self.now.shared.value.items.spaces.tags) c.args.at c.in-Some.id _ (c.in-Some.ensures ∙ ap (λ (m : Spaces). slice_get m.tags c.args.at) (c.module.ensures ∙ (ap (λ (i : Items). i.spaces) c.state.ensures ∙ ap (λ (p : Kept). p.items.spaces) c.deref.ensures)))
    (ap (λ x. inner_map (named_type (names_in (c.args.self.now.shared.value.groups) (c.args.self.now.shared.value.items.spaces.types))) (inner_of x)) (sym c.in-Func.is) ∙ ap (λ x. x.inner) c.stored.ensures)

pub returns-in-None : goal.returns-in-None
returns-in-None c =
    ap (option_map expanded) (mapped (λ (i : CoreTypeId). tree_of (c.args.self.now.shared.value.groups) i.0) (c.args.self.now.shared.value.items.spaces.tags) c.args.at _ (c.in-None.ensures ∙ ap (λ (m : Spaces). slice_get m.tags c.args.at) (c.module.ensures ∙ (ap (λ (i : Items). i.spaces) c.state.ensures ∙ ap (λ (p : Kept). p.items.spaces) c.deref.ensures))))
