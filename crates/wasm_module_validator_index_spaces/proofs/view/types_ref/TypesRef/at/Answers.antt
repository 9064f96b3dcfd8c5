use Rattle.std.specs.Prelude.{◌<◌, List}
use Rattle.std.proofs.Common.{sym, ap, subst, arith}
use Rattle.wasm_module_validator_type_storage.specs.trees.Groups.{Group, count, declared_by_id}
use Rattle.wasm_module_validator_type_storage.specs.trees.laws.Ids.{length_stored}
use Rattle.wasm_module_validator_type_list.proofs.Finding.{none_past}
use Rattle.wasm_module_validator_index_spaces.specs.view.Shown.{Shown}
use Rattle.wasm_module_validator_index_spaces.proofs.view.types_ref.TypesRef.at.Goals as goal

-- a list has a type at each of its ids
pub unreachable-requires : goal.unreachable-requires
unreachable-requires c =
    let groups = c.self.inside.types.now.groups in
    let same = ap (λ (s : Shown). s.groups) c.self.view_is in
    let inside : c.args.id.0 < count groups = subst (λ (g : List Group). c.args.id.0 < count g) (sym same) c.requires in
    let past = none_past (declared_by_id groups) c.args.id.0 c.in-None.ensures in
    omega (arith, past, length_stored groups, inside)
