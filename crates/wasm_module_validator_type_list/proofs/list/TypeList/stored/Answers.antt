use Rattle.std.proofs.Common.{ap, sym, arith}
use Rattle.wasm_types.specs.Entries.{declared_of}
use Rattle.wasm_module_validator_type_storage.specs.trees.Groups.{declared_by_id}
use Rattle.wasm_module_validator_type_storage.specs.trees.BelowIds.{undeclared}
use Rattle.wasm_module_validator_type_storage.specs.trees.laws.Ids.{length_stored}
use Rattle.wasm_module_validator_type_list.proofs.Finding.{none_past, get_default}
use Rattle.wasm_module_validator_type_list.proofs.list.TypeList.stored.Goals as goal

pub unreachable-requires : goal.unreachable-requires
unreachable-requires c =
    let past = none_past (declared_by_id c.args.self.now.groups) c.args.id.0 c.in-None.ensures in
    absurd (omega (arith, past, length_stored c.args.self.now.groups, c.requires))

pub returns : goal.returns
returns c =
    ap (λ d. d.entry) (sym (get_default (declared_by_id c.args.self.now.groups) c.args.id.0 undeclared (declared_of c.in-Some.ty.now) (sym c.in-Some.ensures)))
