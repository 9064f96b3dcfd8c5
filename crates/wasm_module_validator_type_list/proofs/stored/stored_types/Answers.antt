use Rattle.std.proofs.Common.{◌∙◌, ap}
use Rattle.wasm_types.specs.Entries.{declared_of}
use Rattle.wasm_types.specs.Remap.{declared_map}
use Rattle.wasm_module_validator_type_list.specs.Stored.{packed_by_id}
use Rattle.wasm_module_validator_type_list.proofs.OverIds.{one_more_of}
use Rattle.wasm_module_validator_type_list.proofs.stored.stored_types.Goals as goal

pub loop-ty-preserved : goal.loop-ty-preserved
loop-ty-preserved c =
    let same = c.type_by_ids.ensures ∙ ap (declared_map (packed_by_id c.args.start)) (c.clones_declare_the_same.ensures.subtypes c.ty-item.result c.in_ok-copy.copy c.in_ok-copy.ensures.cases) in
    one_more_of (declared_map (packed_by_id c.args.start)) declared_of declared_of c.args.types.now c.loop-ty.ty-index c.ty-item.result c.loop-ty.stored.items c.push.new.self.items
    c.type_by_ids.new.ty
    c.loop-ty-test.true c.ty-item.is c.loop-ty.invariant c.in_ok-push.ensures.items same
