use Rattle.std.proofs.Common.{rules}
use Rattle.wasm_module_validator_type_list.specs.Stored.{packed_by_id}
use Rattle.wasm_module_validator_type_list.proofs.OverIds.{remapped_type}
use Rattle.wasm_module_validator_type_list.proofs.stored.type_by_ids.Goals as goal

pub returns : goal.returns
returns c = remapped_type _ (packed_by_id c.args.start) c.remap_indices.result c.args.ty.now c.remap_indices.new.self c.remap_indices.ensures.remapped (λ i r h. search rules)
