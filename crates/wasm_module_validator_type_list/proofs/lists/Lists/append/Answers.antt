use Rattle.std.proofs.Common.{is_ok}
use Rattle.wasm_module_validator_type_list.proofs.Likeness.{uniform_grown}
use Rattle.wasm_module_validator_type_list.proofs.lists.Lists.append.Goals as goal

pub fill-requires : goal.fill-requires
fill-requires c =
    uniform_grown (is_ok c.append.result) (is_ok c.append-3.result) c.args.self.now.types.items _ _ c.args.self.now.supertypes.items _ _ c.args.self.now.uniform.items
    c.append.ensures.items c.append-3.ensures.items c.requires.uniform
