use Rattle.std.proofs.Common.{is_ok}
use Rattle.wasm_module_validator_type_list.proofs.Likeness.{uniform_pushed}
use Rattle.wasm_module_validator_type_list.proofs.uniform.fill.Goals as goal

pub returns-then-is_err : goal.returns-then-is_err
returns-then-is_err c =
    uniform_pushed c.args.types.now.items c.args.supertypes.now.items c.types.flags.items c.push.new.self.items _ c.is_uniform-flag.result (is_ok c.push.result) c.types.invariant
    c.len-own.ensures c.is_uniform-flag.ensures c.push.ensures.items

pub types-preserved : goal.types-preserved
types-preserved c =
    uniform_pushed c.args.types.now.items c.args.supertypes.now.items c.types.flags.items c.push.new.self.items _ c.is_uniform-flag.result (is_ok c.push.result) c.types.invariant
    c.len-own.ensures c.is_uniform-flag.ensures c.push.ensures.items
