use Rattle.wasm_module_validator_type_list.proofs.Knowing.{can_keep}
use Rattle.wasm_module_validator_type_list.proofs.known.learn.Goals as goal

pub keep-requires-clause-new : goal.keep-requires-clause-new
keep-requires-clause-new c =
    can_keep c.args.types.now.items c.args.is_canonical c.args.group c.args.known.now c.in-Some.known c.in-Some.is c.if-not-is_canonical.false c.requires
