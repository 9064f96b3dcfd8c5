use Rattle.std.proofs.Common.{length, ap}
use Rattle.wasm_module_validator_exports.proofs.Keeping.{kept_behind}
use Rattle.wasm_module_validator_exports.proofs.names.imports.keep_module.Goals as goal

pub returns : goal.returns
returns c = kept_behind c.args.module.now c.args.modules.now.items c.push.new.self.items c.in-Ok.text (length c.as_slice-at.result.now) c.in-Ok.ensures.ok c.in-Ok-push.ensures.items
    (ap length c.as_slice-at.ensures.value)
