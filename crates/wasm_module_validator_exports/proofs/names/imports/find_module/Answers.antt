use Rattle.std.proofs.Common.{rules, ◌∙◌, ap, sym}
use Rattle.std.specs.Str.{bytes_eq}
use Rattle.wasm_module_validator_exports.proofs.Keeping.{met_at}
use Rattle.wasm_module_validator_exports.proofs.names.imports.find_module.Goals as goal

pub returns-then-eq : goal.returns-then-eq
returns-then-eq c = (
  search rules,
  met_at c.args.modules.now c.loop-at.at c.index-modules-at.result c.args.module.now (search rules) c.index-modules-at.is
      (ap (bytes_eq c.args.module.now) (sym c.as_str.ensures.value) ∙ sym c.eq.ensures ∙ c.if-eq.true),
)
