use Rattle.std.proofs.Common.{rules, true}
use Rattle.wasm_module_validator_exports.proofs.Finding.{leads_to, not_free, not_led}
use Rattle.wasm_module_validator_exports.proofs.Keeping.{kept_at, read}
use Rattle.wasm_module_validator_exports.proofs.names.pairs.meet_at.Goals as goal

pub has_names-requires : goal.has_names-requires
has_names-requires c =
    kept_at c.args.modules.now c.args.names.now c.args.pairs.now c.in-Some.index.now c.in-Some-get.kept.now c.requires
    (read c.args.pairs.now c.in-Some.index.now c.in-Some-get.kept.now (search rules) (search rules))

pub returns-then-has_names : goal.returns-then-has_names
returns-then-has_names c =
    leads_to c.args.slots.now c.args.modules.now c.args.names.now c.args.pairs.now c.args.module.now c.args.name.now c.args.at c.in-Some.index.now
    c.in-Some-get.kept.now (search rules) (search rules) (search rules) (search rules) true (search rules)

pub returns : goal.returns
returns c = (
  not_led c.args.slots.now c.args.modules.now c.args.names.now c.args.pairs.now c.args.module.now c.args.name.now c.args.at c.in-Some.index.now
      c.in-Some-get.kept.now (search rules) (search rules) (search rules) (search rules) (search rules),
  not_free c.args.slots.now c.args.modules.now c.args.names.now c.args.pairs.now c.args.module.now c.args.name.now c.args.at c.in-Some.index.now
      c.in-Some-get.kept.now (search rules) (search rules) (search rules) (search rules),
)
