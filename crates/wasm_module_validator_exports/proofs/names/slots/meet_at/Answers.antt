use Rattle.std.proofs.Common.{rules, false, true}
use Rattle.wasm_module_validator_exports.proofs.Taking.{leads_to, named_there, not_free}
use Rattle.wasm_module_validator_exports.proofs.names.slots.meet_at.Goals as goal

pub bytes_of-requires : goal.bytes_of-requires
bytes_of-requires c =
    named_there c.args.names.now c.args.exports.now c.in-Some.index.now c.in-Some-get.export.now c.requires (search rules) (search rules)

pub returns-then-eq : goal.returns-then-eq
returns-then-eq c =
    leads_to c.args.slots.now c.args.names.now c.args.exports.now c.args.name.now c.args.at c.in-Some.index.now c.in-Some-get.export.now true
    (search rules) (search rules) (search rules) (search rules) (search rules)

pub returns : goal.returns
returns c = (
  leads_to c.args.slots.now c.args.names.now c.args.exports.now c.args.name.now c.args.at c.in-Some.index.now c.in-Some-get.export.now false
      (search rules) (search rules) (search rules) (search rules) (search rules),
  not_free c.args.slots.now c.args.names.now c.args.exports.now c.args.name.now c.args.at c.in-Some.index.now c.in-Some-get.export.now
      (search rules) (search rules) (search rules) (search rules),
)
