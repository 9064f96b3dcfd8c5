use Rattle.wasm_module_validator_resources.proofs.Answering.{then, by_id_below, bare_below}
use Rattle.wasm_module_validator_resources.proofs.resources.OperatorValidatorResources.is_declared_below.Goals as goal

pub returns-then-has_one_id_each : goal.returns-then-has_one_id_each
returns-then-has_one_id_each c =
    then c.id_is_subtype.ensures (by_id_below (c.args.self.now.«module».now.settings.features) (c.args.self.now.types.now.groups) c.type_count-count.ensures.formed
    c.args.self.now.settled.settled c.has_one_id_each.result c.args.a c.args.b c.has_one_id_each.ensures c.if-has_one_id_each.true c.requires.a_known c.requires.b_known)

pub returns : goal.returns
returns c =
    then c.unroll_alike.ensures (bare_below (c.args.self.now.«module».now.settings.features) (c.args.self.now.types.now.groups) c.type_count-count.ensures.formed
    c.args.self.now.settled.settled c.has_one_id_each.result c.args.a c.args.b c.has_one_id_each.ensures c.if-has_one_id_each.false c.requires.a_known)
