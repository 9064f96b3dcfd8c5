use Rattle.wasm_module_validator_resources.proofs.Answering.{then, id_equal, by_id_same}
use Rattle.wasm_module_validator_resources.proofs.resources.OperatorValidatorResources.is_same_type.Goals as goal

pub returns-then-has_one_id_each : goal.returns-then-has_one_id_each
returns-then-has_one_id_each c =
    then (id_equal c.eq.result c.args.a c.args.b c.eq.ensures) (by_id_same (c.args.self.now.«module».now.settings.features) (c.args.self.now.types.now.groups)
    c.type_count-count.ensures.formed c.args.self.now.settled.settled c.has_one_id_each.result c.args.a c.args.b c.has_one_id_each.ensures c.if-has_one_id_each.true
    c.requires.a_known c.requires.b_known)

pub returns : goal.returns
returns c =
    c.unroll_alike.ensures
