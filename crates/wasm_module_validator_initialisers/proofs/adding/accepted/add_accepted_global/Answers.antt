use Rattle.wasm_module_validator_initialisers.proofs.AcceptedGlobals.{accepted_global}
use Rattle.wasm_module_validator_initialisers.proofs.adding.accepted.add_accepted_global.Goals as goal

pub returns-in-Ok-clause-added : goal.returns-in-Ok-clause-added
returns-in-Ok-clause-added c =
    accepted_global c.args.types.now.groups c.args.state.now c.args.bytes.now c.args.at c.in-Some.middle c.in-Some-judge_here.end c.in-Some.ty c.in-Some-judge_here.named
    c.in-Some.ensures c.in-Some-judge_here.ensures c.push_global.new.self c.in-Ok.ensures.answer c.in-Ok.ensures.added
