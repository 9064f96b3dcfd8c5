use Rattle.std.proofs.Common.{refl}
use Rattle.wasm_module_validator_resources.specs.referring.ReferringLaws.{placed_below, so_far}
use Rattle.wasm_module_validator_resources.proofs.referring.laws.constants_may_refer_to_each_function.Goals as goal

pub returns-clause-places : goal.returns-clause-places
returns-clause-places c = placed_below

pub returns-clause-whichever : goal.returns-clause-whichever
returns-clause-whichever c = λ g refs. refl

pub returns-clause-so_far : goal.returns-clause-so_far
returns-clause-so_far c = so_far
