use Rattle.wasm_module_validator_resources.specs.Reading.{names_in}
use Rattle.wasm_module_validator_resources.proofs.Answering.{then, over_named}
use Rattle.wasm_module_validator_resources.proofs.resources.OperatorValidatorResources.abstract_is_below.Goals as goal

pub is_over-requires : goal.is_over-requires
is_over-requires c =
    c.named.ensures.known

pub is_over-requires-in-Exact : goal.is_over-requires-in-Exact
is_over-requires-in-Exact c =
    c.named-in-Exact.ensures.known

pub returns-in-Concrete : goal.returns-in-Concrete
returns-in-Concrete c =
    rw c.in-Concrete.is (then c.is_over.ensures (over_named (c.args.self.now.«module».now.settings.features) (c.args.self.now.types.now.groups) c.args.self.now.settled.settled
    (names_in (c.args.self.now.types.now.groups) (c.args.self.now.«module».now.types)) c.in-Concrete.index c.named.result c.named.ensures c.args.shared _))

pub returns-in-Exact : goal.returns-in-Exact
returns-in-Exact c =
    rw c.in-Exact.is (then c.is_over-in-Exact.ensures (over_named (c.args.self.now.«module».now.settings.features) (c.args.self.now.types.now.groups)
    c.args.self.now.settled.settled (names_in (c.args.self.now.types.now.groups) (c.args.self.now.«module».now.types)) c.in-Exact.index c.named-in-Exact.result
    c.named-in-Exact.ensures c.args.shared _))
