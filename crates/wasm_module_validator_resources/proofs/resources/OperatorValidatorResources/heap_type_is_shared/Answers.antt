use Rattle.std.proofs.Common.{◌∙◌, ap, sym}
use Rattle.wasm_types.specs.trees.Below.{is_shared}
use Rattle.wasm_module_validator_resources.proofs.resources.OperatorValidatorResources.heap_type_is_shared.Goals as goal

pub shape-requires : goal.shape-requires
shape-requires c =
    c.named.ensures.known

pub shape-requires-in-Exact : goal.shape-requires-in-Exact
shape-requires-in-Exact c =
    c.named-in-Exact.ensures.known

pub returns-in-Concrete : goal.returns-in-Concrete
returns-in-Concrete c =
    rw c.in-Concrete.is (c.shape.ensures.shared ∙ ap is_shared (sym c.named.ensures.meant))

pub returns-in-Exact : goal.returns-in-Exact
returns-in-Exact c =
    rw c.in-Exact.is (c.shape-in-Exact.ensures.shared ∙ ap is_shared (sym c.named-in-Exact.ensures.meant))
