use Rattle.std.proofs.Common.{◌∙◌, ap, sym}
use Rattle.wasm_types.specs.trees.Below.{expanded, is_shared, abstract_above}
use Rattle.wasm_module_validator_resources.proofs.Answering.{top_same}
use Rattle.wasm_module_validator_resources.proofs.resources.OperatorValidatorResources.top_heap_type.Goals as goal

pub shape-shape-requires : goal.shape-shape-requires
shape-shape-requires c =
    c.named.ensures.known

pub shape-shape-requires-in-Exact : goal.shape-shape-requires-in-Exact
shape-shape-requires-in-Exact c =
    c.named-in-Exact.ensures.known

pub returns-in-Abstract : goal.returns-in-Abstract
returns-in-Abstract c =
    rw c.in-Abstract.is c.top_above.ensures

pub returns-in-Concrete : goal.returns-in-Concrete
returns-in-Concrete c =
    rw c.in-Concrete.is (c.top_above-in-Concrete.ensures ∙ top_same _ _ _ (c.shape-shape.ensures.shared ∙ ap is_shared (sym c.named.ensures.meant)) (c.shape-shape.ensures.kind ∙
    ap (λ t. abstract_above (expanded t)) (sym c.named.ensures.meant)))

pub returns-in-Exact : goal.returns-in-Exact
returns-in-Exact c =
    rw c.in-Exact.is (c.top_above-in-Exact.ensures ∙ top_same _ _ _ (c.shape-shape-in-Exact.ensures.shared ∙ ap is_shared (sym c.named-in-Exact.ensures.meant))
    (c.shape-shape-in-Exact.ensures.kind ∙ ap (λ t. abstract_above (expanded t)) (sym c.named-in-Exact.ensures.meant)))
