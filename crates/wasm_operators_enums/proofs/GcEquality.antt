-- `==` of operators of aggregates, casts and descriptors: it holds exactly where the trees are equal.
use Rattle.wasm_types.specs.values.Laws.{HeapEqualityIsIdentity, ReferenceEqualityIsIdentity}
use Rattle.wasm_operators_immediates.proofs.Telling.{Identity, none, one, two, three, variants, ◌&◌}
use Rattle.wasm_operators_immediates.proofs.Equality.{identity, numbers}
use Rattle.wasm_operators_enums.specs.contracts.gc.GcOperator as gc
use Rattle.wasm_operators_enums.specs.contracts.gc.GcOperatorPartialEq.TheImpl as gc_eq
use Rattle.wasm_operators_enums.specs.contracts.gc.DescriptorOperator as descriptor
use Rattle.wasm_operators_enums.specs.contracts.gc.DescriptorOperatorPartialEq.TheImpl as descriptor_eq

pub gcs : (same_heap : HeapEqualityIsIdentity) (same_reference : ReferenceEqualityIsIdentity) → Identity gc_eq.ghosts.eq
gcs same_heap same_reference = variants gc.enum _
    (none & one numbers & one numbers & two numbers numbers & two numbers numbers & two numbers numbers &
    two numbers numbers & one numbers & one numbers & two numbers numbers & two numbers numbers &
    two numbers numbers & one numbers & one numbers & one numbers & one numbers & none & one numbers &
    two numbers numbers & two numbers numbers & two numbers numbers & one (identity same_heap) &
    one (identity same_heap) & one (identity same_heap) & one (identity same_heap) &
    three numbers (identity same_reference) (identity same_reference) &
    three numbers (identity same_reference) (identity same_reference) & none & none & none & none & none & tt)

pub descriptors : (same_heap : HeapEqualityIsIdentity) (same_reference : ReferenceEqualityIsIdentity) → Identity descriptor_eq.ghosts.eq
descriptors same_heap same_reference = variants descriptor.enum _
    (one numbers & one numbers & one numbers & one (identity same_heap) & one (identity same_heap) &
    three numbers (identity same_reference) (identity same_reference) &
    three numbers (identity same_reference) (identity same_reference) & tt)
