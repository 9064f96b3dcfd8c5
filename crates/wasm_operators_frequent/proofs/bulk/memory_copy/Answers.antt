use Rattle.std.proofs.Common.{refl}
use Rattle.wasm_operators_immediates.specs.Kinds as kind
use Rattle.wasm_operators_immediates.specs.Immediates.{Index}
use Rattle.wasm_operators_enums.specs.Op as op
use Rattle.wasm_operators_enums.specs.declared.bulk.BulkOperator.TheVariants as bulk
use Rattle.wasm_operators_frequent.proofs.ShortReading.{is_told_with_two, prefixed_of}
use Rattle.wasm_operators_frequent.proofs.Carried.{index_of}
use Rattle.wasm_operators_frequent.proofs.bulk.memory_copy.Goals as goal

pub returns-in-10-clause-told : goal.returns-in-10-clause-told
returns-in-10-clause-told g c =
    let copy = op.Bulk (bulk.MemoryCopy c.in-Some.dst_mem c.in-Some-short_u32_at.src_mem) in
    let first = prefixed_of c.args.bytes.now c.args.at 0xfc c.args.code 10 c.args.middle c.requires c.in-10.is refl copy refl in
    is_told_with_two c.args.features.0 c.args.bytes.now c.args.at c.args.middle copy first _ c.visit_memory_copy.ensures refl refl
    (Index kind.Memories c.in-Some.dst_mem) (Index kind.Memories c.in-Some-short_u32_at.src_mem) c.in-Some.next c.in-Some-short_u32_at.end refl
    (λ limits. index_of _ _ _ _ kind.Memories c.in-Some.dst_mem c.in-Some.ensures.found)
    (λ limits. index_of _ _ _ _ kind.Memories c.in-Some-short_u32_at.src_mem c.in-Some-short_u32_at.ensures.found)
