use Rattle.std.proofs.Common.{refl}
use Rattle.wasm_operators_immediates.specs.Kinds as kind
use Rattle.wasm_operators_immediates.specs.Immediates.{Index}
use Rattle.wasm_operators_enums.specs.Op as op
use Rattle.wasm_operators_enums.specs.declared.bulk.BulkOperator.TheVariants as bulk
use Rattle.wasm_operators_frequent.proofs.ShortReading.{is_told_with, prefixed_of}
use Rattle.wasm_operators_frequent.proofs.Carried.{index_of}
use Rattle.wasm_operators_frequent.proofs.bulk.memory_fill.Goals as goal

pub returns-in-11-clause-told : goal.returns-in-11-clause-told
returns-in-11-clause-told g c =
    let fill = op.Bulk (bulk.MemoryFill c.in-Some.mem) in
    let first = prefixed_of c.args.bytes.now c.args.at 0xfc c.args.code 11 c.args.middle c.requires c.in-11.is refl fill refl in
    is_told_with c.args.features.0 c.args.bytes.now c.args.at c.args.middle fill first _ c.visit_memory_fill.ensures refl refl
    (Index kind.Memories c.in-Some.mem) c.in-Some.end refl (λ limits. index_of _ _ _ _ kind.Memories c.in-Some.mem c.in-Some.ensures.found)
