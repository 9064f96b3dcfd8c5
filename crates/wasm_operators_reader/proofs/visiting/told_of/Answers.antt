use Rattle.wasm_operators_reader.specs.FirstByteLaws.{told_in_frame}
use Rattle.wasm_operators_reader.specs.FirstByte.{refused_by_first}
use Rattle.wasm_operators_reader.proofs.visiting.told_of.Goals as goal

pub returns-clause-told : goal.returns-clause-told
returns-clause-told c =
    let s = c.args.operators.now in
    let first = c.first_of.ensures.told (refused_by_first c.get_binary_reader-reader.result.settings.features c.get_binary_reader-reader.result.rest)
    c.get_binary_reader-reader.result.place c.refused_by_first.ensures.is in
    told_in_frame c.in-Some._kind s c.get_binary_reader-reader.result c.args.error c.first_of.result c.in-Some.ensures c.get_binary_reader-reader.ensures first
