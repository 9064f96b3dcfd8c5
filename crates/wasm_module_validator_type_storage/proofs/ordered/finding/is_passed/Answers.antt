use Rattle.std.proofs.Common.{length, ap, arith}
use Rattle.wasm_module_validator_type_storage.proofs.Chunks.{is_chunk}
use Rattle.wasm_module_validator_type_storage.proofs.ordered.finding.is_passed.Goals as goal

pub overflow_sub-chunk : goal.overflow_sub-chunk
overflow_sub-chunk g c =
    let chunk = is_chunk (λ v. v.items) c.args.chunks.now c.args.at c.index-chunks-at.result c.requires.within c.index-chunks-at.is c.requires.sized in
    omega (arith, chunk.some, ap length c.as_slice-chunk.ensures.value)

pub bounds-chunk-chunk : goal.bounds-chunk-chunk
bounds-chunk-chunk g c =
    let chunk = is_chunk (λ v. v.items) c.args.chunks.now c.args.at c.index-chunks-at.result c.requires.within c.index-chunks-at.is c.requires.sized in
    omega (arith, chunk.some, ap length c.as_slice-chunk.ensures.value)
