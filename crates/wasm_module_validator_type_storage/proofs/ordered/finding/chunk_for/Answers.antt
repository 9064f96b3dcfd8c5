use Rattle.std.proofs.Common.{map, arith}
use Rattle.std.proofs.lemmas.List.{length-map}
use Rattle.wasm_module_validator_type_storage.proofs.Chunks.{belongs}
use Rattle.wasm_module_validator_type_storage.proofs.ordered.finding.chunk_for.Goals as goal

pub returns-clause-belongs : goal.returns-clause-belongs
returns-clause-belongs g c =
    let long = length-map c.args.chunks.now (λ v. v.items) in
    let inv = c.search.invariant in
    belongs (g.C.Compare.order c.args.sought.now) (map (λ v. v.items) c.args.chunks.now) c.search.low c.search.high (omega (arith, inv.0, c.search-test.false))
    (omega (arith, inv.0, inv.1, long)) c.requires.sized c.requires.ascends inv.2 (λ lt. inv.3 (omega (arith, lt, long)))
