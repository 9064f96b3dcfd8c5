use Rattle.std.proofs.Common.{map, arith}
use Rattle.std.proofs.lemmas.List.{length-map}
use Rattle.wasm_module_validator_type_storage.proofs.Chunks.{only_belongs}
use Rattle.wasm_module_validator_type_storage.proofs.ordered.finding.chunk_to_search.Goals as goal

pub returns-then-chunks-eq1-clause-belongs : goal.returns-then-chunks-eq1-clause-belongs
returns-then-chunks-eq1-clause-belongs g c =
    only_belongs (g.C.Compare.order c.args.sought.now) (map (λ v. v.items) c.args.chunks.now) (omega (arith, c.if-chunks-eq1.true, length-map c.args.chunks.now (λ v. v.items)))
