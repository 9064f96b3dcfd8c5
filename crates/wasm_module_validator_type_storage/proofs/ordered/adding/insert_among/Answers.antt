use Rattle.std.proofs.Common.{◌≤◌, ap, subst, map, length, arith}
use Rattle.std.specs.List.{concat}
use Rattle.std.proofs.lemmas.List.{length-map}
use Rattle.wasm_module_validator_type_storage.specs.ordered.Chunks.{Belongs}
use Rattle.wasm_module_validator_type_storage.proofs.Chunks.{past_ok}
use Rattle.wasm_module_validator_type_storage.proofs.ordered.adding.insert_among.Goals as goal

pub returns-then-at-as_slice-clause-ok : goal.returns-then-at-as_slice-clause-ok
returns-then-at-as_slice-clause-ok g c =
    let order = g.C.Compare.order c.args.sought.now in
    let past : length (map (λ v. v.items) c.args.chunks.now.items) ≤ c.chunk_for-at.result =
    omega (arith, c.if-at-as_slice.true, ap length c.as_slice-2.ensures.value, length-map c.args.chunks.now.items (λ v. v.items)) in
    let b = subst (λ l. Belongs order (map (λ v. v.items) l) c.chunk_for-at.result) c.as_slice.ensures.value c.chunk_for-at.ensures.belongs in
    past_ok order (map (λ v. v.items) c.args.chunks.now.items) c.chunk_for-at.result c.args.number (concat (map (λ v. v.items) c.append.new.chunks.items)) c.append.result
    past b c.append.ensures.ok
