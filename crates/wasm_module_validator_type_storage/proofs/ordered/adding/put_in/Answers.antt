use Rattle.std.proofs.Common.{refl}
use Rattle.wasm_module_validator_type_storage.proofs.Splits.{put_at}
use Rattle.wasm_module_validator_type_storage.proofs.ordered.adding.put_in.Goals as goal

pub returns-clause-ok : goal.returns-clause-ok
returns-clause-ok g c =
    let e = c.as_slice.ensures.value in
    let less = rw e at c.place_in-at.ensures.less in
    let rest = rw e at c.place_in-at.ensures.rest in
    put_at (g.C.Compare.order c.args.sought.now) c.args.chunk.now.items c.place_in-at.result c.args.number _ _ refl c.in_ok-insert.ensures.items
    less rest c.requires.misses
