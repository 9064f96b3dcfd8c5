use Rattle.std.proofs.Common.{subst, map}
use Rattle.wasm_module_validator_type_storage.specs.ordered.Order.{Ascends, Misses}
use Rattle.wasm_module_validator_type_storage.proofs.Chunks.{read, ascends_at, misses_at, within_list, put_ok, put_err, put_sized}
use Rattle.wasm_module_validator_type_storage.proofs.ordered.adding.put_into.Goals as goal

pub put_in-requires-clause-ascends : goal.put_in-requires-clause-ascends
put_in-requires-clause-ascends g c =
    let within = within_list (λ v. v.items) c.args.chunks.now.items c.args.at c.requires.takes.within in
    subst (Ascends (g.C.Compare.order c.args.sought.now)) (read (λ v. v.items) c.args.chunks.now.items c.args.at c.index_mut.result.now within c.index_mut.ensures.value)
    (ascends_at (g.C.Compare.order c.args.sought.now) (map (λ v. v.items) c.args.chunks.now.items) c.args.at c.requires.takes.within c.requires.ascends)

pub put_in-requires-clause-misses : goal.put_in-requires-clause-misses
put_in-requires-clause-misses g c =
    let within = within_list (λ v. v.items) c.args.chunks.now.items c.args.at c.requires.takes.within in
    subst (Misses (g.C.Compare.order c.args.sought.now)) (read (λ v. v.items) c.args.chunks.now.items c.args.at c.index_mut.result.now within c.index_mut.ensures.value)
    (misses_at (g.C.Compare.order c.args.sought.now) (map (λ v. v.items) c.args.chunks.now.items) c.args.at c.requires.takes.within c.requires.misses)

pub returns-clause-ok : goal.returns-clause-ok
returns-clause-ok g c =
    let within = within_list (λ v. v.items) c.args.chunks.now.items c.args.at c.requires.takes.within in
    put_ok (λ v. v.items) c.args.chunks.now.items c.args.at c.index_mut.result.now c.put_in.new.chunk within c.index_mut.ensures.value (g.C.Compare.order c.args.sought.now)
    c.args.number c.requires.takes c.put_in.result c.put_in.ensures.ok

pub returns-clause-err : goal.returns-clause-err
returns-clause-err g c =
    let within = within_list (λ v. v.items) c.args.chunks.now.items c.args.at c.requires.takes.within in
    put_err (λ v. v.items) c.args.chunks.now.items c.args.at c.index_mut.result.now c.put_in.new.chunk within c.index_mut.ensures.value c.put_in.result c.put_in.ensures.err

pub returns-clause-sized : goal.returns-clause-sized
returns-clause-sized g c =
    let within = within_list (λ v. v.items) c.args.chunks.now.items c.args.at c.requires.takes.within in
    put_sized (λ v. v.items) c.args.chunks.now.items c.args.at c.index_mut.result.now c.put_in.new.chunk within c.index_mut.ensures.value (g.C.Compare.order c.args.sought.now)
    c.args.number c.requires.takes c.put_in.result c.put_in.ensures.ok c.put_in.ensures.err
