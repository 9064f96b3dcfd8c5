use Rattle.std.proofs.Common.{subst}
use Rattle.wasm_module_validator_type_storage.specs.ordered.Order.{IsPlace}
use Rattle.wasm_module_validator_type_storage.proofs.Chunks.{read, within_list, put_ok, put_err, put_sized}
use Rattle.wasm_module_validator_type_storage.proofs.ordered.adding.put_there.Goals as goal

pub put_at-requires : goal.put_at-requires
put_at-requires g c =
    let within = within_list (λ v. v.items) c.args.chunks.now.items c.args.end.chunk c.requires.takes.within in
    subst (λ ns. IsPlace (g.C.Compare.order c.args.sought.now) ns c.args.end.place)
    (read (λ v. v.items) c.args.chunks.now.items c.args.end.chunk c.index_mut.result.now within c.index_mut.ensures.value) c.requires.place

pub returns-clause-ok : goal.returns-clause-ok
returns-clause-ok g c =
    let within = within_list (λ v. v.items) c.args.chunks.now.items c.args.end.chunk c.requires.takes.within in
    put_ok (λ v. v.items) c.args.chunks.now.items c.args.end.chunk c.index_mut.result.now c.put_at.new.chunk within c.index_mut.ensures.value
    (g.C.Compare.order c.args.sought.now)
    c.args.number c.requires.takes c.put_at.result c.put_at.ensures.ok

pub returns-clause-err : goal.returns-clause-err
returns-clause-err g c =
    let within = within_list (λ v. v.items) c.args.chunks.now.items c.args.end.chunk c.requires.takes.within in
    put_err (λ v. v.items) c.args.chunks.now.items c.args.end.chunk c.index_mut.result.now c.put_at.new.chunk within c.index_mut.ensures.value
    c.put_at.result c.put_at.ensures.err

pub returns-clause-sized : goal.returns-clause-sized
returns-clause-sized g c =
    let within = within_list (λ v. v.items) c.args.chunks.now.items c.args.end.chunk c.requires.takes.within in
    put_sized (λ v. v.items) c.args.chunks.now.items c.args.end.chunk c.index_mut.result.now c.put_at.new.chunk within c.index_mut.ensures.value
    (g.C.Compare.order c.args.sought.now)
    c.args.number c.requires.takes c.put_at.result c.put_at.ensures.ok c.put_at.ensures.err
