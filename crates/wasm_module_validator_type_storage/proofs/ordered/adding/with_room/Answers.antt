use Rattle.std.proofs.Common.{ap, map}
use Rattle.wasm_module_validator_type_storage.proofs.Chunks.{within_map}
use Rattle.wasm_module_validator_type_storage.proofs.Halves.{no_room, takes_above, takes_below}
use Rattle.wasm_module_validator_type_storage.proofs.ordered.adding.with_room.Goals as goal

pub returns-then-is_passed-clause-takes : goal.returns-then-is_passed-clause-takes
returns-then-is_passed-clause-takes g c =
    let long = no_room (λ v. v.items) c.args.chunks.now.items c.as_slice.result.now c.args.at c.has_room.result c.as_slice.ensures.value c.has_room.ensures c.if-has_room.false in
    takes_above (map (λ v. v.items) c.args.chunks.now.items) (map (λ v. v.items) c.halve.new.chunks.items) c.args.at c.in_ok-halve.ensures.ok
    (within_map (λ v. v.items) c.args.chunks.now.items c.args.at c.requires.within) long c.requires.sized (g.C.Compare.order c.args.sought.now) c.requires.ascends
    c.requires.belongs (map (λ v. v.items) c.as_slice-2.result.now) (ap (map (λ v. v.items)) c.as_slice-2.ensures.value) c.is_passed.result c.is_passed.ensures
    c.if-is_passed.true

pub returns-else-is_passed-clause-takes : goal.returns-else-is_passed-clause-takes
returns-else-is_passed-clause-takes g c =
    let long = no_room (λ v. v.items) c.args.chunks.now.items c.as_slice.result.now c.args.at c.has_room.result c.as_slice.ensures.value c.has_room.ensures c.if-has_room.false in
    takes_below (map (λ v. v.items) c.args.chunks.now.items) (map (λ v. v.items) c.halve.new.chunks.items) c.args.at c.in_ok-halve.ensures.ok
    (within_map (λ v. v.items) c.args.chunks.now.items c.args.at c.requires.within) long c.requires.sized (g.C.Compare.order c.args.sought.now) c.requires.ascends
    c.requires.belongs (map (λ v. v.items) c.as_slice-2.result.now) (ap (map (λ v. v.items)) c.as_slice-2.ensures.value) c.is_passed.result c.is_passed.ensures
    c.if-is_passed.false
