use Rattle.std.proofs.Common.{◌-◌, ◌+◌, ◌<◌, ◌≡◌, ap, length, map, arith}
use Rattle.wasm_module_validator_type_storage.specs.ordered.Chunks.{chunk_at}
use Rattle.wasm_module_validator_type_storage.proofs.Chunks.{read, push_ok, push_sized, put_err, begun_ok, begun_sized}
use Rattle.wasm_module_validator_type_storage.proofs.ordered.adding.append.Goals as goal

pub returns-then-has_room-clause-ok : goal.returns-then-has_room-clause-ok
returns-then-has_room-clause-ok c =
    let at = length c.as_slice-count.result.now - 1 in
    let within : at < length c.args.chunks.now.items = omega (arith, c.if-count-gt0.true, ap length c.as_slice-count.ensures.value) in
    let last : length c.args.chunks.now.items ≡ at + 1 = omega (arith, c.if-count-gt0.true, ap length c.as_slice-count.ensures.value) in
    push_ok (λ v. v.items) c.args.chunks.now.items at c.index_mut.result.now c.push_in.new.chunk within c.index_mut.ensures.value c.args.number last c.push_in.result
    c.push_in.ensures.ok

pub returns-then-has_room-clause-err : goal.returns-then-has_room-clause-err
returns-then-has_room-clause-err c =
    let at = length c.as_slice-count.result.now - 1 in
    let within : at < length c.args.chunks.now.items = omega (arith, c.if-count-gt0.true, ap length c.as_slice-count.ensures.value) in
    put_err (λ v. v.items) c.args.chunks.now.items at c.index_mut.result.now c.push_in.new.chunk within c.index_mut.ensures.value c.push_in.result c.push_in.ensures.err

pub returns-then-has_room-clause-sized : goal.returns-then-has_room-clause-sized
returns-then-has_room-clause-sized c =
    let at = length c.as_slice-count.result.now - 1 in
    let within : at < length c.args.chunks.now.items = omega (arith, c.if-count-gt0.true, ap length c.as_slice-count.ensures.value) in
    let last : length c.args.chunks.now.items ≡ at + 1 = omega (arith, c.if-count-gt0.true, ap length c.as_slice-count.ensures.value) in
    let is = read (λ v. v.items) c.args.chunks.now.items at c.index_mut.result.now within c.index_mut.ensures.value in
    let room = c.has_room.ensures.0 c.if-has_room.true in
    push_sized (λ v. v.items) c.args.chunks.now.items at c.index_mut.result.now c.push_in.new.chunk within c.index_mut.ensures.value c.args.number last c.push_in.result c.requires
    (omega (arith, room, ap (λ l. length (chunk_at (map (λ v. v.items) l) at)) c.as_slice.ensures.value, ap length is)) c.push_in.ensures.ok c.push_in.ensures.err

pub returns-clause-ok : goal.returns-clause-ok
returns-clause-ok c = begun_ok (map (λ v. v.items) c.args.chunks.now.items) (map (λ v. v.items) c.begin_chunk.new.chunks.items) c.args.number c.begin_chunk.result c.begin_chunk.ensures.ok

pub returns-clause-sized : goal.returns-clause-sized
returns-clause-sized c =
    begun_sized (map (λ v. v.items) c.args.chunks.now.items) (map (λ v. v.items) c.begin_chunk.new.chunks.items) c.args.number c.begin_chunk.result c.requires
    c.begin_chunk.ensures.ok c.begin_chunk.ensures.err
