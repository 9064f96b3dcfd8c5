-- By the laws of one piece more.
use Rattle.std.proofs.Common.{◌≡◌, ◌<◌, ◌≤◌, ◌+◌, ◌^◌, ◌++◌, length, rules}
use Rattle.wasm_module_validator_streaming.specs.declared.pieces.ModuleInPieces.{ModuleInPieces}
use Rattle.wasm_module_validator_streaming.proofs.HandedModule.{judged_of, came_of, has_room, is_pending, piece_judged, piece_refused, too_many}
use Rattle.wasm_module_validator_streaming.proofs.pieces.ModuleInPieces.advance.Goals as goal

pub returns-in_default-clause-err : goal.returns-in_default-clause-err
returns-in_default-clause-err c z id got h =
    let many : 2 ^ 64 ≤ c.args.self.now.came + length c.args.bytes.now = search rules in
    too_many z id got c.args.self.now c.requires.going h c.args.bytes.now many

pub take_handed-requires-clause-room : goal.take_handed-requires-clause-room
take_handed-requires-clause-room c =
    let few : c.args.self.now.came + length c.args.bytes.now < 2 ^ 64 = search rules in
    has_room c.args.self.now c.requires.going c.requires.way c.args.bytes.now few

pub take_handed-requires-clause-pending : goal.take_handed-requires-clause-pending
take_handed-requires-clause-pending c =
    let few : c.args.self.now.came + length c.args.bytes.now < 2 ^ 64 = search rules in
    is_pending c.args.self.now c.requires.going c.requires.way c.args.bytes.now few

pub returns-in-Ok-clause-came : goal.returns-in-Ok-clause-came
returns-in-Ok-clause-came c z id got h =
    let p : ModuleInPieces = c.args.self.now in
    let few : p.came + length c.args.bytes.now < 2 ^ 64 = search rules in
    let count : c.in-Some.came ≡ p.came + length c.args.bytes.now = search rules in
    let q : ModuleInPieces = record p { came = c.in-Some.came; judging = c.take_handed.new.taker; pending = c.take_handed.new.pending } in
    came_of z id (got ++ c.args.bytes.now) q c.requires.going
    (piece_judged z id got p (judged_of z id got p c.requires.going h) c.args.bytes.now few q count c.in-Ok.ensures.ok c.in-Ok.ensures.pending) c.in-Ok.ensures.held

pub returns-in-Err-clause-err : goal.returns-in-Err-clause-err
returns-in-Err-clause-err c z id got h =
    let p : ModuleInPieces = c.args.self.now in
    let few : p.came + length c.args.bytes.now < 2 ^ 64 = search rules in
    piece_refused z id got p (judged_of z id got p c.requires.going h) c.args.bytes.now few p.most c.in-Err.error c.in-Err.ensures.err
