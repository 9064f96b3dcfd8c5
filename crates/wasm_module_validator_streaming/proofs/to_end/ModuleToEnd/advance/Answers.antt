-- By the laws of one piece more.
use Rattle.std.proofs.Common.{◌≡◌, ◌<◌, ◌+◌, ◌^◌, ◌++◌, length, ap, rules}
use Rattle.wasm_types.specs.decoding.ErrorValue.{ErrorValue}
use Rattle.wasm_module_validator_streaming.specs.declared.to_end.ModuleToEnd.{ModuleToEnd}
use Rattle.wasm_module_validator_streaming.specs.laws.Running.{memory_denies}
use Rattle.wasm_module_validator_streaming.proofs.ToEnd.{going_of, came_of, has_room, is_pending, piece_goes, piece_denied}
use Rattle.wasm_module_validator_streaming.proofs.to_end.ModuleToEnd.advance.Goals as goal

pub returns-in_default : goal.returns-in_default
returns-in_default c = record {
  came = λ z id got h more room. memory_denies z ((got ++ c.args.bytes.now) ++ more) c.out_of_memory.result (ap (λ (e : ErrorValue). e.kind) c.out_of_memory.ensures);
}

pub take_handed-requires-clause-room : goal.take_handed-requires-clause-room
take_handed-requires-clause-room c =
    let few : c.args.self.now.came + length c.args.bytes.now < 2 ^ 64 = search rules in
    has_room c.args.self.now c.requires.going c.requires.way c.args.bytes.now few

pub take_handed-requires-clause-pending : goal.take_handed-requires-clause-pending
take_handed-requires-clause-pending c =
    let few : c.args.self.now.came + length c.args.bytes.now < 2 ^ 64 = search rules in
    is_pending c.args.self.now c.requires.going c.requires.way c.args.bytes.now few

pub returns-in-Ok : goal.returns-in-Ok
returns-in-Ok c =
    let p : ModuleToEnd = c.args.self.now in
    let few : p.came + length c.args.bytes.now < 2 ^ 64 = search rules in
    let count : c.in-Some.came ≡ p.came + length c.args.bytes.now = search rules in
    let q : ModuleToEnd = record p { came = c.in-Some.came; going = c.take_handed.new.taker; pending = c.take_handed.new.pending } in
    record {
      came = λ z id got h. came_of z id (got ++ c.args.bytes.now) q c.requires.going
          (piece_goes z id got p (going_of z id got p c.requires.going h) c.args.bytes.now few q count c.in-Ok.ensures.ok c.in-Ok.ensures.pending);
    }

pub returns-in-Err-Refused : goal.returns-in-Err-Refused
returns-in-Err-Refused c =
    let p : ModuleToEnd = c.args.self.now in
    let few : p.came + length c.args.bytes.now < 2 ^ 64 = search rules in
    record {
      came = λ z id got h. piece_denied z id got p (going_of z id got p c.requires.going h) c.args.bytes.now few c.in-Err-Refused.error
          (rw c.in-Err-Refused.field-0-is at c.in-Err-Refused.ensures.err);
    }

pub returns-in-Err-TooLong : goal.returns-in-Err-TooLong
returns-in-Err-TooLong c = record {
  came = λ z id got h more room. memory_denies z ((got ++ c.args.bytes.now) ++ more) c.out_of_memory-in-Err-TooLong.result (ap (λ (e : ErrorValue). e.kind) c.out_of_memory-in-Err-TooLong.ensures);
}
