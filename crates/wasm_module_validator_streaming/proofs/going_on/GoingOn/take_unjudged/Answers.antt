-- By the laws of what comes behind a body that was refused.
use Rattle.std.proofs.Common.{refl}
use Rattle.wasm_module_validator_streaming.proofs.Lost.{lost_denies, lost_item, lost_waits, lost_room}
use Rattle.wasm_module_validator_streaming.proofs.going_on.GoingOn.take_unjudged.Goals as goal

pub parse-requires : goal.parse-requires
parse-requires c = lost_room c.args.eof c.args.bytes.now c.args.self.now c.requires.lost c.requires.midst

pub returns-in-Ok-NeedMoreData : goal.returns-in-Ok-NeedMoreData
returns-in-Ok-NeedMoreData c = λ first got s room.
    lost_waits first c.args.self.now got c.args.eof c.args.bytes.now c.requires.lost s
    (record c.args.self.now { judging = record c.args.self.now.judging { parser = c.parse.new.self } }) c.in-Ok-NeedMoreData.needed refl
    (rw c.in-Ok-NeedMoreData.field-0-is at c.in-Ok-NeedMoreData.ensures.answer)

pub returns-then-consumed-gt0 : goal.returns-then-consumed-gt0
returns-then-consumed-gt0 c = λ first got s room.
    lost_item first c.args.self.now got c.args.eof c.args.bytes.now c.requires.lost s
    (record c.args.self.now { judging = record c.args.self.now.judging { parser = c.parse.new.self; validator = c.payload.new.self } }) c.in-Ok-Parsed.consumed refl
    c.if-consumed-gt0.true (rw c.in-Ok-Parsed.field-0-is at c.in-Ok-Parsed.ensures.within) (rw c.in-Ok-Parsed.field-0-is at c.in-Ok-Parsed.ensures.moves)

pub returns-in-Err-payload : goal.returns-in-Err-payload
returns-in-Err-payload c = λ first got s room. lost_denies first c.args.self.now got c.args.eof c.args.bytes.now c.requires.lost s c.in-Err-payload.error

pub returns-in-Some : goal.returns-in-Some
returns-in-Some c = λ first got s room. lost_denies first c.args.self.now got c.args.eof c.args.bytes.now c.requires.lost s c.in-Some.error

pub returns-in-Err : goal.returns-in-Err
returns-in-Err c = λ first got s room. lost_denies first c.args.self.now got c.args.eof c.args.bytes.now c.requires.lost s c.in-Err.error
