-- By the laws of a step.
use Rattle.std.proofs.Common.{◌<◌, ◌+◌, ◌^◌, Bool, Ok, refl, sym, subst, ◌∙◌, length}
use Rattle.wasm_sections.specs.declared.parser.Chunk.TheVariants as chunks
use Rattle.wasm_sections.specs.declared.parser.Parser.{Parser}
use Rattle.wasm_sections.specs.Parsing.{ParsesPayload}
use Rattle.wasm_sections_parser.specs.Parsers.{Parser as Frames}
use Rattle.wasm_module_validator_streaming.specs.Taking.{Takes}
use Rattle.wasm_module_validator_streaming.specs.Verdicts.{StandsAt, ShownAt, DeniedAt, WaitsAt}
use Rattle.wasm_module_validator_streaming.proofs.Stepping.{midst_room, asked_for, payload_takes, refusal_takes, stands_still}
use Rattle.wasm_module_validator_streaming.proofs.judging.Judging.take_other.Goals as goal

pub parse-requires : goal.parse-requires
parse-requires c = midst_room c.args.eof c.args.bytes.now c.args.self.now c.requires.midst c.requires.idle

pub take_payload-requires : goal.take_payload-requires
take_payload-requires c = c.requires.midst.there.judge

pub take_front-requires-clause-room : goal.take_front-requires-clause-room
take_front-requires-clause-room c =
    let a = asked_for c.args.self.now.parser.frames c.parse.new.self.frames c.args.bytes.now c.args.eof c.in-Ok-NeedMoreData.needed (rw c.in-Ok-NeedMoreData.field-0-is at c.in-Ok-NeedMoreData.ensures.answer) in
    subst (λ (q : Frames). q.offset + length c.args.bytes.now < 2 ^ 64) (sym a.1) (midst_room c.args.eof c.args.bytes.now c.args.self.now c.requires.midst c.requires.idle)

pub take_front-requires-clause-asks : goal.take_front-requires-clause-asks
take_front-requires-clause-asks c =
    (asked_for c.args.self.now.parser.frames c.parse.new.self.frames c.args.bytes.now c.args.eof c.in-Ok-NeedMoreData.needed (rw c.in-Ok-NeedMoreData.field-0-is at c.in-Ok-NeedMoreData.ensures.answer)).2

pub take_front-requires-clause-some : goal.take_front-requires-clause-some
take_front-requires-clause-some c =
    (asked_for c.args.self.now.parser.frames c.parse.new.self.frames c.args.bytes.now c.args.eof c.in-Ok-NeedMoreData.needed (rw c.in-Ok-NeedMoreData.field-0-is at c.in-Ok-NeedMoreData.ensures.answer)).3

pub returns-in-Ok-NeedMoreData : goal.returns-in-Ok-NeedMoreData
returns-in-Ok-NeedMoreData c = λ first got s room.
    let a = asked_for c.args.self.now.parser.frames c.parse.new.self.frames c.args.bytes.now c.args.eof c.in-Ok-NeedMoreData.needed (rw c.in-Ok-NeedMoreData.field-0-is at c.in-Ok-NeedMoreData.ensures.answer) in
    subst (λ (b : Bool). Takes StandsAt ShownAt DeniedAt WaitsAt first got b c.args.bytes.now c.take_front.result c.take_front.new.self) (sym a.0)
    (c.take_front.ensures first got (stands_still first c.args.self.now (record c.args.self.now { parser = c.parse.new.self }) got c.args.eof c.args.bytes.now s c.requires.idle a.0 a.1 refl refl s.judge) room)

pub returns-in-Ok-Parsed : goal.returns-in-Ok-Parsed
returns-in-Ok-Parsed c = λ first got s room.
    let parsed = rw c.in-Ok-Parsed.field-0-is at c.in-Ok-Parsed.ensures.answer in
    payload_takes first c.args.self.now c.take_payload.new.self got c.args.eof c.args.bytes.now s c.requires.idle c.in-Ok-Parsed.consumed c.in-Ok-Parsed.payload
    (subst (λ (p : Parser). ParsesPayload c.args.self.now.parser.frames c.args.bytes.now c.args.eof (Ok (chunks.Parsed c.in-Ok-Parsed.consumed c.in-Ok-Parsed.payload)) p.frames)
    (sym c.take_payload.ensures.parser) parsed) room c.take_payload.result c.take_payload.ensures.steps c.take_payload.ensures.judge (c.take_payload.ensures.idle ∙ c.requires.idle)

pub returns-in-Err : goal.returns-in-Err
returns-in-Err c = λ first got s room.
    refusal_takes first c.args.self.now (record c.args.self.now { parser = c.parse.new.self }) got c.args.eof c.args.bytes.now s c.requires.idle c.in-Err.error c.parse.new.self.frames
    (rw c.in-Err.error-is at c.in-Err.ensures.answer)
