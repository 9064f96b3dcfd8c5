-- A body is a payload, and so is a custom section; without either the parser is as it was.
use Rattle.std.proofs.Common.{rules, ◌≡◌, ◌∙◌, ◌<◌, ◌+◌, ◌^◌, Ok, length, refl, sym, subst}
use Rattle.wasm_sections.specs.declared.payload.Payload.TheVariants.{CodeSectionEntry, CustomSection}
use Rattle.wasm_sections.specs.declared.parser.Chunk.TheVariants as chunks
use Rattle.wasm_sections.specs.declared.parser.Parser.{Parser}
use Rattle.wasm_sections.specs.Parsing.{ParsesPayload}
use Rattle.wasm_sections_parser.specs.Parsers.{Parser as Frames}
use Rattle.wasm_module_validator_streaming.proofs.Stepping.{midst_room, payload_takes, stands_same}
use Rattle.wasm_module_validator_streaming.proofs.judging.Judging.take_next.Goals as goal

pub next_body-requires : goal.next_body-requires
next_body-requires c = midst_room c.args.eof c.args.bytes.now c.args.self.now c.requires.midst c.requires.idle

pub take_body-requires : goal.take_body-requires
take_body-requires c = c.requires.midst.there.judge

pub returns-in-Some : goal.returns-in-Some
returns-in-Some c = λ first got s room.
    payload_takes first c.args.self.now c.take_body.new.self got c.args.eof c.args.bytes.now s c.requires.idle c.in-Some.consumed (CodeSectionEntry c.in-Some.body)
    (subst (λ (p : Parser). ParsesPayload c.args.self.now.parser.frames c.args.bytes.now c.args.eof (Ok (chunks.Parsed c.in-Some.consumed (CodeSectionEntry c.in-Some.body))) p.frames)
    (sym c.take_body.ensures.parser) (c.in-Some.ensures.body c.args.eof)) room c.take_body.result c.take_body.ensures.steps c.take_body.ensures.judge (c.take_body.ensures.idle ∙ c.requires.idle)

pub next_custom-requires : goal.next_custom-requires
next_custom-requires c =
    let same : c.next_body.new.self.frames ≡ c.args.self.now.parser.frames = search rules in
    subst (λ (q : Frames). q.offset + length c.args.bytes.now < 2 ^ 64) (sym same) (midst_room c.args.eof c.args.bytes.now c.args.self.now c.requires.midst c.requires.idle)

pub take_custom-requires : goal.take_custom-requires
take_custom-requires c = c.requires.midst.there.judge

pub returns-in-Some-next_custom : goal.returns-in-Some-next_custom
returns-in-Some-next_custom c = λ first got s room.
    let same : c.next_body.new.self.frames ≡ c.args.self.now.parser.frames = search rules in
    let consumed = c.in-Some-next_custom.consumed in
    let x = CustomSection c.in-Some-next_custom.section in
    let from = subst (λ (q : Frames). ParsesPayload q c.args.bytes.now c.args.eof (Ok (chunks.Parsed consumed x)) c.next_custom.new.self.frames) same
    (c.in-Some-next_custom.ensures.section c.args.eof) in
    payload_takes first c.args.self.now c.take_custom.new.self got c.args.eof c.args.bytes.now s c.requires.idle consumed x
    (subst (λ (p : Parser). ParsesPayload c.args.self.now.parser.frames c.args.bytes.now c.args.eof (Ok (chunks.Parsed consumed x)) p.frames)
    (sym c.take_custom.ensures.parser) from) room c.take_custom.result c.take_custom.ensures.steps c.take_custom.ensures.judge (c.take_custom.ensures.idle ∙ c.requires.idle)

pub take_other-requires-clause-midst : goal.take_other-requires-clause-midst
take_other-requires-clause-midst c =
    let same : c.next_custom.new.self.frames ≡ c.args.self.now.parser.frames = search rules in
    let m = c.requires.midst in
    record {
      first = m.first;
      got = m.got;
      there = stands_same m.first c.args.self.now (record c.args.self.now { parser = c.next_custom.new.self }) m.got c.args.eof c.args.bytes.now m.there c.requires.idle same refl refl m.there.judge;
      room = m.room;
    }

pub returns : goal.returns
returns c = λ first got s room.
    let same : c.next_custom.new.self.frames ≡ c.args.self.now.parser.frames = search rules in
    c.take_other.ensures first got
    (stands_same first c.args.self.now (record c.args.self.now { parser = c.next_custom.new.self }) got c.args.eof c.args.bytes.now s c.requires.idle same refl refl s.judge) room
