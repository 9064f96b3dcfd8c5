-- What the front of a part is read as, and whether as many segments were announced.
use Rattle.std.proofs.Common.{◌≡◌, ◌∙◌, ap, subst, sym, Bool, true, false}
use Rattle.wasm_types.specs.decoding.Decoder.{State, Done}
use Rattle.wasm_types.specs.decoding.Leb.{u32}
use Rattle.wasm_types.specs.reader.Reading.{Fails}
use Rattle.wasm_sections_parser.specs.Steps.{counted, is_announced}
use Rattle.wasm_sections_parser.specs.SettledLaws.{count_refused, count_allowed, count_denied}
use Rattle.wasm_sections_parser.proofs.sections.read_counted.Goals as goal

pub returns-in-Err-clause-answer : goal.returns-in-Err-clause-answer
returns-in-Err-clause-answer c =
    let here : Fails c.in-Err.error (u32 c.args.part) = subst (λ (v : State). Fails c.in-Err.error (u32 v)) c.clone-ahead.ensures c.in-Err.ensures.answer.0 in
    rw (c.settled.ensures.kind, c.settled.ensures.offset)
    (count_refused c.args.progress c.args.id c.args.part c.args.reader.now c.in-Err.error.kind c.in-Err.error.offset here)

pub returns-then-not-is_announced-clause-answer : goal.returns-then-not-is_announced-clause-answer
returns-then-not-is_announced-clause-answer c =
    let here : u32 c.args.part ≡ Done c.in-Ok.count c.read_var_u32.new.self = subst (λ (v : State). u32 v ≡ Done c.in-Ok.count c.read_var_u32.new.self) c.clone-ahead.ensures c.in-Ok.ensures.answer in
    let other : is_announced c.args.id (counted c.args.progress c.args.id c.in-Ok.count) ≡ false = ap (is_announced c.args.id) (sym c.counted-behind.ensures) ∙ sym c.is_announced.ensures ∙ c.if-not-is_announced.true in
    rw (c.segments_error.ensures.kind, c.segments_error.ensures.offset, c.original_position.ensures)
    (count_denied c.args.progress c.args.id c.args.part c.args.reader.now c.in-Ok.count c.read_var_u32.new.self here other)

pub returns-clause-answer : goal.returns-clause-answer
returns-clause-answer c =
    let here : u32 c.args.part ≡ Done c.in-Ok.count c.read_var_u32.new.self = subst (λ (v : State). u32 v ≡ Done c.in-Ok.count c.read_var_u32.new.self) c.clone-ahead.ensures c.in-Ok.ensures.answer in
    let fits : is_announced c.args.id (counted c.args.progress c.args.id c.in-Ok.count) ≡ true = ap (is_announced c.args.id) (sym c.counted-behind.ensures) ∙ sym c.is_announced.ensures ∙ c.if-not-is_announced.false in
    rw c.counted-behind.ensures (count_allowed c.args.progress c.args.id c.args.part c.args.reader.now c.in-Ok.count c.read_var_u32.new.self here fits)
