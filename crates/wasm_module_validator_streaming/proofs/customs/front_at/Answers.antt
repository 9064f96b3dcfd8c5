-- By what the readers of the parts answer.
use Rattle.std.proofs.Common.{rules, ◌≡◌, ◌∙◌, ◌<◌, ◌≤◌, length, sym, refl}
use Rattle.wasm_types.specs.decoding.Decoder.{byte}
use Rattle.wasm_types.specs.decoding.Numbers.{IsRefused}
use Rattle.wasm_module_validator_streaming.proofs.Fronts.{front_empty, front_other, front_no_size, front_all, front_unread, front_head, front_short, front_bad}
use Rattle.wasm_module_validator_streaming.proofs.customs.front_at.Goals as goal

pub returns-in-Ok-read_string : goal.returns-in-Ok-read_string
returns-in-Ok-read_string c =
    let custom : c.in-Some.id ≡ 0 = search rules in
    let fewer : c.bytes_remaining-there.result < c.in-Some-short_u32.size = search rules in
    front_head _ c.new_limited-reader.result c.new_limited-reader.ensures c.in-Some.id c.short_u8.new.self c.in-Some.ensures.found
    c.in-Some-short_u32.size c.short_u32.new.self c.in-Some-short_u32.ensures.found c.bytes_remaining-there.result c.in-Ok.text.now c.read_bytes.new.self c.new_limited-part.result
    c.bytes_remaining-there.ensures c.in-Ok.ensures.answer (search rules) custom fewer c.in-Ok-read_string._name.now c.read_string.new.self c.in-Ok-read_string.ensures.answer
    _ refl _ c.original_position-contents.ensures

pub returns-in_default : goal.returns-in_default
returns-in_default c =
    let none : IsRefused (byte c.new_limited-reader.result) = search rules in
    front_empty _ c.new_limited-reader.result c.new_limited-reader.ensures none

pub returns-then-there-size : goal.returns-then-there-size
returns-then-there-size c =
    let all : c.in-Some-short_u32.size ≤ length c.short_u32.new.self.rest = search rules in
    front_all _ c.new_limited-reader.result c.new_limited-reader.ensures c.in-Some.id c.short_u8.new.self c.in-Some.ensures.found
    c.in-Some-short_u32.size c.short_u32.new.self c.in-Some-short_u32.ensures.found all

pub returns-in-Some-needed_hint : goal.returns-in-Some-needed_hint
returns-in-Some-needed_hint c =
    front_short _ c.new_limited-reader.result c.new_limited-reader.ensures c.in-Some.id c.short_u8.new.self c.in-Some.ensures.found
    c.in-Some-short_u32.size c.short_u32.new.self c.in-Some-short_u32.ensures.found c.bytes_remaining-there.result c.in-Ok.text.now c.read_bytes.new.self c.new_limited-part.result
    c.bytes_remaining-there.ensures c.in-Ok.ensures.answer (search rules) c.in-Err.error c.in-Some-needed_hint.more c.in-Err.ensures.answer.0
    (sym c.needed_hint.ensures ∙ c.in-Some-needed_hint.is)

pub returns : goal.returns
returns c =
    front_bad _ c.new_limited-reader.result c.new_limited-reader.ensures c.in-Some.id c.short_u8.new.self c.in-Some.ensures.found
    c.in-Some-short_u32.size c.short_u32.new.self c.in-Some-short_u32.ensures.found c.bytes_remaining-there.result c.in-Ok.text.now c.read_bytes.new.self c.new_limited-part.result
    c.bytes_remaining-there.ensures c.in-Ok.ensures.answer (search rules) c.in-Err.error c.in-Err.ensures.answer.0 c.in-Err.ensures.no_memory
    (sym c.needed_hint.ensures ∙ c.in-None.is)
