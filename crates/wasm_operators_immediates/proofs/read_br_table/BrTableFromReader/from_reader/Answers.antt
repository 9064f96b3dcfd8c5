use Rattle.wasm_operators_immediates.proofs.Passing.{size_is_small}
use Rattle.std.proofs.Common.{rules}
-- The bytes that were passed are the table's.
use Rattle.std.proofs.Common.{◌≡◌, ◌∙◌, refl, sym, ap}
use Rattle.wasm_types.specs.decoding.Decoder.{Done, repeated}
use Rattle.wasm_types.specs.decoding.Leb.{u32}
use Rattle.wasm_types.specs.decoding.Lists.{size_within, listed_within}
use Rattle.wasm_types.specs.settings.declared.Limits.{Limits}
use Rattle.wasm_operators_immediates.specs.Labels.{labels}
use Rattle.wasm_operators_immediates.proofs.Passing.{part_is}
use Rattle.wasm_operators_immediates.proofs.read_br_table.BrTableFromReader.from_reader.Goals as goal

pub of_bytes-requires : goal.of_bytes-requires
of_bytes-requires c =
    let xs = c.in_ok-pass_numbers.ensures.answer.0 in
    let e : repeated c.in_ok-count.field-0 u32 c.clone-start.result ≡ Done xs c.pass_numbers.new.reader = rw c.clone-start.ensures c.in_ok-pass_numbers.ensures.answer.1 in
    (part_is c.in_ok-count.field-0 c.clone-start.result c.pass_numbers.new.reader c.read_bytes.new.self xs c.in-Ok.targets.now e
    (rw (c.bytes_remaining.ensures, c.bytes_remaining-2.ensures) at c.in-Ok.ensures.answer)).read

pub returns-clause-answer : goal.returns-clause-answer
unfolding labels listed_within
returns-clause-answer c =
    let xs = c.in_ok-pass_numbers.ensures.answer.0 in
    let e : repeated c.in_ok-count.field-0 u32 c.clone-start.result ≡ Done xs c.pass_numbers.new.reader = rw c.clone-start.ensures c.in_ok-pass_numbers.ensures.answer.1 in
    let p = part_is c.in_ok-count.field-0 c.clone-start.result c.pass_numbers.new.reader c.read_bytes.new.self xs c.in-Ok.targets.now e
    (rw (c.bytes_remaining.ensures, c.bytes_remaining-2.ensures) at c.in-Ok.ensures.answer) in
    let t = c.of_bytes.ensures.targets ∙ p.same in
    let same : c.of_bytes.result ≡ record { targets = xs; default = c.in_ok-default.default } = λ i. record { targets = t i; default = c.of_bytes.ensures.default i } in
    let counted = sym (ap (λ (l : Limits). size_within l.body_bytes c.args.reader.now) c.limits-limit.ensures.value) ∙ c.in_ok-count.ensures.answer in
    rw (counted, c.in_ok-pass_numbers.ensures.answer.1, c.in_ok-default.ensures.answer, same) refl

pub overflow_cast-count : goal.overflow_cast-count
overflow_cast-count c = record { fits = size_is_small _ _ _ _ (search rules) c.in_ok-count.ensures.answer }
