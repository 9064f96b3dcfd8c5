-- The count, and the bytes behind it.
use Rattle.std.proofs.Common.{◌≡◌, ap, sym, ◌∙◌, refl}
use Rattle.wasm_types_decoding.specs.Decoder.{State, Done}
use Rattle.std.proofs.lemmas.Result.{err_from_is_err_and}
use Rattle.wasm_types_reader.specs.Parts.{part_at}
use Rattle.wasm_types_reader.proofs.Sizes.{part_fails, part_ends, part_done}
use Rattle.wasm_types_reader.proofs.binary_reader.BinaryReader.read_reader.Goals as goal

pub returns-in_err-count-clause-answer : goal.returns-in_err-count-clause-answer
returns-in_err-count-clause-answer c =
    let p = err_from_is_err_and c.from_residual.result c.from_residual.ensures.1 in
    let read = rw c.clone-ahead.ensures at c.in_err-count.ensures.answer.0 in
    rw (p.1, p.2) (part_fails _ _ _ read, refl)

pub returns-in_err-text-clause-answer : goal.returns-in_err-text-clause-answer
returns-in_err-text-clause-answer c =
    let p = err_from_is_err_and c.from_residual-in_err-text.result c.from_residual-in_err-text.ensures.1 in
    let read = rw c.clone-ahead.ensures at c.in_ok-count.ensures.answer in
    rw (p.1, p.2) (part_ends _ _ _ read _ _ c.in_err-text.ensures.answer.0, refl)

pub returns-clause-answer : goal.returns-clause-answer
returns-clause-answer c =
    let read = rw c.clone-ahead.ensures at c.in_ok-count.ensures.answer in
    let settings = ap (λ (s : State). s.settings) c.self-2.view_is ∙ c.in_ok-text.ensures.forward.taken.settings in
    let part : c.new_limited.result ≡ part_at c.read_var_u32.new.self c.in_ok-text.text.now = c.new_limited.ensures ∙ rw (c.original_position-place.ensures, settings) refl in
    part_done _ _ _ read _ _ c.in_ok-text.ensures.answer ∙ ap (λ (p : State). Done p c.read_bytes.new.self) (sym part) ∙ ap (λ (u : State). Done c.new_limited.result u) (sym c.self-2.view_is)
