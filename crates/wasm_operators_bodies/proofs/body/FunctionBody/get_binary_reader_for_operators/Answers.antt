use Rattle.std.proofs.Common.{◌∙◌, ap, sym}
use Rattle.std.proofs.lemmas.Result.{err_from_is_err_and}
use Rattle.wasm_types.specs.decoding.Decoder.{State, Done}
use Rattle.wasm_operators_bodies.specs.GroupLaws.{count_fails, locals_fail, locals_done}
use Rattle.wasm_operators_bodies.proofs.body.FunctionBody.get_binary_reader_for_operators.Goals as goal

pub returns-in_err-groups-clause-answer : goal.returns-in_err-groups-clause-answer
returns-in_err-groups-clause-answer c =
    let p = err_from_is_err_and c.from_residual.result c.from_residual.ensures.1 in
    let body = c.args.self.now in
    rw (p.1, p.2) (count_fails body.settings body c.in_err-groups.field-0.0 c.in_err-groups.ensures.answer)

pub returns-in_err-pass-clause-answer : goal.returns-in_err-pass-clause-answer
returns-in_err-pass-clause-answer c =
    let p = err_from_is_err_and c.from_residual-in_err-pass.result c.from_residual-in_err-pass.ensures.1 in
    let body = c.args.self.now in
    let begun = c.in_ok-groups.ensures.answer in
    let refused = c.in_err-pass.ensures.refused in
    rw (p.1, p.2) (locals_fail body.settings body begun.0 c.in_ok-groups.groups begun.1 c.in_err-pass.field-0.0 refused.0.0 c.pass.new.self refused.0.1 refused.1 refused.2)

pub returns-clause-answer : goal.returns-clause-answer
returns-clause-answer c =
    let body = c.args.self.now in
    let begun = c.in_ok-groups.ensures.answer in
    let read = c.in_ok-pass.ensures.read in
    (read.0.0, locals_done body.settings body begun.0 c.in_ok-groups.groups begun.1 read.0.0 c.pass.new.self read.0.1 read.1 ∙ ap (λ (b : State). Done read.0.0 b) (sym c.get_binary_reader.ensures))
