use Rattle.std.proofs.Common.{◌∙◌, ℕ, List, take, subst}
use Rattle.std.proofs.lemmas.Result.{err_from_is_err_and}
use Rattle.wasm_types.specs.decoding.Decoder.{State}
use Rattle.wasm_operators_reader.specs.Standing.{at_start}
use Rattle.wasm_operators_bodies.specs.Constants.{StopsConstant}
use Rattle.wasm_operators_bodies.specs.ConstantLaws.{constant_denied}
use Rattle.wasm_operators_bodies.specs.Short.{SpellsShort}
use Rattle.wasm_operators_bodies.specs.ShortLaws.{short_is_constant}
use Rattle.wasm_operators_bodies.proofs.constant.ConstExpr.read.Goals as goal

pub returns-in_err-behind-clause-refused : goal.returns-in_err-behind-clause-refused
returns-in_err-behind-clause-refused c =
    let p = err_from_is_err_and c.from_residual.result c.from_residual.ensures.1 in
    let stops = subst (λ (s : State). StopsConstant (at_start s) c.in_err-behind.field-0.0) c.clone.ensures c.in_err-behind.ensures.stops in
    rw (p.1, p.2) (λ n text t taken spelled. constant_denied c.args.reader.now c.in_err-behind.field-0.0 n text t taken spelled stops)

pub returns-in-Some-clause-read : goal.returns-in-Some-clause-read
returns-in-Some-clause-read c =
    let s : State = c.args.reader.now in
    let spelled : SpellsShort c.in-Some._constant (take c.in-Some.length s.rest) =
    subst (λ (bytes : List ℕ). SpellsShort c.in-Some._constant (take c.in-Some.length bytes)) c.left.ensures c.in-Some.ensures.spelled in (
      take c.in-Some.length s.rest,
      short_is_constant c.in-Some._constant (take c.in-Some.length s.rest) spelled s.settings,
      c.take_front.ensures.taken,
      c.new.ensures ∙ c.take_front.ensures.part,
    )
