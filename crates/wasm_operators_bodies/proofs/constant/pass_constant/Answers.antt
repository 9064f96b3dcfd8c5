use Rattle.std.proofs.Common.{true, is_some, sym, ◌∙◌, ap, subst, arith, rules}
use Rattle.std.proofs.lemmas.Grind.{common_steps, elements}
use Rattle.wasm_types.specs.decoding.Decoder.{State, Takes}
use Rattle.wasm_operators_reader.specs.Standing.{Standing}
use Rattle.wasm_operators_bodies.specs.Constants.{PassesTo}
use Rattle.wasm_operators_bodies.specs.ConstantLaws.{constant_read, none_open}
use Rattle.wasm_operators_bodies.proofs.constant.pass_constant.Goals as goal

pub returns-clause-read : goal.returns-clause-read
returns-clause-read c =
    let run = subst (λ (s : Standing). PassesTo s true c.pass_end.new.operators) c.new-operators.ensures c.in_default.ensures.passed in
    let closed = none_open c.pass_end.new.operators.frames (c.if-is_some.ensures ∙ ap is_some c.current_frame.ensures) in
    let read = constant_read c.args.reader c.pass_end.new.operators run closed in
    (read.0, read.1, subst (λ (b : State). Takes c.args.reader read.0 b) (sym c.get_binary_reader.ensures) read.2)

pub returns-then-is_some-clause-read : goal.returns-then-is_some-clause-read
returns-then-is_some-clause-read c = search rules

pub returns-then-is_some-clause-stops : goal.returns-then-is_some-clause-stops
returns-then-is_some-clause-stops c = first_of (search rules, first_of (grind (arith, common_steps), grind (arith, elements)))
