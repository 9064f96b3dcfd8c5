use Rattle.std.proofs.Common.{◌∷◌, refl, arith}
use Rattle.wasm_types.specs.trees.Types.{ref}
use Rattle.wasm_operator_validator_fast_tables.proofs.Lowering.{lowered}
use Rattle.wasm_operator_validator_fast_objects.proofs.Casting.{is_cast, casts, cast_gives, took_cast}
use Rattle.wasm_operator_validator_fast_objects.proofs.casts.ref_cast.Goals as goal

pub returns-clause-leads : goal.returns-clause-leads
returns-clause-leads c =
    let m = c.take_below.new.self in
    let given = c.in-Some-with_null.given in
    lowered c.args.tables.now c.args.bytes.now c.args.at c.in-Some.end c.args.opens.now.inner c.args.opens.now.outer (c.args.opens.now.inner ∷ c.args.opens.now.outer) c.args.stack.now (c.in-Some.top ∷ m.0, m.1) c.put.new.self (c.if-not-take_below.ensures refl)
    (took_cast c.args.tables.now c.args.bytes.now c.args.at c.in-Some.end c.args.opens.now.inner c.args.opens.now.outer (c.in-Some.top ∷ m.0, m.1) c.put.new.self c.if-not-tables.false _ (casts c.args.null) (λ h. ref c.args.null h) (is_cast c.args.null) c.args.middle c.requires
    c.in-Some.code c.in-Some.top given c.in-Some.ensures (λ ids g k. cast_gives ids g _ _ _ given c.args.null k c.in-Some-with_null.ensures) m refl (c.if-not-put.ensures refl))

pub returns-clause-forward : goal.returns-clause-forward
returns-clause-forward c = omega (arith, c.requires.code_there.forward, c.in-Some.ensures.read.forward)

pub returns-clause-inside : goal.returns-clause-inside
returns-clause-inside c = c.in-Some.ensures.read.inside
