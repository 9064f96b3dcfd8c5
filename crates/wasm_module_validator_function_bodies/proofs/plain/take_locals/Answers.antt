use Rattle.std.proofs.Common.{◌≡◌, refl, subst, arith}
use Rattle.wasm_module_validator_function_bodies.proofs.Judged.{TakesSome, took_none, took_next, took_all, same_group, same_then}
use Rattle.wasm_module_validator_function_bodies.proofs.plain.take_locals.Goals as goal

pub loop-init : goal.loop-init
loop-init c = record {
  same = record { known = refl; features = refl; references = refl; vectors = refl };
  taken = took_none c.args.tables.now c.args.bytes.now c.in-Some.first c.args.tables.now.locals.items c.in-Some.ensures.found.inside;
}

pub loop-preserved : goal.loop-preserved
loop-preserved c = record {
  same = same_then c.args.tables.now c.loop.tables c.take_group.new.tables c.loop.invariant.same c.take_group.ensures.same;
  taken = took_next c.args.tables.now c.args.bytes.now c.in-Some.first c.loop.counter c.args.tables.now.locals.items c.loop.tables.locals.items c.take_group.new.tables.locals.items
      c.loop.end c.in-Some-take_group.next c.loop.invariant.taken
      (same_group c.args.tables.now c.loop.tables c.args.bytes.now c.loop.end c.loop.tables.locals.items c.take_group.new.tables.locals.items c.in-Some-take_group.next c.loop.invariant.same
      c.in-Some-take_group.ensures.taken);
}

pub returns-clause-taken : goal.returns-clause-taken
returns-clause-taken c =
    let n : c.loop.counter ≡ c.in-Some.count = omega arith in
    took_all c.args.tables.now c.args.bytes.now c.in-Some.count c.in-Some.first c.args.tables.now.locals.items c.loop.tables.locals.items c.loop.end c.in-Some.ensures.found
    (subst (λ k. TakesSome c.args.tables.now c.args.bytes.now c.in-Some.first k c.args.tables.now.locals.items c.loop.tables.locals.items c.loop.end) n c.loop.invariant.taken)
