use Rattle.std.proofs.Common.{refl}
use Rattle.wasm_module_validator_function_bodies.proofs.Judged.{took_group}
use Rattle.wasm_module_validator_function_bodies.proofs.plain.take_group.Goals as goal

pub returns-clause-taken : goal.returns-clause-taken
returns-clause-taken c = took_group c.args.tables.now c.args.bytes.now c.args.at c.in-Some.count c.in-Some.middle c.in-Some-value_at.code c.in-Some-value_at._place c.in-Some-value_at.end
    c.in-Some.ensures.found c.in-Some-value_at.ensures
    c.args.tables.now.locals.items c.put_times.new.locals.items (c.if-not-put_times.ensures refl)
