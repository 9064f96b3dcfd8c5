use Rattle.wasm_module_validator_function_bodies.specs.Plain.{AreOfSame}
use Rattle.wasm_module_validator_function_bodies.proofs.Judged.{TakesSome}
use Rattle.wasm_module_validator_function_bodies.proofs.plain.take_locals.Given as goal

abbrev pub invariant-loop : goal.invariant-loop
invariant-loop l = record {
  same : AreOfSame l.fn.tables l.tables;
  taken : TakesSome l.fn.tables l.bytes l.first l.counter l.fn.tables.locals.items l.tables.locals.items l.end;
}
