use Rattle.wasm_operators_bodies.specs.GroupLaws.{locals_done, locals_fail, locals_read}
use Rattle.wasm_operators_bodies.proofs.laws.locals_are_read_one_by_one.Goals as goal

pub returns-clause-sound : goal.returns-clause-sound
returns-clause-sound c = λ settings s u l t gs begun run none. locals_done settings s u l begun gs t run none

pub returns-clause-refused : goal.returns-clause-refused
returns-clause-refused c = λ settings s u l t gs e begun run some fails. locals_fail settings s u l begun e gs t run some fails

pub returns-clause-complete : goal.returns-clause-complete
returns-clause-complete c = λ settings s b gs e. let read = locals_read settings s b gs e in (read.0, read.3.0, read.1, read.2, read.3.1, read.3.2, read.3.3)
