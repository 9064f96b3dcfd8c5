use Rattle.wasm_types_reader.proofs.laws.reading_is_lawful.Goals as goal

pub returns-clause-value : goal.returns-clause-value
returns-clause-value g c = λ z s t more x e. rw e at (((g.met.T.FromReader c.lifetimes (assumption c)).lawful z).steady s more)

pub returns-clause-fault : goal.returns-clause-fault
returns-clause-fault g c = λ z s more k p e. rw e at (((g.met.T.FromReader c.lifetimes (assumption c)).lawful z).steady s more)

pub returns-clause-fewer : goal.returns-clause-fewer
returns-clause-fewer g c = λ z s more p h e. (rw e at (((g.met.T.FromReader c.lifetimes (assumption c)).lawful z).steady s more)).0

pub returns-clause-enough : goal.returns-clause-enough
returns-clause-enough g c = λ z s more p h e. (rw e at (((g.met.T.FromReader c.lifetimes (assumption c)).lawful z).steady s more)).1

pub returns-clause-sound : goal.returns-clause-sound
returns-clause-sound g c = λ z s. ((g.met.T.FromReader c.lifetimes (assumption c)).exact z).sound s

pub returns-clause-complete : goal.returns-clause-complete
returns-clause-complete g c = λ z s. ((g.met.T.FromReader c.lifetimes (assumption c)).exact z).complete s
