use Rattle.wasm_operators_encoding.specs.LocalsLaws.{lawful-locals, decides-locals}
use Rattle.wasm_operators_bodies.proofs.laws.locals_are_lawful.Goals as goal

pub returns-clause-lawful : goal.returns-clause-lawful
returns-clause-lawful c = lawful-locals

pub returns-clause-exact : goal.returns-clause-exact
returns-clause-exact c = decides-locals
