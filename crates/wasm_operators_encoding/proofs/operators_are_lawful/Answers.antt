use Rattle.wasm_operators_encoding.specs.CodedLaws.{lawful-operator, decides-operator}
use Rattle.wasm_operators_encoding.proofs.operators_are_lawful.Goals as goal

pub returns-clause-lawful : goal.returns-clause-lawful
returns-clause-lawful c = lawful-operator

pub returns-clause-exact : goal.returns-clause-exact
returns-clause-exact c = decides-operator
