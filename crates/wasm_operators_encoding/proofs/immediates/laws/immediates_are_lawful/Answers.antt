use Rattle.wasm_operators_encoding.specs.immediates.ImmediateLaws.{lawful-immediate, decides-immediate}
use Rattle.wasm_operators_encoding.proofs.immediates.laws.immediates_are_lawful.Goals as goal

pub returns-clause-lawful : goal.returns-clause-lawful
returns-clause-lawful c = lawful-immediate

pub returns-clause-exact : goal.returns-clause-exact
returns-clause-exact c = decides-immediate
