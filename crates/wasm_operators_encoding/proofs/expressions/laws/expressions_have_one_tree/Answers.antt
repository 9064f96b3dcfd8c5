use Rattle.wasm_operators_encoding.specs.expressions.SpellingLaws.{one_expression}
use Rattle.wasm_operators_encoding.proofs.expressions.laws.expressions_have_one_tree.Goals as goal

pub returns : goal.returns
returns c = one_expression
