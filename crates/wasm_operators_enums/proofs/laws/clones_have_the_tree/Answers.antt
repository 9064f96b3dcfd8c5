use Rattle.wasm_operators_enums.proofs.Copies.{copied}
use Rattle.wasm_operators_enums.proofs.laws.clones_have_the_tree.Goals as goal

pub returns : goal.returns
returns c = copied
