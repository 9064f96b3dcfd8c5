use Rattle.wasm_operators_encoding.specs.SequenceLaws.{lawful-immediates, decides-immediates}
use Rattle.wasm_operators_encoding.specs.OpcodeLaws.{lawful-opcode, decides-opcode}
use Rattle.wasm_operators_encoding.proofs.opcodes_and_immediates_are_lawful.Goals as goal

pub returns-clause-opcodes : goal.returns-clause-opcodes
returns-clause-opcodes c = lawful-opcode

pub returns-clause-opcodes_exact : goal.returns-clause-opcodes_exact
returns-clause-opcodes_exact c = decides-opcode

pub returns-clause-immediates : goal.returns-clause-immediates
returns-clause-immediates c = lawful-immediates

pub returns-clause-immediates_exact : goal.returns-clause-immediates_exact
returns-clause-immediates_exact c = decides-immediates
