use Rattle.wasm_operators_encoding.specs.codes.RoleLaws.{role_of_opcode}
use Rattle.wasm_operators_encoding.proofs.codes.opcodes_tell_roles.Goals as goal

pub returns : goal.returns
returns c = role_of_opcode
