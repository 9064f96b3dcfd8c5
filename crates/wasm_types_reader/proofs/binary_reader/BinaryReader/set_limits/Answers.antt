use Rattle.std.proofs.Common.{rules}
use Rattle.wasm_types_reader.proofs.binary_reader.BinaryReader.set_limits.Goals as goal

pub returns : goal.returns
returns c = search rules
