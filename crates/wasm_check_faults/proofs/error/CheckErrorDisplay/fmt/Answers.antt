use Rattle.std.proofs.Common.{rules}
use Rattle.wasm_check_faults.proofs.error.CheckErrorDisplay.fmt.Goals as goal

pub returns-in-TooLong-clause-writes : goal.returns-in-TooLong-clause-writes
returns-in-TooLong-clause-writes c = search rules
