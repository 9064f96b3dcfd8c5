use Rattle.std.proofs.Common.{arith}
use Rattle.wasm_operator_validator_fast_objects.proofs.Referring.{parted}
use Rattle.wasm_operator_validator_fast_objects.proofs.references.last_of.Goals as goal

pub returns : goal.returns
returns c = parted c.args.types.now _ (omega arith)
