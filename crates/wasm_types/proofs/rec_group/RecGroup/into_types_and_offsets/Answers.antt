use Rattle.std.proofs.Common.{rules}
use Rattle.wasm_types.proofs.rec_group.RecGroup.into_types_and_offsets.Goals as goal

pub returns-clause-types : goal.returns-clause-types
returns-clause-types c = search rules

pub returns-clause-len : goal.returns-clause-len
returns-clause-len c = search rules
