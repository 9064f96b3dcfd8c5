use Rattle.std.proofs.Common.{arith}
use Rattle.wasm_module_validator_type_storage.specs.trees.Groups.{count}
use Rattle.wasm_module_validator_type_storage.specs.trees.BelowIds.{IsIdBelow}
use Rattle.wasm_module_validator_canonical_types.proofs.Lists.{value_read}
use Rattle.wasm_module_validator_canonical_types.proofs.matches.fields.results_match.Goals as goal

pub valtype_is_subtype-requires-clause-first : goal.valtype_is_subtype-requires-clause-first
valtype_is_subtype-requires-clause-first c =
    value_read (IsIdBelow (count c.args.types.now.groups)) c.args.a.now c.loop-i.i c.index-a-i.result c.requires.first (omega arith) c.index-a-i.is

pub valtype_is_subtype-requires-clause-second : goal.valtype_is_subtype-requires-clause-second
valtype_is_subtype-requires-clause-second c =
    value_read (IsIdBelow (count c.args.types.now.groups)) c.args.b.now c.loop-i.i c.index-b-i.result c.requires.second (omega arith) c.index-b-i.is
