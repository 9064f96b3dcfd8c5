use Rattle.std.proofs.lemmas.Grind.{common_steps}
use Rattle.std.proofs.Common.{◌≡◌, true, false, arith, refl}
use Rattle.wasm_module_validator_type_storage.specs.trees.Groups.{count}
use Rattle.wasm_module_validator_type_storage.specs.trees.BelowIds.{IsIdBelow}
use Rattle.wasm_module_validator_canonical_types.proofs.Lists.{field_read, too_few}
use Rattle.wasm_module_validator_canonical_types.proofs.matches.fields.fields_match.Goals as goal

pub returns-then-a-b : goal.returns-then-a-b
returns-then-a-b c = (λ h. let z : false ≡ true = h in cc, λ m. absurd (too_few c.args.types.now.groups c.args.a.now c.args.b.now c.if-a-b.true m))

pub field_matches-requires-clause-first : goal.field_matches-requires-clause-first
field_matches-requires-clause-first c =
    field_read (IsIdBelow (count c.args.types.now.groups)) c.args.a.now c.loop-i.i c.index-a-i.result c.requires.first (omega arith) c.index-a-i.is

pub field_matches-requires-clause-second : goal.field_matches-requires-clause-second
field_matches-requires-clause-second c =
    field_read (IsIdBelow (count c.args.types.now.groups)) c.args.b.now c.loop-i.i c.index-b-i.result c.requires.second (omega arith) c.index-b-i.is

pub loop-i-preserved : goal.loop-i-preserved
loop-i-preserved c = grind (arith, common_steps)
