use Rattle.std.proofs.Common.{◌∙◌, ◌≤◌, length, ap}
use Rattle.std.specs.Prelude.{IfErr}
use Rattle.wasm_types.specs.decoding.Denials.{Tells, UnlessMemory}
use Rattle.wasm_module_validator_initialisers.specs.segments.Trees.{table_read}
use Rattle.wasm_module_validator_initialisers.specs.segments.Judged.{IsTable}
use Rattle.wasm_module_validator_initialisers.specs.segments.Refusals.{RefusesTable}
use Rattle.wasm_module_validator_resources.specs.referring.Referring.{meaning_with_all}
use Rattle.wasm_module_validator_initialisers.proofs.Moved.{moved}
use Rattle.wasm_module_validator_initialisers.proofs.adding.tables.judge_table_here.Goals as goal

pub returns-clause-in_turn : goal.returns-clause-in_turn
returns-clause-in_turn c =
    moved (λ z m i. length m.«module».globals ≤ i → Tells c.judge_table.result (IsTable z m.«module» i (table_read c.args.table.now))) _ _ _ _ _ _ c.settings.ensures (c.new.ensures ∙ ap meaning_with_all c.resources-module.ensures)
    (c.imported_globals.ensures ∙ (λ k. (c.module.ensures k).imported_globals)) c.judge_table.ensures.in_turn

pub returns-clause-refused : goal.returns-clause-refused
returns-clause-refused c =
    moved (λ z m i. IfErr c.judge_table.result (λ e. UnlessMemory e.kind (RefusesTable z m i c.args.offset c.args.table.now e))) _ _ _ _ _ _ c.settings.ensures (c.new.ensures ∙ ap meaning_with_all c.resources-module.ensures)
    (c.imported_globals.ensures ∙ (λ k. (c.module.ensures k).imported_globals)) c.judge_table.ensures.refused
