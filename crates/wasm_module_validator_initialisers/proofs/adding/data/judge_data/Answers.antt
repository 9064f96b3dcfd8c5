use Rattle.std.proofs.Common.{◌∙◌, ap}
use Rattle.std.specs.Prelude.{IfErr}
use Rattle.wasm_types.specs.decoding.Denials.{Tells, UnlessMemory}
use Rattle.wasm_module_validator_initialisers.specs.segments.Trees.{data_read}
use Rattle.wasm_module_validator_initialisers.specs.segments.Judged.{IsData}
use Rattle.wasm_module_validator_initialisers.specs.segments.Refusals.{RefusesData}
use Rattle.wasm_module_validator_resources.specs.referring.Referring.{meaning_with_all}
use Rattle.wasm_module_validator_initialisers.proofs.Moved.{moved}
use Rattle.wasm_module_validator_initialisers.proofs.adding.data.judge_data.Goals as goal

pub returns-clause-answer : goal.returns-clause-answer
returns-clause-answer c =
    moved (λ z m i. Tells c.check_data.result (IsData z m.«module» i (data_read c.args.segment.now))) _ _ _ _ _ _ c.settings.ensures (c.new.ensures ∙ ap meaning_with_all c.resources-module.ensures)
    (c.imported_globals.ensures ∙ (λ k. (c.module.ensures k).imported_globals)) c.check_data.ensures.answer

pub returns-clause-refused : goal.returns-clause-refused
returns-clause-refused c =
    moved (λ z m i. IfErr c.check_data.result (λ e. UnlessMemory e.kind (RefusesData z m i c.args.offset c.args.segment.now.kind e))) _ _ _ _ _ _ c.settings.ensures (c.new.ensures ∙ ap meaning_with_all c.resources-module.ensures)
    (c.imported_globals.ensures ∙ (λ k. (c.module.ensures k).imported_globals)) c.check_data.ensures.refused
