use Rattle.std.proofs.Common.{◌∙◌, ap}
use Rattle.std.specs.Prelude.{IfErr}
use Rattle.wasm_types.specs.decoding.Denials.{Tells, UnlessMemory}
use Rattle.wasm_module_validator_initialisers.specs.segments.Trees.{global_read}
use Rattle.wasm_module_validator_initialisers.specs.segments.Judged.{IsGlobal}
use Rattle.wasm_module_validator_initialisers.specs.segments.Refusals.{RefusesGlobal}
use Rattle.wasm_module_validator_resources.specs.referring.Referring.{meaning_with_all}
use Rattle.wasm_module_validator_initialisers.proofs.Moved.{moved}
use Rattle.wasm_module_validator_initialisers.proofs.adding.globals.judge_global_here.Goals as goal

pub returns-clause-answer : goal.returns-clause-answer
returns-clause-answer c =
    moved (λ z m i. Tells c.judge_global.result (IsGlobal z m.«module» i (global_read c.args.global.now))) _ _ _ _ _ _ c.settings.ensures (c.new.ensures ∙ ap meaning_with_all c.resources-module.ensures)
    (c.imported_globals.ensures ∙ (λ k. (c.module.ensures k).imported_globals)) c.judge_global.ensures.answer

pub returns-clause-refused : goal.returns-clause-refused
returns-clause-refused c =
    moved (λ z m i. IfErr c.judge_global.result (λ e. UnlessMemory e.kind (RefusesGlobal z m i c.args.offset c.args.global.now e))) _ _ _ _ _ _ c.settings.ensures (c.new.ensures ∙ ap meaning_with_all c.resources-module.ensures)
    (c.imported_globals.ensures ∙ (λ k. (c.module.ensures k).imported_globals)) c.judge_global.ensures.refused
