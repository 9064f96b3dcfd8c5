use Rattle.std.proofs.Common.{◌∙◌, ap}
use Rattle.std.specs.Prelude.{IfErr}
use Rattle.wasm_types.specs.decoding.Denials.{Tells, UnlessMemory}
use Rattle.wasm_module_validator_initialisers.specs.elements.Trees.{element_read}
use Rattle.wasm_module_validator_initialisers.specs.elements.Judged.{IsElementThere}
use Rattle.wasm_module_validator_initialisers.specs.elements.Refusals.{RefusesElement}
use Rattle.wasm_module_validator_resources.specs.referring.Referring.{meaning_with_all}
use Rattle.wasm_module_validator_initialisers.proofs.Moved.{moved}
use Rattle.wasm_module_validator_initialisers.proofs.adding.elements.judge_element.Goals as goal

pub returns-clause-answer : goal.returns-clause-answer
returns-clause-answer c =
    moved (λ z m i. Tells c.check_element.result (IsElementThere z m.«module» i (element_read c.args.element))) _ _ _ _ _ _ c.settings.ensures (c.new.ensures ∙ ap meaning_with_all c.resources-module.ensures)
    (c.imported_globals.ensures ∙ (λ k. (c.module.ensures k).imported_globals)) c.check_element.ensures.answer

pub returns-clause-refused : goal.returns-clause-refused
returns-clause-refused c =
    moved (λ z m i. IfErr c.check_element.result (λ e. UnlessMemory e.kind (RefusesElement z m i c.args.offset c.args.element e))) _ _ _ _ _ _ c.settings.ensures (c.new.ensures ∙ ap meaning_with_all c.resources-module.ensures)
    (c.imported_globals.ensures ∙ (λ k. (c.module.ensures k).imported_globals)) c.check_element.ensures.refused
