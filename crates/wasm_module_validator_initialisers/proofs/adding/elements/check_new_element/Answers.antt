use Rattle.std.proofs.Common.{subst}
use Rattle.std.specs.Prelude.{IfErr}
use Rattle.wasm_types.specs.decoding.Denials.{Tells, UnlessMemory}
use Rattle.wasm_module_validator_initialisers.specs.elements.Trees.{element_read}
use Rattle.wasm_module_validator_initialisers.specs.elements.Judged.{IsElementThere}
use Rattle.wasm_module_validator_initialisers.specs.elements.Refusals.{RefusesElement}
use Rattle.wasm_module_validator_state.specs.Items.{Items}
use Rattle.wasm_module_validator_state.specs.invariant.Standing.{constants_of}
use Rattle.wasm_module_validator_initialisers.proofs.adding.elements.check_new_element.Goals as goal

pub returns-clause-answer : goal.returns-clause-answer
returns-clause-answer c =
    subst (λ (s : Items). Tells c.judge_element-answer.result (IsElementThere s.spaces.settings (constants_of c.args.types.now.groups s.spaces).«module» s.spaces.imported_globals (element_read c.args.element)))
    c.take_const_expr_allocs-allocs.ensures c.judge_element-answer.ensures.answer

pub returns-clause-refused : goal.returns-clause-refused
returns-clause-refused c =
    subst (λ (s : Items). IfErr c.judge_element-answer.result (λ e. UnlessMemory e.kind (RefusesElement s.spaces.settings (constants_of c.args.types.now.groups s.spaces) s.spaces.imported_globals c.args.offset c.args.element e)))
    c.take_const_expr_allocs-allocs.ensures c.judge_element-answer.ensures.refused
