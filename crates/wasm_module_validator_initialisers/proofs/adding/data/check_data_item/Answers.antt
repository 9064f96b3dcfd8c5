use Rattle.std.proofs.Common.{◌∙◌, subst}
use Rattle.std.specs.Prelude.{IfErr}
use Rattle.wasm_types.specs.decoding.Denials.{Tells, UnlessMemory}
use Rattle.wasm_module_validator_initialisers.specs.segments.Trees.{data_read}
use Rattle.wasm_module_validator_initialisers.specs.segments.Judged.{IsData}
use Rattle.wasm_module_validator_initialisers.specs.segments.Refusals.{RefusesData}
use Rattle.wasm_module_validator_state.specs.Items.{Items}
use Rattle.wasm_module_validator_state.specs.invariant.Standing.{constants_of}
use Rattle.wasm_module_validator_initialisers.specs.adding.Read.{data_tree}
use Rattle.wasm_module_validator_initialisers.proofs.Moved.{always}
use Rattle.wasm_module_validator_initialisers.proofs.NewData.{data_told, data_added}
use Rattle.wasm_module_validator_initialisers.proofs.adding.data.check_data_item.Goals as goal

pub returns-clause-answer : goal.returns-clause-answer
returns-clause-answer c =
    data_told c.args.types.now.groups c.args.state.now (data_tree c.args.segment) c.judge_data-answer.result
    (subst (λ (s : Items). Tells c.judge_data-answer.result
    (IsData s.spaces.settings (constants_of c.args.types.now.groups s.spaces).«module» s.spaces.imported_globals (data_read c.args.segment)))
    c.take_const_expr_allocs-allocs.ensures c.judge_data-answer.ensures.answer)

pub returns-clause-added : goal.returns-clause-added
returns-clause-added c =
    always c.judge_data-answer.result _
    (data_added c.args.types.now.groups c.args.state.now (data_tree c.args.segment) c.keep_const_expr_allocs.new.self (c.keep_const_expr_allocs.ensures ∙ c.take_const_expr_allocs-allocs.ensures))

pub returns-clause-refused : goal.returns-clause-refused
returns-clause-refused c =
    subst (λ (s : Items). IfErr c.judge_data-answer.result (λ e. UnlessMemory e.kind
    (RefusesData s.spaces.settings (constants_of c.args.types.now.groups s.spaces) s.spaces.imported_globals c.args.offset c.args.segment.kind e)))
    c.take_const_expr_allocs-allocs.ensures c.judge_data-answer.ensures.refused
