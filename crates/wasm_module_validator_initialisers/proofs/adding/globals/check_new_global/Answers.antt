use Rattle.std.proofs.Common.{subst}
use Rattle.std.specs.Prelude.{IfErr}
use Rattle.wasm_types.specs.decoding.Denials.{Tells, UnlessMemory}
use Rattle.wasm_module_validator_initialisers.specs.segments.Trees.{global_read}
use Rattle.wasm_module_validator_initialisers.specs.segments.Judged.{IsGlobal}
use Rattle.wasm_module_validator_initialisers.specs.segments.Refusals.{RefusesGlobal}
use Rattle.wasm_module_validator_state.specs.Items.{Items}
use Rattle.wasm_module_validator_state.specs.invariant.Standing.{constants_of}
use Rattle.wasm_module_validator_initialisers.proofs.adding.globals.check_new_global.Goals as goal

pub returns-clause-answer : goal.returns-clause-answer
returns-clause-answer c =
    subst (λ (s : Items). Tells c.judge_global_here-answer.result (IsGlobal s.spaces.settings (constants_of c.args.types.now.groups s.spaces).«module» s.spaces.imported_globals (global_read c.args.global.now)))
    c.take_const_expr_allocs-allocs.ensures c.judge_global_here-answer.ensures.answer

pub returns-clause-refused : goal.returns-clause-refused
returns-clause-refused c =
    subst (λ (s : Items). IfErr c.judge_global_here-answer.result (λ e. UnlessMemory e.kind (RefusesGlobal s.spaces.settings (constants_of c.args.types.now.groups s.spaces) s.spaces.imported_globals c.args.offset c.args.global.now e)))
    c.take_const_expr_allocs-allocs.ensures c.judge_global_here-answer.ensures.refused
