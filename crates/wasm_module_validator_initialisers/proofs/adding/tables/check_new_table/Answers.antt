use Rattle.std.proofs.Common.{◌≡◌, ◌≤◌, length, subst}
use Rattle.std.specs.Prelude.{IfErr, IfOk}
use Rattle.wasm_types.specs.decoding.Denials.{Tells, UnlessMemory}
use Rattle.wasm_operator_validator_state.specs.resources.Meaning.{table_in}
use Rattle.wasm_module_validator_checks.specs.rules.Spaces.{table_in as table_written}
use Rattle.wasm_module_validator_initialisers.specs.segments.Trees.{table_read}
use Rattle.wasm_module_validator_initialisers.specs.segments.Judged.{IsTable}
use Rattle.wasm_module_validator_initialisers.specs.segments.Refusals.{RefusesTable}
use Rattle.wasm_module_validator_state.specs.Items.{Items}
use Rattle.wasm_module_validator_state.specs.invariant.Standing.{constants_of}
use Rattle.wasm_module_validator_initialisers.proofs.adding.tables.check_new_table.Goals as goal

pub returns-clause-in_turn : goal.returns-clause-in_turn
returns-clause-in_turn c =
    subst (λ (s : Items). length (constants_of c.args.types.now.groups s.spaces).«module».globals ≤ s.spaces.imported_globals → Tells c.judge_table_here-answer.result (IsTable s.spaces.settings (constants_of c.args.types.now.groups s.spaces).«module» s.spaces.imported_globals (table_read c.args.table.now)))
    c.take_const_expr_allocs-allocs.ensures c.judge_table_here-answer.ensures.in_turn

pub returns-clause-refused : goal.returns-clause-refused
returns-clause-refused c =
    subst (λ (s : Items). IfErr c.judge_table_here-answer.result (λ e. UnlessMemory e.kind (RefusesTable s.spaces.settings (constants_of c.args.types.now.groups s.spaces) s.spaces.imported_globals c.args.offset c.args.table.now e)))
    c.take_const_expr_allocs-allocs.ensures c.judge_table_here-answer.ensures.refused

pub returns-clause-named : goal.returns-clause-named
returns-clause-named c =
    subst (λ (s : Items). IfOk c.judge_table_here-answer.result (λ t. table_in (constants_of c.args.types.now.groups s.spaces) t ≡ table_written (constants_of c.args.types.now.groups s.spaces).«module».types c.args.table.now.ty))
    c.take_const_expr_allocs-allocs.ensures c.judge_table_here-answer.ensures.named
