use Rattle.std.proofs.Common.{◌≡◌, ◌∙◌, ◌<◌, ℕ, List, length, ap, subst, inl}
use Rattle.wasm_types.specs.decoding.Denials.{Denies}
use Rattle.wasm_module_validator_initialisers.specs.segments.Laws.{unless_from}
use Rattle.wasm_module_validator_checks.specs.rules.Valid.{most_tables}
use Rattle.wasm_module_validator_initialisers.specs.segments.Trees.{table_read}
use Rattle.wasm_module_validator_initialisers.specs.segments.Refusals.{RefusesTable}
use Rattle.wasm_module_validator_state.specs.Items.{Items}
use Rattle.wasm_module_validator_state.specs.Adding.{adding_table}
use Rattle.wasm_module_validator_state.specs.invariant.Standing.{constants_of, marking}
use Rattle.wasm_module_validator_initialisers.specs.adding.Read.{NamesInit}
use Rattle.wasm_module_validator_initialisers.specs.adding.Refusals.{RefusesNewTable}
use Rattle.wasm_module_validator_initialisers.proofs.TooMany.{one_too_many}
use Rattle.wasm_module_validator_initialisers.proofs.NewTables.{table_told, table_denied, table_full, table_added}
use Rattle.wasm_module_validator_initialisers.proofs.adding.tables.add_table.Goals as goal

pub returns-in-Err-clause-answer : goal.returns-in-Err-clause-answer
returns-in-Err-clause-answer c = table_denied c.args.types.now.groups c.args.state.now (table_read c.args.table) c.in-Err.error c.in-Err.ensures.in_turn

pub returns-in-Err-clause-refused : goal.returns-in-Err-clause-refused
returns-in-Err-clause-refused c =
    let s = c.args.state.now in
    unless_from c.in-Err.error.kind
    (RefusesTable s.spaces.settings (constants_of c.args.types.now.groups s.spaces) s.spaces.imported_globals c.args.offset c.args.table c.in-Err.error)
    (RefusesNewTable c.args.types.now.groups s c.args.offset c.args.table c.in-Err.error) (λ p. inl p) c.in-Err.ensures.refused

pub returns-in-Err-push_table-clause-answer : goal.returns-in-Err-push_table-clause-answer
returns-in-Err-push_table-clause-answer c =
    table_full c.args.types.now.groups c.args.state.now (table_read c.args.table) c.in-Err-push_table.error
    (subst (λ (t : Items). Denies c.in-Err-push_table.error.kind (length t.spaces.tables < most_tables t.spaces.settings)) c.check_new_table.ensures.stays c.in-Err-push_table.ensures.answer)

pub returns-in-Err-push_table-clause-refused : goal.returns-in-Err-push_table-clause-refused
returns-in-Err-push_table-clause-refused c =
    let s = c.args.state.now in
    let e = c.in-Err-push_table.error in
    one_too_many e (length s.spaces.tables) (most_tables s.spaces.settings) c.args.offset
    (RefusesTable s.spaces.settings (constants_of c.args.types.now.groups s.spaces) s.spaces.imported_globals c.args.offset c.args.table e)
    (subst (λ (t : Items). Denies e.kind (length t.spaces.tables < most_tables t.spaces.settings)) c.check_new_table.ensures.stays c.in-Err-push_table.ensures.answer)
    c.in-Err-push_table.ensures.refused

pub returns-clause-answer : goal.returns-clause-answer
returns-clause-answer c =
    table_told c.args.types.now.groups c.args.state.now (table_read c.args.table) _ c.in-Ok.ensures.in_turn
    (subst (λ (t : Items). length t.spaces.tables < most_tables t.spaces.settings) c.check_new_table.ensures.stays c.in-Ok-push_table.ensures.answer)

pub returns-clause-added : goal.returns-clause-added
returns-clause-added c =
    let names = c.check_new_table.new.names.items in
    let kept = c.in-Ok.ty in
    let pushed = c.push_table.new.self in
    let j : c.refer_to_each.new.state ≡ record c.args.state.now { spaces = marking names (adding_table kept c.args.state.now.spaces) }
    = c.refer_to_each.ensures.marked ∙ ap (λ (xs : List ℕ). record pushed { spaces = marking xs pushed.spaces }) c.as_slice.ensures.value ∙ ap (λ (t : Items). record t { spaces = marking names t.spaces })
    (c.in-Ok-push_table.ensures.added ∙ ap (λ (t : Items). record t { spaces = adding_table kept t.spaces }) c.check_new_table.ensures.stays) in
    table_added c.args.types.now.groups c.args.state.now (table_read c.args.table) kept names c.refer_to_each.new.state c.in-Ok.ensures.named
    (λ k. (c.in-Ok.ensures.sizes.0 k, c.in-Ok.ensures.sizes.1 k))
    (subst (λ (xs : List ℕ). NamesInit c.args.state.now.spaces.settings (table_read c.args.table).init xs names) c.new-names.ensures.items c.in-Ok.ensures.names) j
