use Rattle.std.proofs.Common.{◌≡◌, [], map, sym, subst, inl, inr}
use Rattle.std.proofs.lemmas.Result.{err_from_is_err_and}
use Rattle.wasm_operators_enums.specs.Op.{op_of}
use Rattle.wasm_operators_reader.specs.Standing.{Standing, Runs, TakesMemory}
use Rattle.wasm_operators_reader.specs.RunLaws.{run_expression, refused_run, ended_run}
use Rattle.wasm_operators_reader.proofs.expression.read_expression.Goals as goal

pub returns-in_err-ops-clause-refused : goal.returns-in_err-ops-clause-refused
returns-in_err-ops-clause-refused c =
    let p = err_from_is_err_and c.from_residual.result c.from_residual.ensures.1 in
    rw (p.1, p.2) (λ n code spelled.
    let found = c.in_err-ops.ensures.refused n in
    let run : Runs _ found.0.0 c.read_all.new.operators = subst (λ (s : Standing). Runs s found.0.0 c.read_all.new.operators) c.new-operators.ensures found.0.1 in
    refused_run c.args.reader found.0.0 c.read_all.new.operators run (λ f. found.2 f.bytes) code spelled _ found.1 n)

pub returns-in_err-ops-clause-stops : goal.returns-in_err-ops-clause-stops
returns-in_err-ops-clause-stops c =
    let p = err_from_is_err_and c.from_residual.result c.from_residual.ensures.1 in
    rw (p.1, p.2) (λ n.
    let found = c.in_err-ops.ensures.refused n in
    let run : Runs _ found.0.0 c.read_all.new.operators = subst (λ (s : Standing). Runs s found.0.0 c.read_all.new.operators) c.new-operators.ensures found.0.1 in
    (found.0.0, c.read_all.new.operators, run, inl (found.2, found.1)))

pub returns-in_err-finish-clause-stops : goal.returns-in_err-finish-clause-stops
returns-in_err-finish-clause-stops c =
    let p = err_from_is_err_and c.from_residual-in_err-finish.result c.from_residual-in_err-finish.ensures.1 in
    let run = c.in_ok-ops.ensures.read in
    let starts = subst (λ (s : Standing). Runs s (map op_of c.in_ok-ops.ops.items) c.read_all.new.operators) c.new-operators.ensures run.0 in
    let cut = c.in_err-finish.ensures.refused in
    let open_still : c.read_all.new.operators.frames ≡ [] → ⊥ = λ f. cut.0 (record { frames = f; bytes = run.1 }) in
    rw (p.1, p.2) (λ n. (_, c.read_all.new.operators, starts, inr (run.1, open_still, cut.1, cut.2)))

pub returns-in_err-finish-clause-refused : goal.returns-in_err-finish-clause-refused
returns-in_err-finish-clause-refused c =
    let p = err_from_is_err_and c.from_residual-in_err-finish.result c.from_residual-in_err-finish.ensures.1 in
    let run = c.in_ok-ops.ensures.read in
    let starts = subst (λ (s : Standing). Runs s (map op_of c.in_ok-ops.ops.items) c.read_all.new.operators) c.new-operators.ensures run.0 in
    rw (p.1, p.2) (λ n code spelled. ended_run c.args.reader _ c.read_all.new.operators starts c.in_err-finish.ensures.refused.0 code spelled run.1)

pub returns-clause-spelled : goal.returns-clause-spelled
returns-clause-spelled c =
    let run = c.in_ok-ops.ensures.read in
    let starts = subst (λ (s : Standing). Runs s (map op_of c.in_ok-ops.ops.items) c.read_all.new.operators) c.new-operators.ensures run.0 in
    run_expression c.args.reader _ c.read_all.new.operators starts c.in_ok-finish.ensures.finished

pub returns-in_err-ops-clause-no_memory : goal.returns-in_err-ops-clause-no_memory
returns-in_err-ops-clause-no_memory c = λ n.
    let p = err_from_is_err_and c.from_residual.result c.from_residual.ensures.1 in
    rw (p.1, p.2) (c.in_err-ops.ensures.no_memory (subst (λ (s : Standing). TakesMemory s → ⊥) (sym c.new-operators.ensures) n))
