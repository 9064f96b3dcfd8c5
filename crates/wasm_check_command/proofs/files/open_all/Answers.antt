use Rattle.std.proofs.Common.{◌∙◌, ap, take, arith}
use Rattle.wasm_check_command.specs.Opened.{kept_open}
use Rattle.wasm_check_command.specs.Files.{texts}
use Rattle.wasm_check_command.proofs.FileReports.{fails_first, fails_others, first_texts, kept_first, kept_or_none}
use Rattle.wasm_check_command.proofs.files.open_all.Goals as goal

pub returns-in-Err-clause-err : goal.returns-in-Err-clause-err
returns-in-Err-clause-err g c =
    fails_first c.split_at.result.0.now c.split_at.result.1.now c.args.names.now c.in-Err.fault c.split_at.ensures.by_index.0 c.in-Err.ensures.err

pub returns-in-Ok-try_to_open-clause-ok : goal.returns-in-Ok-try_to_open-clause-ok
returns-in-Ok-try_to_open-clause-ok g c =
    let first = c.split_at.result.0.now in
    kept_or_none c.in-Ok.inputs.items c.try_to_open.new.inputs.items (texts c.args.names.now) c.try_to_open.ensures.kept
    (kept_first c.in-Ok.inputs.items first c.args.names.now kept_open c.in-Ok.ensures.ok
    (first_texts first c.args.names.now kept_open (c.split_at.ensures.front ∙ ap (λ n. take n c.args.names.now) c.kept_of.ensures))
    (omega (arith, c.in-Ok.ensures.few, c.split_at.ensures.front_len, c.kept_of.ensures)))

pub returns-clause-err : goal.returns-clause-err
returns-clause-err g c =
    fails_others c.split_at-2.result.0.now c.split_at-2.result.1.now c.args.names.now c.in-Err-try_to_open.fault c.split_at-2.ensures.by_index.0 c.in-Err-try_to_open.ensures.err
