use Rattle.wasm_check_command.proofs.large.read_front.Goals as goal

pub returns-in-Err-clause-err : goal.returns-in-Err-clause-err
returns-in-Err-clause-err g c = c.in-Err.ensures.err (g.R.Read.remaining c.args.reader.now)
