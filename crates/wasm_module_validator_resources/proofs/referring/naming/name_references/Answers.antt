use Rattle.std.proofs.Common.{◌≡◌, sym, subst}
use Rattle.wasm_operators_reader.specs.Standing.{Standing, Runs}
use Rattle.wasm_operators_reader.specs.RunLaws.{refused_run, ended_run}
use Rattle.wasm_module_validator_resources.specs.referring.NamingLaws.{HasNamed, names_more}
use Rattle.wasm_module_validator_resources.proofs.referring.naming.name_references.Goals as goal

pub returns-in-Err-clause-refused : goal.returns-in-Err-clause-refused
returns-in-Err-clause-refused c = λ n code spelled.
    let found = c.in-Err.ensures.refused n in
    let run : Runs _ found.0.ops c.name_all.new.operators = subst (λ (s : Standing). Runs s found.0.ops c.name_all.new.operators) c.new-operators.ensures found.0.run in
    refused_run c.args.reader found.0.ops c.name_all.new.operators run (λ f. found.2 f.bytes) code spelled c.in-Err.error found.1 n

pub returns-in-Err-finish-clause-refused : goal.returns-in-Err-finish-clause-refused
returns-in-Err-finish-clause-refused c = λ n code spelled.
    let read = c.in-Ok.ensures.read in
    let run : Runs _ read.0.ops c.name_all.new.operators = subst (λ (s : Standing). Runs s read.0.ops c.name_all.new.operators) c.new-operators.ensures read.0.run in
    ended_run c.args.reader read.0.ops c.name_all.new.operators run c.in-Err-finish.ensures.refused.0 code spelled read.1

pub returns-clause-named : goal.returns-clause-named
returns-clause-named c =
    let read = c.in-Ok.ensures.read in
    let named = subst (λ (s : Standing). HasNamed s c.args.names.now.items c.name_all.new.operators c.name_all.new.names.items) c.new-operators.ensures read.0 in
    names_more c.args.reader c.name_all.new.operators c.args.names.now.items c.name_all.new.names.items named c.in-Ok-finish.ensures.finished
