use Rattle.std.proofs.Common.{map}
use Rattle.clap.specs.Simple.{app_of}
use Rattle.wasm_check_command.proofs.FileLemmas.{matches_by, refused_by}
use Rattle.wasm_check_command.proofs.arguments.parse.Goals as goal

pub returns-clause-ok : goal.returns-clause-ok
returns-clause-ok g c =
    matches_by (app_of c.in_ok-command.field-0) (map g.S.AsStr.text c.args.words.now) c.try_get_matches_from.result c.in_ok-command.ensures c.try_get_matches_from.ensures.matches

pub returns-clause-kinds : goal.returns-clause-kinds
returns-clause-kinds g c =
    refused_by (app_of c.in_ok-command.field-0) (map g.S.AsStr.text c.args.words.now) c.try_get_matches_from.result c.in_ok-command.ensures c.try_get_matches_from.ensures.kinds
