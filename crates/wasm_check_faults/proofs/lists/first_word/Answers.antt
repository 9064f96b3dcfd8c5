use Rattle.std.proofs.Common.{sym, length, arith}
use Rattle.std.proofs.lemmas.List.{take_all}
use Rattle.std.specs.Prelude.{Some, None}
use Rattle.wasm_check_faults.proofs.ListLemmas.{words_by_split, cut_parts}
use Rattle.wasm_check_faults.proofs.lists.first_word.Goals as goal

pub returns-in-Some-clause-words : goal.returns-in-Some-clause-words
returns-in-Some-clause-words c = words_by_split c.args.list.now (Some (c.in-Some.word, c.in-Some.rest)) c.in-Some.ensures.cases

pub returns-in-None-clause-words : goal.returns-in-None-clause-words
returns-in-None-clause-words c = words_by_split c.args.list.now None c.in-None.ensures.cases

pub returns-in-Some-clause-front : goal.returns-in-Some-clause-front
returns-in-Some-clause-front c = (cut_parts c.args.list.now (c.in-Some.word, c.in-Some.rest) c.in-Some.ensures.cases).0

pub returns-in-Some-clause-shorter : goal.returns-in-Some-clause-shorter
returns-in-Some-clause-shorter c = (cut_parts c.args.list.now (c.in-Some.word, c.in-Some.rest) c.in-Some.ensures.cases).1

pub returns-in-None-clause-front : goal.returns-in-None-clause-front
returns-in-None-clause-front c = (omega arith, sym (take_all (length c.args.list.now) c.args.list.now (omega arith)))
