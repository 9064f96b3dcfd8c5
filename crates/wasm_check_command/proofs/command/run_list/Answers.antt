use Rattle.std.proofs.Common.{◌∙◌, ap, inl, inr, map, refl, rules, string_bytes, subst, sym}
use Rattle.std.proofs.KnownBytes.{Keeps-refl}
use Rattle.wasm_check_faults.specs.declared.faults.Fault.TheVariants as faults
use Rattle.wasm_check_command.specs.Files.{IsChosen, StopsEarly}
use Rattle.wasm_check_command.specs.Words.{files_of}
use Rattle.wasm_check_command.proofs.FileLemmas.{ends_unnamed, named_by_list}
use Rattle.wasm_check_command.proofs.command.run_list.Goals as goal

pub returns-then-has_lists-clause-ended : goal.returns-then-has_lists-clause-ended
returns-then-has_lists-clause-ended g c = λ words asks given list.
    ends_unnamed g.J.Judge.accepts words (g.W.Write.contents c.args.out.now) (g.W.Write.contents c.args.out.now) c.report.result
    (faults.Clash c.args.file c.args.file) c.report.ensures.code (Keeps-refl (g.W.Write.contents c.args.out.now))
    (inl (c.args.file.now, list, λ none. c.has_lists.ensures.some c.if-has_lists.true (given ∙ none)))

pub returns-in-Err-clause-ended : goal.returns-in-Err-clause-ended
returns-in-Err-clause-ended g c = λ words asks given list.
    ends_unnamed g.J.Judge.accepts words (g.W.Write.contents c.args.out.now) (g.W.Write.contents c.args.out.now) c.report-in-Err.result
    c.in-Err.fault c.report-in-Err.ensures.code (Keeps-refl (g.W.Write.contents c.args.out.now))
    (inr (subst (λ a. StopsEarly a c.in-Err.fault) asks c.in-Err.ensures.err))

pub returns-in-Err-read_list-clause-ended : goal.returns-in-Err-read_list-clause-ended
returns-in-Err-read_list-clause-ended g c = λ words asks given list.
    ends_unnamed g.J.Judge.accepts words (g.W.Write.contents c.args.out.now) (g.W.Write.contents c.args.out.now) c.report-in-Err-read_list.result
    c.in-Err-read_list.fault c.report-in-Err-read_list.ensures.code (Keeps-refl (g.W.Write.contents c.args.out.now))
    (inl (c.args.file.now, list, c.in-Err-read_list.ensures.err (files_of words)))

pub returns-clause-ended : goal.returns-clause-ended
returns-clause-ended g c = λ words asks given list.
    c.run_listed.ensures.ended words
    (subst (λ a. IsChosen a c.in-Ok.chosen c.args.options.now.goes_on) asks (c.in-Ok.ensures.ok, c.in-Ok.ensures.manner, refl))
    (named_by_list words (map string_bytes c.as_slice.result.now) (map string_bytes c.in-Ok-read_list.list.items) c.args.file.now list
    (sym given ∙ c.has_lists.ensures.none c.if-has_lists.false) (ap (map string_bytes) c.as_slice.ensures.value) c.in-Ok-read_list.ensures.ok)
