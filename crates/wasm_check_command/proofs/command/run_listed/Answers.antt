use Rattle.std.proofs.Common.{◌∙◌, ap, inl, inr, map, refl, rules, string_bytes, subst, sym, List, ℕ}
use Rattle.wasm_check_faults.specs.declared.faults.Fault.TheVariants as faults
use Rattle.wasm_check_command.specs.Files.{NamesFiles, texts}
use Rattle.wasm_check_command.proofs.FileLemmas.{ends_unnamed}
use Rattle.wasm_check_command.proofs.command.run_listed.Goals as goal

pub returns-in_default-clause-ended : goal.returns-in_default-clause-ended
returns-in_default-clause-ended g c = λ words chosen named.
    ends_unnamed g.J.Judge.accepts words (g.W.Write.contents c.args.out.now) (g.W.Write.contents c.args.out.now) _ faults.OutOfMemory
    (search rules) (search rules) (inr (inr (inr (inl refl))))

pub returns-clause-ended : goal.returns-clause-ended
returns-clause-ended g c = λ words chosen named.
    c.run_chosen.ensures.ended words chosen
    (subst (λ (ns : List (List ℕ)). NamesFiles words ns) (sym (ap texts c.as_slice.ensures.value ∙ c.in-Ok.ensures)) named)
