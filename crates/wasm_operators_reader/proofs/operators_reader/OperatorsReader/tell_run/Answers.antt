use Rattle.std.proofs.Common.{Ok, Err, ◌∙◌, refl, subst}
use Rattle.std.specs.Prelude.{IfSome, IfNone}
use Rattle.wasm_operators_reader.specs.Standing.{Standing}
use Rattle.wasm_operators_reader.specs.StandingLaws.{same_parts}
use Rattle.wasm_operators_reader.specs.Walking.{WalksTo, WalksUntilTo}
use Rattle.wasm_operators_reader.proofs.operators_reader.OperatorsReader.tell_run.Goals as goal

pub returns-clause-ended : goal.returns-clause-ended
returns-clause-ended g c =
    let same = same_parts c.copy-ahead.result c.self.inside.reader c.self.inside.control.frames c.self.inside.control.frames c.copy-ahead.ensures refl ∙ c.self.view_is in
    let there : Standing = record { bytes = c.visit_run-end.new.reader; frames = c.visit_run-end.new.control.frames } in
    subst (λ (s : Standing). IfSome c.visit_run-end.result (λ last. WalksUntilTo g.V.Visitor.visits (Ok tt) s c.args.visitor.now (Err last.0) there c.visit_run-end.new.visitor last.1))
    same c.visit_run-end.ensures.ended

pub returns-clause-told : goal.returns-clause-told
returns-clause-told g c =
    let same = same_parts c.copy-ahead.result c.self.inside.reader c.self.inside.control.frames c.self.inside.control.frames c.copy-ahead.ensures refl ∙ c.self.view_is in
    let there : Standing = record { bytes = c.visit_run-end.new.reader; frames = c.visit_run-end.new.control.frames } in
    subst (λ (s : Standing). IfNone c.visit_run-end.result (WalksTo g.V.Visitor.visits (Ok tt) s c.args.visitor.now there c.visit_run-end.new.visitor))
    same c.visit_run-end.ensures.told
