use Rattle.std.proofs.Common.{◌≡◌}
use Rattle.wasm_operators_encoding.specs.expressions.Code.{walk}
use Rattle.wasm_operators_encoding.specs.expressions.Spelling.{SpelledExpression}
use Rattle.wasm_operators_reader.specs.Standing.{at_start}
use Rattle.wasm_operators_reader.specs.Walking.{HasNoVectors}
use Rattle.wasm_operators.specs.LendingLaws.{whole_lent, ended_lent, stopped_lent, stays_lent}
use Rattle.wasm_operators.proofs.expressions.tell_lent.Goals as goal

pub returns-clause-whole : goal.returns-clause-whole
returns-clause-whole g c =
    whole_lent c.args.lent.now c.tell_expression_with_offset.new.visitor (at_start c.args.reader) (λ k. SpelledExpression c.args.reader.settings k c.args.reader.rest) (λ k. HasNoVectors (walk k))
    c.tell_expression_with_offset.result g.V.Visitor.visits (λ v o a w. g.V.Visitor.visits v.visitor.now o a w.visitor.now × (w.visitor.ghost_name ≡ v.visitor.ghost_name)) (λ v. v.visitor.now)
    (λ v. v.visitor.ghost_name) (λ v o a w h. h) c.tell_expression_with_offset.ensures.whole

pub returns-clause-ended : goal.returns-clause-ended
returns-clause-ended g c =
    ended_lent c.args.lent.now c.tell_expression_with_offset.new.visitor (at_start c.args.reader) (λ k. SpelledExpression c.args.reader.settings k c.args.reader.rest) (λ k. HasNoVectors (walk k))
    c.tell_expression_with_offset.result g.V.Visitor.visits (λ v o a w. g.V.Visitor.visits v.visitor.now o a w.visitor.now × (w.visitor.ghost_name ≡ v.visitor.ghost_name)) (λ v. v.visitor.now)
    (λ v. v.visitor.ghost_name) (λ v o a w h. h) c.tell_expression_with_offset.ensures.ended

pub returns-clause-stops : goal.returns-clause-stops
returns-clause-stops g c =
    stopped_lent c.args.lent.now c.tell_expression_with_offset.new.visitor (at_start c.args.reader) (λ k. SpelledExpression c.args.reader.settings k c.args.reader.rest) (λ k. HasNoVectors (walk k))
    c.tell_expression_with_offset.result g.V.Visitor.visits (λ v o a w. g.V.Visitor.visits v.visitor.now o a w.visitor.now × (w.visitor.ghost_name ≡ v.visitor.ghost_name)) (λ v. v.visitor.now)
    (λ v. v.visitor.ghost_name) (λ v o a w h. h) c.tell_expression_with_offset.ensures.stops

pub returns-clause-same : goal.returns-clause-same
returns-clause-same g c =
    stays_lent c.args.lent.now c.tell_expression_with_offset.new.visitor (at_start c.args.reader) (λ k. SpelledExpression c.args.reader.settings k c.args.reader.rest) (λ k. HasNoVectors (walk k))
    c.tell_expression_with_offset.result g.V.Visitor.visits (λ v o a w. g.V.Visitor.visits v.visitor.now o a w.visitor.now × (w.visitor.ghost_name ≡ v.visitor.ghost_name)) (λ v. v.visitor.now)
    (λ v. v.visitor.ghost_name) (λ v o a w h. h) c.tell_expression_with_offset.ensures.whole c.tell_expression_with_offset.ensures.ended c.tell_expression_with_offset.ensures.stops
