use Rattle.std.proofs.Common.{◌≡◌, ◌∷◌, subst, arith}
use Rattle.wasm_operator_validator_fast_objects.specs.Exceptions.{AreCatches}
use Rattle.wasm_operator_validator_fast_objects.proofs.Clauses.{no_catches, catches_more}
use Rattle.wasm_operator_validator_fast_objects.proofs.exceptions.catches_at.Goals as goal

pub loop-init : goal.loop-init
loop-init c = no_catches c.args.bytes.now c.args.tables.now (c.args.opens.now.inner ∷ c.args.opens.now.outer) c.args.at c.requires

pub loop-preserved : goal.loop-preserved
loop-preserved c = catches_more c.args.bytes.now c.args.tables.now (c.args.opens.now.inner ∷ c.args.opens.now.outer) c.args.at c.loop.counter c.loop.end c.in-Some.next c.loop.invariant c.in-Some.ensures

pub returns : goal.returns
returns c =
    let n : c.loop.counter ≡ c.args.count = omega arith in
    subst (λ k. AreCatches c.args.bytes.now c.args.tables.now (c.args.opens.now.inner ∷ c.args.opens.now.outer) c.args.at k c.loop.end) n c.loop.invariant
