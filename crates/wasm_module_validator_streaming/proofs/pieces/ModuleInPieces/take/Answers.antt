-- What is not refused goes on, and a refusal is kept.
use Rattle.std.proofs.Common.{◌++◌, ℕ, Some, refl, sym, subst}
use Rattle.wasm_module_validator_streaming.specs.HandedOver.{RefusesFrom}
use Rattle.wasm_module_validator_streaming.proofs.HandedModule.{not_refused_of, refusal_of, refused_came, same_refuses, still_came, still_refused}
use Rattle.wasm_module_validator_streaming.proofs.pieces.ModuleInPieces.take.Goals as goal

pub returns-in-Ok-clause-ok : goal.returns-in-Ok-clause-ok
returns-in-Ok-clause-ok c z id got h = not_refused_of z id (got ++ c.args.bytes.now) c.advance.new.self c.in-Ok.ensures.refused (c.in-Ok.ensures.came z id got h)

pub returns-in-Err-clause-came : goal.returns-in-Err-clause-came
returns-in-Err-clause-came c z id got h =
    refused_came z id (got ++ c.args.bytes.now) c.args.self.now c.again-in-Err.result (record c.advance.new.self { refused = Some c.again-in-Err.result }) refl
    (subst (λ (most : ℕ). RefusesFrom z most (got ++ c.args.bytes.now) c.again-in-Err.result) (sym c.in-Err.ensures.most)
    (same_refuses z c.args.self.now.most (got ++ c.args.bytes.now) c.in-Err.error c.again-in-Err.result c.again-in-Err.ensures (c.in-Err.ensures.err z id got h))) c.in-Err.ensures.held

pub returns-in-Some-clause-came : goal.returns-in-Some-clause-came
returns-in-Some-clause-came c z id got h = still_came z id got c.args.self.now c.in-Some.error c.args.bytes.now c.in-Some.is h

pub returns-in-Some-clause-err : goal.returns-in-Some-clause-err
returns-in-Some-clause-err c z id got h =
    same_refuses z c.args.self.now.most (got ++ c.args.bytes.now) c.in-Some.error c.again.result c.again.ensures
    (still_refused z id got c.args.self.now c.in-Some.error c.args.self.now.most c.args.bytes.now (refusal_of z id got c.args.self.now c.in-Some.error c.in-Some.is h))
