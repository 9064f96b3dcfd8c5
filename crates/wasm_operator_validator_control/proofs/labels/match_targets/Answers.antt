use Rattle.std.proofs.Common.{rules}
use Rattle.wasm_operator_validator_locals.specs.labels.laws.Keeping.{of_none, of_kept}
use Rattle.wasm_operator_validator_control.specs.Fitting.{Suits}
use Rattle.wasm_operator_validator_control.proofs.Among.{suits_next}
use Rattle.wasm_operator_validator_control.proofs.labels.match_targets.Goals as goal

pub loop-target-init : goal.loop-target-init
loop-target-init g c =
    let m = g.R.WasmModuleResources.meaning c.args.resources.now in
    record {
      callable = search rules;
      finite = search rules;
      same = (λ x. x, λ x. x);
      met = of_none (Suits m c.args.validator.now c.args.count) c.new-met.result.items c.new-met.ensures;
    }

pub loop-target-preserved-then-not-is_known : goal.loop-target-preserved-then-not-is_known
loop-target-preserved-then-not-is_known g c =
    let m = g.R.WasmModuleResources.meaning c.args.resources.now in
    let σ = c.args.validator.now in
    let n = c.args.count in
    record {
      callable = search rules;
      finite = search rules;
      same = suits_next m σ n c.args.targets c.loop-target.targets c.next.new.self c.in-Some.target (search rules) c.in-Ok.ensures c.loop-target.invariant.same;
      met = of_kept (Suits m σ n) c.loop-target.met.items c.keep.new.met.items c.in-Some.target c.loop-target.invariant.met c.in-Ok.ensures c.keep.ensures;
    }

pub loop-target-preserved : goal.loop-target-preserved
loop-target-preserved g c =
    let m = g.R.WasmModuleResources.meaning c.args.resources.now in
    let suits = c.loop-target.invariant.met c.in-Some.target (c.is_known.ensures c.if-not-is_known.false) in
    record {
      callable = search rules;
      finite = search rules;
      same = suits_next m c.args.validator.now c.args.count c.args.targets c.loop-target.targets c.next.new.self c.in-Some.target (search rules) suits c.loop-target.invariant.same;
      met = c.loop-target.invariant.met;
    }
