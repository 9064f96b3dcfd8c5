use Rattle.std.proofs.Common.{◌∙◌, sym, rules}
use Rattle.wasm_operator_validator_locals.specs.labels.laws.Keeping.{of_none}
use Rattle.wasm_operator_validator_locals.specs.labels.Among.{IsAmong}
use Rattle.wasm_operator_validator_control.proofs.Among.{named_more, named_same, met_named}
use Rattle.wasm_operator_validator_control.proofs.sharing.distinct.Goals as goal

pub loop-target-init : goal.loop-target-init
loop-target-init c =
    record {
      callable = search rules;
      finite = search rules;
      same = search rules;
      met = of_none (λ k. IsAmong k c.new-named.result.items) c.new-met.result.items c.new-met.ensures;
    }

pub loop-target-preserved-then-not-is_met : goal.loop-target-preserved-then-not-is_met
loop-target-preserved-then-not-is_met c =
    record {
      callable = search rules;
      finite = search rules;
      same = named_more c.loop-target.named.items c.push.new.self.items c.loop-target.targets c.next.new.self c.args.targets c.in-Some.target (search rules) c.in-Ok.ensures.items c.loop-target.invariant.same;
      met = met_named c.loop-target.met.items c.keep.new.met.items c.loop-target.named.items c.push.new.self.items c.in-Some.target c.in-Ok.ensures.items c.loop-target.invariant.met c.keep.ensures;
    }

pub loop-target-preserved : goal.loop-target-preserved
loop-target-preserved c =
    record {
      callable = search rules;
      finite = search rules;
      same = named_same c.loop-target.named.items c.loop-target.targets c.next.new.self c.args.targets c.in-Some.target (search rules)
          (c.loop-target.invariant.met c.in-Some.target (sym c.is_met.ensures ∙ c.if-not-is_met.false)) c.loop-target.invariant.same;
      met = c.loop-target.invariant.met;
    }
