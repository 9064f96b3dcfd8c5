use Rattle.std.proofs.Common.{◌≡◌, ◌∷◌, subst, refl, arith}
use Rattle.wasm_operator_validator_locals.specs.labels.laws.Keeping.{of_none, of_kept}
use Rattle.wasm_operator_validator_fast_steps.specs.Labels.{Takes, AreLabels}
use Rattle.wasm_operator_validator_fast_steps.proofs.Spelled.{one_label, label_next}
use Rattle.wasm_operator_validator_fast_steps.proofs.labels.labels_at.Goals as goal

pub loop-init : goal.loop-init
loop-init c =
    let opens = c.args.opens.now.inner ∷ c.args.opens.now.outer in
    let types = c.in-Some-taken.types.now in
    record {
      labels =
          one_label c.args.flat.now c.args.bytes.now opens c.args.at types c.in-Some.next
          (record { depth = c.in-Some.depth; read = c.in-Some.ensures.found; takes = c.in-Some-taken.ensures });
      met = of_none (Takes c.args.flat.now opens types) c.new-met.result.items c.new-met.ensures;
    }

pub loop-preserved : goal.loop-preserved
loop-preserved c =
    let opens = c.args.opens.now.inner ∷ c.args.opens.now.outer in
    let types = c.in-Some-taken.types.now in
    let depth = c.in-Some-short_u32_at.depth in
    let takes = c.is_taken_once.ensures.taken c.if-not-is_taken_once.false c.loop.invariant.met in
    record {
      labels =
          label_next c.args.flat.now c.args.bytes.now opens c.args.at c.loop.counter types types c.loop.end c.in-Some-short_u32_at.next c.loop.invariant.labels
          (record { depth = depth; read = c.in-Some-short_u32_at.ensures.found; takes = takes }) refl;
      met = of_kept (Takes c.args.flat.now opens types) c.loop.met.items c.is_taken_once.new.met.items depth c.loop.invariant.met takes c.is_taken_once.ensures.kept;
    }

pub returns : goal.returns
returns c =
    let n : c.loop.counter ≡ c.args.count = omega arith in
    subst (λ k. AreLabels c.args.flat.now c.args.bytes.now (c.args.opens.now.inner ∷ c.args.opens.now.outer) c.args.at k c.in-Some-taken.types.now c.loop.end) n c.loop.invariant.labels
