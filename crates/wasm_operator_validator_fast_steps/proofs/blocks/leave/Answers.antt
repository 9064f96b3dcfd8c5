use Rattle.std.proofs.Common.{◌∷◌, [], refl}
use Rattle.wasm_operator_validator_fast_tables.specs.Stacks.{lying, with_all}
use Rattle.wasm_operator_validator_fast_tables.proofs.Lowering.{lower_same}
use Rattle.wasm_operator_validator_fast_steps.proofs.Frames.{bare_closes, left_bare, left_with}
use Rattle.wasm_operator_validator_fast_steps.proofs.blocks.leave.Goals as goal

pub returns-then-is_bare : goal.returns-then-is_bare
returns-then-is_bare c = λ e.
    let flat = c.args.tables.now.known.flat.items in
    let frame = c.args.frame.now in
    let (params, results) = c.is_bare.ensures c.if-is_bare.true in
    let (none, ended) = c.leave.ensures e in (
      c.args.stack.now,
      lower_same c.args.tables.now.known.order _ _ refl,
      left_bare flat c.args.stack.now c.leave.new.self frame (λ ids. bare_closes flat frame.sig params results ids frame.kind) results none ended,
    )

pub returns-then-frame-eq1 : goal.returns-then-frame-eq1
returns-then-frame-eq1 c = λ e.
    let (code, m, is, low, none, put) = c.leave_one.ensures e in (
      (code ∷ m.0, m.1),
      low,
      left_with c.args.tables.now.known.flat.items (code ∷ []) m (lying c.args.frame.now.base m.1) c.leave_one.new.stack c.args.frame.now
          (λ ids. c.if-not-may_close.ensures refl ids c.args.tables.now.known.flat.items) is none refl put,
    )

pub returns : goal.returns
returns c = λ e.
    let xs = c.in-Some.results.now in
    let (none, under) = c.if-not-leave.ensures refl in (
      with_all xs c.take_all.new.self,
      c.if-not-take_all.ensures refl,
      left_with c.args.tables.now.known.flat.items xs c.take_all.new.self c.leave-else-not-take_all.new.self c.put_all.new.self c.args.frame.now
          (λ ids. c.if-not-may_close.ensures refl ids c.args.tables.now.known.flat.items) (rw c.as_slice.ensures.value at c.in-Some.ensures.value) none under (c.put_all.ensures e),
    )
