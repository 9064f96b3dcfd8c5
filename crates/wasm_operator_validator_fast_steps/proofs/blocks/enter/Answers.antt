use Rattle.std.proofs.Common.{refl, sym, ap, subst}
use Rattle.wasm_operator_validator_fast_tables.specs.Stacks.{with_all}
use Rattle.wasm_operator_validator_fast_tables.specs.declared.tables.Open.{Open}
use Rattle.wasm_operator_validator_fast_tables.specs.Nested.{Nested}
use Rattle.wasm_operator_validator_fast_tables.specs.Loop.{Enters}
use Rattle.wasm_operator_validator_fast_tables.proofs.Lowering.{lower_same}
use Rattle.wasm_operator_validator_fast_steps.proofs.Frames.{entered_with}
use Rattle.wasm_operator_validator_fast_steps.proofs.blocks.enter.Goals as goal

pub returns-then-sig-eq0 : goal.returns-then-sig-eq0
returns-then-sig-eq0 c = λ e. (c.args.stack.now, lower_same c.args.tables.now.known.order _ _ refl, c.enter_bare.ensures e c.args.tables.now.known.flat.items)

pub returns : goal.returns
returns c = λ e.
    let xs = c.in-Some.params.now in
    let flat = c.args.tables.now.known.flat.items in (
      with_all xs c.take_all.new.self,
      c.if-not-take_all.ensures refl,
      subst (λ (n : Nested). Enters flat c.args.kind c.args.sig (with_all xs c.take_all.new.self) c.put_all.new.self c.args.opens.now.inner c.args.opens.now.outer n.inner n.outer) (sym (c.nest.ensures e))
          (entered_with flat xs c.take_all.new.self c.enter-base.new.self c.put_all.new.self c.args.kind c.args.sig _ _ _ _ refl refl (ap (λ (o : Open). o.set) c.inner-set.ensures) refl
          (rw c.as_slice.ensures.value at c.in-Some.ensures.value) c.enter-base.ensures.under c.enter-base.ensures.own (c.if-not-put_all.ensures refl)),
    )
