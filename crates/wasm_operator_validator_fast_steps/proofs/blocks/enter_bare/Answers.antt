use Rattle.std.proofs.Common.{refl, sym, ap, subst}
use Rattle.wasm_operator_validator_fast_tables.specs.declared.tables.Open.{Open}
use Rattle.wasm_operator_validator_fast_tables.specs.Nested.{Nested}
use Rattle.wasm_operator_validator_fast_tables.specs.Loop.{Enters}
use Rattle.wasm_operator_validator_fast_steps.proofs.Frames.{entered_bare}
use Rattle.wasm_operator_validator_fast_steps.proofs.blocks.enter_bare.Goals as goal

pub returns : goal.returns
returns c = λ e flat.
    subst (λ (n : Nested). Enters flat c.args.kind c.args.sig c.args.stack.now c.enter-base.new.self c.args.opens.now.inner c.args.opens.now.outer n.inner n.outer) (sym (c.nest.ensures e))
    (entered_bare flat c.args.stack.now c.enter-base.new.self c.args.kind c.args.sig _ _ _ _ c.requires refl refl (ap (λ (o : Open). o.set) c.inner-set.ensures) refl c.enter-base.ensures.under c.enter-base.ensures.own)
