use Rattle.std.proofs.Common.{ℕ, ◌+◌, ◌∷◌, ◌∙◌, refl, sym, ap, subst}
use Rattle.wasm_operators_immediates.specs.declared.frames.FrameKind.TheVariants.{Else}
use Rattle.wasm_operator_validator_fast_tables.specs.declared.tables.Open.{Open}
use Rattle.wasm_operator_validator_fast_tables.specs.Nested.{Nested}
use Rattle.wasm_operator_validator_fast_tables.specs.Stacks.{with_all}
use Rattle.wasm_operator_validator_fast_tables.specs.Loop.{Leads}
use Rattle.wasm_operator_validator_fast_tables.proofs.Lowering.{lowered}
use Rattle.wasm_operator_validator_fast_steps.proofs.Frames.{took_else, second_part}
use Rattle.wasm_operator_validator_fast_steps.proofs.blocks.turn.Goals as goal

pub returns-clause-leads : goal.returns-clause-leads
returns-clause-leads c =
    let o = c.args.opens.now.inner in
    let outer = c.args.opens.now.outer in
    let rs = c.in-Some.results.now in
    let m = c.take_all.new.self in
    let frame = c.inner-frame.ensures in
    let flat = c.as_slice-flat.ensures.value in
    let second = c.turn.ensures ∙ ap (λ (p : Open). record { inner = record { kind = Else; base = p.base; set = c.set_before-set.result; sig = p.sig }; outer = outer }) frame
    ∙ ap (λ (s : ℕ). record { inner = record { kind = Else; base = o.base; set = s; sig = o.sig }; outer = outer }) c.set_before-set.ensures in
    subst (λ (n : Nested). Leads c.args.bytes.now c.args.tables.now c.args.at (o ∷ outer) c.args.stack.now (c.args.at + 1) (n.inner ∷ n.outer) c.put_all.new.self) (sym second)
    (lowered c.args.tables.now c.args.bytes.now c.args.at (c.args.at + 1) o outer
    (second_part c.args.tables.now c.args.bytes.now c.args.at (c.args.at + 1) o outer (with_all rs m) c.put_all.new.self ∷ outer) c.args.stack.now (with_all rs m) c.put_all.new.self (c.if-not-take_all.ensures refl)
    (took_else c.args.tables.now c.args.bytes.now c.args.at (c.args.at + 1) o outer (with_all rs m) c.put_all.new.self c.requires refl (sym (ap (λ (p : Open). p.kind) frame) ∙ c.in-If.is) rs c.in-Some-part.params.now
    (rw (flat, frame) at c.in-Some.ensures.value) (rw (flat, frame) at c.in-Some-part.ensures.value) m
    refl (c.if-not-is_empty.ensures refl) (c.if-not-put_all.ensures refl)))
