use Rattle.std.proofs.Common.{◌∙◌, inl, inr, refl, sym, ap, subst, Option, Ok}
use Rattle.std.specs.Prelude.{is_some}
use Rattle.wasm_types.specs.decoding.DenialLaws.{denies}
use Rattle.wasm_module_validator_drivers.specs.Sharing.{Reached, Handed, IsNextFunction}
use Rattle.wasm_module_validator.specs.declared.validator.State.TheVariants.{Failed}
use Rattle.wasm_module_validator.specs.Methods.{refusal}
use Rattle.wasm_module_validator.proofs.Turns.{out_of_turn, in_turn, turn_is}
use Rattle.wasm_module_validator.proofs.validator.Validator.code_section_entry.Goals as goal

pub returns-in-Err : goal.returns-in-Err
returns-in-Err c =
    let v = c.args.self.now in
    out_of_turn (refusal v.state (is_some v.reached.code)) v c.in-Err.error _ _ (c.in-Err.ensures ∙ ap (refusal v.state) c.has_code.ensures)

pub take_body-requires : goal.take_body-requires
take_body-requires c =
    let v = c.args.self.now in
    sym c.has_code.ensures ∙ (turn_is v.state c.has_code.result c.in-Ok.ensures).1

pub returns-in-Ok-Some : goal.returns-in-Ok-Some
returns-in-Ok-Some c =
    let v = c.args.self.now in
    let next = subst (λ (o : Option Handed). IsNextFunction v.reached v.settings c.args.body.now (Ok o) c.take_body.new.self) c.in-Ok-Some.field-0-is c.in-Ok-Some.ensures in
    let left = next.follows in
    in_turn (refusal v.state (is_some v.reached.code)) v _ _ _ _ (c.in-Ok.ensures ∙ ap (refusal v.state) c.has_code.ensures) next.told (left.0, refl, left.1, left.2, left.3)

pub returns-in-Ok-None : goal.returns-in-Ok-None
returns-in-Ok-None c =
    let v = c.args.self.now in
    let next = subst (λ (o : Option Handed). IsNextFunction v.reached v.settings c.args.body.now (Ok o) c.take_body.new.self) c.in-Ok-None.field-0-is c.in-Ok-None.ensures in
    let left = next.follows in
    in_turn (refusal v.state (is_some v.reached.code)) v _ _ _ _ (c.in-Ok.ensures ∙ ap (refusal v.state) c.has_code.ensures)
    (λ z p reached. denies c.too_many_bodies.result.kind _ (next.told z p reached))
    (inl (left.1, c.too_many_bodies.ensures, ap (λ (r : Reached). record v { reached = r }) left.0))

pub returns-in-Err-take_body : goal.returns-in-Err-take_body
returns-in-Err-take_body c =
    let v = c.args.self.now in
    in_turn (refusal v.state (is_some v.reached.code)) v _ _ _ _ (c.in-Ok.ensures ∙ ap (refusal v.state) c.has_code.ensures) c.in-Err-take_body.ensures.told
    (inr (ap (λ (r : Reached). record v { state = Failed; reached = r }) c.in-Err-take_body.ensures.follows.0, c.in-Err-take_body.ensures.follows.1))
