use Rattle.std.proofs.Common.{◌∙◌, refl, sym, ap}
use Rattle.wasm_module_validator_drivers.specs.Sharing.{has_no_code}
use Rattle.wasm_module_validator.specs.Methods.{refusal}
use Rattle.wasm_module_validator.proofs.Turns.{out_of_turn, in_turn, turn_is, no_code}
use Rattle.wasm_module_validator.proofs.validator.Validator.take.Goals as goal

pub returns-in-Err : goal.returns-in-Err
returns-in-Err c =
    let v = c.args.self.now in
    out_of_turn (refusal v.state (has_no_code v.reached.code)) v c.in-Err.error _ _ (c.in-Err.ensures ∙ ap (refusal v.state) c.is_own-fits.ensures)

pub take_payload-requires-clause-own : goal.take_payload-requires-clause-own
take_payload-requires-clause-own c =
    let v = c.args.self.now in
    no_code v.reached.code (sym c.is_own-fits.ensures ∙ (turn_is v.state c.is_own-fits.result c.in-Ok.ensures).1)

pub returns-in-Ok-take_payload : goal.returns-in-Ok-take_payload
returns-in-Ok-take_payload c =
    let v = c.args.self.now in
    let none = no_code v.reached.code (sym c.is_own-fits.ensures ∙ (turn_is v.state c.is_own-fits.result c.in-Ok.ensures).1) in
    in_turn (refusal v.state (has_no_code v.reached.code)) v _ _ _ _ (c.in-Ok.ensures ∙ ap (refusal v.state) c.is_own-fits.ensures) c.in-Ok-take_payload.ensures.answer
    (refl, c.in-Ok-take_payload.ensures.added, c.in-Ok-take_payload.ensures.own ∙ sym none, c.in-Ok-take_payload.ensures.grown)

pub returns-in-Err-take_payload : goal.returns-in-Err-take_payload
returns-in-Err-take_payload c =
    let v = c.args.self.now in
    in_turn (refusal v.state (has_no_code v.reached.code)) v _ _ _ _ (c.in-Ok.ensures ∙ ap (refusal v.state) c.is_own-fits.ensures) c.in-Err-take_payload.ensures.answer refl
