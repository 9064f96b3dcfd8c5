use Rattle.std.proofs.Common.{◌∙◌, refl, sym, ap}
use Rattle.wasm_module_validator_drivers.specs.Sharing.{has_no_code}
use Rattle.wasm_module_validator.specs.Methods.{refusal}
use Rattle.wasm_module_validator.proofs.Turns.{out_of_turn, in_turn, turn_is, no_code}
use Rattle.wasm_module_validator.proofs.validator.Validator.code_section_start.Goals as goal

pub returns-in-Err : goal.returns-in-Err
returns-in-Err c =
    let v = c.args.self.now in
    out_of_turn (refusal v.state (has_no_code v.reached.code)) v c.in-Err.error _ _ (c.in-Err.ensures ∙ ap (refusal v.state) c.is_own-fits.ensures)

pub begin_code-requires : goal.begin_code-requires
begin_code-requires c =
    let v = c.args.self.now in
    record { own = no_code v.reached.code (sym c.is_own-fits.ensures ∙ (turn_is v.state c.is_own-fits.result c.in-Ok.ensures).1) }

pub returns-in-Ok-begin_code : goal.returns-in-Ok-begin_code
returns-in-Ok-begin_code c =
    let v = c.args.self.now in
    in_turn (refusal v.state (has_no_code v.reached.code)) v _ _ _ _ (c.in-Ok.ensures ∙ ap (refusal v.state) c.is_own-fits.ensures) c.in-Ok-begin_code.ensures.answer
    (refl, c.in-Ok-begin_code.ensures.begun, c.in-Ok-begin_code.ensures.kept, c.in-Ok-begin_code.ensures.added)

pub returns-in-Err-begin_code : goal.returns-in-Err-begin_code
returns-in-Err-begin_code c =
    let v = c.args.self.now in
    in_turn (refusal v.state (has_no_code v.reached.code)) v _ _ _ _ (c.in-Ok.ensures ∙ ap (refusal v.state) c.is_own-fits.ensures) c.in-Err-begin_code.ensures.answer refl
