use Rattle.std.proofs.Common.{true, refl}
use Rattle.wasm_module_validator.specs.Methods.{refusal}
use Rattle.wasm_module_validator.proofs.Turns.{out_of_turn, in_turn, stays_as}
use Rattle.wasm_module_validator.proofs.validator.Validator.take_data.Goals as goal

pub returns-in-Err : goal.returns-in-Err
returns-in-Err c =
    let v = c.args.self.now in
    out_of_turn (refusal v.state true) v c.in-Err.error _ _ c.in-Err.ensures

pub returns-in-Ok-take_data : goal.returns-in-Ok-take_data
returns-in-Ok-take_data c =
    let v = c.args.self.now in
    in_turn (refusal v.state true) v _ _ _ _ c.in-Ok.ensures c.in-Ok-take_data.ensures.answer
    (refl, c.in-Ok-take_data.ensures.added, c.in-Ok-take_data.ensures.code, stays_as c.in-Ok-take_data.ensures.kept)

pub returns-in-Err-take_data : goal.returns-in-Err-take_data
returns-in-Err-take_data c =
    let v = c.args.self.now in
    in_turn (refusal v.state true) v _ _ _ _ c.in-Ok.ensures c.in-Err-take_data.ensures.answer refl
