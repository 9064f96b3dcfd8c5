use Rattle.std.proofs.Common.{refl, ap, Some}
use Rattle.wasm_module_validator.specs.Methods.{failure}
use Rattle.wasm_module_validator.proofs.Turns.{out_of_turn, in_turn}
use Rattle.wasm_module_validator.proofs.validator.Validator.unknown_section.Goals as goal

pub returns-in-Err : goal.returns-in-Err
returns-in-Err c = let v = c.args.self.now in out_of_turn (failure v.state) v c.in-Err.error _ _ c.in-Err.ensures

pub returns : goal.returns
returns c = let v = c.args.self.now in in_turn (failure v.state) v _ _ _ _ c.in-Ok.ensures (ap Some c.malformed_section.ensures) refl
