use Rattle.std.proofs.Common.{refl, sym, ap}
use Rattle.wasm_module_validator.specs.Methods.{header_refusal}
use Rattle.wasm_module_validator.proofs.Turns.{out_of_turn, in_turn}
use Rattle.wasm_module_validator.proofs.validator.Validator.version.Goals as goal

pub returns-in-Failed : goal.returns-in-Failed
returns-in-Failed c = let v = c.args.self.now in out_of_turn (header_refusal v.state) v _ _ _ cc

pub returns-in-Module : goal.returns-in-Module
returns-in-Module c = let v = c.args.self.now in out_of_turn (header_refusal v.state) v _ _ _ cc

pub returns-in-Ended : goal.returns-in-Ended
returns-in-Ended c = let v = c.args.self.now in out_of_turn (header_refusal v.state) v _ _ _ cc

pub returns-in-Err : goal.returns-in-Err
returns-in-Err c = let v = c.args.self.now in in_turn (header_refusal v.state) v _ _ _ _ (ap header_refusal (sym c.in-Unparsed.is)) c.in-Err.ensures.answer refl

pub returns : goal.returns
returns c = let v = c.args.self.now in in_turn (header_refusal v.state) v _ _ _ _ (ap header_refusal (sym c.in-Unparsed.is)) c.in-Ok.ensures.answer cc
