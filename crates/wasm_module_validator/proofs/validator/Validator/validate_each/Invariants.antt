use Rattle.wasm_module_validator.specs.Lists.{texts}
use Rattle.wasm_module_validator.specs.laws.Lists.{Stands}
use Rattle.wasm_module_validator.proofs.validator.Validator.validate_each.Given as goal

-- the inputs so far have their verdicts
abbrev pub invariant-loop-i : goal.invariant-loop-i
invariant-loop-i l = Stands l.fn.self (texts l.fn.inputs) l.i l.self l.verdicts.items
