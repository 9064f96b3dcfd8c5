use Rattle.std.proofs.Common.{arith}
use Rattle.std.proofs.lemmas.Grind.{common_steps}
use Rattle.std.proofs.Common.{[]}
use Rattle.wasm_types.specs.decoding.DenialLaws.{denies_from}
use Rattle.wasm_module_validator_rules.specs.Valid.{IsValidStart}
use Rattle.wasm_module_validator_checks.specs.sections.Functions.{HasFunction}
use Rattle.wasm_module_validator_checks.proofs.sections.numbers.check_start.Goals as goal

pub returns-in-Err-clause-answer : goal.returns-in-Err-clause-answer
returns-in-Err-clause-answer g c =
    let m = g.R.WasmModuleResources.meaning c.args.resources.now in
    denies_from c.in-Err.error.kind (HasFunction m c.args.func) (IsValidStart m.«module» c.args.func) (λ h. (h.0, record { params = []; results = [] }, h.1, h.2)) c.in-Err.ensures.answer

pub returns-clause-answer : goal.returns-clause-answer
returns-clause-answer c = grind (arith, common_steps)
