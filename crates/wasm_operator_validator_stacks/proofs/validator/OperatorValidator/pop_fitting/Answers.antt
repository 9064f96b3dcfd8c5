use Rattle.wasm_types.specs.decoding.DenialLaws.{denies_from}
use Rattle.wasm_operator_validator_rules.specs.Operands.{known}
use Rattle.wasm_operator_validator_state.specs.resources.Meaning.{type_in}
use Rattle.wasm_operator_validator_state.specs.Refusals.{kind_of}
use Rattle.wasm_operator_validator_stacks.proofs.Popping.{popped_known, not_popped}
use Rattle.wasm_operator_validator_stacks.proofs.validator.OperatorValidator.pop_fitting.Goals as goal

pub returns-in-Err-clause-does : goal.returns-in-Err-clause-does
returns-in-Err-clause-does g c =
    let m = g.R.WasmModuleResources.meaning c.args.resources.now in
    rw c.not_taken.ensures (denies_from (kind_of c.in-Err.refusal) _ _ (λ (s, p). (known (type_in m c.args.expected.now), s, p)) (c.in-Err.ensures.does m))

pub returns-then-not-is_fit-clause-does : goal.returns-then-not-is_fit-clause-does
returns-then-not-is_fit-clause-does g c =
    let m = g.R.WasmModuleResources.meaning c.args.resources.now in
    rw c.type_mismatch.ensures
    (not_popped m c.args.self.now c.pop_any.new.self c.in-Ok.found (type_in m c.args.expected.now) c.is_fit.result (c.in-Ok.ensures.does m) c.is_fit.ensures c.if-not-is_fit.true)

pub returns-clause-does : goal.returns-clause-does
returns-clause-does g c =
    let m = g.R.WasmModuleResources.meaning c.args.resources.now in
    popped_known m c.args.self.now c.pop_any.new.self c.in-Ok.found (type_in m c.args.expected.now) c.is_fit.result (c.in-Ok.ensures.does m) c.is_fit.ensures c.if-not-is_fit.false
