use Rattle.std.proofs.Common.{rules, ◌∙◌, ◌++◌, ◌≤◌, ◌<◌, ◌^◌, List, length, take, ap}
use Rattle.wasm_types.specs.values.declared.value.ValType.{ValType}
use Rattle.wasm_operator_validator_locals.proofs.Runs.{params_fit}
use Rattle.wasm_operator_validator_locals.proofs.locals.Locals.put_params.Goals as goal

pub invariant_of-self-in-Ok-extend_from_slice : goal.invariant_of-self-in-Ok-extend_from_slice
invariant_of-self-in-Ok-extend_from_slice c =
    let ps = c.args.params.now in
    let few = c.min-few.result in
    let within : few ≤ 64 = search rules in
    let short : length ps < 2 ^ 32 = search rules in
    params_fit ps _ _ _ few c.clear-3.ensures.items
    (c.in-Ok.ensures.items ∙ ap (λ (xs : List ValType). xs ++ ps) c.clear-2.ensures.items)
    (c.in-Ok-extend_from_slice.ensures.items ∙ ap (λ (xs : List ValType). xs ++ take few ps) c.clear.ensures.items)
    within short
