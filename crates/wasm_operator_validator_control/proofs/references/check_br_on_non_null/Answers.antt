use Rattle.std.proofs.Common.{◌∙◌, List, [], ◌∷◌, ◌++◌, Some, true, false, refl, sym, ap}
use Rattle.wasm_operators_immediates.specs.declared.proposal.Proposal.TheVariants.{FunctionReferences}
use Rattle.wasm_operator_validator_rules.specs.Operands.{ValueType}
use Rattle.wasm_types.specs.trees.Types.{ref}
use Rattle.wasm_operator_validator_state.specs.resources.Meaning.{heap_in}
use Rattle.wasm_operator_validator_state.specs.Refusals.{kind_of, refused}
use Rattle.wasm_operator_validator_state.specs.State.{types_in}
use Rattle.wasm_operator_validator_stacks.specs.determined.laws.Same.{stays_trans}
use Rattle.wasm_operator_validator_stacks.specs.determined.laws.Determined.{not_begun, refused_here, refused_then, by_types}
use Rattle.wasm_operator_validator_control.specs.laws.Jumping.{exchanged_more}
use Rattle.wasm_operator_validator_control.specs.laws.Labels.{label_at, no_label_at}
use Rattle.wasm_operator_validator_control.proofs.NullRows.{on_non_null, on_non_null_is, on_non_null_row, no_label_on_non_null, no_reference_on_label, no_last, ends_in, last_is}
use Rattle.wasm_operator_validator_control.proofs.references.check_br_on_non_null.Goals as goal

pub returns-in-Err : goal.returns-in-Err
returns-in-Err g c =
    let m = g.R.WasmModuleResources.meaning c.args.resources.now in
    not_begun c.in-Err.refusal m c.args.validator.now (on_non_null c.args.relative_depth) FunctionReferences false (on_non_null_is c.args.relative_depth) c.in-Err.ensures.begins c.in-Err.ensures.stops

pub returns-in_default : goal.returns-in_default
returns-in_default g c =
    let m = g.R.WasmModuleResources.meaning c.args.resources.now in
    let σ = c.args.validator.now in
    let d = c.args.relative_depth in
    refused_here _ m σ (on_non_null d) FunctionReferences false c.in-Ok.ensures.begins (no_label_on_non_null m σ d c.in-Ok.ensures.begins (no_label_at m σ.opens d c.in_default.ensures))

pub returns-in_default-split_reference : goal.returns-in_default-split_reference
returns-in_default-split_reference g c =
    let m = g.R.WasmModuleResources.meaning c.args.resources.now in
    let σ = c.args.validator.now in
    let d = c.args.relative_depth in
    let l = label_at m σ.opens d c.in-Some.block_type c.in-Some.kind c.in-Some.ensures ∙ ap (λ (vs : List ValueType). Some vs) (sym c.label_types-types.ensures) in
    refused_here _ m σ (on_non_null d) FunctionReferences false c.in-Ok.ensures.begins
    (no_reference_on_label m σ d c.label_types-types.result.now c.in-Ok.ensures.begins l c.in_default-split_reference.ensures)

pub returns-in-Err-pop_operand : goal.returns-in-Err-pop_operand
returns-in-Err-pop_operand g c =
    let m = g.R.WasmModuleResources.meaning c.args.resources.now in
    let σ = c.args.validator.now in
    let d = c.args.relative_depth in
    let r = kind_of c.in-Err-pop_operand.refusal in
    let x = c.in-Some-split_reference.ensures in
    let written = c.label_types-types.result.now in
    let others = c.in-Some-split_reference.others.now in
    let l = label_at m σ.opens d c.in-Some.block_type c.in-Some.kind c.in-Some.ensures ∙ ap (λ (vs : List ValueType). Some vs) (sym c.label_types-types.ensures) in
    refused_then r m σ c.pop_operand.new.self (on_non_null d) FunctionReferences false c.in-Ok.ensures.begins
    (record { given = c.pop_operand.ensures.given; failed = c.pop_operand.ensures.failed; saved = c.pop_operand.ensures.saved })
    (no_last r m σ d (types_in m written) (types_in m others) x.0.nullable (heap_in m x.0.heap) c.in-Ok.ensures.begins l (ends_in m written c.in-Some-split_reference.reference others x)
    (rw (last_is m written c.in-Some-split_reference.reference others x) at c.in-Err-pop_operand.ensures.does))

pub returns : goal.returns
returns g c =
    let m = g.R.WasmModuleResources.meaning c.args.resources.now in
    let σ = c.args.validator.now in
    let d = c.args.relative_depth in
    let x = c.in-Some-split_reference.ensures in
    let written = c.label_types-types.result.now in
    let others = c.in-Some-split_reference.others.now in
    let os = types_in m others in
    let h = heap_in m x.0.heap in
    let l = label_at m σ.opens d c.in-Some.block_type c.in-Some.kind c.in-Some.ensures ∙ ap (λ (vs : List ValueType). Some vs) (sym c.label_types-types.ensures) in
    by_types (refused c.exchange.result) m σ c.exchange.new.self (on_non_null d) FunctionReferences false (os ++ ref true h ∷ []) os (on_non_null_is d) c.in-Ok.ensures.begins (λ set. refl)
    (on_non_null_row m σ d (types_in m written) os x.0.nullable h l (ends_in m written c.in-Some-split_reference.reference others x))
    (exchanged_more (refused c.exchange.result) m σ c.pop_operand.new.self c.exchange.new.self (ref true h) os os
    (rw (last_is m written c.in-Some-split_reference.reference others x) at c.in-Ok-pop_operand.ensures.does) c.exchange.ensures.does)
    (stays_trans σ c.pop_operand.new.self c.exchange.new.self
    (record { given = c.pop_operand.ensures.given; failed = c.pop_operand.ensures.failed; saved = c.pop_operand.ensures.saved })
    (record { given = c.exchange.ensures.given; failed = c.exchange.ensures.failed; saved = c.exchange.ensures.saved }))
