use Rattle.std.proofs.Common.{◌∙◌, ◌∷◌, ◌++◌, [], List, false, refl, sym, ap, slice_get}
use Rattle.wasm_types.specs.decoding.DenialLaws.{denies}
use Rattle.wasm_types.specs.decoding.declared.error.ErrorKind.TheVariants.{Other}
use Rattle.wasm_operators_immediates.specs.declared.proposal.Proposal.TheVariants.{Mvp}
use Rattle.wasm_operator_validator_rules.specs.Operands.{ValueType}
use Rattle.wasm_operator_validator_rules.specs.Context.{label_of}
use Rattle.wasm_operator_validator_rules.specs.InstructionTypes.{i32_type}
use Rattle.wasm_operator_validator_state.specs.Refusals.{refused, kind_of}
use Rattle.wasm_operator_validator_state.specs.State.{signature_of}
use Rattle.wasm_operator_validator_stacks.specs.determined.laws.Types.{i32_in}
use Rattle.wasm_operator_validator_stacks.specs.determined.laws.Same.{stays_trans}
use Rattle.wasm_operator_validator_stacks.specs.determined.laws.Determined.{refused_then, by_types}
use Rattle.wasm_operator_validator_control.specs.laws.Jumping.{exchanged_more}
use Rattle.wasm_operator_validator_control.specs.laws.Labels.{label_at, no_label_at, same_labels}
use Rattle.wasm_operator_validator_control.proofs.BranchRows.{br_if, br_if_is, br_if_row, no_condition, no_br_if}
use Rattle.wasm_operator_validator_control.proofs.branches.check_br_if.Goals as goal

pub returns-in-Err-pop_operand : goal.returns-in-Err-pop_operand
returns-in-Err-pop_operand g c =
    let m = g.R.WasmModuleResources.meaning c.args.resources.now in
    let r = kind_of c.in-Err-pop_operand.refusal in
    refused_then r m c.args.validator.now c.pop_operand.new.self (br_if c.args.relative_depth) Mvp false c.in-Ok.ensures.begins
    (record { given = c.pop_operand.ensures.given; failed = c.pop_operand.ensures.failed; saved = c.pop_operand.ensures.saved })
    (no_condition r m c.args.validator.now c.args.relative_depth c.in-Ok.ensures.begins (rw (i32_in m) at c.in-Err-pop_operand.ensures.does))

pub returns-in_default : goal.returns-in_default
returns-in_default g c =
    let m = g.R.WasmModuleResources.meaning c.args.resources.now in
    let σ = c.args.validator.now in
    let ρ = c.pop_operand.new.self in
    let e = sym (ap (λ (x : List (List ValueType)). slice_get x c.args.relative_depth) (same_labels m σ.opens ρ.opens c.in-Ok-pop_operand.ensures.does.same.frames)) in
    refused_then Other m σ ρ (br_if c.args.relative_depth) Mvp false c.in-Ok.ensures.begins
    (record { given = c.pop_operand.ensures.given; failed = c.pop_operand.ensures.failed; saved = c.pop_operand.ensures.saved })
    (denies Other _ (no_br_if m σ c.args.relative_depth c.in-Ok.ensures.begins (e ∙ no_label_at m ρ.opens c.args.relative_depth c.in_default.ensures)))

pub returns : goal.returns
returns g c =
    let m = g.R.WasmModuleResources.meaning c.args.resources.now in
    let σ = c.args.validator.now in
    let ρ = c.pop_operand.new.self in
    let ts = label_of c.in-Some.kind (signature_of m c.in-Some.block_type) in
    let e = sym (ap (λ (x : List (List ValueType)). slice_get x c.args.relative_depth) (same_labels m σ.opens ρ.opens c.in-Ok-pop_operand.ensures.does.same.frames)) in
    by_types (refused c.exchange.result) m σ c.exchange.new.self (br_if c.args.relative_depth) Mvp false (ts ++ i32_type ∷ []) ts (br_if_is c.args.relative_depth) c.in-Ok.ensures.begins
    (λ set. refl) (br_if_row m σ c.args.relative_depth ts (e ∙ label_at m ρ.opens c.args.relative_depth c.in-Some.block_type c.in-Some.kind c.in-Some.ensures))
    (exchanged_more (refused c.exchange.result) m σ ρ c.exchange.new.self i32_type ts ts
    (rw (i32_in m) at c.in-Ok-pop_operand.ensures.does) (rw c.label_types-types.ensures at c.exchange.ensures.does))
    (stays_trans σ ρ c.exchange.new.self
    (record { given = c.pop_operand.ensures.given; failed = c.pop_operand.ensures.failed; saved = c.pop_operand.ensures.saved })
    (record { given = c.exchange.ensures.given; failed = c.exchange.ensures.failed; saved = c.exchange.ensures.saved }))
