use Rattle.std.proofs.Common.{false, refl}
use Rattle.wasm_operators_immediates.specs.declared.proposal.Proposal.TheVariants.{Mvp}
use Rattle.wasm_operator_validator_rules.specs.Context.{label_of}
use Rattle.wasm_operator_validator_state.specs.Refusals.{refused}
use Rattle.wasm_operator_validator_state.specs.State.{signature_of}
use Rattle.wasm_operator_validator_stacks.specs.determined.laws.Determined.{refused_here}
use Rattle.wasm_operator_validator_control.specs.laws.Jumping.{by_last}
use Rattle.wasm_operator_validator_control.specs.laws.Labels.{label_at, no_label_at}
use Rattle.wasm_operator_validator_control.proofs.BranchRows.{br, br_is, br_last, no_br}
use Rattle.wasm_operator_validator_control.proofs.branches.check_br.Goals as goal

pub returns-in_default : goal.returns-in_default
returns-in_default g c =
    let m = g.R.WasmModuleResources.meaning c.args.resources.now in
    refused_here _ m c.args.validator.now (br c.args.relative_depth) Mvp false c.in-Ok.ensures.begins
    (no_br m c.args.validator.now c.args.relative_depth c.in-Ok.ensures.begins (no_label_at m c.args.validator.now.opens c.args.relative_depth c.in_default.ensures))

pub returns : goal.returns
returns g c =
    let m = g.R.WasmModuleResources.meaning c.args.resources.now in
    let ts = label_of c.in-Some.kind (signature_of m c.in-Some.block_type) in
    by_last (refused c.jump_with.result) m c.args.validator.now c.jump_with.new.validator (br c.args.relative_depth) Mvp false ts (br_is c.args.relative_depth) c.in-Ok.ensures.begins
    (λ set. refl) (br_last m c.args.validator.now c.args.relative_depth ts (label_at m c.args.validator.now.opens c.args.relative_depth c.in-Some.block_type c.in-Some.kind c.in-Some.ensures))
    (rw c.label_types-types.ensures at c.jump_with.ensures.does) (record { given = c.jump_with.ensures.given; failed = c.jump_with.ensures.failed; saved = c.jump_with.ensures.saved })
