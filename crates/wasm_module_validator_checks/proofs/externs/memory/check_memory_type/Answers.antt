use Rattle.std.proofs.Common.{rules}
use Rattle.std.proofs.Common.{ℕ, ◌≡◌, ◌⊎◌}
use Rattle.wasm_types.specs.settings.Features.{CustomPageSizes}
use Rattle.wasm_types.specs.trees.Gates.{Has}
use Rattle.wasm_module_validator_rules.specs.Valid.{IfThere, IsValidMemoryType}
use Rattle.wasm_module_validator_checks.specs.externs.Refusals.{allowing}
use Rattle.wasm_module_validator_checks.proofs.Refusing.{needed_from}
use Rattle.wasm_module_validator_checks.proofs.externs.memory.check_memory_type.Goals as goal

pub returns-in-Err-clause-refused : goal.returns-in-Err-clause-refused
returns-in-Err-clause-refused c =
    let z = c.args.settings.now in
    needed_from z.features (λ b. IfThere (λ n. Has b CustomPageSizes × ((n ≡ 0) ⊎ (n ≡ 16))) c.args.ty.now.page_size_log2) (λ b. IsValidMemoryType (allowing b z) c.args.ty.now)
    c.in-Err.error.kind (λ b h. h.page) c.in-Err.ensures.refused

pub returns-clause-answer : goal.returns-clause-answer
returns-clause-answer c = search rules
