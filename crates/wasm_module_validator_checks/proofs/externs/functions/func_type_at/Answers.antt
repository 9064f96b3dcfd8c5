use Rattle.std.proofs.Common.{rules}
use Rattle.wasm_module_validator_checks.proofs.externs.functions.func_type_at.Goals as goal

pub returns-in_default-clause-refused : goal.returns-in_default-clause-refused
returns-in_default-clause-refused c = search rules

pub returns-in_default-clause-answer : goal.returns-in_default-clause-answer
returns-in_default-clause-answer g c = rw c.no_function_type.ensures.kind (λ h. c.in_default.ensures h.0 h.1 h.2 h.3)
