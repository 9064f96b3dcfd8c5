use Rattle.std.proofs.Common.{rules}
use Rattle.wasm_types_fields.proofs.func.FuncType.new.Goals as goal

pub returns-clause-params : goal.returns-clause-params
returns-clause-params c = search rules

pub returns-clause-results : goal.returns-clause-results
returns-clause-results c = search rules
