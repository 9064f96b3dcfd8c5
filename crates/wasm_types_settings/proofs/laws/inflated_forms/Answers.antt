use Rattle.wasm_types_settings.proofs.SetLaws.{packed_once, inflated_again}
use Rattle.wasm_types_settings.proofs.laws.inflated_forms.Goals as goal

pub returns-clause-packed_once : goal.returns-clause-packed_once
returns-clause-packed_once c = packed_once

pub returns-clause-inflated_again : goal.returns-clause-inflated_again
returns-clause-inflated_again c = inflated_again
