use Rattle.wasm_operators_encoding.specs.OperatorLaws.{own_kinds_at, spelled_to, spelled_from, coded_apart}
use Rattle.wasm_operators_encoding.proofs.operators_are_spelled.Goals as goal

pub returns-clause-kinds : goal.returns-clause-kinds
returns-clause-kinds c = own_kinds_at

pub returns-clause-spelled : goal.returns-clause-spelled
returns-clause-spelled c = spelled_to

pub returns-clause-spells : goal.returns-clause-spells
returns-clause-spells c = spelled_from

pub returns-clause-apart : goal.returns-clause-apart
returns-clause-apart c = coded_apart
