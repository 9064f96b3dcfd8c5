use Rattle.wasm_operators_tests.proofs.FrameRows.{frames}
use Rattle.wasm_operators_tests.proofs.EqualityRows.{equality}
use Rattle.wasm_operators_tests.proofs.FeatureRows.{features}
use Rattle.wasm_operators_tests.proofs.list.rules_are_worked.Goals as goal

pub returns-clause-frames : goal.returns-clause-frames
returns-clause-frames c = frames

pub returns-clause-equality : goal.returns-clause-equality
returns-clause-equality c = equality

pub returns-clause-features : goal.returns-clause-features
returns-clause-features c = features
