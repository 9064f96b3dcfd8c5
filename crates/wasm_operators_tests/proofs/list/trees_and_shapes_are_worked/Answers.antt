use Rattle.wasm_operators_tests.proofs.OperatorRows.{told_rows, trees, roles, canonical, kept}
use Rattle.wasm_operators_tests.proofs.ShapeRows.{shapes}
use Rattle.wasm_operators_tests.proofs.list.trees_and_shapes_are_worked.Goals as goal

pub returns-clause-told : goal.returns-clause-told
returns-clause-told c = told_rows

pub returns-clause-trees : goal.returns-clause-trees
returns-clause-trees c = trees

pub returns-clause-roles : goal.returns-clause-roles
returns-clause-roles c = roles

pub returns-clause-canonical : goal.returns-clause-canonical
returns-clause-canonical c = canonical

pub returns-clause-kept : goal.returns-clause-kept
returns-clause-kept c = kept

pub returns-clause-shapes : goal.returns-clause-shapes
returns-clause-shapes c = shapes
