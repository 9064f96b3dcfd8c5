-- What a clone keeps, and that prefix, code and immediates tell operators apart.
use Rattle.std.proofs.Common.{◌≡◌, IsTrue}
use Rattle.wasm_operators_enums.specs.declared.operator.Operator.{Operator}
use Rattle.wasm_operators_enums.specs.contracts.operator.OperatorClone.TheImpl as clone
use Rattle.wasm_operators_enums.specs.Op.{Op, op_of}
use Rattle.wasm_operators_enums.specs.Table.{info_of}
use Rattle.wasm_operators_enums.specs.Immediates.{immediates_of, kinds_of, is_canonical}

-- a clone of an operator has its tree
abbrev pub ClonesHaveTheTree : Type 0
ClonesHaveTheTree = (o p : Operator) → clone.ghosts.is_clone o p → op_of p ≡ op_of o

-- operators with the same prefix and code have the same row of the table, so also the same name
abbrev pub RowsFollowFromCodes : Type 0
RowsFollowFromCodes = (a b : Op) → (info_of a).prefix ≡ (info_of b).prefix → (info_of a).code ≡ (info_of b).code → info_of a ≡ info_of b

-- operators with the same prefix and code have the same kinds of immediates
abbrev pub KindsFollowFromCodes : Type 0
KindsFollowFromCodes = (a b : Op) → (info_of a).prefix ≡ (info_of b).prefix → (info_of a).code ≡ (info_of b).code → kinds_of a ≡ kinds_of b

-- canonical operators with the same prefix, code and immediates are equal. `select` with one type has two trees; that by
-- TypedSelectMulti is not canonical
abbrev pub CodesTellOperatorsApart : Type 0
CodesTellOperatorsApart = (a b : Op) → IsTrue (is_canonical a) → IsTrue (is_canonical b) → (info_of a).prefix ≡ (info_of b).prefix → (info_of a).code
    ≡ (info_of b).code → immediates_of a ≡ immediates_of b → a ≡ b
