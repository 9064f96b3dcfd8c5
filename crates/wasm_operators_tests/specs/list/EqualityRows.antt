-- `==` of operators and of tables of labels, worked.
use Rattle.std.specs.Prelude.{◌≡◌, true, false, [], ◌∷◌, pos, negsuc}
use Rattle.wasm_operators_immediates.specs.Tables.{same_labels}
use Rattle.wasm_operators_enums.specs.declared.constant.ConstOperator.TheVariants as const
use Rattle.wasm_operators_enums.specs.declared.control.ControlOperator.TheVariants as control
use Rattle.wasm_operators_enums.specs.declared.operator.Operator.TheVariants as operator
use Rattle.wasm_operators_enums.specs.contracts.operator.OperatorPartialEq.TheImpl as equality

pub record EqualityRows : Type 0 where
  pub same_constant : equality.ghosts.eq (operator.Const (const.I32Const (pos 1))) (operator.Const (const.I32Const (pos 1))) ≡ true
  pub other_constant : equality.ghosts.eq (operator.Const (const.I32Const (pos 1))) (operator.Const (const.I32Const (negsuc 0))) ≡ false
  pub other_type : equality.ghosts.eq (operator.Const (const.I32Const (pos 1))) (operator.Const (const.I64Const (pos 1))) ≡ false
  pub other_group : equality.ghosts.eq (operator.Const (const.I32Const (pos 1))) (operator.Control control.Nop) ≡ false
  pub same_table : same_labels (record { targets = 0 ∷ 1 ∷ []; default = 2 }) (record { targets = 0 ∷ 1 ∷ []; default = 2 }) ≡ true
  pub other_default : same_labels (record { targets = 0 ∷ 1 ∷ []; default = 2 }) (record { targets = 0 ∷ 1 ∷ []; default = 3 }) ≡ false
  pub other_target : same_labels (record { targets = 0 ∷ 1 ∷ []; default = 2 }) (record { targets = 0 ∷ 2 ∷ []; default = 2 }) ≡ false
  pub longer_table : same_labels (record { targets = 0 ∷ []; default = 2 }) (record { targets = 0 ∷ 1 ∷ []; default = 2 }) ≡ false
  pub shorter_table : same_labels (record { targets = 0 ∷ 1 ∷ []; default = 2 }) (record { targets = 0 ∷ []; default = 2 }) ≡ false
