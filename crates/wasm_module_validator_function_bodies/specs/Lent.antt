-- A validator of operators as the logic holds it, for the clause on what `visitor` lends.
use Rattle.std.specs.Borrow.{RattleType}
use Rattle.wasm_operator_validator_stacks.specs.contracts.validator.OperatorValidator as validator

abbrev pub validator_row : RattleType
validator_row = validator.the_row
