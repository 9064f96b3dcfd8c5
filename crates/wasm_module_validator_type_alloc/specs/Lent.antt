-- A list of types as the logic holds it, for the clause on what `deref_mut` lends.
use Rattle.std.specs.Borrow.{RattleType}
use Rattle.wasm_module_validator_type_list.specs.contracts.list.TypeList as list

abbrev pub list_row : RattleType
list_row = list.the_row
