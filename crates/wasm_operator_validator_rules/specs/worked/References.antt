-- Operators on references to functions and on null: instruction types by the table, rows that hold and rows that do not.
use Rattle.std.specs.Prelude.{◌≡◌, true, false, List, [], ◌∷◌, Some, None}
use Rattle.wasm_types.specs.trees.Types.{i32, i64, func, number, ref, abstract, concrete, struct_of}
use Rattle.wasm_types.specs.trees.Trees.{TypeTree}
use Rattle.wasm_types.specs.trees.worked.Types.{alone, declared_entry, constant}
use Rattle.wasm_operators_enums.specs.declared.control.ControlOperator.{ControlOperator}
use Rattle.wasm_operators_enums.specs.declared.control.ControlOperator.TheVariants as control
use Rattle.wasm_operators_enums.specs.Op as op
use Rattle.wasm_operators_enums.specs.Op.{Op}
use Rattle.wasm_operator_validator_rules.specs.Operands.{ValueType, Operand, bottom, some_reference, known}
use Rattle.wasm_operator_validator_rules.specs.Context.{Module, Context}
use Rattle.wasm_operator_validator_rules.specs.InstructionTypes.{◌⟶◌, instruction_type}
use Rattle.wasm_operator_validator_rules.specs.Row.{ControlRow}
use Rattle.wasm_operator_validator_rules.specs.worked.Contexts.{some_module, somewhere, widening, shared_procedure, any_function}
use Rattle.wasm_operator_validator_rules.specs.worked.InstructionTypes.{HasNone}
use Rattle.wasm_operator_validator_rules.specs.worked.Operators.{i32_known, i64_known, Does}

-- ---- types and contexts

-- a reference that may be null, and one that may not
abbrev pub null_to : TypeTree → ValueType
null_to t = ref true (concrete t)

abbrev pub to : TypeTree → ValueType
to t = ref false (concrete t)

abbrev pub a_function : ValueType
a_function = ref false (abstract false func)

-- a struct of a number
abbrev pub cell : TypeTree
cell = alone (declared_entry None false (struct_of (constant (number i32) ∷ [])))

-- a module with a function type, a struct and a shared function type
abbrev pub with_struct : Module
with_struct = record some_module { types = widening ∷ cell ∷ shared_procedure ∷ [] }

abbrev pub here : Context
here = record somewhere { «module» = with_struct }

abbrev pub here_shared : Context
here_shared = record here { shared = true }

-- in a function that gives an i64
abbrev pub giving_i64 : Context
giving_i64 = record here { results = number i64 ∷ [] }

-- within frames to which a branch takes these
abbrev pub under : List ValueType → Context
under ts = record here { labels = ts ∷ (number i32 ∷ []) ∷ [] }

-- there is no such row, whatever is taken and given
abbrev pub HasNo : (List Operand → List Operand → Type 0) → Type 0
HasNo R = (popped pushed : List Operand) → R popped pushed → ⊥

-- there is no row that takes and gives these
abbrev pub Not : Context → ControlOperator → List Operand → List Operand → Type 0
Not g o popped pushed = ControlRow g o popped pushed → ⊥

-- ---- calls

pub record CallsWorked : Type 0 where
  pub call_ref : instruction_type here (op.Control (control.CallRef 0)) ≡ Some ((number i32 ∷ null_to widening ∷ []) ⟶ (number i64 ∷ []))
  pub call_ref_struct : HasNone here (op.Control (control.CallRef 1))
  pub call_ref_unknown : HasNone here (op.Control (control.CallRef 3))
  pub call_ref_not_shared : HasNone here_shared (op.Control (control.CallRef 0))
  pub call_ref_shared : instruction_type here_shared (op.Control (control.CallRef 2)) ≡ Some ((null_to shared_procedure ∷ []) ⟶ [])
  pub call_ref_row : Does (op.Control (control.CallRef 0)) (i32_known ∷ known (null_to widening) ∷ []) (i64_known ∷ [])
  pub return_call_ref : ControlRow giving_i64 (control.ReturnCallRef 0) (some_reference ∷ i32_known ∷ known (null_to widening) ∷ []) (bottom ∷ [])
  pub return_call_ref_operand : Not giving_i64 (control.ReturnCallRef 0) (known (null_to widening) ∷ []) []
  pub return_call_ref_other : HasNo (ControlRow here (control.ReturnCallRef 0))
  pub return_call_ref_struct : HasNo (ControlRow here (control.ReturnCallRef 1))
  pub return_call_ref_not_shared : HasNo (ControlRow (record giving_i64 { shared = true }) (control.ReturnCallRef 0))

-- tail calls of a function of the module, and through a table
pub record TailCallsWorked : Type 0 where
  pub call : ControlRow giving_i64 (control.ReturnCall 0) (some_reference ∷ i32_known ∷ []) (bottom ∷ [])
  pub call_other : HasNo (ControlRow here (control.ReturnCall 0))
  pub call_unknown : HasNo (ControlRow giving_i64 (control.ReturnCall 2))
  pub call_not_shared : HasNo (ControlRow (record giving_i64 { shared = true }) (control.ReturnCall 0))
  pub call_operand : Not giving_i64 (control.ReturnCall 0) (i64_known ∷ []) []
  pub indirect : ControlRow giving_i64 (control.ReturnCallIndirect 0 0) (some_reference ∷ i32_known ∷ i32_known ∷ []) (bottom ∷ [])
  pub indirect_64 : ControlRow giving_i64 (control.ReturnCallIndirect 0 2) (i32_known ∷ i64_known ∷ []) []
  pub indirect_other : HasNo (ControlRow here (control.ReturnCallIndirect 0 0))
  pub indirect_no_functions : HasNo (ControlRow giving_i64 (control.ReturnCallIndirect 0 1))
  pub indirect_struct : HasNo (ControlRow giving_i64 (control.ReturnCallIndirect 1 0))

-- ---- null

pub record NullsWorked : Type 0 where
  pub as_non_null : ControlRow here control.RefAsNonNull (known any_function ∷ []) (known a_function ∷ [])
  pub as_non_null_of_some : ControlRow here control.RefAsNonNull (some_reference ∷ []) (some_reference ∷ [])
  pub as_non_null_of_number : Not here control.RefAsNonNull (i32_known ∷ []) (i32_known ∷ [])
  pub as_non_null_of_bottom : Not here control.RefAsNonNull (bottom ∷ []) (bottom ∷ [])
  pub as_non_null_stays_null : Not here control.RefAsNonNull (known any_function ∷ []) (known any_function ∷ [])
  pub on_null : ControlRow (under (number i64 ∷ [])) (control.BrOnNull 0) (i64_known ∷ known any_function ∷ []) (i64_known ∷ known a_function ∷ [])
  pub on_null_of_some : ControlRow (under []) (control.BrOnNull 0) (some_reference ∷ []) (some_reference ∷ [])
  pub on_null_carries : Not (under (number i64 ∷ [])) (control.BrOnNull 0) (i32_known ∷ known any_function ∷ []) (i32_known ∷ known a_function ∷ [])
  pub on_null_stays_null : Not (under []) (control.BrOnNull 0) (known any_function ∷ []) (known any_function ∷ [])
  pub on_null_unknown : HasNo (ControlRow here (control.BrOnNull 2))
  pub on_non_null : ControlRow (under (number i64 ∷ a_function ∷ [])) (control.BrOnNonNull 0) (i64_known ∷ known any_function ∷ []) (i64_known ∷ [])
  pub on_non_null_to_null : ControlRow (under (null_to cell ∷ [])) (control.BrOnNonNull 0) (known (null_to cell) ∷ []) []
  pub on_non_null_gives : Not (under (a_function ∷ [])) (control.BrOnNonNull 0) (known any_function ∷ []) (known any_function ∷ [])
  pub on_non_null_of_number : HasNo (ControlRow (under (number i64 ∷ [])) (control.BrOnNonNull 0))
  pub on_non_null_of_nothing : HasNo (ControlRow (under []) (control.BrOnNonNull 0))
  pub on_non_null_unknown : HasNo (ControlRow here (control.BrOnNonNull 2))
