-- Reductions that ask for what is not there, answers that do not fit, and ends that are not well.
use Rattle.std.specs.Prelude.{◌≡◌, ℤ, true, false, List, [], ◌∷◌}
use Rattle.wasm_types.specs.trees.Types.{i32, i64, number, func, extern}
use Rattle.wasm_types.specs.values.declared.value.ValType.TheVariants as value
use Rattle.wasm_types.specs.values.declared.heap.HeapType.TheVariants as heap
use Rattle.wasm_types.specs.values.declared.heap.AbstractHeapType.TheVariants as abstract
use Rattle.wasm_operators_immediates.specs.declared.block.BlockType.TheVariants as block
use Rattle.wasm_operators_enums.specs.declared.control.ControlOperator.TheVariants as control
use Rattle.wasm_operators_enums.specs.declared.memory.MemoryOperator.TheVariants as memory
use Rattle.wasm_operators_enums.specs.declared.bulk.BulkOperator.TheVariants as bulk
use Rattle.wasm_operators_enums.specs.Op as op
use Rattle.wasm_operators_enums.specs.Op.{Op}
use Rattle.wasm_operators_encoding.specs.expressions.Code.{Code, plain, nested, turn}
use Rattle.wasm_operator_validator_rules.specs.Operands.{ValueType}
use Rattle.wasm_operator_validator_rules.specs.Context.{Context}
use Rattle.wasm_operator_validator_rules.specs.Typed.{IsBody}
use Rattle.wasm_operator_validator_rules.specs.worked.Contexts.{somewhere, any_function}
use Rattle.wasm_operator_validator_rules.specs.worked.Codes.{end, constant, sum, drop, if_of, other, get, set}
use Rattle.wasm_operator_validator_soundness.specs.Values.{Value, ref_extern, ref_null}
use Rattle.wasm_operator_validator_soundness.specs.States.{Configuration, Answer, Reduction, returned, replaced, trapped, stuck}
use Rattle.wasm_operator_validator_soundness.specs.Machine.{reduce, Runs}
use Rattle.wasm_operator_validator_soundness.specs.Soundness.{IsStuck, EndsWell}
use Rattle.wasm_operator_validator_soundness.specs.worked.Values.{one_i32, one_i64, a_function, no_function, some_ref}
use Rattle.wasm_operator_validator_soundness.specs.worked.Runs.{outside, giving, silent, number_given, number_for, deciding, trapping, started, standing}
use Rattle.wasm_operator_validator_soundness.specs.worked.Runs.{control_of, br, br_if, block_i32, in_loop, widening_loop, two_summed, call}

-- what comes next of these values and instructions
abbrev pub here : List Value → Code → Answer → Reduction
here vs c a = reduce outside (standing vs c) a

abbrev pub one : Op → List Value → Answer → Reduction
one o vs a = here vs (plain o end) a

-- its answer fits, and it is stuck, or it is not
abbrev pub GetsStuck : Reduction → Type 0
GetsStuck r = r.answered × IsStuck r

abbrev pub GoesOn : Reduction → Type 0
GoesOn r = r.answered × (IsStuck r → ⊥)

-- the answer does not fit
abbrev pub IsRefused : Reduction → Type 0
IsRefused r = r.answered → ⊥

-- code that is stuck behind these answers, under that one
abbrev pub ComesToBeStuck : Code → List Answer → Answer → Type 0
ComesToBeStuck c answers a = (k : Configuration) × Runs outside (started c) answers k × GetsStuck (reduce outside k a)

-- code that ends there, with these values
abbrev pub ComesToAnEnd : Code → List Answer → Answer → List Value → Type 0
ComesToAnEnd c answers a vs = (k : Configuration) × Runs outside (started c) answers k × GoesOn (reduce outside k a) × ((reduce outside k a).outcome ≡ returned vs)

abbrev pub null_of_functions : Op
null_of_functions = op.Bulk (bulk.RefNull (heap.Abstract false abstract.Func))

abbrev pub select : Op
select = op.Parametric op.Select

abbrev pub select_i64 : Op
select_i64 = op.Parametric (op.TypedSelect value.I64)

-- an `if` that takes an i32 and gives an i64
abbrev pub widening_if : Op
widening_if = op.Control (control.If (block.FuncType 0))

-- to the function's label, whatever the index
abbrev pub to_function : Op
to_function = op.Control (control.BrTable (record { targets = []; default = 0 }))

-- references to functions into a table of functions, and external ones
abbrev pub init : Op
init = op.Bulk (bulk.TableInit 0 0)

abbrev pub init_other : Op
init_other = op.Bulk (bulk.TableInit 1 0)

-- from a table of external references to one of functions
abbrev pub copy_other : Op
copy_other = op.Bulk (bulk.TableCopy 0 1)

-- a function that gives this
abbrev pub giving_back : ValueType → Context
giving_back t = record somewhere { results = t ∷ [] }

abbrev pub three : List Value
three = one_i32 ∷ one_i32 ∷ one_i32 ∷ []

pub record StuckWorked (x : ℤ) : Type 0 where
  -- whole runs, of code that is not typed and of code that is
  pub one_operand : ComesToBeStuck (plain (constant x) (plain sum end)) (number_given ∷ []) (number_for 2)
  pub two_operands : ComesToAnEnd (two_summed x) (number_given ∷ number_given ∷ number_for 2 ∷ []) silent (one_i32 ∷ [])
  pub one_operand_untyped : IsBody outside 0 (plain (constant x) (plain sum end)) → ⊥
  pub two_operands_typed : IsBody outside 0 (two_summed x)
  pub unset_local : ComesToBeStuck (plain (get 2) (plain drop end)) [] silent
  -- operands
  pub operand : GoesOn (one sum (one_i32 ∷ one_i32 ∷ one_i64 ∷ []) (number_for 2))
  pub operand_other : GetsStuck (one sum (one_i32 ∷ one_i64 ∷ []) (number_for 2))
  pub operand_other_trap : GetsStuck (one sum (one_i32 ∷ one_i64 ∷ []) trapping)
  pub result_missing : GetsStuck (here [] end silent)
  pub result_left_over : GetsStuck (here (one_i32 ∷ one_i32 ∷ []) end silent)
  pub result : GoesOn (here (one_i32 ∷ []) end silent)
  pub condition_other : GetsStuck (here (one_i64 ∷ []) (nested if_of end end) (deciding true))
  pub condition : GoesOn (here (one_i32 ∷ []) (nested if_of end end) (deciding true))
  pub else_result : GetsStuck (here (one_i64 ∷ []) (turn other end) silent)
  pub parameter : GoesOn (here (one_i32 ∷ []) (nested widening_loop end end) silent)
  pub parameter_other : GetsStuck (here (one_i64 ∷ []) (nested widening_loop end end) silent)
  pub parameter_missing : GetsStuck (here [] (nested widening_loop end end) silent)
  pub if_parameter_missing : GetsStuck (here (one_i32 ∷ []) (nested widening_if end end) (deciding true))
  pub no_parameter : GoesOn (here [] (nested block_i32 end end) silent)
  pub branch_other : GetsStuck (one (br 0) (one_i64 ∷ []) silent)
  pub branch_unknown : GetsStuck (one (br 1) (one_i32 ∷ []) silent)
  pub branch_in_loop : GoesOn (reduce outside (in_loop (one_i32 ∷ [])) silent)
  pub branch_in_loop_other : GetsStuck (reduce outside (in_loop (one_i64 ∷ [])) silent)
  pub branch_if_other : GetsStuck (one (br_if 0) (one_i64 ∷ one_i32 ∷ []) (deciding true))
  pub branch_if_below : GetsStuck (one (br_if 0) (one_i32 ∷ one_i64 ∷ []) (deciding false))
  pub br_table_other : GetsStuck (one to_function (one_i64 ∷ one_i32 ∷ []) silent)
  pub br_table_below : GetsStuck (one to_function (one_i32 ∷ one_i64 ∷ []) silent)
  pub return_other : GetsStuck (one (control_of control.Return) (one_i64 ∷ []) silent)
  pub call_other : GetsStuck (one call (one_i64 ∷ []) (giving (one_i64 ∷ [])))
  pub call_index : GetsStuck (one (control_of (control.CallIndirect 0 2)) (one_i32 ∷ one_i32 ∷ []) (giving (one_i64 ∷ [])))
  pub return_call_other : GetsStuck (one (control_of (control.ReturnCall 0)) (one_i64 ∷ []) silent)
  pub return_call_index : GetsStuck (one (control_of (control.ReturnCallIndirect 0 2)) (one_i32 ∷ one_i32 ∷ []) silent)
  pub select_kinds : GetsStuck (one select (one_i32 ∷ one_i32 ∷ one_i64 ∷ []) silent)
  pub select_references : GetsStuck (one select (one_i32 ∷ no_function ∷ no_function ∷ []) silent)
  pub select_condition : GetsStuck (one select (one_i64 ∷ one_i32 ∷ one_i32 ∷ []) silent)
  pub select_numbers : GoesOn (one select (one_i32 ∷ one_i64 ∷ one_i64 ∷ []) silent)
  pub select_other : GetsStuck (one select_i64 (one_i32 ∷ one_i32 ∷ one_i64 ∷ []) silent)
  pub select_first_other : GetsStuck (one select_i64 (one_i32 ∷ one_i64 ∷ one_i32 ∷ []) silent)
  pub set_other : GetsStuck (one (set 0) (one_i64 ∷ []) silent)
  pub set_unknown : GetsStuck (one (set 3) (one_i64 ∷ []) silent)
  pub tee_other : GetsStuck (one (op.Memory (memory.LocalTee 0)) (one_i64 ∷ []) silent)
  pub is_null_of_number : GetsStuck (one (op.Bulk bulk.RefIsNull) (one_i32 ∷ []) silent)
  pub is_null_of_reference : GoesOn (one (op.Bulk bulk.RefIsNull) (ref_extern false ∷ []) silent)
  -- what is written into tables
  pub copied : GoesOn (one init three (giving (a_function ∷ no_function ∷ [])))
  pub copied_other : GetsStuck (one init_other three (giving (ref_extern false ∷ [])))
  pub copied_nothing : GoesOn (one init three silent)
  pub copied_trap : GoesOn (one init three trapping)
  pub copied_nothing_other : GetsStuck (one init_other three silent)
  pub copied_across : GetsStuck (one copy_other three (giving (ref_extern false ∷ [])))
  pub copy_operand : GetsStuck (one init (one_i32 ∷ one_i32 ∷ one_i64 ∷ []) silent)
  -- answers
  pub given_other : IsRefused (one (constant x) [] (giving (one_i64 ∷ [])))
  pub given_nothing : IsRefused (one (constant x) [] silent)
  pub given_trap : GoesOn (one (constant x) [] trapping)
  pub handed_back_other : IsRefused (one call (one_i32 ∷ []) number_given)
  pub null_given : GoesOn (one null_of_functions [] (giving (no_function ∷ [])))
  pub no_null_given : IsRefused (one null_of_functions [] (giving (a_function ∷ [])))
  pub other_null_given : IsRefused (one null_of_functions [] (giving (ref_null false extern ∷ [])))
  pub two_nulls_given : IsRefused (one null_of_functions [] (giving (no_function ∷ no_function ∷ [])))
  pub segment_other : IsRefused (one init three (giving (ref_extern false ∷ [])))
  -- ends
  pub returned_well : EndsWell somewhere (returned (one_i32 ∷ []))
  pub returned_other : EndsWell somewhere (returned (one_i64 ∷ [])) → ⊥
  pub replaced_well : EndsWell somewhere (replaced (record { params = number i64 ∷ []; results = number i32 ∷ [] }) (one_i64 ∷ []))
  pub replaced_arguments : EndsWell somewhere (replaced (record { params = number i64 ∷ []; results = number i32 ∷ [] }) (one_i32 ∷ [])) → ⊥
  pub replaced_results : EndsWell somewhere (replaced (record { params = []; results = number i64 ∷ [] }) []) → ⊥
  pub replaced_below : EndsWell (giving_back any_function) (replaced (record { params = []; results = some_ref func ∷ [] }) [])
  pub replaced_above : EndsWell (giving_back (some_ref func)) (replaced (record { params = []; results = any_function ∷ [] }) []) → ⊥
  pub trapped_well : EndsWell somewhere trapped
  pub no_end : EndsWell somewhere stuck → ⊥
