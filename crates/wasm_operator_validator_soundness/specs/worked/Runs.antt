-- What comes of code and of configurations under worked answers.
use Rattle.std.specs.Prelude.{◌≡◌, ℕ, ℤ, Bool, true, false, List, [], ◌∷◌, Some, None}
use Rattle.wasm_types.specs.trees.Types.{i32, i64, number}
use Rattle.wasm_types.specs.values.declared.value.ValType.TheVariants as value
use Rattle.wasm_operators_immediates.specs.declared.block.BlockType.TheVariants as block
use Rattle.wasm_operators_enums.specs.declared.control.ControlOperator.{ControlOperator}
use Rattle.wasm_operators_enums.specs.declared.control.ControlOperator.TheVariants as control
use Rattle.wasm_operators_enums.specs.declared.memory.MemoryOperator.TheVariants as memory
use Rattle.wasm_operators_enums.specs.declared.bulk.BulkOperator.TheVariants as bulk
use Rattle.wasm_operators_enums.specs.Op as op
use Rattle.wasm_operators_enums.specs.Op.{Op}
use Rattle.wasm_operators_encoding.specs.expressions.Code.{Code, plain, nested, turn}
use Rattle.wasm_operator_validator_rules.specs.Context.{Context, Signature}
use Rattle.wasm_operator_validator_rules.specs.worked.Contexts.{somewhere, argument}
use Rattle.wasm_operator_validator_rules.specs.worked.Codes.{end, constant, sum, unreachable, drop, block_of, if_of, if_i32, other, get, set}
use Rattle.wasm_operator_validator_soundness.specs.Values.{Value}
use Rattle.wasm_operator_validator_soundness.specs.States.{behind, again, Handlers, no_handlers, exits, clauses, Label, Configuration, on, branches, traps, throws, Answer}
use Rattle.wasm_operator_validator_soundness.specs.States.{Outcome, next, returned, replaced, trapped, stuck}
use Rattle.wasm_operator_validator_soundness.specs.Machine.{reduce}
use Rattle.wasm_operator_validator_soundness.specs.Soundness.{begun}
use Rattle.wasm_operator_validator_soundness.specs.worked.Values.{one_i32, one_i64, a_function, no_function}

-- a function with an i32, an i64 and a reference that is never null, that gives an i32
abbrev pub outside : Context
outside = record somewhere { labels = []; catches = [] }

-- ---- answers

abbrev pub giving : List Value → Answer
giving vs = record { values = vs; taken = 0; condition = false; index = 0; way = on }

-- for so many values
abbrev pub taking : ℕ → List Value → Answer
taking n vs = record (giving vs) { taken = n }

abbrev pub silent : Answer
silent = giving []

abbrev pub number_given : Answer
number_given = giving (one_i32 ∷ [])

abbrev pub number_for : ℕ → Answer
number_for n = taking n (one_i32 ∷ [])

abbrev pub deciding : Bool → Answer
deciding c = record silent { condition = c }

abbrev pub choosing : ℕ → Answer
choosing i = record silent { index = i }

abbrev pub trapping : Answer
trapping = record silent { way = traps }

-- to the first label that the operator names
abbrev pub branching : List Value → Answer
branching vs = record (giving vs) { way = branches }

-- an exception leaves so many labels, and the clause with this number catches it
abbrev pub throwing : ℕ → ℕ → List Value → Answer
throwing n i vs = record (giving vs) { index = i; way = throws n }

-- ---- runs

-- what these answers lead to
abbrev pub onward : Outcome → List Answer → Outcome
onward o [] = o
onward (next k) (a ∷ answers) = onward (reduce outside k a).outcome answers
onward o (a ∷ answers) = o

-- from the beginning of the function, in which the reference has no value
abbrev pub started : Code → Configuration
started c = begun outside c (Some one_i32 ∷ Some one_i64 ∷ None ∷ [])

abbrev pub run : Code → List Answer → Outcome
run c answers = onward (next (started c)) answers

-- in the midst of the function's instructions, above these values
abbrev pub standing : List Value → Code → Configuration
standing vs c = let k = started c in record k { innermost = record k.innermost { values = vs } }

abbrev pub run_over : List Value → Code → List Answer → Outcome
run_over vs c answers = onward (next (standing vs c)) answers

-- what one operator leaves of these values
abbrev pub does : Op → Answer → List Value → Outcome
does o a vs = (reduce outside (standing vs (plain o end)) a).outcome

abbrev pub leaving : List Value → Outcome
leaving vs = next (standing vs end)

-- operators by short names
abbrev pub control_of : ControlOperator → Op
control_of o = op.Control o

abbrev pub br : ℕ → Op
br n = op.Control (control.Br n)

abbrev pub br_if : ℕ → Op
br_if n = op.Control (control.BrIf n)

abbrev pub block_i32 : Op
block_i32 = op.Control (control.Block (block.Val value.I32))

abbrev pub loop_of : Op
loop_of = op.Control (control.Loop block.Empty)

-- a loop that takes an i32 and gives an i64
abbrev pub widening_loop : Op
widening_loop = op.Control (control.Loop (block.FuncType 0))

abbrev pub load : Op
load = op.Memory (memory.I32Load (argument 2 2 0 0))

abbrev pub tee : Op
tee = op.Memory (memory.LocalTee 2)

-- to the labels 1, 0 and, by default, 2
abbrev pub br_table : Op
br_table = op.Control (control.BrTable (record { targets = 1 ∷ 0 ∷ []; default = 2 }))

-- an i32 is taken and an i64 given
abbrev pub widens : Signature
widens = record { params = number i32 ∷ []; results = number i64 ∷ [] }

-- a label behind which these instructions stand, over these values
abbrev pub labelled : Code → List Value → Label
labelled c vs =
    record { code = c; values = vs; block = record { params = []; results = number i32 ∷ [] }; continuation = behind; handlers = no_handlers; clause = false }

abbrev pub among : Label → List Label → Configuration
among l ls = record { locals = []; innermost = l; around = ls }

-- a block within a block, where a `drop` stands behind the inner one and a constant behind the outer one
abbrev pub in_blocks : ℤ → Configuration
in_blocks x = among (labelled (plain br_table end) (one_i32 ∷ a_function ∷ [])) (labelled (plain drop end) [] ∷ labelled (plain (constant x) end) (one_i64 ∷ []) ∷ [])

-- in a block that gives two values, an i64 below an i32
abbrev pub to_two : ℤ → Configuration
to_two x =
    let l = labelled (plain (br 0) end) (one_i32 ∷ one_i64 ∷ one_i32 ∷ []) in
    among (record l { block = record { params = []; results = number i64 ∷ number i32 ∷ [] } }) (labelled (plain drop end) (a_function ∷ []) ∷ [])

-- in a loop that takes an i32 and gives an i64, above these values
abbrev pub in_loop : List Value → Configuration
in_loop vs = let l = labelled (plain (br 0) end) vs in among (record l { block = widens; continuation = again (plain drop end) }) (labelled end [] ∷ [])

abbrev pub call : Op
call = op.Control (control.Call 0)

-- a call within a block, in what catches exceptions so, in a block that drops what it gets, in a function
abbrev pub around_try : List Label
around_try = labelled (plain drop end) (a_function ∷ []) ∷ labelled end [] ∷ []

abbrev pub in_try : Handlers → Configuration
in_try h = let l = labelled end (one_i64 ∷ []) in among (labelled (plain call end) (one_i32 ∷ [])) (record l { handlers = h } ∷ around_try)

-- to the label around; the clauses of an older `try`, for a tag and for all
abbrev pub by_table : Handlers
by_table = exits (0 ∷ [])

abbrev pub for_all : Code
for_all = turn (op.Exception op.CatchAll) (plain drop end)

abbrev pub by_clauses : Handlers
by_clauses = clauses (turn (op.Exception (op.Catch 0)) for_all)

-- in such a clause
abbrev pub in_clause : Code → List Value → Configuration
in_clause c vs = let l = labelled c vs in among (record l { clause = true }) around_try

-- operators on references
abbrev pub call_ref : Op
call_ref = op.Control (control.CallRef 0)

abbrev pub return_call_ref : Op
return_call_ref = op.Control (control.ReturnCallRef 0)

abbrev pub as_non_null : Op
as_non_null = op.Control control.RefAsNonNull

abbrev pub br_on_null : Op
br_on_null = op.Control (control.BrOnNull 0)

abbrev pub br_on_non_null : Op
br_on_non_null = op.Control (control.BrOnNonNull 0)

abbrev pub counting : ℤ → Code → Code
counting x more = nested loop_of (plain (constant x) (plain (br_if 0) end)) more

abbrev pub two_summed : ℤ → Code
two_summed x = plain (constant x) (plain (constant x) (plain sum end))

-- a loop with a parameter that goes round for ever
abbrev pub endless : ℤ → Code
endless x = plain (constant x) (nested widening_loop (plain (br 0) end) end)

pub record RunsWorked (x : ℤ) : Type 0 where
  -- to the end, and to a trap
  pub sum_given : run (two_summed x) (number_given ∷ number_given ∷ number_for 2 ∷ silent ∷ []) ≡ returned (one_i32 ∷ [])
  pub sum_half : run (two_summed x) (number_given ∷ number_given ∷ []) ≡ next (standing (one_i32 ∷ one_i32 ∷ []) (plain sum end))
  pub trap : run (plain unreachable end) (silent ∷ []) ≡ trapped
  pub load_traps : run (plain (constant x) (plain load end)) (number_given ∷ trapping ∷ silent ∷ []) ≡ trapped
  pub load_gives : run (plain (constant x) (plain load end)) (number_given ∷ number_for 1 ∷ silent ∷ []) ≡ returned (one_i32 ∷ [])
  -- blocks: values come out on top of those that stood around
  pub block_gives : run_over (one_i64 ∷ []) (nested block_i32 (plain (constant x) end) end) (silent ∷ number_given ∷ silent ∷ []) ≡ leaving (one_i32 ∷ one_i64 ∷ [])
  pub branch_out : run (nested block_of (nested block_of (plain (br 1) end) (plain unreachable end)) (plain (constant x) end)) (silent ∷ silent ∷ silent ∷ [])
      ≡ next (standing [] (plain (constant x) end))
  pub branch_keeps : run_over (one_i64 ∷ []) (nested block_i32 (plain (constant x) (plain (constant x) (plain (br 0) end))) end) (silent ∷ giving (one_i64 ∷ []) ∷ number_given ∷ silent ∷ [])
      ≡ leaving (one_i32 ∷ one_i64 ∷ [])
  pub branch_keeps_two : (reduce outside (to_two x) silent).outcome ≡ next (among (labelled (plain drop end) (one_i32 ∷ one_i64 ∷ a_function ∷ [])) [])
  pub branch_from_function : run (nested block_of (plain (constant x) (plain (br 1) end)) (plain unreachable end)) (silent ∷ number_given ∷ silent ∷ []) ≡ returned (one_i32 ∷ [])
  pub br_table_first : (reduce outside (in_blocks x) (choosing 0)).outcome ≡ next (among (labelled (plain (constant x) end) (a_function ∷ one_i64 ∷ [])) [])
  pub br_table_second : (reduce outside (in_blocks x) (choosing 1)).outcome ≡ next (among (labelled (plain drop end) (a_function ∷ [])) (labelled (plain (constant x) end) (one_i64 ∷ []) ∷ []))
  pub br_table_default : (reduce outside (in_blocks x) (choosing 2)).outcome ≡ returned (a_function ∷ [])
  pub loop_again : run (counting x end) (silent ∷ number_given ∷ deciding true ∷ []) ≡ run (counting x end) (silent ∷ [])
  pub loop_left : run (counting x (plain (constant x) end)) (silent ∷ number_given ∷ deciding false ∷ silent ∷ number_given ∷ silent ∷ []) ≡ returned (one_i32 ∷ [])
  pub loop_takes : run (endless x) (number_given ∷ silent ∷ silent ∷ []) ≡ run (endless x) (number_given ∷ silent ∷ [])
  pub loop_parameter : run (plain (constant x) (nested widening_loop end end)) (number_given ∷ silent ∷ silent ∷ []) ≡ leaving (one_i32 ∷ [])
  pub if_holds : run (plain (constant x) (nested if_i32 (plain (constant x) (turn other (plain unreachable end))) end)) (number_given ∷ deciding true ∷ number_given ∷ silent ∷ silent ∷ [])
      ≡ returned (one_i32 ∷ [])
  pub if_does_not : run (plain (constant x) (nested if_i32 (plain unreachable (turn other (plain (constant x) end))) end)) (number_given ∷ deciding false ∷ number_given ∷ silent ∷ silent ∷ [])
      ≡ returned (one_i32 ∷ [])
  pub no_else : run (plain (constant x) (nested if_of (plain unreachable end) end)) (number_given ∷ deciding false ∷ silent ∷ []) ≡ leaving []
  -- returns and calls
  pub return_from_block : run (nested block_of (plain (constant x) (plain (control_of control.Return) end)) (plain unreachable end)) (silent ∷ number_given ∷ silent ∷ []) ≡ returned (one_i32 ∷ [])
  pub return_keeps : does (control_of control.Return) silent (one_i32 ∷ one_i64 ∷ []) ≡ returned (one_i32 ∷ [])
  pub called : does call (giving (one_i64 ∷ [])) (one_i32 ∷ one_i32 ∷ []) ≡ leaving (one_i64 ∷ one_i32 ∷ [])
  pub call_traps : does call trapping (one_i32 ∷ []) ≡ trapped
  pub call_indirect : does (control_of (control.CallIndirect 0 2)) (giving (one_i64 ∷ [])) (one_i64 ∷ one_i32 ∷ []) ≡ leaving (one_i64 ∷ [])
  pub return_call : does (control_of (control.ReturnCall 0)) silent (one_i32 ∷ one_i64 ∷ []) ≡ replaced widens (one_i32 ∷ [])
  pub return_call_indirect : does (control_of (control.ReturnCallIndirect 0 2)) silent (one_i64 ∷ one_i32 ∷ []) ≡ replaced widens (one_i32 ∷ [])
  pub return_call_indirect_traps : does (control_of (control.ReturnCallIndirect 0 2)) trapping (one_i64 ∷ one_i32 ∷ []) ≡ trapped
  -- operators of any type
  pub nop : does (control_of control.Nop) silent (one_i64 ∷ []) ≡ leaving (one_i64 ∷ [])
  pub dropped : does drop silent (one_i32 ∷ one_i64 ∷ []) ≡ leaving (one_i64 ∷ [])
  pub select_first : does (op.Parametric op.Select) (deciding true) (one_i32 ∷ no_function ∷ a_function ∷ one_i64 ∷ []) ≡ leaving (a_function ∷ one_i64 ∷ [])
  pub select_second : does (op.Parametric op.Select) (deciding false) (one_i32 ∷ no_function ∷ a_function ∷ one_i64 ∷ []) ≡ leaving (no_function ∷ one_i64 ∷ [])
  pub typed_select : does (op.Parametric (op.TypedSelect value.I64)) (deciding false) (one_i32 ∷ no_function ∷ a_function ∷ []) ≡ leaving (no_function ∷ [])
  -- locals
  pub local_get : does (get 1) silent [] ≡ leaving (one_i64 ∷ [])
  pub local_get_unset : does (get 2) silent [] ≡ stuck
  pub local_get_unknown : does (get 3) silent [] ≡ stuck
  pub local_set : run_over (a_function ∷ []) (plain (set 2) (plain (get 2) (plain drop (plain (get 0) end)))) (silent ∷ silent ∷ silent ∷ silent ∷ silent ∷ []) ≡ returned (one_i32 ∷ [])
  pub local_set_got : run_over (a_function ∷ []) (plain (set 2) (plain (get 2) end)) (silent ∷ silent ∷ silent ∷ []) ≡ returned (a_function ∷ [])
  pub local_tee : run_over (a_function ∷ []) (plain tee (plain drop (plain (get 2) end))) (silent ∷ silent ∷ silent ∷ silent ∷ []) ≡ returned (a_function ∷ [])
  -- references
  pub null : does (op.Bulk bulk.RefIsNull) silent (no_function ∷ one_i64 ∷ []) ≡ leaving (one_i32 ∷ one_i64 ∷ [])
  pub function : does (op.Bulk (bulk.RefFunc 0)) silent (one_i64 ∷ []) ≡ leaving (a_function ∷ one_i64 ∷ [])
  pub init : does (op.Bulk (bulk.TableInit 0 2)) silent (one_i32 ∷ one_i32 ∷ one_i64 ∷ one_i64 ∷ []) ≡ leaving (one_i64 ∷ [])
  pub init_traps : does (op.Bulk (bulk.TableInit 0 2)) trapping (one_i32 ∷ one_i32 ∷ one_i64 ∷ []) ≡ trapped
  pub copy : does (op.Bulk (bulk.TableCopy 0 2)) silent (one_i32 ∷ one_i64 ∷ one_i32 ∷ one_i64 ∷ []) ≡ leaving (one_i64 ∷ [])
  -- operators by their rows
  pub called_by_reference : does call_ref (taking 2 (one_i64 ∷ [])) (a_function ∷ one_i32 ∷ one_i32 ∷ []) ≡ leaving (one_i64 ∷ one_i32 ∷ [])
  pub call_ref_traps : does call_ref trapping (no_function ∷ one_i32 ∷ []) ≡ trapped
  pub returned_by_reference : does return_call_ref (branching (one_i32 ∷ [])) (a_function ∷ one_i32 ∷ one_i64 ∷ []) ≡ returned (one_i32 ∷ [])
  pub not_null : does as_non_null (taking 1 (a_function ∷ [])) (a_function ∷ one_i64 ∷ []) ≡ leaving (a_function ∷ one_i64 ∷ [])
  pub branch_on_null : does br_on_null (branching (one_i32 ∷ [])) (no_function ∷ one_i32 ∷ one_i64 ∷ []) ≡ returned (one_i32 ∷ [])
  pub no_branch_on_null : does br_on_null (taking 2 (a_function ∷ one_i32 ∷ [])) (a_function ∷ one_i32 ∷ one_i64 ∷ []) ≡ leaving (a_function ∷ one_i32 ∷ one_i64 ∷ [])
  pub no_branch_on_non_null : does br_on_non_null (taking 1 []) (no_function ∷ one_i64 ∷ []) ≡ leaving (one_i64 ∷ [])
  -- exceptions that are caught within the activation
  pub caught_at_label : (reduce outside (in_try by_table) (throwing 1 0 (one_i32 ∷ []))).outcome ≡ next (among (labelled end (one_i32 ∷ [])) [])
  pub caught_by_first : (reduce outside (in_try by_clauses) (throwing 1 0 (one_i32 ∷ []))).outcome ≡ next (in_clause for_all (one_i32 ∷ []))
  pub caught_by_second : (reduce outside (in_try by_clauses) (throwing 1 1 [])).outcome ≡ next (in_clause (plain drop end) [])
  -- no rule
  pub label_unknown : does (br 1) silent [] ≡ stuck
  pub function_unknown : does (control_of (control.Call 2)) silent [] ≡ stuck
  pub operand_missing : does drop silent [] ≡ stuck
  pub not_caught : (reduce outside (in_try no_handlers) (throwing 1 0 [])).outcome ≡ stuck
