-- Worked steps over a store, one for each way in which an operator goes on: what branches and what does not, what traps and what passes.
use Rattle.std.specs.Prelude.{◌≡◌, ℕ, pos, negsuc, true, false, List, [], ◌∷◌, Some}
use Rattle.wasm_types.specs.trees.Types.{any, func, extern, abstract, number, ref, i32}
use Rattle.wasm_types.specs.values.Reference.{Reference}
use Rattle.wasm_types.specs.values.declared.heap.AbstractHeapType.TheVariants as heap
use Rattle.wasm_types.specs.values.declared.heap.HeapType.TheVariants as written_heap
use Rattle.wasm_operators_enums.specs.declared.bulk.BulkOperator.TheVariants as bulk
use Rattle.wasm_operators_enums.specs.declared.control.ControlOperator.TheVariants as control
use Rattle.wasm_operators_enums.specs.declared.gc.GcOperator.TheVariants as gc
use Rattle.wasm_operators_enums.specs.declared.memory.MemoryOperator.TheVariants as memory
use Rattle.wasm_operators_enums.specs.Op as op
use Rattle.wasm_operators_encoding.specs.expressions.Code.{Code, close, plain, nested, turn}
use Rattle.wasm_operator_validator_rules.specs.Operands.{ValueType}
use Rattle.wasm_operator_validator_soundness.specs.runs.Values.{Value, ref_null, ref_i31}
use Rattle.wasm_operator_validator_soundness.specs.runs.States.{Answer, State, returned, trapped, thrown}
use Rattle.wasm_operator_validator_soundness.specs.runs.worked.Runs.{silent, deciding, standing, throw, tried, end, takes_i32}
use Rattle.wasm_operator_validator_store.specs.Stores.{Store, nothing, memory_in}
use Rattle.wasm_operator_validator_store.specs.Giving.{GivesStep}
use Rattle.wasm_operator_validator_store.specs.worked.Program.{num, first_pair, some_cells, some_octets, scalar, own, giving, making, trapping, finding, throwing, program, store, numbers, in_place, LeadsFrom, Leads, returns, gc_then, bulk_then, control_then, memory_then, const_then, drop_then, unreachable}
use Rattle.wasm_operator_validator_store.specs.worked.Rows.{handled}
use Rattle.wasm_operator_validator_store.specs.worked.Memories.{at}

-- ---- types of casts

abbrev pub any_reference : Reference
any_reference = record { nullable = true; heap = written_heap.Abstract false heap.Any }

abbrev pub scalars : Reference
scalars = record { nullable = true; heap = written_heap.Abstract false heap.I31 }

abbrev pub scalars_alone : Reference
scalars_alone = record { nullable = false; heap = written_heap.Abstract false heap.I31 }

abbrev pub references : List ValueType
references = ref true (abstract false any) ∷ []

abbrev pub externals : List ValueType
externals = ref true (abstract false extern) ∷ []

-- ---- code

abbrev pub on_null : Code → Code
on_null more = control_then (control.BrOnNull 0) more

abbrev pub on_other : Code → Code
on_other more = control_then (control.BrOnNonNull 0) more

-- a branch out of anything but a scalar, which else traps
abbrev pub fails_or_passes : Code
fails_or_passes = gc_then (gc.BrOnCastFail 0 any_reference scalars_alone) unreachable

-- above a reference, what it holds at 0, as a number
abbrev pub first_number : Code
first_number = const_then (pos 0) (gc_then (gc.ArrayGet 4) (gc_then gc.I31GetU end))

-- an older `try` in another one that catches, with a label to which the inner one delegates
abbrev pub delegating : ℕ → Code
delegating n = nested tried (nested tried (const_then (pos 6) (plain throw (close (op.Exception (op.Delegate n)))))
    (turn (op.Exception (op.Catch 0)) end)) end

-- bytes of the first memory are discarded, so many as is on top, from the address below it on
abbrev pub discarding : List Value → State
discarding vs = standing numbers vs (bulk_then (bulk.MemoryDiscard 0) end)

-- a host throws an exception of the first tag, with the number 6
abbrev pub host_throws : ℕ → ℕ → Answer
host_throws leaves clause = record (throwing 0 leaves clause) { values = num 6 ∷ []; throws = Some takes_i32 }

-- ---- control

pub record BranchesWorked : Type 0 where
  pub nop : Leads (control_then control.Nop end) (num 3 ∷ []) (silent ∷ []) silent (returns 3)
  pub returns_early : Leads (control_then control.Return unreachable) (num 4 ∷ num 9 ∷ []) [] silent (returns 4)
  pub branches : Leads (control_then (control.BrIf 0) unreachable) (num 1 ∷ num 7 ∷ []) [] deciding (returns 7)
  pub goes_on : Leads (control_then (control.BrIf 0) unreachable) (num 0 ∷ num 7 ∷ []) (silent ∷ []) silent trapped
  pub null_branches : Leads (on_null unreachable) (nothing ∷ num 5 ∷ []) [] silent (returns 5)
  pub other_goes_on : Leads (on_null (gc_then (gc.StructGet 2 0) (drop_then end))) (first_pair ∷ num 5 ∷ [])
      (silent ∷ giving (num 7 ∷ []) ∷ silent ∷ []) silent (returns 5)
  pub other_branches : LeadsFrom (in_place references (first_pair ∷ []) (on_other unreachable)) [] silent
      (returned (first_pair ∷ []))
  pub null_goes_on : Leads (on_other end) (nothing ∷ num 5 ∷ []) (silent ∷ []) silent (returns 5)
  pub null_traps : Leads (control_then control.RefAsNonNull unreachable) (nothing ∷ []) [] silent trapped
  pub other_passes : Leads (control_then control.RefAsNonNull (gc_then (gc.StructGet 2 0) end)) (first_pair ∷ [])
      (silent ∷ giving (num 7 ∷ []) ∷ []) silent (returns 7)

-- ---- calls

pub record CallsWorked : Type 0 where
  pub replaced : Leads (control_then (control.ReturnCallRef 0) unreachable) (own ∷ [])
      (silent ∷ giving (num 5 ∷ []) ∷ []) silent (returns 5)
  pub null_traps : Leads (control_then (control.ReturnCallRef 0) unreachable) (nothing ∷ []) [] silent trapped
  pub replaced_through : Leads (bulk_then (bulk.TableSet 0) (control_then (control.ReturnCallIndirect 0 0) unreachable))
      (own ∷ num 1 ∷ num 1 ∷ []) (silent ∷ finding own ∷ giving (num 5 ∷ []) ∷ []) silent (returns 5)
  pub null_through : Leads (control_then (control.ReturnCallIndirect 0 0) unreachable) (num 0 ∷ []) []
      (record silent { held = ref_null false func }) trapped
  pub past_the_table : Leads (control_then (control.ReturnCallIndirect 0 0) unreachable) (num 2 ∷ []) []
      trapping trapped
  -- what a host throws is caught around a call, and not around a tail call
  pub host_caught : Leads (handled (control_then (control.Call 6) (drop_then end))) []
      (silent ∷ silent ∷ host_throws 0 1 ∷ []) silent (returns 6)
  pub host_passes : Leads (handled (control_then (control.ReturnCall 6) unreachable)) [] (silent ∷ silent ∷ [])
      (host_throws 0 0) (thrown takes_i32 (num 6 ∷ []))

-- ---- exceptions of the older form

pub record DelegatesWorked : Type 0 where
  pub to_the_next : Leads (delegating 0) []
      (silent ∷ silent ∷ giving (num 6 ∷ []) ∷ throwing 1 1 0 ∷ silent ∷ []) silent (returns 6)
  pub past_it : Leads (delegating 1) [] (silent ∷ silent ∷ giving (num 6 ∷ []) ∷ []) (throwing 1 3 0)
      (thrown takes_i32 (num 6 ∷ []))

-- ---- casts and conversions

pub record CastsWorked : Type 0 where
  pub null_passes : Leads (gc_then (gc.BrOnCastFail 0 any_reference scalars) unreachable) (nothing ∷ []) (silent ∷ [])
      silent trapped
  pub null_fails : LeadsFrom (in_place references (nothing ∷ []) fails_or_passes)
      [] silent (returned (nothing ∷ []))
  pub scalar_passes : Leads (gc_then (gc.BrOnCastFail 0 any_reference scalars_alone) (gc_then gc.I31GetU end))
      (scalar ∷ []) (deciding ∷ making 4 ∷ []) silent (returns 4)
  pub object_fails : LeadsFrom (in_place references (first_pair ∷ []) fails_or_passes)
      [] silent (returned (first_pair ∷ []))
  pub null_extern : LeadsFrom (in_place externals (nothing ∷ []) (gc_then gc.ExternConvertAny end))
      (silent ∷ []) silent (returned (ref_null false extern ∷ []))
  pub null_any : LeadsFrom (in_place references (ref_null false extern ∷ []) (gc_then gc.AnyConvertExtern end))
      (silent ∷ []) silent (returned (ref_null false any ∷ []))
  pub signed_scalar : Leads (gc_then gc.RefI31 (gc_then gc.I31GetS end)) (num 4294967295 ∷ [])
      (giving (ref_i31 2147483647 ∷ []) ∷ making 4294967295 ∷ []) silent (returns 4294967295)

-- ---- objects

pub record ArraysWorked : Type 0 where
  pub of_a_segment : Leads (gc_then (gc.ArrayNewElem 4 1) first_number) (num 1 ∷ num 1 ∷ [])
      (record (giving (scalar ∷ [])) { made = 4 } ∷ giving (num 0 ∷ []) ∷ giving (scalar ∷ []) ∷ making 4 ∷ []) silent
      (returns 4)
  pub past_the_segment : Leads (gc_then (gc.ArrayNewElem 4 1) first_number) (num 2 ∷ num 1 ∷ []) [] trapping trapped
  pub fixed : Leads (gc_then (gc.ArrayNewFixed 4 2) first_number) (nothing ∷ scalar ∷ [])
      (making 4 ∷ giving (num 0 ∷ []) ∷ giving (scalar ∷ []) ∷ making 4 ∷ []) silent (returns 4)
  pub defaulted : Leads (gc_then (gc.ArrayNewDefault 6) (const_then (pos 1) (gc_then (gc.ArrayGetU 6) end)))
      (num 2 ∷ []) (making 4 ∷ giving (num 1 ∷ []) ∷ giving (num 0 ∷ []) ∷ []) silent (returns 0)
  pub struct_defaulted : Leads (gc_then (gc.StructNewDefault 2) (gc_then (gc.StructGet 2 0) end)) []
      (making 4 ∷ giving (num 0 ∷ []) ∷ []) silent (returns 0)
  pub written_over : Leads (gc_then (gc.ArrayInitElem 4 1) first_number)
      (num 1 ∷ num 1 ∷ num 0 ∷ some_cells ∷ some_cells ∷ [])
      (giving (scalar ∷ []) ∷ giving (num 0 ∷ []) ∷ giving (scalar ∷ []) ∷ making 4 ∷ []) silent (returns 4)
  -- a range is read before it is written
  pub copied : Leads (gc_then (gc.ArrayCopy 6 6) (gc_then (gc.ArrayGetU 6) end))
      (num 1 ∷ num 0 ∷ some_octets ∷ num 1 ∷ some_octets ∷ num 1 ∷ some_octets ∷ [])
      (giving (num 511 ∷ []) ∷ giving (num 255 ∷ []) ∷ []) silent (returns 255)
  pub constant : Leads (const_then (negsuc 0) end) [] (giving (num 4294967295 ∷ []) ∷ []) silent (returns 4294967295)

-- ---- locals, tables, memories

pub record AccessesWorked : Type 0 where
  pub teed : LeadsFrom (in_place (number i32 ∷ []) (num 9 ∷ [])
      (memory_then (memory.LocalTee 0) (drop_then (memory_then (memory.LocalGet 0) end))))
      (silent ∷ silent ∷ silent ∷ []) silent (returns 9)
  pub table_filled : Leads (bulk_then (bulk.TableFill 0) (bulk_then (bulk.TableGet 0) (bulk_then bulk.RefIsNull end)))
      (num 1 ∷ own ∷ num 1 ∷ num 1 ∷ []) (silent ∷ giving (own ∷ []) ∷ making 0 ∷ []) silent (returns 0)
  pub table_copied : Leads (bulk_then (bulk.TableSet 0) (bulk_then (bulk.TableCopy 0 0)
      (bulk_then (bulk.TableGet 0) (bulk_then bulk.RefIsNull end))))
      (own ∷ num 1 ∷ num 1 ∷ num 1 ∷ num 0 ∷ num 0 ∷ [])
      (silent ∷ giving (own ∷ []) ∷ giving (own ∷ []) ∷ making 0 ∷ []) silent (returns 0)
  pub past_the_table : Leads (bulk_then (bulk.TableCopy 0 0) end) (num 2 ∷ num 1 ∷ num 0 ∷ []) [] trapping trapped
  pub not_grown : Leads (bulk_then (bulk.TableGrow 0) end) (num 1 ∷ own ∷ []) (giving (num 4294967295 ∷ []) ∷ []) silent
      (returns 4294967295)
  pub memory_grown : Leads (memory_then (memory.MemoryGrow 0) end) (num 1 ∷ []) (giving (num 8 ∷ []) ∷ []) silent
      (returns 8)
  pub memory_copied : Leads (bulk_then (bulk.MemoryCopy 0 0) end) (num 1 ∷ num 0 ∷ num 2 ∷ num 3 ∷ []) (silent ∷ [])
      silent (returns 3)
  -- two bytes from the second on become zeros; past the end there is a trap alone
  pub memory_discarded : Leads (bulk_then (bulk.MemoryDiscard 0) (memory_then (memory.I32Load (at 0 0)) end))
      (num 2 ∷ num 1 ∷ num 0 ∷ []) (silent ∷ giving (num 4261412865 ∷ []) ∷ []) silent (returns 4261412865)
  pub no_other_bytes : (u : Store) → GivesStep program (discarding (num 2 ∷ num 1 ∷ [])) store silent u
      → memory_in u 0 ≡ 1 ∷ 0 ∷ 0 ∷ 254 ∷ 5 ∷ 6 ∷ 7 ∷ 128 ∷ []
  pub discarded_last : Leads (bulk_then (bulk.MemoryDiscard 0) end) (num 2 ∷ num 6 ∷ num 3 ∷ []) (silent ∷ []) silent
      (returns 3)
  pub discarded_past : (a : Answer) (u : Store) → GivesStep program (discarding (num 2 ∷ num 7 ∷ [])) store a u
      → a.traps ≡ true

pub record ArmsWorked : Type 0 where
  pub branches : BranchesWorked
  pub calls : CallsWorked
  pub delegates : DelegatesWorked
  pub casts : CastsWorked
  pub arrays : ArraysWorked
  pub accesses : AccessesWorked
