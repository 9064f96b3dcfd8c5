-- Worked steps over a store: what is read is what was written, and what traps. Each row is some code above some values and a store, the
-- answers that the store gives, and what comes of it.
use Rattle.std.specs.Prelude.{pos, true, false, [], ◌∷◌}
use Rattle.wasm_types.specs.trees.Types.{func}
use Rattle.wasm_types.specs.trees.declared.index.UnpackedIndex.TheVariants as index
use Rattle.wasm_types.specs.values.declared.heap.HeapType.TheVariants as written_heap
use Rattle.wasm_operators_immediates.specs.declared.block.BlockType.TheVariants as block
use Rattle.wasm_operators_enums.specs.declared.bulk.BulkOperator.TheVariants as bulk
use Rattle.wasm_operators_enums.specs.declared.control.ControlOperator.TheVariants as control
use Rattle.wasm_operators_enums.specs.declared.gc.GcOperator.TheVariants as gc
use Rattle.wasm_operators_enums.specs.declared.memory.MemoryOperator.TheVariants as memory
use Rattle.wasm_operators_enums.specs.Op as op
use Rattle.wasm_operators_encoding.specs.expressions.Code.{Code, plain, nested}
use Rattle.wasm_operator_validator_soundness.specs.runs.Values.{ref_null, ref_extern, ref_exn}
use Rattle.wasm_operator_validator_soundness.specs.runs.States.{trapped, thrown}
use Rattle.wasm_operator_validator_soundness.specs.runs.worked.Runs.{silent, standing, throw, i32_block, end, takes_i32}
use Rattle.wasm_operator_validator_store.specs.Stores.{nothing}
use Rattle.wasm_operator_validator_store.specs.Soundness.{IsAnsweredOver}
use Rattle.wasm_operator_validator_store.specs.worked.Program.{num, first_pair, other_pair, some_cells, some_octets, scalar, own, giving, making, trapping, finding, throwing, guarded, program, store, numbers, Leads, returns, gc_then, bulk_then, const_then, drop_then, unreachable, control_then}

abbrev pub indirect : Code
indirect = control_then (control.CallIndirect 0 0) end

-- a block, in which a handler is for both tags, and an exception of the first tag with a number is thrown
abbrev pub handled : Code → Code
handled c = nested i32_block (nested guarded c unreachable) end

abbrev pub catching : Code
catching = handled (const_then (pos 6) (plain throw end))

-- ---- the rows

pub record RowsWorked : Type 0 where
  -- a field is read as it was written; that of another object is as it was; and a new object has the fields that it was made of
  pub field : Leads (gc_then (gc.StructSet 2 0) (gc_then (gc.StructGet 2 0) end)) (num 9 ∷ first_pair ∷ first_pair ∷ [])
      (silent ∷ giving (num 9 ∷ []) ∷ []) silent (returns 9)
  pub other_field : Leads (gc_then (gc.StructSet 2 0) (gc_then (gc.StructGet 2 0) end))
      (num 9 ∷ first_pair ∷ other_pair ∷ []) (silent ∷ giving (num 8 ∷ []) ∷ []) silent (returns 8)
  pub new : Leads (gc_then (gc.StructNew 2) (gc_then (gc.StructGet 2 0) end)) (num 5 ∷ [])
      (making 4 ∷ giving (num 5 ∷ []) ∷ []) silent (returns 5)
  -- elements that are filled are read; past the end there is a trap, and so there is at a null
  pub filled : Leads (gc_then (gc.ArrayFill 4) (gc_then (gc.ArrayGet 4) (gc_then gc.I31GetU end)))
      (num 2 ∷ scalar ∷ num 1 ∷ some_cells ∷ num 2 ∷ some_cells ∷ [])
      (silent ∷ giving (scalar ∷ []) ∷ making 4 ∷ []) silent (returns 4)
  pub not_filled : Leads (gc_then (gc.ArrayFill 4) (gc_then (gc.ArrayGet 4) (bulk_then bulk.RefIsNull end)))
      (num 2 ∷ scalar ∷ num 1 ∷ some_cells ∷ num 0 ∷ some_cells ∷ [])
      (silent ∷ giving (nothing ∷ []) ∷ making 1 ∷ []) silent (returns 1)
  pub past_the_end : Leads (gc_then (gc.ArrayGet 4) end) (num 3 ∷ some_cells ∷ []) [] trapping trapped
  pub null_field : Leads (gc_then (gc.StructGet 2 0) end) (nothing ∷ []) [] trapping trapped
  pub length : Leads (gc_then gc.ArrayLen end) (some_cells ∷ []) (making 3 ∷ []) silent (returns 3)
  -- a packed element is extended, without a sign and with one
  pub unsigned : Leads (gc_then (gc.ArrayGetU 6) end) (num 0 ∷ some_octets ∷ []) (giving (num 255 ∷ []) ∷ []) silent
      (returns 255)
  pub signed : Leads (gc_then (gc.ArrayGetS 6) end) (num 1 ∷ some_octets ∷ []) (giving (num 4294967168 ∷ []) ∷ [])
      silent (returns 4294967168)
  -- references are equal if they name one object
  pub equal : Leads (gc_then gc.RefEq end) (first_pair ∷ first_pair ∷ []) (making 1 ∷ []) silent (returns 1)
  pub not_equal : Leads (gc_then gc.RefEq end) (first_pair ∷ other_pair ∷ []) (making 0 ∷ []) silent (returns 0)
  -- an object that was made external is itself again
  pub external : Leads (gc_then gc.ExternConvertAny (gc_then gc.AnyConvertExtern (gc_then gc.RefEq end)))
      (first_pair ∷ first_pair ∷ []) (giving (ref_extern 0 ∷ []) ∷ giving (first_pair ∷ []) ∷ making 1 ∷ []) silent
      (returns 1)
  -- a cast passes exactly if the object is of the type
  pub cast_fails : Leads (gc_then (gc.RefCastNonNull (written_heap.Concrete (index.Module 3))) end) (first_pair ∷ []) [] silent
      trapped
  pub tested : Leads (gc_then (gc.RefTestNonNull (written_heap.Concrete (index.Module 2))) end) (first_pair ∷ [])
      (record silent { condition = true; made = 1 } ∷ []) silent (returns 1)
  -- a call through a table finds what was written there, if it is of the type, and a null traps
  pub called : Leads (bulk_then (bulk.TableSet 0) indirect) (own ∷ num 1 ∷ num 1 ∷ [])
      (silent ∷ finding own ∷ giving (num 5 ∷ []) ∷ silent ∷ []) silent (returns 5)
  pub null_called : Leads indirect (num 0 ∷ []) [] (record silent { held = ref_null false func }) trapped
  -- a segment is there until it is dropped
  pub initialised : Leads (bulk_then (bulk.TableInit 0 0) (bulk_then (bulk.TableGet 0) (bulk_then bulk.RefIsNull end)))
      (num 1 ∷ num 1 ∷ num 1 ∷ num 1 ∷ [])
      (giving (own ∷ []) ∷ giving (own ∷ []) ∷ making 0 ∷ []) silent (returns 0)
  pub dropped : Leads (bulk_then (bulk.ElemDrop 0) (bulk_then (bulk.TableInit 0 0) end)) (num 1 ∷ num 0 ∷ num 0 ∷ [])
      (silent ∷ []) trapping trapped
  pub grown : Leads (bulk_then (bulk.TableGrow 0) (drop_then (bulk_then (bulk.TableSize 0) end)))
      (num 1 ∷ own ∷ []) (giving (num 2 ∷ []) ∷ silent ∷ giving (num 3 ∷ []) ∷ []) silent (returns 3)
  -- a global is read as it was written
  pub global : Leads (plain (op.Memory (memory.GlobalSet 0)) (plain (op.Memory (memory.GlobalGet 0)) end)) (num 9 ∷ [])
      (silent ∷ giving (num 9 ∷ []) ∷ []) silent (returns 9)
  pub other_global : Leads (plain (op.Memory (memory.GlobalSet 0)) (plain (op.Memory (memory.GlobalGet 1)) end))
      (num 9 ∷ []) (silent ∷ giving (num 2 ∷ []) ∷ []) silent (returns 2)
  -- a condition is what is on top
  pub decided : Leads (nested (op.Control (control.If block.Empty)) (plain (op.Control control.Unreachable) end) end)
      (num 0 ∷ num 3 ∷ []) (silent ∷ silent ∷ []) silent (returns 3)
  -- of two tags of one type the clause catches that is for the tag itself, and hands on the values; a reference throws them again
  pub caught : Leads catching []
      (silent ∷ silent ∷ giving (num 6 ∷ []) ∷ throwing 1 0 1 ∷ []) silent (returns 6)
  pub thrown_again : Leads (plain (op.Exception op.ThrowRef) end) (ref_exn 0 takes_i32 ∷ []) []
      (record (throwing 0 1 0) { values = num 6 ∷ [] }) (thrown takes_i32 (num 6 ∷ []))
  -- past the end of an array a trap is given; what an external reference names is given, if something is there
  pub answered : IsAnsweredOver program (standing numbers (num 3 ∷ some_cells ∷ []) (gc_then (gc.ArrayGet 4) end)) store
  pub unknown_extern : IsAnsweredOver program
      (standing numbers (ref_extern 9 ∷ []) (gc_then gc.AnyConvertExtern end)) store → ⊥
