-- Some answer fits at each configuration that typed code reaches: a trap, or the null of a type.
use Rattle.std.proofs.Common.{ℕ, false, List, [], ◌∷◌, get_or, Option, Some, None, slice_get}
use Rattle.std.specs.Prelude.{All}
use Rattle.wasm_types.specs.trees.declared.index.UnpackedIndex.{UnpackedIndex}
use Rattle.wasm_types.specs.trees.declared.index.UnpackedIndex.TheVariants as index
use Rattle.wasm_types.specs.trees.Types.{HeapOf, abstract, concrete, exact, heap_map}
use Rattle.wasm_types.specs.trees.Trees.{TypeTree}
use Rattle.wasm_types.specs.trees.Each.{EachHeap}
use Rattle.wasm_types.specs.trees.Chains.{IsSound}
use Rattle.wasm_types.specs.values.Trees.{heap_of}
use Rattle.wasm_operators_enums.specs.declared.control.ControlOperator.{ControlOperator}
use Rattle.wasm_operators_enums.specs.declared.control.ControlOperator.TheVariants as control
use Rattle.wasm_operators_enums.specs.declared.memory.MemoryOperator.{MemoryOperator}
use Rattle.wasm_operators_enums.specs.declared.memory.MemoryOperator.TheVariants as memory
use Rattle.wasm_operators_enums.specs.declared.bulk.BulkOperator.{BulkOperator}
use Rattle.wasm_operators_enums.specs.declared.bulk.BulkOperator.TheVariants as bulk
use Rattle.wasm_operators_immediates.specs.declared.frames.FrameKind.{FrameKind}
use Rattle.wasm_operators_immediates.specs.declared.frames.FrameKind.TheVariants as frames
use Rattle.wasm_operators_enums.specs.declared.role.Role.{Role}
use Rattle.wasm_operators_enums.specs.declared.role.Role.TheVariants.{Opens}
use Rattle.wasm_operators_enums.specs.Roles.{role_of}
use Rattle.wasm_operators_enums.specs.Op as op
use Rattle.wasm_operators_enums.specs.Op.{Op, ParametricTree}
use Rattle.wasm_operators_encoding.specs.expressions.Code.{Code, close, plain, nested, turn}
use Rattle.wasm_operator_validator_rules.specs.Operands.{ValueType, Operand}
use Rattle.wasm_operator_validator_rules.specs.Context.{Context, Module, Table, Initialised, Signature, Frame, written_type, IsTypeIndex}
use Rattle.wasm_operator_validator_rules.specs.Row.{BulkRow}
use Rattle.wasm_operator_validator_rules.specs.Typed.{block_type_of, Typed}
use Rattle.wasm_operator_validator_soundness.specs.Values.{Value}
use Rattle.wasm_operator_validator_soundness.specs.States.{Configuration, traps, Answer}
use Rattle.wasm_operator_validator_soundness.specs.Machine.{function_type, signature_for, context_at}
use Rattle.wasm_operator_validator_soundness.specs.Machine.{open_if, opens, enter, label_at, branch}
use Rattle.wasm_operator_validator_soundness.specs.Machine.{branch_if, branch_by, call, return_call, call_indirect, return_call_indirect, operate_control}
use Rattle.wasm_operator_validator_soundness.specs.Machine.{drop_from, select_from, operate_parametric, get_local, set_local, set_from, tee_from, operate_memory}
use Rattle.wasm_operator_validator_soundness.specs.Machine.{is_null, function_at, init_table, copy_table, operate_bulk, operate, execute, reduce}
use Rattle.wasm_operator_validator_soundness.specs.Beginning.{null_value, AnswersExist}
use Rattle.wasm_operator_validator_soundness.proofs.Invariant.{IsFine}
use Rattle.wasm_operator_validator_soundness.proofs.Beginning.{nulls_given}
use Rattle.wasm_operator_validator_soundness.proofs.Steps.{begins_fine, runs_fine}

-- a trap, with these values
abbrev trap : List Value → Answer
trap vs = record { values = vs; taken = 0; condition = false; index = 0; way = traps }

-- a type that a module may write is one of its own
written_sound : (m : Module) (h : HeapOf UnpackedIndex) → All IsSound m.types → EachHeap (IsTypeIndex m) h → EachHeap IsSound (heap_map (written_type m) h)
written_sound m (abstract s a) i e = tt
written_sound m (concrete (index.Module n)) i e = i n _ e
written_sound m (concrete (index.RecGroup n)) i e = absurd e
written_sound m (concrete (index.Id x)) i e = absurd e
written_sound m (exact (index.Module n)) i e = i n _ e
written_sound m (exact (index.RecGroup n)) i e = absurd e
written_sound m (exact (index.Id x)) i e = absurd e

module _ (g : Context) (k : Configuration) where
  abbrev a : Answer
  a = trap []

  -- ---- blocks

  if_free : (o : Op) (b : Signature) (body : Code) (ws : List Value) (more : Code) → (open_if g a k o b body ws more).answered
  if_free o b body [] more = tt
  if_free o b body (c ∷ ws) more = tt

  opens_free : (j : FrameKind) (b : Option Signature) (o : Op) (body more : Code) → (opens g a k j b o body more).answered
  opens_free j None o body more = tt
  opens_free frames.If (Some b) o body more = if_free o b body k.innermost.values more
  opens_free j (Some b) o body more = tt

  enter_free : (r : Role) (o : Op) (body more : Code) → (enter g a k r o body more).answered
  enter_free (Opens j) o body more = opens_free j (signature_for g (block_type_of o)) o body more
  enter_free r o body more = tt

  -- ---- branches, returns and calls

  branch_free : (n : ℕ) (o : Option (List ValueType)) → (branch g a k n o).answered
  branch_free n None = tt
  branch_free n (Some ts) = tt

  branch_if_free : (n : ℕ) (o : Option (List ValueType)) (ws : List Value) (more : Code) → (branch_if g a k n o ws more).answered
  branch_if_free n None ws more = tt
  branch_if_free n (Some ts) [] more = tt
  branch_if_free n (Some ts) (c ∷ ws) more = tt

  branch_by_free : (n : ℕ) (o : Option (List ValueType)) (ws : List Value) → (branch_by g a k n o ws).answered
  branch_by_free n None ws = tt
  branch_by_free n (Some ts) [] = tt
  branch_by_free n (Some ts) (c ∷ ws) = tt

  call_free : (o : Option Signature) (more : Code) → (call g a k o more).answered
  call_free None more = tt
  call_free (Some b) more = tt

  return_call_free : (o : Option Signature) → (return_call g a k o).answered
  return_call_free None = tt
  return_call_free (Some b) = tt

  call_indirect_free : (t : Option Table) (o : Option Signature) (more : Code) → (call_indirect g a k t o more).answered
  call_indirect_free None o more = tt
  call_indirect_free (Some t) None more = tt
  call_indirect_free (Some t) (Some b) more = tt

  return_call_indirect_free : (t : Option Table) (o : Option Signature) (ws : List Value) → (return_call_indirect g a k t o ws).answered
  return_call_indirect_free None o ws = tt
  return_call_indirect_free (Some t) None ws = tt
  return_call_indirect_free (Some t) (Some b) [] = tt
  return_call_indirect_free (Some t) (Some b) (c ∷ ws) = tt

  control_free : (o : ControlOperator) (more : Code) → (operate_control g a k o more).answered
  control_free (control.Br n) more = branch_free n (label_at g a k n)
  control_free (control.BrIf n) more = branch_if_free n (label_at g a k n) k.innermost.values more
  control_free (control.BrTable t) more = branch_by_free (get_or t.targets 0 t.default) (label_at g a k (get_or t.targets 0 t.default)) k.innermost.values
  control_free (control.Call x) more = call_free (function_type (slice_get g.«module».functions x)) more
  control_free (control.CallIndirect y x) more = call_indirect_free (slice_get g.«module».tables x) (function_type (slice_get g.«module».types y)) more
  control_free (control.ReturnCall x) more = return_call_free (function_type (slice_get g.«module».functions x))
  control_free (control.ReturnCallIndirect y x) more = return_call_indirect_free (slice_get g.«module».tables x) (function_type (slice_get g.«module».types y)) k.innermost.values
  control_free o more = tt

  -- ---- parametric instructions, and locals

  drop_free : (ws : List Value) (more : Code) → (drop_from g a k ws more).answered
  drop_free [] more = tt
  drop_free (v ∷ ws) more = tt

  select_free : (K : Value → Value → Type 0) (ws : List Value) (more : Code) → (select_from g a k K ws more).answered
  select_free K [] more = tt
  select_free K (c ∷ []) more = tt
  select_free K (c ∷ w ∷ []) more = tt
  select_free K (c ∷ w ∷ v ∷ ws) more = tt

  parametric_free : (o : ParametricTree) (more : Code) → (operate_parametric g a k o more).answered
  parametric_free op.Drop more = drop_free k.innermost.values more
  parametric_free op.Select more = select_free _ k.innermost.values more
  parametric_free (op.TypedSelect written) more = select_free _ k.innermost.values more
  parametric_free o more = tt

  get_free : (o : Option (Option Value)) (more : Code) → (get_local g a k o more).answered
  get_free None more = tt
  get_free (Some None) more = tt
  get_free (Some (Some v)) more = tt

  set_free : (x : ℕ) (o : Option ValueType) (v : Value) (ws : List Value) (more : Code) → (set_local g a k x o v ws more).answered
  set_free x None v ws more = tt
  set_free x (Some t) v ws more = tt

  set_from_free : (x : ℕ) (ws : List Value) (more : Code) → (set_from g a k x ws more).answered
  set_from_free x [] more = tt
  set_from_free x (v ∷ ws) more = set_free x (slice_get g.locals x) v ws more

  tee_from_free : (x : ℕ) (ws : List Value) (more : Code) → (tee_from g a k x ws more).answered
  tee_from_free x [] more = tt
  tee_from_free x (v ∷ ws) more = set_free x (slice_get g.locals x) v (v ∷ ws) more

  memory_free : (o : MemoryOperator) (more : Code) → (operate_memory g a k o more).answered
  memory_free (memory.LocalGet x) more = get_free (slice_get k.locals x) more
  memory_free (memory.LocalSet x) more = set_from_free x k.innermost.values more
  memory_free (memory.LocalTee x) more = tee_from_free x k.innermost.values more
  memory_free o more = tt

  -- ---- references, and copies into tables

  is_null_free : (ws : List Value) (more : Code) → (is_null g a k ws more).answered
  is_null_free [] more = tt
  is_null_free (v ∷ ws) more = tt

  function_free : (o : Option TypeTree) (more : Code) → (function_at g a k o more).answered
  function_free None more = tt
  function_free (Some t) more = tt

  init_free : (o : Option ValueType) (t : Option Table) (more : Code) → (init_table g a k o t more).answered
  init_free None t more = tt
  init_free (Some s) None more = tt
  init_free (Some s) (Some t) more = tt

  copy_free : (t s : Option Table) (more : Code) → (copy_table g a k t s more).answered
  copy_free None s more = tt
  copy_free (Some t) None more = tt
  copy_free (Some t) (Some s) more = tt

  bulk_answer : (o : BulkOperator) (more : Code) (popped pushed : List Operand) → All IsSound g.«module».types → BulkRow (context_at g k) o popped pushed
      → (b : Answer) × (operate_bulk g b k o more).answered
  bulk_answer (bulk.RefNull h) more popped pushed i r =
      let n = heap_map (written_type g.«module») (heap_of h) in (trap (null_value n ∷ []), nulls_given n (written_sound g.«module» (heap_of h) i (r.1).known))
  bulk_answer bulk.RefIsNull more popped pushed i r = (a, is_null_free k.innermost.values more)
  bulk_answer (bulk.RefFunc x) more popped pushed i r = (a, function_free (slice_get g.«module».functions x) more)
  bulk_answer (bulk.TableInit e x) more popped pushed i r = (a, init_free (slice_get g.«module».elements e) (slice_get g.«module».tables x) more)
  bulk_answer (bulk.TableCopy x y) more popped pushed i r = (a, copy_free (slice_get g.«module».tables x) (slice_get g.«module».tables y) more)
  bulk_answer o more popped pushed i r = (a, tt)

  -- ---- all instructions

  operate_answer : (o : Op) (more : Code) (f : Frame) (set : Initialised) (s : List Operand) → All IsSound g.«module».types → Typed (context_at g k) f set (plain o more) s
      → (b : Answer) × (operate g b k o more).answered
  operate_answer (op.Control o) more f set s i t = (a, control_free o more)
  operate_answer (op.Parametric o) more f set s i t = (a, parametric_free o more)
  operate_answer (op.Memory o) more f set s i t = (a, memory_free o more)
  operate_answer (op.Bulk o) more f set s i t = bulk_answer o more t.1.0 t.1.1 i t.1.3.1
  operate_answer o more f set s i t = (a, tt)

  execute_answer : (c : Code) (f : Frame) (set : Initialised) (s : List Operand) → All IsSound g.«module».types → Typed (context_at g k) f set c s
      → (b : Answer) × (execute g b k c).answered
  execute_answer (close o) f set s i t = (a, tt)
  execute_answer (plain o more) f set s i t = operate_answer o more f set s i t
  execute_answer (nested o body more) f set s i t = (a, enter_free (role_of o) o body more)
  execute_answer (turn o more) f set s i t = (a, tt)

fine_answer : (g : Context) (k : Configuration) → All IsSound g.«module».types → IsFine g k → (b : Answer) × (reduce g k b).answered
fine_answer g k i w = let l = w.labels.0 in execute_answer g k k.innermost.code (record { kind = l.kind; block = k.innermost.block; before = l.before }) l.set l.operands i l.typed

pub answers_exist : AnswersExist
answers_exist g params c locals answers k e h b l r i = fine_answer g k i (runs_fine g _ answers k (begins_fine g params c locals e h b l) r)
