-- The same of each operator.
use Rattle.std.proofs.Common.{◌≡◌, ℕ, Bool, true, false, IsTrue, List, [], ◌∷◌, ◌++◌, Option, Some, None, subst, get_or, slice_get, slice_set}
use Rattle.std.specs.Prelude.{◌&&◌, flat_map, replicate, if◌then◌else◌}
use Rattle.wasm_types.specs.trees.Types.{i32, Abstract, HeapOf, abstract, concrete, ref, StorageOf, FieldOf, InnerOf, any, extern, array, i31}
use Rattle.wasm_types.specs.trees.Trees.{TypeTree}
use Rattle.wasm_types.specs.trees.Below.{expanded}
use Rattle.wasm_types.specs.values.Reference.{Reference}
use Rattle.wasm_types.specs.values.declared.heap.HeapType.{HeapType}
use Rattle.wasm_operators_immediates.specs.declared.block.BlockType.{BlockType}
use Rattle.wasm_operators_immediates.specs.declared.memory.MemArg.{MemArg}
use Rattle.wasm_operators_enums.specs.declared.control.ControlOperator.{ControlOperator}
use Rattle.wasm_operators_enums.specs.declared.control.ControlOperator.TheVariants as control
use Rattle.wasm_operators_enums.specs.declared.memory.MemoryOperator.{MemoryOperator}
use Rattle.wasm_operators_enums.specs.declared.memory.MemoryOperator.TheVariants as memory
use Rattle.wasm_operators_enums.specs.declared.bulk.BulkOperator.{BulkOperator}
use Rattle.wasm_operators_enums.specs.declared.bulk.BulkOperator.TheVariants as bulk
use Rattle.wasm_operators_enums.specs.declared.atomic.AtomicOperator.{AtomicOperator}
use Rattle.wasm_operators_enums.specs.declared.atomic.AtomicOperator.TheVariants as atomic
use Rattle.wasm_operators_enums.specs.declared.gc.GcOperator.{GcOperator}
use Rattle.wasm_operators_enums.specs.declared.gc.GcOperator.TheVariants as gc
use Rattle.wasm_operators_enums.specs.Table.{info_of}
use Rattle.wasm_operators_enums.specs.Immediates.{immediates_of}
use Rattle.wasm_operators_enums.specs.Op as op
use Rattle.wasm_operators_enums.specs.Op.{Op, ParametricTree, ExceptionTree}
use Rattle.wasm_operators_encoding.specs.expressions.Code.{Code, close, plain, nested, turn}
use Rattle.wasm_operator_validator_rules.specs.Operands.{ValueType}
use Rattle.wasm_operator_validator_rules.specs.Context.{Table, Global, Signature}
use Rattle.wasm_operator_validator_rules.specs.InstructionTypes.{i32_type}
use Rattle.wasm_types.specs.externs.declared.memory.MemoryType.{MemoryType}
use Rattle.wasm_operator_validator_rules.specs.Numbers.{numbers}
use Rattle.wasm_operator_validator_soundness.specs.runs.Values.{Function, Program, Value, number_value, ref_null, ref_function, ref_object, ref_i31, ref_host, ref_extern, ref_exn, least_type, null_of, Fits}
use Rattle.wasm_operator_validator_soundness.specs.runs.Names.{Places, accessed, argument_of}
use Rattle.wasm_operator_validator_soundness.specs.runs.States.{Continuation, behind, again, Handlers, no_handlers, table, clauses, Exception, Activation, Answer}
use Rattle.wasm_operator_validator_soundness.specs.runs.States.{next, trapped, Move, done, asks, allows, choose, found, pops}
use Rattle.wasm_operator_validator_soundness.specs.runs.Machine.{IsWhole, IsPacked, HaveDefaults, IsArray, IsUnboxed, gives, IsCallable, AreStoredAlike, FromData, meant_heap, function_type, address, operand_of, may_trap, body_of, named, last_of, either_part, operands_of, struct_fields, array_fields, writes, copies, goes, going, exchange, compute, access, within, opens, enter, branch, branch_if, invoke, call, call_reference, call_indirect, operate_control, throw_reference, caught_at, operate_exception, select, operate_parametric, set_local, operate_memory, operate_bulk, operate_atomic, object, object_under, read, write, make, stores_from, cast_top, cast_from, number_from, null_in, convert, operate_gc, operate_vector, operate, end, execute}
use Rattle.wasm_operator_validator_store.specs.ValidStores.{Each, HasLocal, HasLabel, HasActivation, HasState}
use Rattle.wasm_operator_validator_store.proofs.Lists.{each_append, each_get, each_set}
use Rattle.wasm_operator_validator_store.proofs.Keeping.{IsPlain, Keeps, done_keeps, stop_keeps, asks_keeps, allows_keeps, choose_keeps, found_keeps, pops_keeps, null_kept, takes_keeps, gives_keeps, may_trap_keeps, hand_back_keeps, come_out_keeps, jump_keeps, unwind_keeps, again_keeps, begin_keeps}

-- what is on top is such a one
abbrev pub OnTop : (Value → Type 0) → List Value → Type 0
OnTop F [] = Unit {0}
OnTop F (v ∷ vs) = F v

module _ (K : Value → Type 0) (p : Program) (a : Answer) (act : Activation) (acts : List Activation) where
  -- ---- what an operator makes or throws

  abbrev pub HostNew : Type 0
  HostNew = (u : TypeTree) → a.throws ≡ Some u → K (ref_exn a.made u)

  abbrev pub CallsNew : Value → Type 0
  CallsNew (ref_function i t) = body_of (named p a i) ≡ None → HostNew
  CallsNew v = Unit {0}

  abbrev pub ControlNew : ControlOperator → Type 0
  ControlNew (control.Call x) = body_of (slice_get p.functions x) ≡ None → HostNew
  ControlNew (control.ReturnCall x) = body_of (slice_get p.functions x) ≡ None → HostNew
  ControlNew (control.CallIndirect y x) = a.traps ≡ false → a.condition ≡ true → CallsNew a.held
  ControlNew (control.ReturnCallIndirect y x) = a.traps ≡ false → a.condition ≡ true → CallsNew a.held
  ControlNew (control.CallRef x) = OnTop CallsNew act.innermost.values
  ControlNew (control.ReturnCallRef x) = OnTop CallsNew act.innermost.values
  ControlNew o = Unit {0}

  abbrev pub ThrownNew : Value → Type 0
  ThrownNew (ref_exn k t) = K (ref_exn a.made t)
  ThrownNew v = Unit {0}

  abbrev pub ExceptionNew : ExceptionTree → Type 0
  ExceptionNew (op.Throw x) = (t : TypeTree) → slice_get p.«module».tags x ≡ Some t → K (ref_exn a.made t)
  ExceptionNew op.ThrowRef = OnTop ThrownNew act.innermost.values
  ExceptionNew (op.Rethrow n) = (e : Exception) → caught_at p a act acts n (act.innermost ∷ act.around) ≡ Some e → K (ref_exn a.made e.type)
  ExceptionNew o = Unit {0}

  abbrev pub MadeNew : ℕ → Type 0
  MadeNew x = (t : TypeTree) → slice_get p.«module».types x ≡ Some t → a.traps ≡ false → K (ref_object a.made t)

  abbrev pub GcNew : GcOperator → Type 0
  GcNew (gc.StructNew x) = (t : TypeTree) → slice_get p.«module».types x ≡ Some t → K (ref_object a.made t)
  GcNew (gc.StructNewDefault x) = (t : TypeTree) → slice_get p.«module».types x ≡ Some t → K (ref_object a.made t)
  GcNew (gc.ArrayNew x) = (t : TypeTree) → slice_get p.«module».types x ≡ Some t → K (ref_object a.made t)
  GcNew (gc.ArrayNewDefault x) = (t : TypeTree) → slice_get p.«module».types x ≡ Some t → K (ref_object a.made t)
  GcNew (gc.ArrayNewFixed x n) = (t : TypeTree) → slice_get p.«module».types x ≡ Some t → K (ref_object a.made t)
  GcNew (gc.ArrayNewData x d) = MadeNew x
  GcNew (gc.ArrayNewElem x e) = MadeNew x
  GcNew gc.RefEq = K (number_value i32 a.made)
  GcNew (gc.RefTestNonNull h) = K (number_value i32 a.made)
  GcNew (gc.RefTestNullable h) = K (number_value i32 a.made)
  GcNew gc.ArrayLen = a.traps ≡ false → K (number_value i32 a.made)
  GcNew gc.I31GetS = a.traps ≡ false → K (number_value i32 a.made)
  GcNew gc.I31GetU = a.traps ≡ false → K (number_value i32 a.made)
  GcNew o = Unit {0}

  abbrev pub BulkNew : BulkOperator → Type 0
  BulkNew bulk.RefIsNull = K (number_value i32 a.made)
  BulkNew o = Unit {0}

  abbrev pub New : Op → Type 0
  New (op.Control o) = ControlNew o
  New (op.Exception o) = ExceptionNew o
  New (op.Bulk o) = BulkNew o
  New (op.Gc o) = GcNew o
  New o = Unit {0}

  abbrev pub CodeNew : Code → Type 0
  CodeNew (plain o more) = New o
  CodeNew c = Unit {0}

  module _ (simple : IsPlain K) (answered : Each K a.values) (h : HasActivation K act) (s : HasState K acts) where
    abbrev vs : List Value
    vs = act.innermost.values

    abbrev held : Each K act.innermost.values
    held = h.innermost.values

    abbrev labels : Each (HasLabel K) (act.innermost ∷ act.around)
    labels = (h.innermost, h.around)

    pub goes_keeps : (ws : List Value) (more : Code) → Each K ws → Keeps K (goes p a act acts ws more)
    goes_keeps ws more w = done_keeps K simple (next (going p a act acts ws more ∷ acts)) (
      record { locals = h.locals; innermost = record { values = w; caught = h.innermost.caught }; around = h.around },
      s,
    )

    pub trap_keeps : (m : Move) → (a.traps ≡ false → Keeps K m) → Keeps K (may_trap p a m)
    trap_keeps m k = choose_keeps K simple a.traps (done trapped) m (λ e. done_keeps K simple trapped tt) k

    pub exchange_keeps : (ts us : List ValueType) (more : Code) → Keeps K (exchange p a act acts ts us more)
    exchange_keeps ts us more = takes_keeps K simple p a answered ts vs _ held (λ xs ws i j.
        may_trap_keeps K simple p a answered _ (gives_keeps K simple p a answered us _ (λ rs k. goes_keeps (rs ++ ws) more (each_append K rs ws k j))))

    pub compute_keeps : (o : Op) (more : Code) → Keeps K (compute p a act acts o more)
    compute_keeps o more = found_keeps K simple {A = Places} _ _ (λ (n : Places) e. exchange_keeps (numbers n.takes) (numbers n.gives) more)

    pub access_keeps : (o : Op) (more : Code) → Keeps K (access p a act acts o more)
    access_keeps o more = found_keeps K simple {A = MemArg} (argument_of (immediates_of o)) _ (λ (i : MemArg) d. found_keeps K simple {A = MemoryType} (slice_get p.«module».memories i.memory) _ (λ (t : MemoryType) e.
        found_keeps K simple {A = Places} (accessed (info_of o).name) _ (λ (n : Places) f. exchange_keeps (address t.memory64 ∷ numbers n.takes) (numbers n.gives) more)))

    -- ---- blocks and branches

    pub opens_keeps : (bt : BlockType) (c : Continuation) (hs : Handlers) (body : Code) (ws : List Value) (more : Code) → Each K ws → Keeps K (opens p a act acts bt c hs body ws more)
    opens_keeps bt c hs body ws more w = found_keeps K simple {A = Signature} _ _ (λ (b : Signature) e. takes_keeps K simple p a answered b.params ws _ w (λ args us i j.
        done_keeps K simple (next (within p a act acts b c hs body args us more ∷ acts)) (
          record {
            locals = h.locals;
            innermost = record { values = i; caught = tt };
            around = (record { values = j; caught = h.innermost.caught }, h.around);
          },
          s,
        )))

    pub enter_keeps : (o : Op) (body more : Code) → Keeps K (enter p a act acts o body more)
    enter_keeps (op.Control (control.Block bt)) body more = opens_keeps bt behind no_handlers body vs more held
    enter_keeps (op.Control (control.Loop bt)) body more = opens_keeps bt (again body) no_handlers body vs more held
    enter_keeps (op.Control (control.If bt)) body more = pops_keeps K simple vs _ held (λ c ws k w. asks_keeps K simple _ _ (opens_keeps bt behind no_handlers (either_part a.condition body) ws more w))
    enter_keeps (op.Exception (op.Try bt)) body more = opens_keeps bt behind (clauses body) body vs more held
    enter_keeps (op.Exception (op.TryTable t)) body more = opens_keeps t.ty behind (table t.catches) body vs more held
    enter_keeps o body more = stop_keeps K simple

    pub branch_keeps : (n : ℕ) (ws : List Value) → Each K ws → Keeps K (branch p a act acts n ws)
    branch_keeps n ws w = found_keeps K simple {A = List ValueType} _ _ (λ (ts : List ValueType) e. takes_keeps K simple p a answered ts ws _ w (λ xs us i j.
        jump_keeps K simple p a answered n act (act.innermost ∷ act.around) xs acts h.locals labels i s))

    pub branch_if_keeps : (b : Bool) (n : ℕ) (ws us : List Value) (more : Code) → Each K ws → Each K us → Keeps K (branch_if p a act acts b n ws us more)
    branch_if_keeps b n ws us more w u = found_keeps K simple {A = List ValueType} _ _ (λ (ts : List ValueType) e. takes_keeps K simple p a answered ts ws _ w (λ xs rest i j.
        choose_keeps K simple b _ _ (λ c. jump_keeps K simple p a answered n act (act.innermost ∷ act.around) xs acts h.locals labels i s) (λ c. goes_keeps us more u)))

    -- ---- calls

    pub callers_kept : (tail : Bool) (us : List Value) (more : Code) → Each K us → HasState K (if tail then acts else going p a act acts us more ∷ acts)
    callers_kept true us more u = s
    callers_kept false us more u = (
      record { locals = h.locals; innermost = record { values = u; caught = h.innermost.caught }; around = h.around },
      s,
    )

    pub invoke_keeps : (tail : Bool) (v : Value) (ws : List Value) (more : Code) → CallsNew v → Each K ws → Keeps K (invoke p a act acts tail v ws more)
    invoke_keeps tail (ref_function i t) ws more n w = found_keeps K simple {A = Signature} _ _ (λ (b : Signature) e. takes_keeps K simple p a answered b.params ws _ w (λ args us k j.
        begin_keeps K simple p a answered (body_of (named p a i)) t b args (if tail then act.owed else b.results) (if tail then acts else going p a act acts us more ∷ acts) n k (callers_kept tail us more j)))
    invoke_keeps tail (ref_null c k) ws more n w = done_keeps K simple trapped tt
    invoke_keeps tail v ws more n w = stop_keeps K simple

    pub call_keeps : (tail : Bool) (x : ℕ) (more : Code) → (body_of (slice_get p.functions x) ≡ None → HostNew) → Keeps K (call p a act acts tail x more)
    call_keeps tail x more n = found_keeps K simple {A = Function} _ _ (λ (f : Function) e. invoke_keeps tail (ref_function (Some x) f.type) vs more n held)

    pub popped_keeps : (F : Value → Type 0) (ws : List Value) (f : Value → List Value → Move) → Each K ws → OnTop F ws → ((v : Value) (us : List Value) → K v → Each K us → F v → Keeps K (f v us)) → Keeps K (pops ws f)
    popped_keeps F [] f w n k = stop_keeps K simple
    popped_keeps F (v ∷ ws) f w n k = k v ws w.0 w.1 n

    pub call_reference_keeps : (tail : Bool) (x : ℕ) (more : Code) → OnTop CallsNew vs → Keeps K (call_reference p a act acts tail x more)
    call_reference_keeps tail x more n = found_keeps K simple {A = TypeTree} _ _ (λ (t : TypeTree) e. popped_keeps CallsNew vs _ held n (λ v ws k w m. asks_keeps K simple _ _ (invoke_keeps tail v ws more m w)))

    abbrev through : Bool → Table → TypeTree → List Value → Code → Move
    through tail t u ws more = allows (Fits p a.held t.element) (asks (IsCallable a.held) (choose a.condition
        (allows (Fits p a.held (ref false (concrete u))) (invoke p a act acts tail a.held ws more)) (done trapped)))

    pub call_indirect_keeps : (tail : Bool) (y x : ℕ) (more : Code) → (a.traps ≡ false → a.condition ≡ true → CallsNew a.held) → Keeps K (call_indirect p a act acts tail y x more)
    call_indirect_keeps tail y x more n = found_keeps K simple {A = Table} (slice_get p.«module».tables x) _ (λ (t : Table) e. found_keeps K simple {A = TypeTree} (slice_get p.«module».types y) _ (λ (u : TypeTree) d. takes_keeps K simple p a answered (address t.table64 ∷ []) vs (λ c ws. may_trap p a (through tail t u ws more)) held (λ c ws i j.
        trap_keeps (through tail t u ws more) (λ q. allows_keeps K simple _ _ (asks_keeps K simple _ _
        (choose_keeps K simple a.condition _ (done trapped) (λ r. allows_keeps K simple _ _ (invoke_keeps tail a.held ws more (n q r) j)) (λ r. done_keeps K simple trapped tt)))))))

    pub control_keeps : (o : ControlOperator) (more : Code) → ControlNew o → Keeps K (operate_control p a act acts o more)
    control_keeps control.Unreachable more n = done_keeps K simple trapped tt
    control_keeps control.Nop more n = goes_keeps vs more held
    control_keeps (control.Br i) more n = branch_keeps i vs held
    control_keeps (control.BrIf i) more n = pops_keeps K simple vs _ held (λ c ws k w. asks_keeps K simple _ _ (branch_if_keeps a.condition i ws ws more w w))
    control_keeps (control.BrTable t) more n = pops_keeps K simple vs _ held (λ c ws k w. asks_keeps K simple _ _ (branch_keeps (get_or t.targets a.index t.default) ws w))
    control_keeps control.Return more n = takes_keeps K simple p a answered act.results vs _ held (λ us ws i j. hand_back_keeps K simple p a answered act.owed us acts i s)
    control_keeps (control.Call x) more n = call_keeps false x more n
    control_keeps (control.ReturnCall x) more n = call_keeps true x more n
    control_keeps (control.CallIndirect y x) more n = call_indirect_keeps false y x more n
    control_keeps (control.ReturnCallIndirect y x) more n = call_indirect_keeps true y x more n
    control_keeps (control.CallRef x) more n = call_reference_keeps false x more n
    control_keeps (control.ReturnCallRef x) more n = call_reference_keeps true x more n
    control_keeps control.RefAsNonNull more n = pops_keeps K simple vs _ held (λ v ws k w. asks_keeps K simple _ _ (choose_keeps K simple _ (done trapped) _ (λ e. done_keeps K simple trapped tt) (λ e. goes_keeps (v ∷ ws) more (k, w))))
    control_keeps (control.BrOnNull i) more n = pops_keeps K simple vs _ held (λ v ws k w. asks_keeps K simple _ _ (branch_if_keeps _ i ws (v ∷ ws) more w (k, w)))
    control_keeps (control.BrOnNonNull i) more n = pops_keeps K simple vs _ held (λ v ws k w. asks_keeps K simple _ _ (choose_keeps K simple _ _ _ (λ e. goes_keeps ws more w) (λ e. branch_keeps i (v ∷ ws) (k, w))))
    control_keeps o more n = stop_keeps K simple

    -- ---- exceptions

    pub thrown_keeps : (v : Value) → ThrownNew v → Keeps K (throw_reference p a act acts v)
    thrown_keeps (ref_exn k t) n = again_keeps K simple p a answered t (act ∷ acts) n (h, s)
    thrown_keeps (ref_null c k) n = done_keeps K simple trapped tt
    thrown_keeps v n = stop_keeps K simple

    pub exception_keeps : (o : ExceptionTree) → ExceptionNew o → Keeps K (operate_exception p a act acts o)
    exception_keeps (op.Throw x) n = found_keeps K simple {A = TypeTree} (slice_get p.«module».tags x) _ (λ (t : TypeTree) e. found_keeps K simple {A = Signature} (function_type t) _ (λ (b : Signature) d. takes_keeps K simple p a answered b.params vs _ held (λ us ws i j.
        unwind_keeps K simple p a answered t us (n t e) i (act ∷ acts) a.leaves (h, s))))
    exception_keeps op.ThrowRef n = popped_keeps ThrownNew vs _ held n (λ v ws k w m. asks_keeps K simple _ _ (thrown_keeps v m))
    exception_keeps (op.Rethrow i) n = found_keeps K simple {A = Exception} _ _ (λ (x : Exception) e. again_keeps K simple p a answered x.type (act ∷ acts) (n x e) (h, s))
    exception_keeps o n = stop_keeps K simple

    -- ---- variables

    pub either_kept : (b : Bool) (v w : Value) → K v → K w → K (if b then v else w)
    either_kept true v w k l = k
    either_kept false v w k l = l

    pub select_keeps : (t : ValueType) (more : Code) → Keeps K (select p a act acts t more)
    select_keeps t more = pops_keeps K simple vs _ held (λ c ws k i. asks_keeps K simple _ _ (pops_keeps K simple ws _ i (λ w us l j. pops_keeps K simple us _ j (λ v rest m r.
        asks_keeps K simple _ _ (goes_keeps ((if a.condition then v else w) ∷ rest) more (either_kept a.condition v w m l, r))))))

    pub parametric_keeps : (o : ParametricTree) (more : Code) → Keeps K (operate_parametric p a act acts o more)
    parametric_keeps op.Drop more = pops_keeps K simple vs _ held (λ v ws k w. goes_keeps ws more w)
    parametric_keeps op.Select more = pops_keeps K simple vs _ held (λ c ws k i. pops_keeps K simple ws _ i (λ w us l j. asks_keeps K simple _ _ (select_keeps (least_type w) more)))
    parametric_keeps (op.TypedSelect t) more = found_keeps K simple {A = ValueType} _ _ (λ (u : ValueType) e. select_keeps u more)
    parametric_keeps o more = stop_keeps K simple

    pub local_keeps : (x : ℕ) (v : Value) (ws : List Value) (more : Code) → K v → Each K ws → Keeps K (set_local p a act acts x v ws more)
    local_keeps x v ws more k w = found_keeps K simple {A = ValueType} _ _ (λ (t : ValueType) e. asks_keeps K simple _ _
        (done_keeps K simple (next (record (going p a act acts ws more) { locals = slice_set act.locals x (Some v) } ∷ acts)) (
          record {
            locals = each_set (HasLocal K) act.locals x (Some v) h.locals k;
            innermost = record { values = w; caught = h.innermost.caught };
            around = h.around;
          },
          s,
        )))

    pub memory_keeps : (o : MemoryOperator) (more : Code) → Keeps K (operate_memory p a act acts o more)
    memory_keeps (memory.LocalGet x) more = found_keeps K simple {A = Option Value} (slice_get act.locals x) _ (λ (o : Option Value) e. found_keeps K simple o _ (λ v d.
        goes_keeps (v ∷ vs) more (subst (HasLocal K) d (each_get (HasLocal K) act.locals x o h.locals e), held)))
    memory_keeps (memory.LocalSet x) more = pops_keeps K simple vs _ held (λ v ws k w. local_keeps x v ws more k w)
    memory_keeps (memory.LocalTee x) more = pops_keeps K simple vs _ held (λ v ws k w. local_keeps x v (v ∷ ws) more k (k, w))
    memory_keeps (memory.GlobalGet x) more = found_keeps K simple {A = Global} _ _ (λ (t : Global) e. exchange_keeps [] (t.content ∷ []) more)
    memory_keeps (memory.GlobalSet x) more = found_keeps K simple {A = Global} _ _ (λ (t : Global) e. asks_keeps K simple _ _ (exchange_keeps (t.content ∷ []) [] more))
    memory_keeps (memory.MemorySize x) more = found_keeps K simple {A = MemoryType} _ _ (λ (t : MemoryType) e. exchange_keeps [] (address t.memory64 ∷ []) more)
    memory_keeps (memory.MemoryGrow x) more = found_keeps K simple {A = MemoryType} _ _ (λ (t : MemoryType) e. exchange_keeps (address t.memory64 ∷ []) (address t.memory64 ∷ []) more)
    memory_keeps o more = access_keeps (op.Memory o) more

    -- ---- references, tables, memories

    pub copies_keeps : (t u : ValueType) (m : Move) → Keeps K m → Keeps K (copies p a t u m)
    copies_keeps t u m k = allows_keeps K simple _ _ (asks_keeps K simple _ m k)

    pub bulk_keeps : (o : BulkOperator) (more : Code) → BulkNew o → Keeps K (operate_bulk p a act acts o more)
    bulk_keeps (bulk.RefNull q) more n = found_keeps K simple {A = HeapOf TypeTree} _ _ (λ (k : HeapOf TypeTree) e. goes_keeps (null_of k ∷ vs) more (null_kept K simple k, held))
    bulk_keeps bulk.RefIsNull more n = pops_keeps K simple vs _ held (λ v ws k w. asks_keeps K simple _ _ (goes_keeps (number_value i32 a.made ∷ ws) more (n, w)))
    bulk_keeps (bulk.RefFunc x) more n = found_keeps K simple {A = Function} _ _ (λ (f : Function) e. goes_keeps (ref_function (Some x) f.type ∷ vs) more (simple.functions (Some x) f.type, held))
    bulk_keeps (bulk.TableInit i x) more n = found_keeps K simple {A = ValueType} (slice_get p.«module».elements i) _ (λ (t : ValueType) e. found_keeps K simple {A = Table} (slice_get p.«module».tables x) _ (λ (u : Table) d. takes_keeps K simple p a answered (address u.table64 ∷ i32_type ∷ i32_type ∷ []) vs _ held (λ us ws k j.
        may_trap_keeps K simple p a answered _ (copies_keeps t u.element _ (goes_keeps ws more j)))))
    bulk_keeps (bulk.TableCopy x y) more n = found_keeps K simple {A = Table} (slice_get p.«module».tables x) _ (λ (t : Table) e. found_keeps K simple {A = Table} (slice_get p.«module».tables y) _ (λ (u : Table) d. takes_keeps K simple p a answered (address t.table64 ∷ address u.table64 ∷ address (t.table64 && u.table64) ∷ []) vs _ held (λ us ws k j.
        may_trap_keeps K simple p a answered _ (copies_keeps u.element t.element _ (goes_keeps ws more j)))))
    bulk_keeps (bulk.TableGet x) more n = found_keeps K simple {A = Table} _ _ (λ (t : Table) e. exchange_keeps (address t.table64 ∷ []) (t.element ∷ []) more)
    bulk_keeps (bulk.TableSet x) more n = found_keeps K simple {A = Table} _ _ (λ (t : Table) e. exchange_keeps (address t.table64 ∷ t.element ∷ []) [] more)
    bulk_keeps (bulk.TableGrow x) more n = found_keeps K simple {A = Table} _ _ (λ (t : Table) e. exchange_keeps (t.element ∷ address t.table64 ∷ []) (address t.table64 ∷ []) more)
    bulk_keeps (bulk.TableSize x) more n = found_keeps K simple {A = Table} _ _ (λ (t : Table) e. exchange_keeps [] (address t.table64 ∷ []) more)
    bulk_keeps (bulk.TableFill x) more n = found_keeps K simple {A = Table} _ _ (λ (t : Table) e. exchange_keeps (address t.table64 ∷ t.element ∷ address t.table64 ∷ []) [] more)
    bulk_keeps (bulk.ElemDrop i) more n = found_keeps K simple {A = ValueType} _ _ (λ (t : ValueType) e. goes_keeps vs more held)
    bulk_keeps (bulk.DataDrop d) more n = asks_keeps K simple _ _ (goes_keeps vs more held)
    bulk_keeps (bulk.MemoryInit d x) more n = found_keeps K simple {A = MemoryType} _ _ (λ (t : MemoryType) e. asks_keeps K simple _ _ (exchange_keeps (address t.memory64 ∷ i32_type ∷ i32_type ∷ []) [] more))
    bulk_keeps (bulk.MemoryCopy x y) more n = found_keeps K simple {A = MemoryType} (slice_get p.«module».memories x) _ (λ (t : MemoryType) e. found_keeps K simple {A = MemoryType} (slice_get p.«module».memories y) _ (λ (u : MemoryType) d. exchange_keeps (address t.memory64 ∷ address u.memory64 ∷ address (t.memory64 && u.memory64) ∷ []) [] more))
    bulk_keeps (bulk.MemoryFill x) more n = found_keeps K simple {A = MemoryType} _ _ (λ (t : MemoryType) e. exchange_keeps (address t.memory64 ∷ i32_type ∷ address t.memory64 ∷ []) [] more)
    bulk_keeps (bulk.MemoryDiscard x) more n = found_keeps K simple {A = MemoryType} _ _ (λ (t : MemoryType) e. exchange_keeps (address t.memory64 ∷ address t.memory64 ∷ []) [] more)

    pub atomic_keeps : (o : AtomicOperator) (more : Code) → Keeps K (operate_atomic p a act acts o more)
    atomic_keeps atomic.AtomicFence more = goes_keeps vs more held
    atomic_keeps o more = access_keeps (op.Atomic o) more

    -- ---- objects

    abbrev Fields : Type 0
    Fields = List (FieldOf TypeTree)

    pub object_keeps : (of : InnerOf TypeTree → Option Fields) (v : Value) (f : Fields → Move) → ((fs : Fields) → Keeps K (f fs)) → Keeps K (object p a act acts of v f)
    object_keeps of (ref_object k t) f g = found_keeps K simple (of (expanded t)) f (λ fs e. g fs)
    object_keeps of (ref_null c k) f g = done_keeps K simple trapped tt
    object_keeps of v f g = stop_keeps K simple

    pub under_keeps : (of : InnerOf TypeTree → Option Fields) (ns : List ValueType) (x : ℕ) (ws : List Value) (f : Fields → List Value → Move) → Each K ws
        → ((fs : Fields) (us : List Value) → Each K us → Keeps K (f fs us)) → Keeps K (object_under p a act acts of ns x ws f)
    under_keeps of ns x ws f w g = found_keeps K simple {A = TypeTree} (slice_get p.«module».types x) _ (λ (t : TypeTree) e. found_keeps K simple {A = Fields} (of (expanded t)) _ (λ (q : Fields) d. takes_keeps K simple p a answered (ref true (concrete t) ∷ ns) ws _ w (λ us rest i j.
        may_trap_keeps K simple p a answered _ (object_keeps of (last_of us) (λ fs. f fs rest) (λ fs. g fs rest j)))))

    abbrev is_read : (StorageOf TypeTree → Type 0) → ℕ → Code → Fields → List Value → Move
    is_read stored i more fs ws = found (slice_get fs i) (λ (f : FieldOf TypeTree). asks (stored f.storage) (gives p a (operand_of f.storage ∷ []) (λ rs. goes p a act acts (rs ++ ws) more)))

    abbrev is_written : ℕ → Value → Code → Fields → List Value → Move
    is_written i v more fs ws = found (slice_get fs i) (λ (f : FieldOf TypeTree). writes f (asks (Fits p v (operand_of f.storage)) (goes p a act acts ws more)))

    pub read_keeps : (stored : StorageOf TypeTree → Type 0) (of : InnerOf TypeTree → Option Fields) (ns : List ValueType) (x i : ℕ) (more : Code) → Keeps K (read p a act acts stored of ns x i more)
    read_keeps stored of ns x i more = under_keeps of ns x vs (is_read stored i more) held (λ fs ws w. found_keeps K simple {A = FieldOf TypeTree} (slice_get fs i) _ (λ (f : FieldOf TypeTree) e. asks_keeps K simple (stored f.storage) _
        (gives_keeps K simple p a answered (operand_of f.storage ∷ []) (λ rs. goes p a act acts (rs ++ ws) more) (λ rs r. goes_keeps (rs ++ ws) more (each_append K rs ws r w)))))

    pub write_keeps : (of : InnerOf TypeTree → Option Fields) (ns : List ValueType) (x i : ℕ) (v : Value) (us : List Value) (more : Code) → Each K us → Keeps K (write p a act acts of ns x i v us more)
    write_keeps of ns x i v us more u = under_keeps of ns x us (is_written i v more) u (λ fs ws w. found_keeps K simple {A = FieldOf TypeTree} (slice_get fs i) _ (λ (f : FieldOf TypeTree) e. asks_keeps K simple (IsTrue f.mutable) _
        (asks_keeps K simple (Fits p v (operand_of f.storage)) _ (goes_keeps ws more w))))

    pub make_keeps : (of : InnerOf TypeTree → Option Fields) (x : ℕ) (takes_for : Fields → List ValueType) (further : Fields → Move → Move) (more : Code)
        → ((t : TypeTree) (fs : Fields) (ws : List Value) → slice_get p.«module».types x ≡ Some t → Each K ws → Keeps K (further fs (goes p a act acts (ref_object a.made t ∷ ws) more)))
        → Keeps K (make p a act acts of x takes_for further more)
    make_keeps of x takes_for further more g = found_keeps K simple {A = TypeTree} (slice_get p.«module».types x) _ (λ (t : TypeTree) e. found_keeps K simple {A = Fields} (of (expanded t)) _ (λ (fs : Fields) d. takes_keeps K simple p a answered (takes_for fs) vs _ held (λ us ws i j. g t fs ws e j)))

    pub from_keeps : (i : ℕ) (fs : Fields) (may : FieldOf TypeTree → Move → Move) (m : Move) → ((f : FieldOf TypeTree) (n : Move) → Keeps K n → Keeps K (may f n)) → Keeps K m
        → Keeps K (stores_from p a act acts i fs may m)
    from_keeps i fs may m g k = found_keeps K simple {A = ValueType} (slice_get p.«module».elements i) _ (λ (t : ValueType) e. found_keeps K simple {A = FieldOf TypeTree} (slice_get fs 0) _ (λ (f : FieldOf TypeTree) d. g f _ (copies_keeps t (operand_of f.storage) m k)))

    pub cast_top_keeps : (n : Bool) (q : HeapType) (f : Bool → Value → List Value → Move) → ((b : Bool) (v : Value) (ws : List Value) → K v → Each K ws → Keeps K (f b v ws)) → Keeps K (cast_top p a act acts n q f)
    cast_top_keeps n q f g = found_keeps K simple {A = HeapOf TypeTree} (meant_heap p.«module» q) _ (λ (k : HeapOf TypeTree) e. pops_keeps K simple vs _ held (λ v ws i j. asks_keeps K simple _ _ (allows_keeps K simple _ _ (g _ v ws i j))))

    pub cast_from_keeps : (from to : Reference) (f : Bool → Value → List Value → Move) → ((b : Bool) (v : Value) (ws : List Value) → K v → Each K ws → Keeps K (f b v ws)) → Keeps K (cast_from p a act acts from to f)
    cast_from_keeps from to f g = found_keeps K simple {A = HeapOf TypeTree} (meant_heap p.«module» from.heap) _ (λ (q : HeapOf TypeTree) e. found_keeps K simple {A = HeapOf TypeTree} (meant_heap p.«module» to.heap) _ (λ (k : HeapOf TypeTree) d. pops_keeps K simple vs _ held (λ v ws i j. asks_keeps K simple _ _ (allows_keeps K simple _ _ (g _ v ws i j)))))

    pub number_keeps : (q : Abstract) (is : Value → Type 0) (more : Code) → (a.traps ≡ false → K (number_value i32 a.made)) → Keeps K (number_from p a act acts q is more)
    number_keeps q is more n = pops_keeps K simple vs _ held (λ v ws i j. asks_keeps K simple _ _ (trap_keeps _ (λ e. goes_keeps (number_value i32 a.made ∷ ws) more (n e, j))))

    pub null_in_kept : (q : Abstract) (v : Value) → K v → K (null_in p a act acts q v)
    null_in_kept q (ref_null c k) i = simple.nulls c q
    null_in_kept q (number_value n b) i = i
    null_in_kept q (ref_function n t) i = i
    null_in_kept q (ref_object k t) i = i
    null_in_kept q (ref_i31 b) i = i
    null_in_kept q (ref_host k) i = i
    null_in_kept q (ref_extern k) i = i
    null_in_kept q (ref_exn k t) i = i

    pub convert_keeps : (q k : Abstract) (more : Code) → Keeps K (convert p a act acts q k more)
    convert_keeps q k more = pops_keeps K simple vs _ held (λ v ws i j. asks_keeps K simple _ _ (choose_keeps K simple _ _ _ (λ e. goes_keeps (null_in p a act acts k v ∷ ws) more (null_in_kept k v i, j))
        (λ e. allows_keeps K simple _ _ (goes_keeps (a.values ++ ws) more (each_append K a.values ws answered j)))))

    abbrev copied_to : Code → Fields → Fields → List Value → Move
    copied_to more ss fs us = found (slice_get ss 0) (λ (q : FieldOf TypeTree). found (slice_get fs 0) (λ (f : FieldOf TypeTree). writes f (asks (AreStoredAlike q.storage f.storage)
        (copies p a (operand_of q.storage) (operand_of f.storage) (goes p a act acts us more)))))

    abbrev copied : ℕ → Code → Fields → List Value → Move
    copied x more ss ws = object_under p a act acts array_fields (i32_type ∷ []) x ws (copied_to more ss)

    abbrev from_bytes : ℕ → Code → Fields → List Value → Move
    from_bytes d more fs ws = found (slice_get fs 0) (λ (f : FieldOf TypeTree). writes f (asks (FromData p a act acts d fs) (goes p a act acts ws more)))

    abbrev from_segment : ℕ → Code → Fields → List Value → Move
    from_segment i more fs ws = stores_from p a act acts i fs writes (goes p a act acts ws more)

    pub gc_keeps : (o : GcOperator) (more : Code) → GcNew o → Keeps K (operate_gc p a act acts o more)
    gc_keeps gc.RefEq more n = pops_keeps K simple vs _ held (λ v ws i j. pops_keeps K simple ws _ j (λ w us k l. asks_keeps K simple _ _ (goes_keeps (number_value i32 a.made ∷ us) more (n, l))))
    gc_keeps (gc.StructNew x) more n = make_keeps struct_fields x operands_of (λ fs m. m) more (λ t fs ws e w. goes_keeps (ref_object a.made t ∷ ws) more (n t e, w))
    gc_keeps (gc.StructNewDefault x) more n = make_keeps struct_fields x (λ fs. []) (λ fs m. asks (HaveDefaults fs) m) more (λ t fs ws e w. asks_keeps K simple (HaveDefaults fs) _ (goes_keeps (ref_object a.made t ∷ ws) more (n t e, w)))
    gc_keeps (gc.StructGet x i) more n = read_keeps IsWhole struct_fields [] x i more
    gc_keeps (gc.StructGetS x i) more n = read_keeps IsPacked struct_fields [] x i more
    gc_keeps (gc.StructGetU x i) more n = read_keeps IsPacked struct_fields [] x i more
    gc_keeps (gc.StructSet x i) more n = pops_keeps K simple vs _ held (λ v ws k w. write_keeps struct_fields [] x i v ws more w)
    gc_keeps (gc.ArrayNew x) more n = make_keeps array_fields x (λ fs. operands_of fs ++ i32_type ∷ []) (λ fs m. m) more (λ t fs ws e w. goes_keeps (ref_object a.made t ∷ ws) more (n t e, w))
    gc_keeps (gc.ArrayNewDefault x) more n = make_keeps array_fields x (λ fs. i32_type ∷ []) (λ fs m. asks (HaveDefaults fs) m) more (λ t fs ws e w. asks_keeps K simple (HaveDefaults fs) _ (goes_keeps (ref_object a.made t ∷ ws) more (n t e, w)))
    gc_keeps (gc.ArrayNewFixed x i) more n = make_keeps array_fields x (λ fs. flat_map (λ (u : ValueType). replicate i u) (operands_of fs)) (λ fs m. m) more (λ t fs ws e w. goes_keeps (ref_object a.made t ∷ ws) more (n t e, w))
    gc_keeps (gc.ArrayNewData x d) more n = make_keeps array_fields x (λ fs. i32_type ∷ i32_type ∷ []) (λ fs m. asks (FromData p a act acts d fs) (may_trap p a m)) more (λ t fs ws e w. asks_keeps K simple (FromData p a act acts d fs) _
        (trap_keeps _ (λ q. goes_keeps (ref_object a.made t ∷ ws) more (n t e q, w))))
    gc_keeps (gc.ArrayNewElem x i) more n = make_keeps array_fields x (λ fs. i32_type ∷ i32_type ∷ []) (λ fs m. may_trap p a (stores_from p a act acts i fs (λ f n. n) m)) more (λ t fs ws e w.
        trap_keeps _ (λ q. from_keeps i fs (λ f m. m) (goes p a act acts (ref_object a.made t ∷ ws) more) (λ f m k. k) (goes_keeps (ref_object a.made t ∷ ws) more (n t e q, w))))
    gc_keeps (gc.ArrayGet x) more n = read_keeps IsWhole array_fields (i32_type ∷ []) x 0 more
    gc_keeps (gc.ArrayGetS x) more n = read_keeps IsPacked array_fields (i32_type ∷ []) x 0 more
    gc_keeps (gc.ArrayGetU x) more n = read_keeps IsPacked array_fields (i32_type ∷ []) x 0 more
    gc_keeps (gc.ArraySet x) more n = pops_keeps K simple vs _ held (λ v ws k w. write_keeps array_fields (i32_type ∷ []) x 0 v ws more w)
    gc_keeps gc.ArrayLen more n = number_keeps array IsArray more n
    gc_keeps (gc.ArrayFill x) more n = pops_keeps K simple vs _ held (λ c ws i j. asks_keeps K simple _ _ (pops_keeps K simple ws _ j (λ v us k w. write_keeps array_fields (i32_type ∷ []) x 0 v us more w)))
    gc_keeps (gc.ArrayCopy x y) more n = under_keeps array_fields (i32_type ∷ i32_type ∷ []) y vs (copied x more) held (λ ss ws w. under_keeps array_fields (i32_type ∷ []) x ws (copied_to more ss) w (λ fs us u. found_keeps K simple {A = FieldOf TypeTree} (slice_get ss 0) _ (λ (q : FieldOf TypeTree) d.
        found_keeps K simple {A = FieldOf TypeTree} (slice_get fs 0) _ (λ (f : FieldOf TypeTree) e. asks_keeps K simple _ _ (asks_keeps K simple _ _ (copies_keeps (operand_of q.storage) (operand_of f.storage) _ (goes_keeps us more u)))))))
    gc_keeps (gc.ArrayInitData x d) more n = under_keeps array_fields (i32_type ∷ i32_type ∷ i32_type ∷ []) x vs (from_bytes d more) held (λ fs ws w. found_keeps K simple {A = FieldOf TypeTree} (slice_get fs 0) _ (λ (f : FieldOf TypeTree) e. asks_keeps K simple (IsTrue f.mutable) _ (asks_keeps K simple (FromData p a act acts d fs) _ (goes_keeps ws more w))))
    gc_keeps (gc.ArrayInitElem x i) more n = under_keeps array_fields (i32_type ∷ i32_type ∷ i32_type ∷ []) x vs (from_segment i more) held (λ fs ws w. from_keeps i fs writes (goes p a act acts ws more) (λ f m k. asks_keeps K simple (IsTrue f.mutable) m k) (goes_keeps ws more w))
    gc_keeps (gc.RefTestNonNull q) more n = cast_top_keeps false q _ (λ b v ws i j. goes_keeps (number_value i32 a.made ∷ ws) more (n, j))
    gc_keeps (gc.RefTestNullable q) more n = cast_top_keeps true q _ (λ b v ws i j. goes_keeps (number_value i32 a.made ∷ ws) more (n, j))
    gc_keeps (gc.RefCastNonNull q) more n = cast_top_keeps false q _ (λ b v ws i j. choose_keeps K simple b _ (done trapped) (λ e. goes_keeps (v ∷ ws) more (i, j)) (λ e. done_keeps K simple trapped tt))
    gc_keeps (gc.RefCastNullable q) more n = cast_top_keeps true q _ (λ b v ws i j. choose_keeps K simple b _ (done trapped) (λ e. goes_keeps (v ∷ ws) more (i, j)) (λ e. done_keeps K simple trapped tt))
    gc_keeps (gc.BrOnCast l from to) more n = cast_from_keeps from to _ (λ b v ws i j. choose_keeps K simple b _ _ (λ e. branch_keeps l (v ∷ ws) (i, j)) (λ e. goes_keeps (v ∷ ws) more (i, j)))
    gc_keeps (gc.BrOnCastFail l from to) more n = cast_from_keeps from to _ (λ b v ws i j. choose_keeps K simple b _ _ (λ e. goes_keeps (v ∷ ws) more (i, j)) (λ e. branch_keeps l (v ∷ ws) (i, j)))
    gc_keeps gc.AnyConvertExtern more n = convert_keeps extern any more
    gc_keeps gc.ExternConvertAny more n = convert_keeps any extern more
    gc_keeps gc.RefI31 more n = exchange_keeps (i32_type ∷ []) (ref false (abstract false i31) ∷ []) more
    gc_keeps gc.I31GetS more n = number_keeps i31 IsUnboxed more n
    gc_keeps gc.I31GetU more n = number_keeps i31 IsUnboxed more n

    -- ---- all of them

    pub vector_keeps : (o : Option MemArg) (q : Op) (more : Code) → Keeps K (operate_vector p a act acts o q more)
    vector_keeps None q more = compute_keeps q more
    vector_keeps (Some i) q more = access_keeps q more

    pub operate_keeps : (o : Op) (more : Code) → New o → Keeps K (operate p a act acts o more)
    operate_keeps (op.Control o) more n = control_keeps o more n
    operate_keeps (op.Parametric o) more n = parametric_keeps o more
    operate_keeps (op.Exception o) more n = exception_keeps o n
    operate_keeps (op.Memory o) more n = memory_keeps o more
    operate_keeps (op.Bulk o) more n = bulk_keeps o more n
    operate_keeps (op.Gc o) more n = gc_keeps o more n
    operate_keeps (op.Const o) more n = compute_keeps (op.Const o) more
    operate_keeps (op.Numeric o) more n = compute_keeps (op.Numeric o) more
    operate_keeps (op.Simd o) more n = vector_keeps (argument_of (immediates_of (op.Simd o))) (op.Simd o) more
    operate_keeps (op.SimdNumeric o) more n = compute_keeps (op.SimdNumeric o) more
    operate_keeps (op.Atomic o) more n = atomic_keeps o more
    operate_keeps o more n = stop_keeps K simple

    pub end_keeps : Keeps K (end p a act acts)
    end_keeps = asks_keeps K simple _ _ (come_out_keeps K simple p a answered act act.around vs acts h.locals h.around held s)

    pub execute_keeps : (c : Code) → CodeNew c → Keeps K (execute p a act acts c)
    execute_keeps (close (op.Exception (op.Delegate n))) m = found_keeps K simple {A = List ValueType} _ _ (λ (ts : List ValueType) e. end_keeps)
    execute_keeps (close o) m = end_keeps
    execute_keeps (plain o more) m = operate_keeps o more m
    execute_keeps (nested o body more) m = enter_keeps o body more
    execute_keeps (turn o more) m = end_keeps
