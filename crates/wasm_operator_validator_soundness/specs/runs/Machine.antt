-- How a module runs (WebAssembly 3.0, execution), over all activations at once. Whatever the standard computes from bits, memories
-- or contents is an answer that comes from outside, and has to fit the type that it is said to have. Each operator says which
-- values it takes, which answers fit, and what comes of it. Operators on numbers and vectors, constants and accesses to memories say it by
-- their names (`Names`). Of the rules' tables none is used.
use Rattle.std.specs.Prelude.{All, flat_map, ◌≡◌, ◌<◌, ℕ, zero, suc, Bool, true, false, IsTrue, not, ◌&&◌, List, [], ◌∷◌, ◌++◌, length, map, reverse, take, drop, replicate, get_or, Option, Some, None, option_map, slice_get, slice_set, if◌then◌else◌}
use Rattle.wasm_types.specs.trees.Types.{number, StorageOf, i8, i16, value, i32, i64, Abstract, extern, any, none, eq, array, i31, exn, HeapOf, abstract, concrete, ref, exact, ValueOf}
use Rattle.wasm_types.specs.trees.Types.{FieldOf, InnerOf, array_of, struct_of}
use Rattle.wasm_types.specs.trees.Trees.{TypeTree}
use Rattle.wasm_types.specs.trees.Below.{expanded, is_shared}
use Rattle.wasm_types.specs.trees.declared.index.UnpackedIndex.{UnpackedIndex}
use Rattle.wasm_types.specs.trees.declared.index.UnpackedIndex.TheVariants as index
use Rattle.wasm_types.specs.values.Reference.{Reference}
use Rattle.wasm_types.specs.values.declared.heap.HeapType.{HeapType}
use Rattle.wasm_types.specs.values.declared.value.ValType.{ValType}
use Rattle.wasm_types.specs.values.Trees.{heap_of}
use Rattle.wasm_types.specs.values.Values.{value_of}
use Rattle.wasm_types.specs.externs.declared.memory.MemoryType.{MemoryType}
use Rattle.wasm_operators_immediates.specs.declared.block.BlockType.{BlockType}
use Rattle.wasm_operators_immediates.specs.declared.block.BlockType.TheVariants as block
use Rattle.wasm_operators_immediates.specs.declared.handlers.Catch.{Catch}
use Rattle.wasm_operators_immediates.specs.declared.handlers.Catch.TheVariants as catch
use Rattle.wasm_operators_immediates.specs.declared.memory.MemArg.{MemArg}
use Rattle.wasm_operators_enums.specs.declared.control.ControlOperator.{ControlOperator}
use Rattle.wasm_operators_enums.specs.declared.control.ControlOperator.TheVariants as control
use Rattle.wasm_operators_enums.specs.declared.memory.MemoryOperator.{MemoryOperator}
use Rattle.wasm_operators_enums.specs.declared.memory.MemoryOperator.TheVariants as memory
use Rattle.wasm_operators_enums.specs.declared.bulk.BulkOperator.{BulkOperator}
use Rattle.wasm_operators_enums.specs.declared.bulk.BulkOperator.TheVariants as bulk
use Rattle.wasm_operators_enums.specs.declared.atomic.AtomicOperator.{AtomicOperator}
use Rattle.wasm_operators_enums.specs.declared.atomic.AtomicOperator.TheVariants as atomic
use Rattle.wasm_operators_enums.specs.declared.gc.GcOperator.{GcOperator}
use Rattle.wasm_operators_enums.specs.declared.gc.GcOperator.TheVariants as gc
use Rattle.wasm_operators_enums.specs.Table.{info_of}
use Rattle.wasm_operators_enums.specs.Immediates.{immediates_of}
use Rattle.wasm_operators_enums.specs.Op as op
use Rattle.wasm_operators_enums.specs.Op.{Op, ParametricTree, ExceptionTree}
use Rattle.wasm_operators_encoding.specs.expressions.Code.{Code, close, plain, nested, turn}
use Rattle.wasm_operator_validator_rules.specs.Operands.{ValueType, known, stack}
use Rattle.wasm_operator_validator_rules.specs.Context.{Module, Table, Global, Signature}
use Rattle.wasm_operator_validator_rules.specs.Named.{as_function}
use Rattle.wasm_operator_validator_rules.specs.InstructionTypes.{i32_type}
use Rattle.wasm_operator_validator_rules.specs.Numbers.{numbers}
use Rattle.wasm_operator_validator_soundness.specs.runs.Values.{Body, Function, Program, Value, number_value, ref_null, ref_function, ref_object, ref_i31, ref_exn, least_type, is_null, IsNumberValue, IsAReference, IsMade, IsAkin, Fits, AllFit, EachFits, null_of, default_of}
use Rattle.wasm_operator_validator_soundness.specs.runs.Names.{computed, accessed, argument_of}
use Rattle.wasm_operator_validator_soundness.specs.runs.States.{Continuation, behind, again, Handlers, no_handlers, table, clauses, Exception, Label, Activation, branch_type, Answer}
use Rattle.wasm_operator_validator_soundness.specs.runs.States.{next, returned, trapped, thrown, Move, done, stop, refused, asks, allows, choose, found, pops}

-- ---- what the code means in a module

-- the types that code writes, if those that it names are there
abbrev pub type_meant : Module → UnpackedIndex → Option TypeTree
type_meant m (index.Module n) = slice_get m.types n
type_meant m i = None

abbrev pub heap_meant : Module → HeapOf UnpackedIndex → Option (HeapOf TypeTree)
heap_meant m (abstract s h) = Some (abstract s h)
heap_meant m (concrete i) = option_map (λ t. concrete t) (type_meant m i)
heap_meant m (exact i) = option_map (λ t. exact t) (type_meant m i)

abbrev pub value_meant : Module → ValueOf UnpackedIndex → Option ValueType
value_meant m (number n) = Some (number n)
value_meant m (ref n h) = option_map (λ k. ref n k) (heap_meant m h)

abbrev pub meant_heap : Module → HeapType → Option (HeapOf TypeTree)
meant_heap m h = heap_meant m (heap_of h)

abbrev pub meant : Module → ValType → Option ValueType
meant m v = value_meant m (value_of v)

abbrev pub gives_one : ValueType → Signature
gives_one t = record { params = []; results = t ∷ [] }

-- the type of a function and of a block, if it is one
abbrev pub function_type : TypeTree → Option Signature
function_type t = as_function (expanded t)

abbrev pub function_type_in : Option TypeTree → Option Signature
function_type_in None = None
function_type_in (Some t) = function_type t

abbrev pub block_signature : Module → BlockType → Option Signature
block_signature m block.Empty = Some (record { params = []; results = [] })
block_signature m (block.Val v) = option_map gives_one (meant m v)
block_signature m (block.FuncType x) = function_type_in (slice_get m.types x)

-- the second part of an `if`, which is empty without an `else`
abbrev pub second_part : Code → Code
second_part (close o) = close o
second_part (plain o more) = second_part more
second_part (nested o body more) = second_part more
second_part (turn o more) = more

abbrev pub either_part : Bool → Code → Code
either_part true body = body
either_part false body = second_part body

-- a clause of an older `try`: the tag that it is for, if not for all, and its instructions; by its number
pub record Clause : Type 0 where
  pub tag : Option ℕ
  pub code : Code

-- what a clause of a `try_table` hands on: the tag that it is for, if not for all, the values, and the label
pub record Handing : Type 0 where
  pub tag : Option ℕ
  pub values : List Value
  pub label : ℕ

abbrev pub tag_of : Op → Option ℕ
tag_of (op.Exception (op.Catch x)) = Some x
tag_of o = None

abbrev pub clause_at : Code → ℕ → Option Clause
clause_at (close o) n = None
clause_at (plain o more) n = clause_at more n
clause_at (nested o body more) n = clause_at more n
clause_at (turn o more) zero = Some (record { tag = tag_of o; code = more })
clause_at (turn o more) (suc n) = clause_at more n

-- the fields of an object, of which an array has one for all elements
abbrev pub fields_in : InnerOf TypeTree → List (FieldOf TypeTree)
fields_in (struct_of fs) = fs
fields_in (array_of f) = f ∷ []
fields_in _ = []

-- what is stored, as an operand: packed types are numbers
abbrev pub operand_of : StorageOf TypeTree → ValueType
operand_of i8 = number i32
operand_of i16 = number i32
operand_of (value t) = t

abbrev pub operands_of : List (FieldOf TypeTree) → List ValueType
operands_of fs = map (λ (f : FieldOf TypeTree). operand_of f.storage) fs

-- the fields of a struct, if it is one, and that of an array
abbrev pub struct_fields : InnerOf TypeTree → Option (List (FieldOf TypeTree))
struct_fields (struct_of fs) = Some fs
struct_fields _ = None

abbrev pub array_fields : InnerOf TypeTree → Option (List (FieldOf TypeTree))
array_fields (array_of f) = Some (f ∷ [])
array_fields _ = None

-- the bits in which it is packed, if it is; whether a read gives it as it is, or extends it; and whether a copy needs no conversion
abbrev pub packed_in : StorageOf TypeTree → Option ℕ
packed_in i8 = Some 8
packed_in i16 = Some 16
packed_in (value t) = None

abbrev pub IsWhole : StorageOf TypeTree → Type 0
IsWhole s = packed_in s ≡ None

abbrev pub IsPacked : StorageOf TypeTree → Type 0
IsPacked s = (bits : ℕ) × (packed_in s ≡ Some bits)

abbrev pub AreStoredAlike : StorageOf TypeTree → StorageOf TypeTree → Type 0
AreStoredAlike s t = packed_in s ≡ packed_in t

-- there is a default; bytes can be read as it
abbrev pub HasDefault : ValueType → Type 0
HasDefault t = (v : Value) × (default_of t ≡ Some v)

abbrev pub IsOfBytes : ValueType → Type 0
IsOfBytes (number n) = Unit {0}
IsOfBytes (ref n h) = ⊥

abbrev pub HaveDefaults : List (FieldOf TypeTree) → Type 0
HaveDefaults fs = All HasDefault (operands_of fs)

-- a field is written, where it may be
abbrev pub writes : FieldOf TypeTree → Move → Move
writes f m = asks (IsTrue f.mutable) m

-- null, or a function
abbrev pub IsCallable : Value → Type 0
IsCallable (ref_null s h) = Unit {0}
IsCallable (ref_function i t) = Unit {0}
IsCallable v = ⊥

-- what operators on abstract types find, if it is not null: an array, an unboxed scalar, and what can be compared
abbrev pub IsArray : Value → Type 0
IsArray (ref_null s h) = Unit {0}
IsArray (ref_object k t) = (f : FieldOf TypeTree) × (expanded t ≡ array_of f)
IsArray v = ⊥

abbrev pub IsUnboxed : Value → Type 0
IsUnboxed (ref_null s h) = Unit {0}
IsUnboxed (ref_i31 b) = Unit {0}
IsUnboxed v = ⊥

abbrev pub IsComparable : Value → Type 0
IsComparable (ref_null s h) = Unit {0}
IsComparable (ref_object k t) = Unit {0}
IsComparable (ref_i31 b) = Unit {0}
IsComparable v = ⊥

-- the address of a memory, and the index of a table, of 64 bits or of 32; a length for two of them is of the shorter
abbrev pub address : Bool → ValueType
address true = number i64
address false = number i32

-- the data count section, if there is one, names the data segment
abbrev pub IsData : Option ℕ → ℕ → Type 0
IsData None d = ⊥
IsData (Some n) d = d < n

-- the value below all others
abbrev pub last_of : List Value → Value
last_of [] = ref_null false none
last_of (v ∷ []) = v
last_of (v ∷ w ∷ ws) = last_of (w ∷ ws)

-- instructions begin, with these locals and results, for what is owed; and a body, with its arguments, the last on top
abbrev pub begun_with : List ValueType → List ValueType → Bool → List (Option Value) → List ValueType → Code
    → Activation
begun_with types results shared locals owed c = record {
  types = types;
  results = results;
  shared = shared;
  whole = c;
  locals = locals;
  owed = owed;
  innermost = record {
    code = c;
    values = [];
    block = record { params = []; results = results };
    continuation = behind;
    handlers = no_handlers;
    caught = None;
  };
  around = [];
}

abbrev pub begun : TypeTree → Signature → Body → List Value → List ValueType → Activation
begun t b f args owed = begun_with (b.params ++ f.locals) b.results (is_shared t)
    (map Some (reverse args) ++ map default_of f.locals) owed f.code

abbrev pub body_of : Option Function → Option Body
body_of None = None
body_of (Some f) = f.body

-- ---- steps under an answer

module _ (p : Program) (a : Answer) where
  -- values of these types on top, the last on top, and what comes of them and those below
  abbrev pub takes : List ValueType → List Value → (List Value → List Value → Move) → Move
  takes ts vs f = asks (AllFit p (take (length ts) vs) (stack ts)) (f (take (length ts) vs) (drop (length ts) vs))

  -- the answer's values, of these types
  abbrev pub gives : List ValueType → (List Value → Move) → Move
  gives ts f = allows (AllFit p a.values (stack ts)) (f a.values)

  -- the answer's values, which are read as of one type and written as of another
  abbrev pub copies : ValueType → ValueType → Move → Move
  copies s t m = allows (EachFits p a.values s) (asks (EachFits p a.values t) m)

  -- the operator may trap
  abbrev pub may_trap : Move → Move
  may_trap m = choose a.traps (done trapped) m

  -- ---- what the module has at an index

  abbrev pub type_there : ℕ → (TypeTree → Move) → Move
  type_there x f = found (slice_get p.«module».types x) f

  abbrev pub function_there : ℕ → (Function → Move) → Move
  function_there x f = found (slice_get p.functions x) f

  abbrev pub table_there : ℕ → (Table → Move) → Move
  table_there x f = found (slice_get p.«module».tables x) f

  abbrev pub global_there : ℕ → (Global → Move) → Move
  global_there x f = found (slice_get p.«module».globals x) f

  abbrev pub tag_there : ℕ → (TypeTree → Move) → Move
  tag_there x f = found (slice_get p.«module».tags x) f

  abbrev pub memory_there : ℕ → (MemoryType → Move) → Move
  memory_there x f = found (slice_get p.«module».memories x) f

  -- a data segment, by the data count section
  abbrev pub data_there : ℕ → Move → Move
  data_there d m = asks (IsData p.«module».data_count d) m

  -- an element segment, by its type
  abbrev pub segment_there : ℕ → (ValueType → Move) → Move
  segment_there x f = found (slice_get p.«module».elements x) f

  -- ---- leaving labels and activations (execution, control instructions)

  -- values come back to the caller, which awaits these types
  abbrev pub hand_back : List ValueType → List Value → List Activation → Move
  hand_back owed vs [] = asks (AllFit p vs (stack owed)) (done (returned vs))
  hand_back owed vs (c ∷ cs) = asks (AllFit p vs (stack owed))
      (done (next (record c { innermost = record c.innermost { values = vs ++ c.innermost.values } } ∷ cs)))

  -- values come out of a label, with these around it; a branch lands at a label
  abbrev pub come_out : Activation → List Label → List Value → List Activation → Move
  come_out act [] vs acts = hand_back act.owed vs acts
  come_out act (l ∷ ls) vs acts = done (next (record act {
    innermost = record l { values = vs ++ l.values };
    around = ls;
  } ∷ acts))

  abbrev pub land : Continuation → Activation → Label → List Label → List Value → List Activation → Move
  land behind act l ls vs acts = come_out act ls vs acts
  land (again body) act l ls vs acts = done
      (next (record act {
        innermost = record l { code = body; values = vs; handlers = no_handlers; caught = None };
        around = ls;
      } ∷ acts))

  -- a branch with these values to one of these labels, by its number
  abbrev pub jump : ℕ → Activation → List Label → List Value → List Activation → Move
  jump n act [] vs acts = stop
  jump zero act (l ∷ ls) vs acts = land l.continuation act l ls vs acts
  jump (suc n) act (l ∷ ls) vs acts = jump n act ls vs acts

  -- ---- exceptions (execution, control instructions, exception handling): one of a tag of type t, with these values
  module _ (t : TypeTree) (vs : List Value) where
    -- a clause for a tag, which is there, or for all
    abbrev pub is_for : Option ℕ → Move → Move
    is_for None m = m
    is_for (Some x) m = tag_there x (λ u. allows (u ≡ t) m)

    -- what a clause is for, what it hands on, and to which label
    abbrev pub caught_by : Catch → Handing
    caught_by (catch.One x l) = record { tag = Some x; values = vs; label = l }
    caught_by (catch.OneRef x l) = record { tag = Some x; values = ref_exn a.made t ∷ vs; label = l }
    caught_by (catch.All l) = record { tag = None; values = []; label = l }
    caught_by (catch.AllRef l) = record { tag = None; values = ref_exn a.made t ∷ []; label = l }

    abbrev pub tag_values : Option ℕ → List Value
    tag_values None = []
    tag_values (Some x) = vs

    -- a clause catches it, with these labels around
    abbrev pub hand_on : Handing → Activation → List Label → List Activation → Move
    hand_on h act ls acts = is_for h.tag
        (found (slice_get (map branch_type ls) h.label)
        (λ ts. asks (AllFit p h.values (stack ts)) (jump h.label act ls h.values acts)))

    abbrev pub catch_by : Option Catch → Activation → List Label → List Activation → Move
    catch_by None act ls acts = refused
    catch_by (Some c) act ls acts = hand_on (caught_by c) act ls acts

    abbrev pub turn_to : Option Clause → Activation → Label → List Label → List Activation → Move
    turn_to None act l ls acts = refused
    turn_to (Some c) act l ls acts = is_for c.tag (done (next (record act {
      innermost = record l {
        code = c.code;
        values = tag_values c.tag;
        continuation = behind;
        handlers = no_handlers;
        caught = Some (record { address = a.made; type = t });
      };
      around = ls;
    } ∷ acts)))

    abbrev pub handle : Handlers → Activation → Label → List Label → List Activation → Move
    handle no_handlers act l ls acts = refused
    handle (table cs) act l ls acts = catch_by (slice_get cs a.index) act ls acts
    handle (clauses c) act l ls acts = turn_to (clause_at c a.index) act l ls acts

    -- It leaves as many labels as the answer says, of this activation and then of its callers, and a clause catches it there; or it
    -- leaves them all.
    abbrev pub leave_labels : Activation → List Label → ℕ → List Activation → (ℕ → Move) → Move
    leave_labels act [] n acts further = further n
    leave_labels act (l ∷ ls) zero acts further = handle l.handlers act l ls acts
    leave_labels act (l ∷ ls) (suc n) acts further = leave_labels act ls n acts further

    abbrev pub unwind : List Activation → ℕ → Move
    unwind [] n = done (thrown t vs)
    unwind (act ∷ acts) n = leave_labels act (act.innermost ∷ act.around) n acts (unwind acts)

  -- an exception whose values the answer gives, of the types of its tag
  abbrev pub throw_again : TypeTree → List Activation → Move
  throw_again t acts = found (function_type t) (λ b. gives b.params (λ us. unwind t us acts a.leaves))

  -- ---- calls (execution, control instructions, function calls)

  -- what the host does: it traps, throws an exception, or gives results
  abbrev pub by_host : Option TypeTree → List ValueType → List ValueType → List Activation → Move
  by_host None results owed acts = may_trap (gives results (λ us. hand_back owed us acts))
  by_host (Some t) results owed acts = allows (IsMade p (ref_exn a.made t)) (throw_again t acts)

  -- the function that a reference names, and its body
  abbrev pub named : Option ℕ → Option Function
  named None = None
  named (Some x) = slice_get p.functions x

  -- a function begins above these activations, which await what is owed
  abbrev pub begin : Option Body → TypeTree → Signature → List Value → List ValueType → List Activation → Move
  begin None t b args owed acts = by_host a.throws b.results owed acts
  begin (Some f) t b args owed acts = done (next (begun t b f args owed ∷ acts))

  -- ---- the innermost activation
  module _ (act : Activation) (acts : List Activation) where
    abbrev pub vs : List Value
    vs = act.innermost.values

    abbrev pub labels : List Label
    labels = act.innermost ∷ act.around

    abbrev pub label_at : ℕ → Option (List ValueType)
    label_at n = slice_get (map branch_type labels) n

    -- it goes on with these values and these instructions
    abbrev pub going : List Value → Code → Activation
    going ws more = record act { innermost = record act.innermost { values = ws; code = more } }

    abbrev pub goes : List Value → Code → Move
    goes ws more = done (next (going ws more ∷ acts))

    -- values of these types go, and the answer's come, of those types; or the operator traps
    abbrev pub exchange : List ValueType → List ValueType → Code → Move
    exchange ts us more = takes ts vs (λ xs ws. may_trap (gives us (λ rs. goes (rs ++ ws) more)))

    -- an operator on numbers or vectors or a constant, and an access to a memory above an address, by their names
    abbrev pub compute : Op → Code → Move
    compute o more = found (computed (info_of o).name) (λ n. exchange (numbers n.takes) (numbers n.gives) more)

    abbrev pub access : Op → Code → Move
    access o more = found (argument_of (immediates_of o)) (λ i. memory_there i.memory (λ t.
        found (accessed (info_of o).name)
        (λ n. exchange (address t.memory64 ∷ numbers n.takes) (numbers n.gives) more)))

    -- ---- blocks and branches (execution, control instructions)

    abbrev pub within : Signature → Continuation → Handlers → Code → List Value → List Value → Code → Activation
    within b c h body args ws more = record act {
      innermost = record { code = body; values = args; block = b; continuation = c; handlers = h; caught = None };
      around = record act.innermost { values = ws; code = more } ∷ act.around;
    }

    -- the instructions of a block begin above a new label, with its parameters
    abbrev pub opens : BlockType → Continuation → Handlers → Code → List Value → Code → Move
    opens bt c h body ws more = found (block_signature p.«module» bt)
        (λ b. takes b.params ws (λ args us. done (next (within b c h body args us more ∷ acts))))

    abbrev pub enter : Op → Code → Code → Move
    enter (op.Control (control.Block bt)) body more = opens bt behind no_handlers body vs more
    enter (op.Control (control.Loop bt)) body more = opens bt (again body) no_handlers body vs more
    enter (op.Control (control.If bt)) body more = pops vs
        (λ c ws. asks (Fits p c i32_type) (opens bt behind no_handlers (either_part a.condition body) ws more))
    enter (op.Exception (op.Try bt)) body more = opens bt behind (clauses body) body vs more
    enter (op.Exception (op.TryTable t)) body more = opens t.ty behind (table t.catches) body vs more
    enter o body more = stop

    abbrev pub branch : ℕ → List Value → Move
    branch n ws = found (label_at n) (λ ts. takes ts ws (λ xs us. jump n act labels xs acts))

    -- under a condition, and else with these values
    abbrev pub branch_if : Bool → ℕ → List Value → List Value → Code → Move
    branch_if b n ws us more = found (label_at n)
        (λ ts. takes ts ws (λ xs rest. choose b (jump n act labels xs acts) (goes us more)))

    -- ---- calls

    -- A function takes its arguments off these values. A call goes on after it; a tail call takes the activation's place, and owes
    -- what that does. The place of an argument is a parameter of the function's own type.
    abbrev pub invoke : Bool → Value → List Value → Code → Move
    invoke tail (ref_function i t) ws more = found (function_type t) (λ b. takes b.params ws (λ args us.
        begin (body_of (named i)) t b args (if tail then act.owed else b.results)
        (if tail then acts else going us more ∷ acts)))
    invoke tail (ref_null s h) ws more = done trapped
    invoke tail v ws more = stop

    abbrev pub call : Bool → ℕ → Code → Move
    call tail x more = function_there x (λ f. invoke tail (ref_function (Some x) f.type) vs more)

    abbrev pub call_reference : Bool → ℕ → Code → Move
    call_reference tail x more = type_there x
        (λ t. pops vs (λ v ws. asks (Fits p v (ref true (concrete t))) (invoke tail v ws more)))

    -- Through a table: the answer says what it holds there, which has to be null or a function, and whether that passes the test of its
    -- type; if not, or where the index is out of bounds, the call traps.
    abbrev pub call_indirect : Bool → ℕ → ℕ → Code → Move
    call_indirect tail y x more = table_there x (λ t. type_there y (λ u. takes (address t.table64 ∷ []) vs (λ c ws.
        may_trap (allows (Fits p a.held t.element) (asks (IsCallable a.held) (choose a.condition
        (allows (Fits p a.held (ref false (concrete u))) (invoke tail a.held ws more)) (done trapped)))))))

    abbrev pub operate_control : ControlOperator → Code → Move
    operate_control control.Unreachable more = done trapped
    operate_control control.Nop more = goes vs more
    operate_control (control.Br n) more = branch n vs
    operate_control (control.BrIf n) more = pops vs
        (λ c ws. asks (Fits p c i32_type) (branch_if a.condition n ws ws more))
    operate_control (control.BrTable t) more = pops vs
        (λ c ws. asks (Fits p c i32_type) (branch (get_or t.targets a.index t.default) ws))
    operate_control control.Return more = takes act.results vs (λ us ws. hand_back act.owed us acts)
    operate_control (control.Call x) more = call false x more
    operate_control (control.ReturnCall x) more = call true x more
    operate_control (control.CallIndirect y x) more = call_indirect false y x more
    operate_control (control.ReturnCallIndirect y x) more = call_indirect true y x more
    operate_control (control.CallRef x) more = call_reference false x more
    operate_control (control.ReturnCallRef x) more = call_reference true x more
    operate_control control.RefAsNonNull more = pops vs
        (λ v ws. asks (IsAReference v) (choose (is_null v) (done trapped) (goes (v ∷ ws) more)))
    operate_control (control.BrOnNull n) more = pops vs
        (λ v ws. asks (IsAReference v) (branch_if (is_null v) n ws (v ∷ ws) more))
    operate_control (control.BrOnNonNull n) more = pops vs
        (λ v ws. asks (IsAReference v) (choose (is_null v) (goes ws more) (branch n (v ∷ ws))))
    operate_control o more = stop

    -- ---- exceptions

    abbrev pub throw_reference : Value → Move
    throw_reference (ref_exn k t) = throw_again t (act ∷ acts)
    throw_reference (ref_null s h) = done trapped
    throw_reference v = stop

    -- what a label caught
    abbrev pub caught_at : ℕ → List Label → Option Exception
    caught_at n [] = None
    caught_at zero (l ∷ ls) = l.caught
    caught_at (suc n) (l ∷ ls) = caught_at n ls

    abbrev pub operate_exception : ExceptionTree → Move
    operate_exception (op.Throw x) = tag_there x
        (λ t. found (function_type t) (λ b. takes b.params vs (λ us ws. unwind t us (act ∷ acts) a.leaves)))
    operate_exception op.ThrowRef = pops vs (λ v ws.
        asks (Fits p v (ref true (abstract false exn))) (throw_reference v))
    operate_exception (op.Rethrow n) = found (caught_at n labels) (λ e. throw_again e.type (act ∷ acts))
    operate_exception o = stop

    -- ---- parametric and variable instructions

    -- one of two values of one type
    abbrev pub select : ValueType → Code → Move
    select t more = pops vs (λ c ws. asks (Fits p c i32_type) (pops ws (λ w us. pops us (λ v rest.
        asks (Fits p v t × Fits p w t) (goes ((if a.condition then v else w) ∷ rest) more)))))

    abbrev pub operate_parametric : ParametricTree → Code → Move
    operate_parametric op.Drop more = pops vs (λ v ws. goes ws more)
    operate_parametric op.Select more = pops vs
        (λ c ws. pops ws (λ w us. asks (IsNumberValue w) (select (least_type w) more)))
    operate_parametric (op.TypedSelect t) more = found (meant p.«module» t) (λ u. select u more)
    operate_parametric o more = stop

    abbrev pub set_local : ℕ → Value → List Value → Code → Move
    set_local x v ws more = found (slice_get act.types x)
        (λ t. asks (Fits p v t) (done (next (record (going ws more) { locals = slice_set act.locals x (Some v) }
        ∷ acts))))

    abbrev pub operate_memory : MemoryOperator → Code → Move
    operate_memory (memory.LocalGet x) more = found (slice_get act.locals x) (λ o. found o (λ v. goes (v ∷ vs) more))
    operate_memory (memory.LocalSet x) more = pops vs (λ v ws. set_local x v ws more)
    operate_memory (memory.LocalTee x) more = pops vs (λ v ws. set_local x v (v ∷ ws) more)
    operate_memory (memory.GlobalGet x) more = global_there x (λ t. exchange [] (t.content ∷ []) more)
    operate_memory (memory.GlobalSet x) more = global_there x
        (λ t. asks (IsTrue t.mutable) (exchange (t.content ∷ []) [] more))
    operate_memory (memory.MemorySize x) more = memory_there x (λ t. exchange [] (address t.memory64 ∷ []) more)
    operate_memory (memory.MemoryGrow x) more = memory_there x
        (λ t. exchange (address t.memory64 ∷ []) (address t.memory64 ∷ []) more)
    operate_memory o more = access (op.Memory o) more

    -- ---- references, and ranges of tables and memories

    abbrev pub operate_bulk : BulkOperator → Code → Move
    operate_bulk (bulk.RefNull h) more = found (meant_heap p.«module» h) (λ k. goes (null_of k ∷ vs) more)
    operate_bulk bulk.RefIsNull more = pops vs (λ v ws. asks (IsAReference v) (goes (number_value i32 a.made ∷ ws) more))
    operate_bulk (bulk.RefFunc x) more = function_there x (λ f. goes (ref_function (Some x) f.type ∷ vs) more)
    operate_bulk (bulk.TableInit e x) more = segment_there e (λ s. table_there x (λ t.
        takes (address t.table64 ∷ i32_type ∷ i32_type ∷ []) vs
        (λ us ws. may_trap (copies s t.element (goes ws more)))))
    operate_bulk (bulk.TableCopy x y) more = table_there x (λ t. table_there y (λ s.
        takes (address t.table64 ∷ address s.table64 ∷ address (t.table64 && s.table64) ∷ []) vs
        (λ us ws. may_trap (copies s.element t.element (goes ws more)))))
    operate_bulk (bulk.TableGet x) more = table_there x
        (λ t. exchange (address t.table64 ∷ []) (t.element ∷ []) more)
    operate_bulk (bulk.TableSet x) more = table_there x
        (λ t. exchange (address t.table64 ∷ t.element ∷ []) [] more)
    operate_bulk (bulk.TableGrow x) more = table_there x
        (λ t. exchange (t.element ∷ address t.table64 ∷ []) (address t.table64 ∷ []) more)
    operate_bulk (bulk.TableSize x) more = table_there x (λ t. exchange [] (address t.table64 ∷ []) more)
    operate_bulk (bulk.TableFill x) more = table_there x
        (λ t. exchange (address t.table64 ∷ t.element ∷ address t.table64 ∷ []) [] more)
    operate_bulk (bulk.ElemDrop e) more = segment_there e (λ s. goes vs more)
    operate_bulk (bulk.DataDrop d) more = data_there d (goes vs more)
    operate_bulk (bulk.MemoryInit d x) more = memory_there x
        (λ t. data_there d (exchange (address t.memory64 ∷ i32_type ∷ i32_type ∷ []) [] more))
    operate_bulk (bulk.MemoryCopy x y) more = memory_there x (λ t. memory_there y (λ s.
        exchange (address t.memory64 ∷ address s.memory64 ∷ address (t.memory64 && s.memory64) ∷ []) [] more))
    operate_bulk (bulk.MemoryFill x) more = memory_there x
        (λ t. exchange (address t.memory64 ∷ i32_type ∷ address t.memory64 ∷ []) [] more)
    operate_bulk (bulk.MemoryDiscard x) more = memory_there x
        (λ t. exchange (address t.memory64 ∷ address t.memory64 ∷ []) [] more)

    -- ---- atomic accesses

    abbrev pub operate_atomic : AtomicOperator → Code → Move
    operate_atomic atomic.AtomicFence more = goes vs more
    operate_atomic o more = access (op.Atomic o) more

    -- ---- objects and casts (execution, aggregate instructions)

    -- what a struct or an array holds
    abbrev pub Holding : Type 0
    Holding = InnerOf TypeTree → Option (List (FieldOf TypeTree))

    -- an object by what it was made to hold; a null traps
    abbrev pub object : Holding → Value → (List (FieldOf TypeTree) → Move) → Move
    object of (ref_object k t) f = found (of (expanded t)) f
    object of (ref_null s h) f = done trapped
    object of v f = stop

    -- an object of the type with this index, a struct or an array, above which there are numbers
    abbrev pub object_under : Holding → List ValueType → ℕ → List Value
        → (List (FieldOf TypeTree) → List Value → Move) → Move
    object_under of ns x ws f = type_there x (λ t. found (of (expanded t)) (λ own.
        takes (ref true (concrete t) ∷ ns) ws (λ us rest. may_trap (object of (last_of us) (λ fs. f fs rest)))))

    -- a field of the object's own type is read, where it is stored as the operator says, and is written
    abbrev pub read : (StorageOf TypeTree → Type 0) → Holding → List ValueType → ℕ → ℕ → Code → Move
    read stored of ns x i more = object_under of ns x vs (λ fs ws. found (slice_get fs i) (λ f.
        asks (stored f.storage) (gives (operand_of f.storage ∷ []) (λ rs. goes (rs ++ ws) more))))

    abbrev pub write : Holding → List ValueType → ℕ → ℕ → Value → List Value → Code → Move
    write of ns x i v us more = object_under of ns x us (λ fs ws. found (slice_get fs i) (λ f.
        writes f (asks (Fits p v (operand_of f.storage)) (goes ws more))))

    -- An object is made with the type with this index, of these values, or of the defaults of its fields. What else a new array is
    -- made of are numbers of a data segment, or the answer's elements of an element segment.
    abbrev pub make : Holding → ℕ → (List (FieldOf TypeTree) → List ValueType)
        → (List (FieldOf TypeTree) → Move → Move) → Code → Move
    make of x takes_for further more = type_there x (λ t. found (of (expanded t)) (λ fs.
        takes (takes_for fs) vs (λ us ws. further fs (goes (ref_object a.made t ∷ ws) more))))

    -- bytes of a data segment are read as what is held
    abbrev pub FromData : ℕ → List (FieldOf TypeTree) → Type 0
    FromData d fs = All IsOfBytes (operands_of fs) × IsData p.«module».data_count d

    -- elements of a segment are stored in an array
    abbrev pub stores_from : ℕ → List (FieldOf TypeTree) → (FieldOf TypeTree → Move → Move) → Move → Move
    stores_from e fs may m = segment_there e
        (λ s. found (slice_get fs 0) (λ f. may f (copies s (operand_of f.storage) m)))

    -- A cast to a type: a null passes exactly if that may be null, another value if the answer says so, which it may if the
    -- value is of that type.
    abbrev pub cast : Bool → HeapOf TypeTree → Value → (Bool → Move) → Move
    cast n h v f = allows (IsTrue (a.condition && not (is_null v)) → Fits p v (ref false h))
        (f (if is_null v then n else a.condition))

    -- of the hierarchy of the type that is named
    abbrev pub cast_top : Bool → HeapType → (Bool → Value → List Value → Move) → Move
    cast_top n h f = found (meant_heap p.«module» h)
        (λ k. pops vs (λ v ws. asks (IsMade p v × IsAkin (least_type v) k) (cast n k v (λ b. f b v ws))))

    -- between two types of one hierarchy
    abbrev pub cast_from : Reference → Reference → (Bool → Value → List Value → Move) → Move
    cast_from from to f = found (meant_heap p.«module» from.heap) (λ h. found (meant_heap p.«module» to.heap) (λ k.
        pops vs (λ v ws. asks (Fits p v (ref from.nullable h) × IsAkin (ref from.nullable h) k)
        (cast to.nullable k v (λ b. f b v ws)))))

    -- a value below an abstract type, of which a number is made, and which is such a one; or a value of another hierarchy, as shared, and
    -- a null exactly for a null
    abbrev pub IsOf : Abstract → Value → Type 0
    IsOf h v = (s : Bool) × Fits p v (ref true (abstract s h))

    abbrev pub number_from : Abstract → (Value → Type 0) → Code → Move
    number_from h is more = pops vs
        (λ v ws. asks (IsOf h v × is v) (may_trap (goes (number_value i32 a.made ∷ ws) more)))

    abbrev pub null_in : Abstract → Value → Value
    null_in h (ref_null s k) = ref_null s h
    null_in h v = v

    abbrev pub convert : Abstract → Abstract → Code → Move
    convert h k more = pops vs (λ v ws. asks (IsOf h v) (choose (is_null v) (goes (null_in k v ∷ ws) more)
        (allows ((s : Bool) → Fits p v (ref true (abstract s h))
        → AllFit p a.values (known (ref false (abstract s k)) ∷ [])) (goes (a.values ++ ws) more))))

    abbrev pub operate_gc : GcOperator → Code → Move
    operate_gc gc.RefEq more = pops vs (λ v ws. pops ws
        (λ w us. asks ((IsOf eq v × IsComparable v) × (IsOf eq w × IsComparable w))
        (goes (number_value i32 a.made ∷ us) more)))
    operate_gc (gc.StructNew x) more = make struct_fields x operands_of (λ fs m. m) more
    operate_gc (gc.StructNewDefault x) more = make struct_fields x (λ fs. [])
        (λ fs m. asks (HaveDefaults fs) m) more
    operate_gc (gc.StructGet x i) more = read IsWhole struct_fields [] x i more
    operate_gc (gc.StructGetS x i) more = read IsPacked struct_fields [] x i more
    operate_gc (gc.StructGetU x i) more = read IsPacked struct_fields [] x i more
    operate_gc (gc.StructSet x i) more = pops vs (λ v ws. write struct_fields [] x i v ws more)
    operate_gc (gc.ArrayNew x) more = make array_fields x (λ fs. operands_of fs ++ i32_type ∷ []) (λ fs m. m) more
    operate_gc (gc.ArrayNewDefault x) more = make array_fields x (λ fs. i32_type ∷ [])
        (λ fs m. asks (HaveDefaults fs) m) more
    operate_gc (gc.ArrayNewFixed x n) more = make array_fields x
        (λ fs. flat_map (λ (u : ValueType). replicate n u) (operands_of fs)) (λ fs m. m) more
    operate_gc (gc.ArrayNewData x d) more = make array_fields x (λ fs. i32_type ∷ i32_type ∷ [])
        (λ fs m. asks (FromData d fs) (may_trap m)) more
    operate_gc (gc.ArrayNewElem x e) more = make array_fields x (λ fs. i32_type ∷ i32_type ∷ [])
        (λ fs m. may_trap (stores_from e fs (λ f n. n) m)) more
    operate_gc (gc.ArrayGet x) more = read IsWhole array_fields (i32_type ∷ []) x 0 more
    operate_gc (gc.ArrayGetS x) more = read IsPacked array_fields (i32_type ∷ []) x 0 more
    operate_gc (gc.ArrayGetU x) more = read IsPacked array_fields (i32_type ∷ []) x 0 more
    operate_gc (gc.ArraySet x) more = pops vs (λ v ws. write array_fields (i32_type ∷ []) x 0 v ws more)
    operate_gc gc.ArrayLen more = number_from array IsArray more
    operate_gc (gc.ArrayFill x) more = pops vs
        (λ n ws. asks (Fits p n i32_type) (pops ws (λ v us. write array_fields (i32_type ∷ []) x 0 v us more)))
    operate_gc (gc.ArrayCopy x y) more = object_under array_fields (i32_type ∷ i32_type ∷ []) y vs
        (λ ss ws. object_under array_fields (i32_type ∷ []) x ws (λ fs us.
        found (slice_get ss 0) (λ s. found (slice_get fs 0) (λ f. writes f (asks (AreStoredAlike s.storage f.storage)
        (copies (operand_of s.storage) (operand_of f.storage) (goes us more)))))))
    operate_gc (gc.ArrayInitData x d) more = object_under array_fields (i32_type ∷ i32_type ∷ i32_type ∷ []) x vs
        (λ fs ws. found (slice_get fs 0) (λ f. writes f (asks (FromData d fs) (goes ws more))))
    operate_gc (gc.ArrayInitElem x e) more = object_under array_fields (i32_type ∷ i32_type ∷ i32_type ∷ []) x vs
        (λ fs ws. stores_from e fs writes (goes ws more))
    operate_gc (gc.RefTestNonNull h) more = cast_top false h (λ b v ws. goes (number_value i32 a.made ∷ ws) more)
    operate_gc (gc.RefTestNullable h) more = cast_top true h (λ b v ws. goes (number_value i32 a.made ∷ ws) more)
    operate_gc (gc.RefCastNonNull h) more = cast_top false h (λ b v ws. choose b (goes (v ∷ ws) more) (done trapped))
    operate_gc (gc.RefCastNullable h) more = cast_top true h (λ b v ws. choose b (goes (v ∷ ws) more) (done trapped))
    operate_gc (gc.BrOnCast n from to) more = cast_from from to
        (λ b v ws. choose b (branch n (v ∷ ws)) (goes (v ∷ ws) more))
    operate_gc (gc.BrOnCastFail n from to) more = cast_from from to
        (λ b v ws. choose b (goes (v ∷ ws) more) (branch n (v ∷ ws)))
    operate_gc gc.AnyConvertExtern more = convert extern any more
    operate_gc gc.ExternConvertAny more = convert any extern more
    operate_gc gc.RefI31 more = exchange (i32_type ∷ []) (ref false (abstract false i31) ∷ []) more
    operate_gc gc.I31GetS more = number_from i31 IsUnboxed more
    operate_gc gc.I31GetU more = number_from i31 IsUnboxed more

    -- ---- vectors: an operator reaches into a memory if it carries an argument for that, and else it computes

    abbrev pub operate_vector : Option MemArg → Op → Code → Move
    operate_vector None o more = compute o more
    operate_vector (Some i) o more = access o more

    -- ---- all of them; operators of the three proposals that are not standard have no rule

    abbrev pub operate : Op → Code → Move
    operate (op.Control o) more = operate_control o more
    operate (op.Parametric o) more = operate_parametric o more
    operate (op.Exception o) more = operate_exception o
    operate (op.Memory o) more = operate_memory o more
    operate (op.Bulk o) more = operate_bulk o more
    operate (op.Gc o) more = operate_gc o more
    operate (op.Const o) more = compute (op.Const o) more
    operate (op.Numeric o) more = compute (op.Numeric o) more
    operate (op.Simd o) more = operate_vector (argument_of (immediates_of (op.Simd o))) (op.Simd o) more
    operate (op.SimdNumeric o) more = compute (op.SimdNumeric o) more
    operate (op.Atomic o) more = operate_atomic o more
    operate o more = stop

    -- the end of a block's instructions, or of a part of them
    abbrev pub end : Move
    end = asks (AllFit p vs (stack act.innermost.block.results)) (come_out act act.around vs acts)

    abbrev pub execute : Code → Move
    execute (close (op.Exception (op.Delegate n))) = found (label_at (suc n)) (λ ts. end)
    execute (close o) = end
    execute (plain o more) = operate o more
    execute (nested o body more) = enter o body more
    execute (turn o more) = end
