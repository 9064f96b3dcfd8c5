-- What a store gives to the operator that is next, and what it is afterwards (WebAssembly 3.0, execution, instructions). A run's step takes
-- an answer; without a store that is any answer of the right types, and here it is what the standard says. What the standard computes from
-- floats and vectors, what other threads write, and what is left to a host comes from outside as before. Operands are counted from the top.
use Rattle.std.specs.Prelude.{◌≡◌, ◌⊎◌, ◌↔◌, ℕ, ◌+◌, ◌*◌, ◌%◌, ◌^◌, Bool, true, false, IsTrue, List, [], ◌∷◌, ◌++◌, length, reverse, take, drop, replicate, get_or, Option, Some, None, slice_get, nat_le, if◌then◌else◌}
use Rattle.wasm_types.specs.trees.Types.{i32, i64, f32, f64, ref, concrete, FieldOf}
use Rattle.wasm_types.specs.trees.Trees.{TypeTree}
use Rattle.wasm_types.specs.trees.Below.{expanded}
use Rattle.wasm_types.specs.values.declared.heap.HeapType.{HeapType}
use Rattle.wasm_types.specs.externs.declared.memory.MemoryType.{MemoryType}
use Rattle.wasm_operators_immediates.specs.declared.memory.MemArg.{MemArg}
use Rattle.wasm_operators_enums.specs.declared.control.ControlOperator.{ControlOperator}
use Rattle.wasm_operators_enums.specs.declared.control.ControlOperator.TheVariants as control
use Rattle.wasm_operators_enums.specs.declared.memory.MemoryOperator.{MemoryOperator}
use Rattle.wasm_operators_enums.specs.declared.memory.MemoryOperator.TheVariants as memory
use Rattle.wasm_operators_enums.specs.declared.numeric.NumericOperator.{NumericOperator}
use Rattle.wasm_operators_enums.specs.declared.constant.ConstOperator.{ConstOperator}
use Rattle.wasm_operators_enums.specs.declared.constant.ConstOperator.TheVariants as const
use Rattle.wasm_operators_enums.specs.declared.bulk.BulkOperator.{BulkOperator}
use Rattle.wasm_operators_enums.specs.declared.bulk.BulkOperator.TheVariants as bulk
use Rattle.wasm_operators_enums.specs.declared.gc.GcOperator.{GcOperator}
use Rattle.wasm_operators_enums.specs.declared.gc.GcOperator.TheVariants as gc
use Rattle.wasm_operators_enums.specs.declared.atomic.AtomicOperator.{AtomicOperator}
use Rattle.wasm_operators_enums.specs.declared.atomic.AtomicOperator.TheVariants as atomic
use Rattle.wasm_operators_enums.specs.Op as op
use Rattle.wasm_operators_enums.specs.Op.{Op, ParametricTree, ExceptionTree}
use Rattle.wasm_operators_encoding.specs.expressions.Code.{Code, close, plain, nested, turn}
use Rattle.wasm_operator_validator_rules.specs.Context.{Table, Signature}
use Rattle.wasm_operator_validator_soundness.specs.runs.Values.{Body, Program, Value, number_value, ref_null, ref_function, ref_object, ref_i31, ref_host, ref_extern, ref_exn, is_null, Fits, EachFits}
use Rattle.wasm_operator_validator_soundness.specs.runs.States.{Activation, State, Answer}
use Rattle.wasm_operator_validator_soundness.specs.runs.Machine.{meant_heap, function_type_in, fields_in, operand_of, body_of, named, caught_at}
use Rattle.wasm_operator_validator_soundness.specs.runs.Soundness.{step}
use Rattle.wasm_operator_validator_soundness.specs.runs.Progress.{next_can_trap}
use Rattle.wasm_operator_validator_store.specs.Stores.{ObjectInstance, ExceptionInstance, Store, range, placed, nothing, IsWithin, bits_of, is_true, truth, integer_bits, extended, unpacked, sized, failure, same, defaults, field_at, most_counted, pages_held, grown, global_in, table_in, memory_at, memory_in, segment_in, data_in, with_global, with_table, with_memory, without_data, without_segment, with_object, with_fields, with_exception, with_extern}
use Rattle.wasm_operator_validator_store.specs.Memories.{number_of, bytes_of, past, Access, reads, writes, Reach, memory_access, simd_access, stored_size, elements_from}
use Rattle.wasm_operator_validator_store.specs.Atomics.{is_misaligned, AtomicAccess, number_given, notification, atomic_access}
use Rattle.wasm_operator_validator_store.specs.Integers.{Operation, integer_operation}
use Rattle.wasm_operator_validator_store.specs.Handling.{place_of}
use Rattle.wasm_operator_validator_store.specs.ValidStores.{Each, Knows, InWidth, IsByte, StoreInWidth, StoreFits, Evolves}

-- the number of arguments of a function or a tag
abbrev pub arity : Option Signature → ℕ
arity None = 0
arity (Some b) = length b.params

-- whether an index of a table has 64 bits
abbrev pub is_wide : Option Table → Bool
is_wide None = false
is_wide (Some t) = t.table64

-- whether addresses of a memory have 64 bits, and whether other threads use it too
abbrev pub is_wide_memory : Option MemoryType → Bool
is_wide_memory None = false
is_wide_memory (Some t) = t.memory64

abbrev pub is_shared_memory : Option MemoryType → Bool
is_shared_memory None = false
is_shared_memory (Some t) = t.shared

-- which of two holds
abbrev pub Either : Bool → Type 0 → Type 0 → Type 0
Either true P Q = P
Either false P Q = Q

module _ (p : Program) (s : State) (before : Store) (a : Answer) (after : Store) where
  -- ---- ways to go on

  -- nothing comes, and nothing changes
  abbrev pub Stays : Type 0
  Stays = (a.values ≡ []) × (after ≡ before)

  abbrev pub Traps : Type 0
  Traps = IsTrue a.traps × Stays

  -- no trap, but these values, and the store is this then; or this number, and nothing changes
  abbrev pub Gives : List Value → Store → Type 0
  Gives vs u = (a.values ≡ vs) × (a.traps ≡ false) × (after ≡ u)

  abbrev pub Tells : ℕ → Type 0
  Tells b = (a.made ≡ b) × Gives [] before

  -- numbers, from outside, within their widths; and a trap, if the operator may
  abbrev pub Outside : Type 0
  Outside = (step p s a).is_answer × Each IsWithin a.values × (after ≡ before)
      × (IsTrue a.traps → IsTrue (next_can_trap s))

  -- what is there, or else a trap; and what is there if the code is valid
  abbrev pub OrTraps : {A : Type 0} → Option A → (A → Type 0) → Type 0
  OrTraps None F = Traps
  OrTraps (Some x) F = F x

  abbrev pub There : {A : Type 0} → Option A → (A → Type 0) → Type 0
  There None F = ⊥
  There (Some x) F = F x

  -- the object that a reference names; a null traps
  abbrev pub OfObject : Value → (ℕ → ObjectInstance → Type 0) → Type 0
  OfObject (ref_object k t) F = There (slice_get before.objects k) (F k)
  OfObject v F = Traps

  -- an object is made, with these fields or elements, of which the answer has those that come from a segment
  abbrev pub Makes : TypeTree → List Value → List Value → Type 0
  Makes t vs given = (a.made ≡ length before.objects)
      × Gives given (with_object before (record { type = t; fields = vs }))

  -- ---- memories

  abbrev pub shared : ℕ → Bool
  shared x = is_shared_memory (slice_get p.«module».memories x)

  -- Bytes of a memory, from a place on, if they are there. Of a shared one, which other threads write and which may have grown, any
  -- bytes, and there may be a trap past what was there.
  abbrev pub Reading : ℕ → ℕ → ℕ → (List ℕ → Type 0) → Type 0
  Reading x i n F = Either (shared x)
      ((IsTrue (past (length (memory_in before x)) i n) × Traps)
      ⊎ ((bs : List ℕ) × (length bs ≡ n) × Each IsByte bs × F bs))
      (OrTraps (range (memory_in before x) i n) F)

  -- Bytes are written. What a shared memory holds is not kept.
  abbrev pub Writing : ℕ → ℕ → List ℕ → Type 0
  Writing x i bs = Either (shared x)
      ((IsTrue (past (length (memory_in before x)) i (length bs)) × Traps) ⊎ Gives [] before)
      (OrTraps (placed (memory_in before x) i bs) (λ cs. Gives [] (with_memory before x cs)))

  -- a size, of a shared memory any
  abbrev pub wide_memory : ℕ → Bool
  wide_memory x = is_wide_memory (slice_get p.«module».memories x)

  abbrev pub Sized : ℕ → Type 0
  Sized x = (n : ℕ) × IsWithin (sized (wide_memory x) n) × Gives (sized (wide_memory x) n ∷ []) before

  abbrev pub size_of : ℕ → Value
  size_of x = sized (wide_memory x) (pages_held (memory_at before x))

  -- it grows, or it does not; the engine may always have it so
  abbrev pub GrowsTo : ℕ → Option (List ℕ) → Type 0
  GrowsTo x None = Gives (failure (wide_memory x) ∷ []) before
  GrowsTo x (Some bs) = Gives (size_of x ∷ []) (with_memory before x bs) ⊎ Gives (failure (wide_memory x) ∷ []) before

  -- so many elements of an array, from a place of a data segment on
  abbrev pub OfData : ℕ → TypeTree → ℕ → ℕ → (List Value → Type 0) → Type 0
  OfData d t i n F = OrTraps (field_at (expanded t) 0) (λ (f : FieldOf TypeTree).
      OrTraps (range (data_in before d) i (n * stored_size f.storage)) (λ bs. F (elements_from f.storage n bs)))

  -- ---- exceptions

  -- one of this tag, thrown in such a state, goes to the clause that catches it
  abbrev pub LandsFrom : State → ℕ → Type 0
  LandsFrom x tag = (a.leaves ≡ (place_of before.addresses.tags tag x).leaves)
      × (a.index ≡ (place_of before.addresses.tags tag x).clause)

  abbrev pub Lands : ℕ → Type 0
  Lands tag = LandsFrom s tag

  -- the one at this address is thrown again
  abbrev pub ThrowsAgain : ℕ → Type 0
  ThrowsAgain k = There (slice_get before.exceptions k)
      (λ x. (a.made ≡ k) × (a.values ≡ x.values) × (after ≡ before) × Lands x.tag)

  abbrev pub Throws : ExceptionInstance → Type 0
  Throws x = (a.made ≡ length before.exceptions) × (a.values ≡ []) × (after ≡ with_exception before x) × Lands x.tag

  -- ---- hosts

  -- in which state a called function runs: a tail call has left the activation that calls
  abbrev pub called_in : Bool → State
  called_in true = drop 1 s
  called_in false = s

  module _ (tail : Bool) where
    -- what a host returns, or throws, is in the store
    abbrev pub HostEnds : Option TypeTree → Type 0
    HostEnds None = Each (Knows after) a.values
    HostEnds (Some t) = (x : ExceptionInstance) × (slice_get after.exceptions a.made ≡ Some x)
        × (slice_get after.tags x.tag ≡ Some t) × (a.values ≡ x.values) × LandsFrom (called_in tail) x.tag

    -- It may change whatever may change, as long as all fits, and numbers are within their widths.
    abbrev pub HostActs : Type 0
    HostActs = (step p s a).is_answer × Evolves before after × StoreFits p after × HostEnds a.throws
        × (StoreInWidth before → StoreInWidth after × Each InWidth a.values)

    abbrev pub Begins : Option Body → Type 0
    Begins None = HostActs
    Begins (Some f) = (a.traps ≡ false) × Stays

    abbrev pub Calls : Value → Type 0
    Calls (ref_function i t) = Begins (body_of (named p a i))
    Calls v = Stays

  -- ---- operators, above these values
  module _ (act : Activation) where
    abbrev pub top : ℕ → Value
    top n = get_or act.innermost.values n nothing

    abbrev pub index : ℕ → ℕ
    index n = bits_of (top n)

    abbrev pub tops : ℕ → List Value
    tops n = take n act.innermost.values

    -- under the condition on top
    abbrev pub Decides : Type 0
    Decides = (a.condition ≡ is_true (top 0)) × Stays

    abbrev pub type_named : ℕ → Option TypeTree
    type_named x = slice_get p.«module».types x

    abbrev pub wide : ℕ → Bool
    wide x = is_wide (slice_get p.«module».tables x)

    -- a call through a table, by the type of what is there
    abbrev pub CallsIndirect : Bool → ℕ → ℕ → Type 0
    CallsIndirect tail y x = OrTraps (slice_get (table_in before x) (index 0)) (λ v. There (type_named y) (λ t.
        (a.held ≡ v) × (IsTrue a.condition ↔ Fits p v (ref false (concrete t)))
        × Either a.condition (Calls tail v) Stays))

    abbrev pub GivesControl : ControlOperator → Type 0
    GivesControl (control.BrIf n) = Decides
    GivesControl (control.BrTable t) = (a.index ≡ index 0) × Stays
    GivesControl (control.Call x) = Begins false (body_of (slice_get p.functions x))
    GivesControl (control.ReturnCall x) = Begins true (body_of (slice_get p.functions x))
    GivesControl (control.CallIndirect y x) = CallsIndirect false y x
    GivesControl (control.ReturnCallIndirect y x) = CallsIndirect true y x
    GivesControl (control.CallRef x) = Calls false (top 0)
    GivesControl (control.ReturnCallRef x) = Calls true (top 0)
    GivesControl o = Stays

    abbrev pub GivesParametric : ParametricTree → Type 0
    GivesParametric op.Drop = Stays
    GivesParametric o = Decides

    abbrev pub ThrowsReference : Value → Type 0
    ThrowsReference (ref_exn k t) = ThrowsAgain k
    ThrowsReference v = Stays

    abbrev pub GivesException : ExceptionTree → Type 0
    GivesException (op.Throw x) = Throws (record {
      tag = get_or before.addresses.tags x 0;
      values = tops (arity (function_type_in (slice_get p.«module».tags x)));
    })
    GivesException op.ThrowRef = ThrowsReference (top 0)
    GivesException (op.Rethrow n) = There (caught_at p a act (drop 1 s) n (act.innermost ∷ act.around))
        (λ e. ThrowsAgain e.address)
    GivesException o = Stays

    -- what is read or written lies at the address, which is below what the operator takes besides, and as much further as the offset says
    abbrev pub Accesses : MemArg → Access → Type 0
    Accesses m (reads ts n k f) = Reading m.memory (index (length ts) + m.offset) k
        (λ bs. Gives (number_value n (f (index 0) bs) ∷ []) before)
    Accesses m (writes n k f) = Writing m.memory (index 1 + m.offset) (bytes_of k (f (index 0)))

    abbrev pub Reaches : Reach → Type 0
    Reaches r = Accesses r.argument r.access

    abbrev pub GivesMemory : MemoryOperator → Type 0
    GivesMemory (memory.LocalGet x) = Stays
    GivesMemory (memory.LocalSet x) = Stays
    GivesMemory (memory.LocalTee x) = Stays
    GivesMemory (memory.GlobalGet x) = Gives (global_in before x ∷ []) before
    GivesMemory (memory.GlobalSet x) = Gives [] (with_global before x (top 0))
    GivesMemory (memory.MemorySize x) = Either (shared x) (Sized x) (Gives (size_of x ∷ []) before)
    GivesMemory (memory.MemoryGrow x) = Either (shared x) (Sized x) (GrowsTo x (grown (memory_at before x) (index 0)))
    GivesMemory o = There (memory_access o) Reaches

    abbrev pub GivesBulk : BulkOperator → Type 0
    GivesBulk (bulk.RefNull h) = Stays
    GivesBulk bulk.RefIsNull = Tells (truth (is_null (top 0)))
    GivesBulk (bulk.RefFunc x) = Stays
    GivesBulk (bulk.TableGet x) = OrTraps (slice_get (table_in before x) (index 0)) (λ v. Gives (v ∷ []) before)
    GivesBulk (bulk.TableSet x) = OrTraps (placed (table_in before x) (index 1) (tops 1))
        (λ vs. Gives [] (with_table before x vs))
    GivesBulk (bulk.TableSize x) = Gives (sized (wide x) (length (table_in before x)) ∷ []) before
    GivesBulk (bulk.TableGrow x) = (IsTrue (nat_le (length (table_in before x) + index 0) (most_counted (wide x)))
        × Gives (sized (wide x) (length (table_in before x)) ∷ [])
        (with_table before x (table_in before x ++ replicate (index 0) (top 1))))
        ⊎ Gives (failure (wide x) ∷ []) before
    GivesBulk (bulk.TableFill x) = OrTraps (placed (table_in before x) (index 2) (replicate (index 0) (top 1)))
        (λ vs. Gives [] (with_table before x vs))
    GivesBulk (bulk.TableInit e x) = OrTraps (range (segment_in before e) (index 1) (index 0)) (λ us.
        OrTraps (placed (table_in before x) (index 2) us) (λ vs. Gives us (with_table before x vs)))
    GivesBulk (bulk.TableCopy x y) = OrTraps (range (table_in before y) (index 1) (index 0)) (λ us.
        OrTraps (placed (table_in before x) (index 2) us) (λ vs. Gives us (with_table before x vs)))
    GivesBulk (bulk.ElemDrop e) = Gives [] (without_segment before e)
    GivesBulk (bulk.DataDrop d) = Gives [] (without_data before d)
    GivesBulk (bulk.MemoryInit d x) = OrTraps (range (data_in before d) (index 1) (index 0)) (λ bs. Writing x (index 2) bs)
    GivesBulk (bulk.MemoryCopy x y) = Reading y (index 1) (index 0) (λ bs. Writing x (index 2) bs)
    GivesBulk (bulk.MemoryFill x) = Writing x (index 2) (replicate (index 0) (index 1 % 256))
    GivesBulk (bulk.MemoryDiscard x) = Traps ⊎ Writing x (index 1) (replicate (index 0) 0)

    -- ---- objects

    -- a field or an element is read, and is extended if it is packed
    abbrev pub Reads : Bool → Value → ℕ → Type 0
    Reads signed v i = OfObject v (λ k o. There (field_at (expanded o.type) i) (λ f.
        OrTraps (slice_get o.fields i) (λ w. Gives (unpacked signed f.storage w ∷ []) before)))

    -- these values are written from a place on, of which the answer has those that are read elsewhere
    abbrev pub WritesTo : ℕ → ObjectInstance → ℕ → List Value → List Value → Type 0
    WritesTo k o i us given = OrTraps (placed o.fields i us) (λ vs. Gives given (with_fields before k o vs))

    abbrev pub Writes : Value → ℕ → List Value → List Value → Type 0
    Writes v i us given = OfObject v (λ k o. WritesTo k o i us given)

    abbrev pub MakesNamed : ℕ → (TypeTree → List Value) → List Value → Type 0
    MakesNamed x fields given = There (type_named x) (λ t. Makes t (fields t) given)

    -- a cast passes if the value is of the type
    abbrev pub Passes : HeapType → Type 0
    Passes h = There (meant_heap p.«module» h) (λ k. IsTrue a.condition ↔ Fits p (top 0) (ref false k))

    abbrev pub TellsOf : Bool → HeapType → Type 0
    TellsOf nullable h = Passes h × Tells (truth (if is_null (top 0) then nullable else a.condition))

    -- An external reference of what is internal names it, as one that is there or a new one; and back, it is what it names. A null
    -- stays one.
    abbrev pub Externalises : Value → Type 0
    Externalises v = (k : ℕ) × (a.values ≡ ref_extern k ∷ []) × (slice_get after.externs k ≡ Some v)
        × ((after ≡ before) ⊎ (after ≡ with_extern before v))

    abbrev pub ConvertsToExtern : Value → Type 0
    ConvertsToExtern (ref_null c h) = Stays
    ConvertsToExtern (ref_object k t) = Externalises (ref_object k t)
    ConvertsToExtern (ref_i31 b) = Externalises (ref_i31 b)
    ConvertsToExtern (ref_host k) = Externalises (ref_host k)
    ConvertsToExtern v = ⊥

    abbrev pub ConvertsToAny : Value → Type 0
    ConvertsToAny (ref_null c h) = Stays
    ConvertsToAny (ref_extern k) = There (slice_get before.externs k) (λ v. Gives (v ∷ []) before)
    ConvertsToAny v = ⊥

    abbrev pub Unboxes : Bool → Value → Type 0
    Unboxes signed (ref_i31 b) = Tells (extended signed 31 b)
    Unboxes signed v = Traps

    abbrev pub GivesGc : GcOperator → Type 0
    GivesGc gc.RefEq = Tells (truth (same (top 0) (top 1)))
    GivesGc (gc.StructNew x) = MakesNamed x (λ t. reverse (tops (length (fields_in (expanded t))))) []
    GivesGc (gc.StructNewDefault x) = MakesNamed x (λ t. defaults (fields_in (expanded t))) []
    GivesGc (gc.StructGet x i) = Reads false (top 0) i
    GivesGc (gc.StructGetS x i) = Reads true (top 0) i
    GivesGc (gc.StructGetU x i) = Reads false (top 0) i
    GivesGc (gc.StructSet x i) = Writes (top 1) i (tops 1) []
    GivesGc (gc.ArrayNew x) = MakesNamed x (λ t. replicate (index 0) (top 1)) []
    GivesGc (gc.ArrayNewDefault x) = MakesNamed x
        (λ t. replicate (index 0) (get_or (defaults (fields_in (expanded t))) 0 nothing)) []
    GivesGc (gc.ArrayNewFixed x n) = MakesNamed x (λ t. reverse (tops n)) []
    GivesGc (gc.ArrayNewData x d) = There (type_named x) (λ t. OfData d t (index 1) (index 0) (λ vs. Makes t vs []))
    GivesGc (gc.ArrayNewElem x e) = OrTraps (range (segment_in before e) (index 1) (index 0))
        (λ us. MakesNamed x (λ t. us) us)
    GivesGc (gc.ArrayGet x) = Reads false (top 1) (index 0)
    GivesGc (gc.ArrayGetS x) = Reads true (top 1) (index 0)
    GivesGc (gc.ArrayGetU x) = Reads false (top 1) (index 0)
    GivesGc (gc.ArraySet x) = Writes (top 2) (index 1) (tops 1) []
    GivesGc gc.ArrayLen = OfObject (top 0) (λ k o. Tells (length o.fields))
    GivesGc (gc.ArrayFill x) = Writes (top 3) (index 2) (replicate (index 0) (top 1)) []
    GivesGc (gc.ArrayCopy x y) = OfObject (top 2) (λ k o. OrTraps (range o.fields (index 1) (index 0))
        (λ us. Writes (top 4) (index 3) us us))
    GivesGc (gc.ArrayInitData x d) = OfObject (top 3)
        (λ k o. OfData d o.type (index 1) (index 0) (λ vs. WritesTo k o (index 2) vs []))
    GivesGc (gc.ArrayInitElem x e) = OrTraps (range (segment_in before e) (index 1) (index 0))
        (λ us. Writes (top 3) (index 2) us us)
    GivesGc (gc.RefTestNonNull h) = TellsOf false h
    GivesGc (gc.RefTestNullable h) = TellsOf true h
    GivesGc (gc.RefCastNonNull h) = Passes h × Stays
    GivesGc (gc.RefCastNullable h) = Passes h × Stays
    GivesGc (gc.BrOnCast n from to) = Passes to.heap × Stays
    GivesGc (gc.BrOnCastFail n from to) = Passes to.heap × Stays
    GivesGc gc.AnyConvertExtern = ConvertsToAny (top 0)
    GivesGc gc.ExternConvertAny = ConvertsToExtern (top 0)
    GivesGc gc.RefI31 = Gives (ref_i31 (index 0 % 2 ^ 31) ∷ []) before
    GivesGc gc.I31GetS = Unboxes true (top 0)
    GivesGc gc.I31GetU = Unboxes false (top 0)

    -- ---- constants

    abbrev pub GivesConstant : ConstOperator → Type 0
    GivesConstant (const.I32Const n) = Gives (number_value i32 (integer_bits 32 n) ∷ []) before
    GivesConstant (const.I64Const n) = Gives (number_value i64 (integer_bits 64 n) ∷ []) before
    GivesConstant (const.F32Const b) = Gives (number_value f32 (b.0 % 2 ^ 32) ∷ []) before
    GivesConstant (const.F64Const b) = Gives (number_value f64 (b.0 % 2 ^ 64) ∷ []) before

    -- ---- integers

    -- an operator that is in a table, or else what it gives comes from outside
    abbrev pub OrOutside : {A : Type 0} → Option A → (A → Type 0) → Type 0
    OrOutside None F = Outside
    OrOutside (Some x) F = F x

    -- the value of the operator's function; a trap if it has none
    abbrev pub Calculates : Operation → Type 0
    Calculates r = OrTraps (r.value (index 1) (index 0)) (λ b. Gives (number_value r.gives b ∷ []) before)

    abbrev pub GivesNumeric : NumericOperator → Type 0
    GivesNumeric o = OrOutside (integer_operation o) Calculates

    -- ---- atomic accesses

    abbrev pub atomic_address : AtomicAccess → ℕ
    atomic_address r = index (length r.takes) + r.argument.offset

    -- This is written there, if anything, and these values come. What a shared memory holds is not kept.
    abbrev pub Replaces : AtomicAccess → Option ℕ → List Value → Type 0
    Replaces r None vs = Gives vs before
    Replaces r (Some b) vs = Either (shared r.argument.memory) (Gives vs before)
        (OrTraps (placed (memory_in before r.argument.memory) (atomic_address r) (bytes_of r.size b))
        (λ cs. Gives vs (with_memory before r.argument.memory cs)))

    abbrev pub Exchanges : AtomicAccess → Type 0
    Exchanges r = Reading r.argument.memory (atomic_address r) r.size
        (λ bs. Replaces r (r.written (index 0) (index 1) (number_of bs)) (number_given r.gives (r.given (number_of bs))))

    -- at an address that is a multiple of the width; any other traps
    abbrev pub Aligned : AtomicAccess → Type 0
    Aligned r = Either (is_misaligned (atomic_address r) r.size) Traps (Exchanges r)

    -- of a memory that other threads use, what these do
    abbrev pub ByOthers : MemArg → Type 0 → Type 0
    ByOthers m F = Either (shared m.memory) Outside F

    abbrev pub GivesAtomic : AtomicOperator → Type 0
    GivesAtomic atomic.AtomicFence = Stays
    GivesAtomic (atomic.MemoryAtomicNotify m) = ByOthers m (Aligned (notification m))
    GivesAtomic (atomic.MemoryAtomicWait32 m) = ByOthers m Traps
    GivesAtomic (atomic.MemoryAtomicWait64 m) = ByOthers m Traps
    GivesAtomic o = There (atomic_access o) Aligned

    -- ---- all of them

    abbrev pub GivesOperator : Op → Type 0
    GivesOperator (op.Control o) = GivesControl o
    GivesOperator (op.Parametric o) = GivesParametric o
    GivesOperator (op.Exception o) = GivesException o
    GivesOperator (op.Memory o) = GivesMemory o
    GivesOperator (op.Bulk o) = GivesBulk o
    GivesOperator (op.Gc o) = GivesGc o
    GivesOperator (op.Const o) = GivesConstant o
    GivesOperator (op.Numeric o) = GivesNumeric o
    GivesOperator (op.Simd o) = OrOutside (simd_access o) Reaches
    GivesOperator (op.Atomic o) = GivesAtomic o
    GivesOperator o = Outside

    abbrev pub GivesBlock : Op → Type 0
    GivesBlock (op.Control (control.If bt)) = Decides
    GivesBlock o = Stays

    abbrev pub GivesCode : Code → Type 0
    GivesCode (plain o more) = GivesOperator o
    GivesCode (nested o body more) = GivesBlock o
    GivesCode (close o) = Stays
    GivesCode (turn o more) = Stays

-- what the store gives to the step that is next
abbrev pub GivesStep : Program → State → Store → Answer → Store → Type 0
GivesStep p [] before a after = ⊥
GivesStep p (act ∷ acts) before a after = GivesCode p (act ∷ acts) before a after act act.innermost.code
