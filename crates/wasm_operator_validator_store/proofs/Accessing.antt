-- Operators on globals and tables over a store.
use Rattle.std.proofs.Common.{◌≡◌, ℕ, Bool, true, false, IsTrue, List, [], ◌∷◌, ◌++◌, Option, Some, None, refl, sym, ap, subst, ◌∙◌, length, take, drop, get_or, slice_get, arith}
use Rattle.wasm_operators_enums.specs.declared.memory.MemoryOperator.TheVariants as memory
use Rattle.wasm_operators_enums.specs.declared.bulk.BulkOperator.TheVariants as bulk
use Rattle.wasm_operators_enums.specs.Op as op
use Rattle.wasm_operators_enums.specs.Op.{Op}
use Rattle.wasm_operators_encoding.specs.expressions.Code.{Code, plain}
use Rattle.wasm_operator_validator_rules.specs.Operands.{ValueType, known, stack}
use Rattle.wasm_operator_validator_rules.specs.Context.{Table, Global}
use Rattle.wasm_operator_validator_soundness.specs.runs.Values.{Program, Value, Fits, AllFit}
use Rattle.wasm_operator_validator_soundness.specs.runs.States.{Activation, Answer}
use Rattle.wasm_operator_validator_soundness.specs.runs.States.{Move, asks}
use Rattle.wasm_operator_validator_soundness.specs.runs.Machine.{address, goes, gives, exchange, execute}
use Rattle.wasm_operator_validator_soundness.specs.runs.Soundness.{IsValidProgram}
use Rattle.wasm_operator_validator_store.specs.Stores.{GlobalInstance, TableInstance, Store, nothing, bits_of, placed, sized, failure, value_held, elements_held, global_address, table_address, global_in, table_in, with_global, with_table, without_segment}
use Rattle.wasm_operator_validator_store.specs.ValidStores.{Each, Knows, Has, GlobalFits, TableFits}
use Rattle.wasm_operator_validator_store.specs.Giving.{OrTraps, GivesOperator, is_wide}
use Rattle.wasm_operator_validator_store.specs.Soundness.{AreValid}
use Rattle.wasm_operator_validator_store.proofs.Lists.{each_get, each_map, each_one, each_placed, placed_length}
use Rattle.wasm_operator_validator_store.proofs.Operating.{CodeNew}
use Rattle.wasm_operator_validator_store.proofs.Storing.{stays, global_holds, table_holds, global_fits, table_evolves, table_fits, segment_evolves, segment_fits}
use Rattle.wasm_operator_validator_store.proofs.Answering.{IsDone, found_needs, found_answer, no_trap, a_trap, first_fits, told, top_known}

pub sized_fits : (p : Program) (b : Bool) (n : ℕ) → Fits p (sized b n) (address b)
sized_fits p true n = (tt, refl)
sized_fits p false n = (tt, refl)

pub failure_fits : (p : Program) (b : Bool) → Fits p (failure b) (address b)
failure_fits p true = (tt, refl)
failure_fits p false = (tt, refl)

pub sized_known : (s : Store) (b : Bool) (n : ℕ) → Knows s (sized b n)
sized_known s true n = tt
sized_known s false n = tt

pub failure_known : (s : Store) (b : Bool) → Knows s (failure b)
failure_known s true = tt
failure_known s false = tt

module _ (p : Program) (valid : IsValidProgram p) (results : List ValueType) (act : Activation) (acts : List Activation) (s : Store) (v : AreValid p results (act ∷ acts) s) where
  -- where nothing changes
  pub unchanged : (c : Code) (a : Answer) (u : Store) → u ≡ s → (execute p a act acts c).is_answer → Each (Knows s) a.values → CodeNew (Knows s) p a act acts c → IsDone p act acts c s a u
  unchanged c a u e answer values new = subst (λ w. IsDone p act acts c s a w) (sym e) (record {
    answer = answer;
    store = v.store;
    evolves = stays s;
    values = values;
    new = new;
  })

  pub values_known : (u : Store) (a : Answer) (vs : List Value) → a.values ≡ vs → Each (Knows u) vs → Each (Knows u) a.values
  values_known u a vs e k = subst (Each (Knows u)) (sym e) k

  pub global_known : (x : ℕ) → Knows s (global_in s x)
  global_known x = held (slice_get s.globals (global_address s x)) refl
    where
      held : (o : Option GlobalInstance) → slice_get s.globals (global_address s x) ≡ o → Knows s (value_held o)
      held None e = tt
      held (Some g) e = (each_get (GlobalFits p s) s.globals (global_address s x) g v.store.globals e).1

  pub table_known : (x : ℕ) → Each (Knows s) (table_in s x)
  table_known x = held (slice_get s.tables (table_address s x)) refl
    where
      held : (o : Option TableInstance) → slice_get s.tables (table_address s x) ≡ o → Each (Knows s) (elements_held o)
      held None e = tt
      held (Some t) e = each_map (Has p s t.type.element) (Knows s) t.elements (λ w k. k.1) (each_get (TableFits p s) s.tables (table_address s x) t v.store.tables e)

  module _ (more : Code) (a : Answer) (u : Store) where
    abbrev Done : Op → Type 0
    Done o = IsDone p act acts (plain o more) s a u

    abbrev Given : Op → Type 0
    Given o = GivesOperator p (act ∷ acts) s a u act o

    abbrev Next : Op → Type 0
    Next o = act.innermost.code ≡ plain o more

    -- values that are exchanged, if the answer does not trap
    pub exchanged : (ts us : List ValueType) → a.traps ≡ false → AllFit p a.values (stack us) → (exchange p a act acts ts us more).is_answer
    exchanged ts us e f = no_trap p a (gives p a us (λ rs. goes p a act acts (rs ++ drop (length ts) act.innermost.values) more)) e (f, tt)

    pub exchange_traps : (ts us : List ValueType) → IsTrue a.traps → (exchange p a act acts ts us more).is_answer
    exchange_traps ts us e = a_trap p a (gives p a us (λ rs. goes p a act acts (rs ++ drop (length ts) act.innermost.values) more)) e

    pub fit_as : (vs : List Value) (ts : List ValueType) → a.values ≡ vs → AllFit p vs (stack ts) → AllFit p a.values (stack ts)
    fit_as vs ts e f = subst (λ ws. AllFit p ws (stack ts)) (sym e) f

    -- ---- globals

    pub global_get_done : (x : ℕ) → Next (op.Memory (memory.GlobalGet x)) → Given (op.Memory (memory.GlobalGet x)) → Done (op.Memory (memory.GlobalGet x))
    global_get_done x c h = unchanged (plain (op.Memory (memory.GlobalGet x)) more) a u h.2
        (found_answer (slice_get p.«module».globals x) (λ (t : Global). exchange p a act acts [] (t.content ∷ []) more) (λ (t : Global) e.
        exchanged [] (t.content ∷ []) h.1 (fit_as (global_in s x ∷ []) (t.content ∷ []) h.0 ((global_holds p s v.store x t e).0, tt))))
        (values_known s a (global_in s x ∷ []) h.0 (global_known x, tt)) tt

    pub global_set_done : (x : ℕ) → Next (op.Memory (memory.GlobalSet x)) → Given (op.Memory (memory.GlobalSet x)) → Done (op.Memory (memory.GlobalSet x))
    global_set_done x c h =
        let f : Global → Move = λ (t : Global). asks (IsTrue t.mutable) (exchange p a act acts (t.content ∷ []) [] more) in
        let answer : (execute p a act acts (plain (op.Memory (memory.GlobalSet x)) more)).is_answer =
        found_answer (slice_get p.«module».globals x) f (λ (t : Global) e. exchanged (t.content ∷ []) [] h.1 (fit_as [] [] h.0 tt)) in
        let k = told p valid results act acts s v a (plain (op.Memory (memory.GlobalSet x)) more) c answer in
        let n = found_needs p results (slice_get p.«module».globals x) f k.0 k.1 in
        let top = get_or act.innermost.values 0 nothing in
        let written = global_fits p s x top n.0 v.store n.1 n.2.0 (first_fits p act.innermost.values (known (n.0).content) [] 0 n.2.1.0, top_known p valid results act acts s v 0) in
        subst (λ w. IsDone p act acts (plain (op.Memory (memory.GlobalSet x)) more) s a w) (sym h.2) (record {
          answer = answer;
          store = written.0;
          evolves = written.1;
          values = values_known (with_global s x top) a [] h.0 tt;
          new = tt;
        })

    -- ---- tables

    pub table_get_done : (x : ℕ) → Next (op.Bulk (bulk.TableGet x)) → Given (op.Bulk (bulk.TableGet x)) → Done (op.Bulk (bulk.TableGet x))
    table_get_done x c h = go (slice_get (table_in s x) (bits_of (get_or act.innermost.values 0 nothing))) refl h
      where
        go : (o : Option Value) → slice_get (table_in s x) (bits_of (get_or act.innermost.values 0 nothing)) ≡ o
            → OrTraps p (act ∷ acts) s a u o (λ w. (a.values ≡ w ∷ []) × (a.traps ≡ false) × (u ≡ s)) → Done (op.Bulk (bulk.TableGet x))
        go None e k = unchanged (plain (op.Bulk (bulk.TableGet x)) more) a u k.1.1
            (found_answer (slice_get p.«module».tables x) (λ (t : Table). exchange p a act acts (address t.table64 ∷ []) (t.element ∷ []) more) (λ (t : Table) d. exchange_traps (address t.table64 ∷ []) (t.element ∷ []) k.0))
            (values_known s a [] k.1.0 tt) tt
        go (Some w) e k = unchanged (plain (op.Bulk (bulk.TableGet x)) more) a u k.2
            (found_answer (slice_get p.«module».tables x) (λ (t : Table). exchange p a act acts (address t.table64 ∷ []) (t.element ∷ []) more) (λ (t : Table) d.
            exchanged (address t.table64 ∷ []) (t.element ∷ []) k.1
            (fit_as (w ∷ []) (t.element ∷ []) k.0 ((each_get (Has p s t.element) (table_in s x) (bits_of (get_or act.innermost.values 0 nothing)) w (table_holds p s v.store x t d) e).0, tt))))
            (values_known s a (w ∷ []) k.0 (each_get (Knows s) (table_in s x) (bits_of (get_or act.innermost.values 0 nothing)) w (table_known x) e, tt)) tt

    pub table_size_done : (x : ℕ) → Next (op.Bulk (bulk.TableSize x)) → Given (op.Bulk (bulk.TableSize x)) → Done (op.Bulk (bulk.TableSize x))
    table_size_done x c h = unchanged (plain (op.Bulk (bulk.TableSize x)) more) a u h.2
        (found_answer (slice_get p.«module».tables x) (λ (t : Table). exchange p a act acts [] (address t.table64 ∷ []) more) (λ (t : Table) d.
        exchanged [] (address t.table64 ∷ []) h.1 (fit_as (sized t.table64 (length (table_in s x)) ∷ []) (address t.table64 ∷ []) (h.0 ∙ ap (λ o. sized (is_wide o) (length (table_in s x)) ∷ []) d) (sized_fits p t.table64 _, tt))))
        (values_known s a _ h.0 (sized_known s (is_wide (slice_get p.«module».tables x)) (length (table_in s x)), tt)) tt

    pub table_set_done : (x : ℕ) → Next (op.Bulk (bulk.TableSet x)) → Given (op.Bulk (bulk.TableSet x)) → Done (op.Bulk (bulk.TableSet x))
    table_set_done x c h = go (placed (table_in s x) (bits_of (get_or act.innermost.values 1 nothing)) (take 1 act.innermost.values)) refl h
      where
        go : (o : Option (List Value)) → placed (table_in s x) (bits_of (get_or act.innermost.values 1 nothing)) (take 1 act.innermost.values) ≡ o
            → OrTraps p (act ∷ acts) s a u o (λ vs. (a.values ≡ []) × (a.traps ≡ false) × (u ≡ with_table s x vs)) → Done (op.Bulk (bulk.TableSet x))
        go None e k = unchanged (plain (op.Bulk (bulk.TableSet x)) more) a u k.1.1
            (found_answer (slice_get p.«module».tables x) (λ (t : Table). exchange p a act acts (address t.table64 ∷ t.element ∷ []) [] more) (λ (t : Table) d. exchange_traps (address t.table64 ∷ t.element ∷ []) [] k.0))
            (values_known s a [] k.1.0 tt) tt
        go (Some vs) e k =
            let answer : (execute p a act acts (plain (op.Bulk (bulk.TableSet x)) more)).is_answer =
            found_answer (slice_get p.«module».tables x) (λ (t : Table). exchange p a act acts (address t.table64 ∷ t.element ∷ []) [] more) (λ (t : Table) d. exchanged (address t.table64 ∷ t.element ∷ []) [] k.1 (fit_as [] [] k.0 tt)) in
            let m = told p valid results act acts s v a (plain (op.Bulk (bulk.TableSet x)) more) c answer in
            let n = found_needs p results (slice_get p.«module».tables x) (λ (t : Table). exchange p a act acts (address t.table64 ∷ t.element ∷ []) [] more) m.0 m.1 in
            let value : Has p s (n.0).element (get_or act.innermost.values 0 nothing) = (first_fits p act.innermost.values (known (n.0).element) (known (address (n.0).table64) ∷ []) 1 n.2.0, top_known p valid results act acts s v 0) in
            subst (λ w. IsDone p act acts (plain (op.Bulk (bulk.TableSet x)) more) s a w) (sym k.2) (record {
              answer = answer;
              store = table_fits p s x vs n.0 n.1 (omega (arith, placed_length (table_in s x) (bits_of (get_or act.innermost.values 1 nothing)) (take 1 act.innermost.values) vs e)) v.store
                  (each_placed (Has p s (n.0).element) (table_in s x) (bits_of (get_or act.innermost.values 1 nothing)) (take 1 act.innermost.values) vs (table_holds p s v.store x n.0 n.1) (each_one (Has p s (n.0).element) nothing act.innermost.values value) e);
              evolves = table_evolves s x vs (omega (arith, placed_length (table_in s x) (bits_of (get_or act.innermost.values 1 nothing)) (take 1 act.innermost.values) vs e));
              values = values_known (with_table s x vs) a [] k.0 tt;
              new = tt;
            })

    -- ---- segments

    pub segment_drop_done : (i : ℕ) → Next (op.Bulk (bulk.ElemDrop i)) → Given (op.Bulk (bulk.ElemDrop i)) → Done (op.Bulk (bulk.ElemDrop i))
    segment_drop_done i c h =
        let f : ValueType → Move = λ (t : ValueType). goes p a act acts act.innermost.values more in
        let answer : (execute p a act acts (plain (op.Bulk (bulk.ElemDrop i)) more)).is_answer = found_answer (slice_get p.«module».elements i) f (λ t e. tt) in
        let k = told p valid results act acts s v a (plain (op.Bulk (bulk.ElemDrop i)) more) c answer in
        let n = found_needs p results (slice_get p.«module».elements i) f k.0 k.1 in
        subst (λ w. IsDone p act acts (plain (op.Bulk (bulk.ElemDrop i)) more) s a w) (sym h.2) (record {
          answer = answer;
          store = segment_fits p s i n.0 n.1 v.store;
          evolves = segment_evolves s i;
          values = values_known (without_segment s i) a [] h.0 tt;
          new = tt;
        })
