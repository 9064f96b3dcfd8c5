-- Operators that take a range of a table or of a segment.
use Rattle.std.proofs.Common.{◌≡◌, ℕ, true, false, IsTrue, List, [], ◌∷◌, Some, sym, subst, length, drop, get_or, slice_get, arith}
use Rattle.std.specs.Prelude.{◌&&◌}
use mathlib.Core.Logic.{⊎_elim}
use Rattle.wasm_operators_enums.specs.declared.bulk.BulkOperator.TheVariants as bulk
use Rattle.wasm_operators_enums.specs.Op as op
use Rattle.wasm_operators_enums.specs.Op.{Op}
use Rattle.wasm_operators_encoding.specs.expressions.Code.{Code, plain}
use Rattle.wasm_operator_validator_rules.specs.Operands.{ValueType}
use Rattle.wasm_operator_validator_rules.specs.Context.{Table}
use Rattle.wasm_operator_validator_rules.specs.InstructionTypes.{i32_type}
use Rattle.wasm_operator_validator_soundness.specs.runs.Values.{Program, Value, Fits, EachFits}
use Rattle.wasm_operator_validator_soundness.specs.runs.States.{Activation, Answer, Move, found, choose, done, trapped}
use Rattle.wasm_operator_validator_soundness.specs.runs.Machine.{address, goes, takes, may_trap, copies, execute}
use Rattle.wasm_operator_validator_soundness.specs.runs.Soundness.{IsValidProgram}
use Rattle.wasm_operator_validator_store.specs.Stores.{Store, nothing, bits_of, range, placed, table_in, segment_in, with_table}
use Rattle.wasm_operator_validator_store.specs.ValidStores.{Each, Knows, Has}
use Rattle.wasm_operator_validator_store.specs.Giving.{Traps, GivesOperator}
use Rattle.wasm_operator_validator_store.specs.Soundness.{AreValid}
use Rattle.wasm_operator_validator_store.proofs.Lists.{each_map, each_range, each_placed, placed_length, pairs_get_or}
use Rattle.wasm_operator_validator_store.proofs.Operating.{CodeNew}
use Rattle.wasm_operator_validator_store.proofs.Storing.{table_holds, segment_holds, knows_later, table_evolves, table_fits}
use Rattle.wasm_operator_validator_store.proofs.Answering.{IsDone, found_needs, found_answer, no_trap, a_trap, told}
use Rattle.wasm_operator_validator_store.proofs.Accessing.{unchanged, values_known, table_known}
use Rattle.wasm_operator_validator_store.proofs.Objects.{or_traps}

module _ (p : Program) where
  pub each_fits : (t : ValueType) (ws : List Value) → Each (λ w. Fits p w t) ws → EachFits p ws t
  each_fits t [] h = tt
  each_fits t (w ∷ ws) h = (h.0, each_fits t ws h.1)

  pub fits_each : (t : ValueType) (ws : List Value) → EachFits p ws t → Each (λ w. Fits p w t) ws
  fits_each t [] h = tt
  fits_each t (w ∷ ws) h = (h.0, fits_each t ws h.1)

  pub has_each : (s : Store) (t : ValueType) (ws : List Value) → EachFits p ws t → Each (Knows s) ws → Each (Has p s t) ws
  has_each s t [] h k = tt
  has_each s t (w ∷ ws) h k = ((h.0, k.0), has_each s t ws h.1 k.1)

  pub fits_of : (s : Store) (t : ValueType) (ws : List Value) → Each (Has p s t) ws → EachFits p ws t
  fits_of s t ws h = each_fits t ws (each_map (Has p s t) (λ w. Fits p w t) ws (λ w k. k.0) h)

  pub known_of : (s : Store) (t : ValueType) (ws : List Value) → Each (Has p s t) ws → Each (Knows s) ws
  known_of s t ws h = each_map (Has p s t) (Knows s) ws (λ w k. k.1) h

module _ (p : Program) (valid : IsValidProgram p) (results : List ValueType) (act : Activation) (acts : List Activation) (s : Store) (v : AreValid p results (act ∷ acts) s) where
  pub segment_known : (i : ℕ) → Each (Knows s) (segment_in s i)
  segment_known i = pairs_get_or (λ (t : ValueType) ws. Each (Has p s t) ws) (Each (Knows s)) [] (λ t ws h. known_of p s t ws h) tt p.«module».elements s.segments i v.store.segments

  module _ (more : Code) (a : Answer) (u : Store) where
    abbrev Done : Op → Type 0
    Done o = IsDone p act acts (plain o more) s a u

    abbrev Next : Op → Type 0
    Next o = act.innermost.code ≡ plain o more

    abbrev vs : List Value
    vs = act.innermost.values

    abbrev at : ℕ → ℕ
    at n = bits_of (get_or act.innermost.values n nothing)

    -- ---- what an answer holds

    pub trapped_done : (o : Op) → (execute p a act acts (plain o more)).is_answer → (a.traps ≡ true → CodeNew (Knows s) p a act acts (plain o more)) → Traps p (act ∷ acts) s a u → Done o
    trapped_done o answer new t = unchanged p valid results act acts s v (plain o more) a u t.1.1 answer (values_known p valid results act acts s v s a [] t.1.0 tt) (new t.0)

    pub answer_fits : (t : ValueType) (us : List Value) → a.values ≡ us → Each (Has p s t) us → EachFits p a.values t
    answer_fits t us e h = subst (λ ws. EachFits p ws t) (sym e) (fits_of p s t us h)

    -- ---- a range is written to a table

    abbrev written_as : List ValueType → ValueType → ValueType → Move
    written_as ts q r = takes p a ts vs (λ us ws. may_trap p a (copies p a q r (goes p a act acts ws more)))

    written_answer : (ts : List ValueType) (q r : ValueType) → a.traps ≡ false → EachFits p a.values q → (written_as ts q r).is_answer
    written_answer ts q r e f = no_trap p a (copies p a q r (goes p a act acts (drop (length ts) vs) more)) e (f, tt)

    written_traps : (ts : List ValueType) (q r : ValueType) → IsTrue a.traps → (written_as ts q r).is_answer
    written_traps ts q r e = a_trap p a (copies p a q r (goes p a act acts (drop (length ts) vs) more)) e

    written_needs : (ts : List ValueType) (q r : ValueType) → a.traps ≡ false → (written_as ts q r).needs → EachFits p a.values r
    written_needs ts q r e n = (subst (λ b. (choose b (done trapped) (copies p a q r (goes p a act acts (drop (length ts) vs) more))).needs) e n.1).0

    table_written : (o : Op) (x i : ℕ) (t : Table) (us zs : List Value) → slice_get p.«module».tables x ≡ Some t → (execute p a act acts (plain o more)).is_answer → CodeNew (Knows (with_table s x zs)) p a act acts (plain o more)
        → EachFits p a.values t.element → Each (Knows s) us → placed (table_in s x) i us ≡ Some zs → a.values ≡ us → u ≡ with_table s x zs → Done o
    table_written o x i t us zs e answer new fit known d values same =
        let size : length zs ≡ length (table_in s x) = placed_length (table_in s x) i us zs d in
        let later = table_evolves s x zs (omega (arith, size)) in
        let has : Each (Has p s t.element) us = has_each p s t.element us (subst (λ ws. EachFits p ws t.element) values fit) known in
        subst (λ w. IsDone p act acts (plain o more) s a w) (sym same) (record {
          answer = answer;
          store = table_fits p s x zs t e (omega (arith, size)) v.store (each_placed (Has p s t.element) (table_in s x) i us zs (table_holds p s v.store x t e) has d);
          evolves = later;
          values = values_known p valid results act acts s v (with_table s x zs) a us values (each_map (Knows s) (Knows (with_table s x zs)) us (knows_later s (with_table s x zs) later) known);
          new = new;
        })

    abbrev init_types : Table → List ValueType
    init_types t = address t.table64 ∷ i32_type ∷ i32_type ∷ []

    pub table_init_done : (i x : ℕ) → Next (op.Bulk (bulk.TableInit i x)) → GivesOperator p (act ∷ acts) s a u act (op.Bulk (bulk.TableInit i x)) → Done (op.Bulk (bulk.TableInit i x))
    table_init_done i x c h =
        let inner : ValueType → Table → Move = λ q t. written_as (init_types t) q t.element in
        let outer : ValueType → Move = λ q. found (slice_get p.«module».tables x) (inner q) in
        let traps : IsTrue a.traps → (execute p a act acts (plain (op.Bulk (bulk.TableInit i x)) more)).is_answer = λ e.
        found_answer (slice_get p.«module».elements i) outer (λ q d. found_answer (slice_get p.«module».tables x) (inner q) (λ t f. written_traps (init_types t) q t.element e)) in
        ⊎_elim (λ t. trapped_done (op.Bulk (bulk.TableInit i x)) (traps t.0) (λ e. tt) t) (λ r.
        ⊎_elim (λ t. trapped_done (op.Bulk (bulk.TableInit i x)) (traps t.0) (λ e. tt) t) (λ g.
        let answer : (execute p a act acts (plain (op.Bulk (bulk.TableInit i x)) more)).is_answer =
        found_answer (slice_get p.«module».elements i) outer (λ q d. found_answer (slice_get p.«module».tables x) (inner q) (λ t f.
        written_answer (init_types t) q t.element g.2.1 (answer_fits q r.0 g.2.0 (each_range (Has p s q) (segment_in s i) (at 1) (at 0) r.0 (segment_holds p s v.store i q d) r.1)))) in
        let m = told p valid results act acts s v a (plain (op.Bulk (bulk.TableInit i x)) more) c answer in
        let n = found_needs {A = ValueType} p results (slice_get p.«module».elements i) outer m.0 m.1 in
        let k = found_needs {A = Table} p results (slice_get p.«module».tables x) (inner n.0) n.2 n.3 in
        table_written (op.Bulk (bulk.TableInit i x)) x (at 2) k.0 r.0 g.0 k.1 answer tt (written_needs (init_types k.0) n.0 (k.0).element g.2.1 k.2) (each_range (Knows s) (segment_in s i) (at 1) (at 0) r.0 (segment_known i) r.1) g.1 g.2.0 g.2.2)
        (or_traps p (act ∷ acts) s a u (placed (table_in s x) (at 2) r.0) _ r.2))
        (or_traps p (act ∷ acts) s a u (range (segment_in s i) (at 1) (at 0)) _ h)

    abbrev copy_types : Table → Table → List ValueType
    copy_types t q = address t.table64 ∷ address q.table64 ∷ address (t.table64 && q.table64) ∷ []

    pub table_copy_done : (x y : ℕ) → Next (op.Bulk (bulk.TableCopy x y)) → GivesOperator p (act ∷ acts) s a u act (op.Bulk (bulk.TableCopy x y)) → Done (op.Bulk (bulk.TableCopy x y))
    table_copy_done x y c h =
        let inner : Table → Table → Move = λ t q. written_as (copy_types t q) q.element t.element in
        let outer : Table → Move = λ t. found (slice_get p.«module».tables y) (inner t) in
        let traps : IsTrue a.traps → (execute p a act acts (plain (op.Bulk (bulk.TableCopy x y)) more)).is_answer = λ e.
        found_answer (slice_get p.«module».tables x) outer (λ t d. found_answer (slice_get p.«module».tables y) (inner t) (λ q f. written_traps (copy_types t q) q.element t.element e)) in
        ⊎_elim (λ t. trapped_done (op.Bulk (bulk.TableCopy x y)) (traps t.0) (λ e. tt) t) (λ r.
        ⊎_elim (λ t. trapped_done (op.Bulk (bulk.TableCopy x y)) (traps t.0) (λ e. tt) t) (λ g.
        let answer : (execute p a act acts (plain (op.Bulk (bulk.TableCopy x y)) more)).is_answer =
        found_answer (slice_get p.«module».tables x) outer (λ t d. found_answer (slice_get p.«module».tables y) (inner t) (λ q f.
        written_answer (copy_types t q) q.element t.element g.2.1 (answer_fits q.element r.0 g.2.0 (each_range (Has p s q.element) (table_in s y) (at 1) (at 0) r.0 (table_holds p s v.store y q f) r.1)))) in
        let m = told p valid results act acts s v a (plain (op.Bulk (bulk.TableCopy x y)) more) c answer in
        let n = found_needs {A = Table} p results (slice_get p.«module».tables x) outer m.0 m.1 in
        let k = found_needs {A = Table} p results (slice_get p.«module».tables y) (inner n.0) n.2 n.3 in
        table_written (op.Bulk (bulk.TableCopy x y)) x (at 2) n.0 r.0 g.0 n.1 answer tt (written_needs (copy_types n.0 k.0) (k.0).element (n.0).element g.2.1 k.2) (each_range (Knows s) (table_in s y) (at 1) (at 0) r.0 (table_known p valid results act acts s v y) r.1) g.1 g.2.0 g.2.2)
        (or_traps p (act ∷ acts) s a u (placed (table_in s x) (at 2) r.0) _ r.2))
        (or_traps p (act ∷ acts) s a u (range (table_in s y) (at 1) (at 0)) _ h)
