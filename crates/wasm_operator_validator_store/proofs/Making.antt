-- Operators that make objects, and those that fill and grow tables.
use Rattle.std.proofs.Common.{◌≡◌, ℕ, ◌+◌, List, [], ◌∷◌, ◌++◌, Some, refl, sym, ap, subst, ◌∙◌, length, reverse, take, get_or, slice_get, length-append, arith}
use Rattle.std.proofs.lemmas.List.{reverse-reverse, length-map}
use Rattle.std.specs.Prelude.{replicate}
use mathlib.Core.List.{reverse_aux}
use mathlib.Core.Logic.{⊎_elim}
use Rattle.wasm_types.specs.trees.Types.{FieldOf, InnerOf, array_of, struct_of}
use Rattle.wasm_types.specs.trees.Trees.{TypeTree}
use Rattle.wasm_types.specs.trees.Below.{expanded}
use Rattle.wasm_operators_enums.specs.declared.bulk.BulkOperator.TheVariants as bulk
use Rattle.wasm_operators_enums.specs.declared.gc.GcOperator.TheVariants as gc
use Rattle.wasm_operators_enums.specs.Op as op
use Rattle.wasm_operators_enums.specs.Op.{Op}
use Rattle.wasm_operators_encoding.specs.expressions.Code.{Code, plain}
use Rattle.wasm_operator_validator_rules.specs.Operands.{ValueType, Operand, known, all_known, stack}
use Rattle.wasm_operator_validator_rules.specs.Context.{Table}
use Rattle.wasm_operator_validator_rules.specs.InstructionTypes.{i32_type}
use Rattle.wasm_operator_validator_soundness.specs.runs.Values.{Program, Value, ref_object, AllFit}
use Rattle.wasm_operator_validator_soundness.specs.runs.States.{Activation, Answer}
use Rattle.wasm_operator_validator_soundness.specs.runs.States.{Move, found}
use Rattle.wasm_operator_validator_soundness.specs.runs.Machine.{address, operand_of, operands_of, fields_in, struct_fields, array_fields, goes, exchange, takes, execute}
use Rattle.wasm_operator_validator_soundness.specs.runs.Soundness.{IsValidProgram}
use Rattle.wasm_operator_validator_store.specs.Stores.{ObjectInstance, Store, nothing, bits_of, placed, sized, failure, table_in, with_table, with_object}
use Rattle.wasm_operator_validator_store.specs.ValidStores.{Each, Pairs, Knows, Has, HasField, FieldsFit}
use Rattle.wasm_operator_validator_store.specs.Giving.{GivesOperator, is_wide}
use Rattle.wasm_operator_validator_store.specs.Soundness.{AreValid}
use Rattle.wasm_operator_validator_store.proofs.Lists.{same_some, none_some, each_append, each_take, each_reverse, each_placed, each_replicate, placed_length}
use Rattle.wasm_operator_validator_store.proofs.Operating.{CodeNew}
use Rattle.wasm_operator_validator_store.proofs.Storing.{table_holds, object_evolves, object_fits, object_known, table_evolves, table_fits}
use Rattle.wasm_operator_validator_store.proofs.Answering.{IsDone, found_needs, found_answer, second_fits, told, top_known}
use Rattle.wasm_operator_validator_store.proofs.Accessing.{sized_fits, failure_fits, sized_known, failure_known, unchanged, values_known, exchanged, exchange_traps, fit_as}
use Rattle.wasm_operator_validator_store.proofs.Objects.{there_some, or_traps}

abbrev Fields : Type 0
Fields = List (FieldOf TypeTree)

pub struct_is : (x : InnerOf TypeTree) (fs : Fields) → struct_fields x ≡ Some fs → x ≡ struct_of fs
struct_is (struct_of gs) fs e = ap (λ (hs : Fields). struct_of hs) (same_some gs fs e)
struct_is x fs e = absurd (none_some fs e)

pub array_is : (x : InnerOf TypeTree) (fs : Fields) → array_fields x ≡ Some fs → (f : FieldOf TypeTree) × (x ≡ array_of f) × (fs ≡ f ∷ [])
array_is (array_of f) fs e = (f, refl, sym (same_some (f ∷ []) fs e))
array_is x fs e = absurd (none_some fs e)

module _ (p : Program) where
  fit_onto : (us : List Value) (qs : List Operand) (vs : List Value) (rs : List Operand) → AllFit p us qs → AllFit p vs rs → AllFit p (reverse_aux us vs) (reverse_aux qs rs)
  fit_onto [] [] vs rs h k = k
  fit_onto [] (q ∷ qs) vs rs h k = absurd h
  fit_onto (w ∷ us) [] vs rs h k = absurd h
  fit_onto (w ∷ us) (q ∷ qs) vs rs h k = fit_onto us qs (w ∷ vs) (q ∷ rs) h.1 (h.0, k)

  pub fit_in_order : (us : List Value) (ts : List ValueType) → AllFit p us (stack ts) → AllFit p (reverse us) (all_known ts)
  fit_in_order us ts h = subst (AllFit p (reverse us)) (reverse-reverse (all_known ts)) (fit_onto us (stack ts) [] [] h tt)

  pub fields_of : (s : Store) (fs : Fields) (vs : List Value) → AllFit p vs (all_known (operands_of fs)) → Each (Knows s) vs → Pairs (HasField p s) fs vs
  fields_of s [] [] h k = tt
  fields_of s [] (w ∷ vs) h k = absurd h
  fields_of s (f ∷ fs) [] h k = absurd h
  fields_of s (f ∷ fs) (w ∷ vs) h k = ((h.0, k.0), fields_of s fs vs h.1 k.1)

module _ (p : Program) (valid : IsValidProgram p) (results : List ValueType) (act : Activation) (acts : List Activation) (s : Store) (v : AreValid p results (act ∷ acts) s) (more : Code) (a : Answer) (u : Store) where
  abbrev Done : Op → Type 0
  Done o = IsDone p act acts (plain o more) s a u

  abbrev Given : Op → Type 0
  Given o = GivesOperator p (act ∷ acts) s a u act o

  abbrev Next : Op → Type 0
  Next o = act.innermost.code ≡ plain o more

  -- an object of the type at an index is made, of fields that fit
  pub made : (o : Op) (x : ℕ) (t : TypeTree) (vs : List Value) → slice_get p.«module».types x ≡ Some t → (execute p a act acts (plain o more)).is_answer
      → (((q : TypeTree) → slice_get p.«module».types x ≡ Some q → Knows (with_object s (record { type = t; fields = vs })) (ref_object a.made q)) → CodeNew (Knows (with_object s (record { type = t; fields = vs }))) p a act acts (plain o more))
      → FieldsFit p s (expanded t) vs → a.made ≡ length s.objects → a.values ≡ [] → u ≡ with_object s (record { type = t; fields = vs }) → Done o
  made o x t vs e answer new fit at values same =
      let b : ObjectInstance = record { type = t; fields = vs } in
      subst (λ y. IsDone p act acts (plain o more) s a y) (sym same) (record {
        answer = answer;
        store = object_fits p s b v.store fit;
        evolves = object_evolves s b;
        values = values_known p valid results act acts s v (with_object s b) a [] values tt;
        new = new (λ q d. subst (λ (y : TypeTree). Knows (with_object s b) (ref_object a.made y)) (same_some t q (sym e ∙ d)) (object_known s t vs a.made at));
      })

  pub struct_new_done : (x : ℕ) → Next (op.Gc (gc.StructNew x)) → Given (op.Gc (gc.StructNew x)) → Done (op.Gc (gc.StructNew x))
  struct_new_done x c h =
      let vs = act.innermost.values in
      let g = there_some p (act ∷ acts) s a u (slice_get p.«module».types x) _ h in
      let inner : TypeTree → Fields → Move = λ t fs. takes p a (operands_of fs) vs (λ us ws. goes p a act acts (ref_object a.made t ∷ ws) more) in
      let outer : TypeTree → Move = λ t. found (struct_fields (expanded t)) (inner t) in
      let answer : (execute p a act acts (plain (op.Gc (gc.StructNew x)) more)).is_answer = found_answer (slice_get p.«module».types x) outer (λ t d. found_answer (struct_fields (expanded t)) (inner t) (λ fs q. tt)) in
      let n = told p valid results act acts s v a (plain (op.Gc (gc.StructNew x)) more) c answer in
      let q = found_needs {A = TypeTree} p results (slice_get p.«module».types x) outer n.0 n.1 in
      let same : q.0 ≡ g.0 = same_some q.0 g.0 (sym q.1 ∙ g.1) in
      let r = found_needs {A = Fields} p results (struct_fields (expanded q.0)) (inner q.0) q.2 q.3 in
      let is : expanded g.0 ≡ struct_of r.0 = sym (ap (λ (t : TypeTree). expanded t) same) ∙ struct_is (expanded q.0) r.0 r.1 in
      let size : length (operands_of r.0) ≡ length (fields_in (expanded g.0)) = length-map r.0 (λ (f : FieldOf TypeTree). operand_of f.storage) ∙ ap (λ y. length (fields_in y)) (sym is) in
      let fit : AllFit p (take (length (fields_in (expanded g.0))) vs) (stack (operands_of r.0)) = subst (λ m. AllFit p (take m vs) (stack (operands_of r.0))) size r.2.0 in
      let all : Pairs (HasField p s) r.0 (reverse (take (length (fields_in (expanded g.0))) vs)) =
      fields_of p s r.0 (reverse (take (length (fields_in (expanded g.0))) vs)) (fit_in_order p (take (length (fields_in (expanded g.0))) vs) (operands_of r.0) fit)
      (each_reverse (Knows s) (take (length (fields_in (expanded g.0))) vs) (each_take (Knows s) (length (fields_in (expanded g.0))) vs v.known.0.innermost.values)) in
      made (op.Gc (gc.StructNew x)) x g.0 (reverse (take (length (fields_in (expanded g.0))) vs)) g.1 answer (λ k. k)
      (subst (λ y. FieldsFit p s y (reverse (take (length (fields_in (expanded g.0))) vs))) (sym is) all) g.2.0 g.2.1.0 g.2.1.2

  pub array_new_done : (x : ℕ) → Next (op.Gc (gc.ArrayNew x)) → Given (op.Gc (gc.ArrayNew x)) → Done (op.Gc (gc.ArrayNew x))
  array_new_done x c h =
      let vs = act.innermost.values in
      let top = get_or vs 1 nothing in
      let g = there_some p (act ∷ acts) s a u (slice_get p.«module».types x) _ h in
      let inner : TypeTree → Fields → Move = λ t fs. takes p a (operands_of fs ++ i32_type ∷ []) vs (λ us ws. goes p a act acts (ref_object a.made t ∷ ws) more) in
      let outer : TypeTree → Move = λ t. found (array_fields (expanded t)) (inner t) in
      let answer : (execute p a act acts (plain (op.Gc (gc.ArrayNew x)) more)).is_answer = found_answer (slice_get p.«module».types x) outer (λ t d. found_answer (array_fields (expanded t)) (inner t) (λ fs q. tt)) in
      let n = told p valid results act acts s v a (plain (op.Gc (gc.ArrayNew x)) more) c answer in
      let q = found_needs {A = TypeTree} p results (slice_get p.«module».types x) outer n.0 n.1 in
      let same : q.0 ≡ g.0 = same_some q.0 g.0 (sym q.1 ∙ g.1) in
      let r = found_needs {A = Fields} p results (array_fields (expanded q.0)) (inner q.0) q.2 q.3 in
      let y = array_is (expanded q.0) r.0 r.1 in
      let is : expanded g.0 ≡ array_of y.0 = sym (ap (λ (t : TypeTree). expanded t) same) ∙ y.1 in
      let fit : AllFit p (take 2 vs) (known i32_type ∷ known (operand_of (y.0).storage) ∷ []) = subst (λ (fs : Fields). AllFit p (take (length (operands_of fs ++ i32_type ∷ [])) vs) (stack (operands_of fs ++ i32_type ∷ []))) y.2 r.2.0 in
      let has : HasField p s y.0 top = (second_fits p vs (known i32_type) (known (operand_of (y.0).storage)) [] 0 fit, top_known p valid results act acts s v 1) in
      made (op.Gc (gc.ArrayNew x)) x g.0 (replicate (bits_of (get_or vs 0 nothing)) top) g.1 answer (λ k. k)
      (subst (λ z. FieldsFit p s z (replicate (bits_of (get_or vs 0 nothing)) top)) (sym is) (each_replicate (HasField p s y.0) (bits_of (get_or vs 0 nothing)) top has)) g.2.0 g.2.1.0 g.2.1.2

  -- ---- tables

  pub table_fill_done : (x : ℕ) → Next (op.Bulk (bulk.TableFill x)) → Given (op.Bulk (bulk.TableFill x)) → Done (op.Bulk (bulk.TableFill x))
  table_fill_done x c h =
      let vs = act.innermost.values in
      let us = replicate (bits_of (get_or vs 0 nothing)) (get_or vs 1 nothing) in
      let f : Table → Move = λ (t : Table). exchange p a act acts (address t.table64 ∷ t.element ∷ address t.table64 ∷ []) [] more in
      ⊎_elim
      (λ k. unchanged p valid results act acts s v (plain (op.Bulk (bulk.TableFill x)) more) a u k.1.1
      (found_answer (slice_get p.«module».tables x) f (λ (t : Table) d. exchange_traps p valid results act acts s v more a u (address t.table64 ∷ t.element ∷ address t.table64 ∷ []) [] k.0))
      (values_known p valid results act acts s v s a [] k.1.0 tt) tt)
      (λ g.
      let k = g.2 in
      let answer : (execute p a act acts (plain (op.Bulk (bulk.TableFill x)) more)).is_answer =
      found_answer (slice_get p.«module».tables x) f (λ (t : Table) d. exchanged p valid results act acts s v more a u (address t.table64 ∷ t.element ∷ address t.table64 ∷ []) [] k.1 (fit_as p valid results act acts s v more a u [] [] k.0 tt)) in
      let m = told p valid results act acts s v a (plain (op.Bulk (bulk.TableFill x)) more) c answer in
      let n = found_needs {A = Table} p results (slice_get p.«module».tables x) f m.0 m.1 in
      let has : Has p s (n.0).element (get_or vs 1 nothing) = (second_fits p vs (known (address (n.0).table64)) (known (n.0).element) (known (address (n.0).table64) ∷ []) 1 n.2.0, top_known p valid results act acts s v 1) in
      let size : length g.0 ≡ length (table_in s x) = placed_length (table_in s x) (bits_of (get_or vs 2 nothing)) us g.0 g.1 in
      subst (λ w. IsDone p act acts (plain (op.Bulk (bulk.TableFill x)) more) s a w) (sym k.2) (record {
        answer = answer;
        store = table_fits p s x g.0 n.0 n.1 (omega (arith, size)) v.store
            (each_placed (Has p s (n.0).element) (table_in s x) (bits_of (get_or vs 2 nothing)) us g.0 (table_holds p s v.store x n.0 n.1) (each_replicate (Has p s (n.0).element) (bits_of (get_or vs 0 nothing)) (get_or vs 1 nothing) has) g.1);
        evolves = table_evolves s x g.0 (omega (arith, size));
        values = values_known p valid results act acts s v (with_table s x g.0) a [] k.0 tt;
        new = tt;
      }))
      (or_traps p (act ∷ acts) s a u (placed (table_in s x) (bits_of (get_or vs 2 nothing)) us) _ h)

  pub table_grow_done : (x : ℕ) → Next (op.Bulk (bulk.TableGrow x)) → Given (op.Bulk (bulk.TableGrow x)) → Done (op.Bulk (bulk.TableGrow x))
  table_grow_done x c h =
      let vs = act.innermost.values in
      let us = table_in s x ++ replicate (bits_of (get_or vs 0 nothing)) (get_or vs 1 nothing) in
      let f : Table → Move = λ (t : Table). exchange p a act acts (t.element ∷ address t.table64 ∷ []) (address t.table64 ∷ []) more in
      let old = length (table_in s x) in
      ⊎_elim
      (λ j.
      let k = j.1 in
      let answer : (execute p a act acts (plain (op.Bulk (bulk.TableGrow x)) more)).is_answer =
      found_answer (slice_get p.«module».tables x) f (λ (t : Table) d. exchanged p valid results act acts s v more a u (t.element ∷ address t.table64 ∷ []) (address t.table64 ∷ []) k.1
      (fit_as p valid results act acts s v more a u (sized t.table64 old ∷ []) (address t.table64 ∷ []) (k.0 ∙ ap (λ o. sized (is_wide o) old ∷ []) d) (sized_fits p t.table64 old, tt))) in
      let m = told p valid results act acts s v a (plain (op.Bulk (bulk.TableGrow x)) more) c answer in
      let n = found_needs {A = Table} p results (slice_get p.«module».tables x) f m.0 m.1 in
      let has : Has p s (n.0).element (get_or vs 1 nothing) = (second_fits p vs (known (address (n.0).table64)) (known (n.0).element) [] 0 n.2.0, top_known p valid results act acts s v 1) in
      let size : length us ≡ old + length (replicate (bits_of (get_or vs 0 nothing)) (get_or vs 1 nothing)) = length-append (table_in s x) (replicate (bits_of (get_or vs 0 nothing)) (get_or vs 1 nothing)) in
      subst (λ w. IsDone p act acts (plain (op.Bulk (bulk.TableGrow x)) more) s a w) (sym k.2) (record {
        answer = answer;
        store = table_fits p s x us n.0 n.1 (omega (arith, size)) v.store
            (each_append (Has p s (n.0).element) (table_in s x) (replicate (bits_of (get_or vs 0 nothing)) (get_or vs 1 nothing)) (table_holds p s v.store x n.0 n.1) (each_replicate (Has p s (n.0).element) (bits_of (get_or vs 0 nothing)) (get_or vs 1 nothing) has));
        evolves = table_evolves s x us (omega (arith, size));
        values = values_known p valid results act acts s v (with_table s x us) a (sized (is_wide (slice_get p.«module».tables x)) old ∷ []) k.0 (sized_known (with_table s x us) (is_wide (slice_get p.«module».tables x)) old, tt);
        new = tt;
      }))
      (λ k. unchanged p valid results act acts s v (plain (op.Bulk (bulk.TableGrow x)) more) a u k.2
      (found_answer (slice_get p.«module».tables x) f (λ (t : Table) d. exchanged p valid results act acts s v more a u (t.element ∷ address t.table64 ∷ []) (address t.table64 ∷ []) k.1
      (fit_as p valid results act acts s v more a u (failure t.table64 ∷ []) (address t.table64 ∷ []) (k.0 ∙ ap (λ o. failure (is_wide o) ∷ []) d) (failure_fits p t.table64, tt))))
      (values_known p valid results act acts s v s a (failure (is_wide (slice_get p.«module».tables x)) ∷ []) k.0 (failure_known s (is_wide (slice_get p.«module».tables x)), tt)) tt)
      h
