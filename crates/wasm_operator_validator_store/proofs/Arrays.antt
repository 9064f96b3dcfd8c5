-- Operators that make arrays of many values, and that write many.
use Rattle.std.proofs.Common.{◌≡◌, ℕ, zero, suc, ◌+◌, ◌*◌, true, false, IsTrue, List, [], ◌∷◌, ◌++◌, Some, refl, sym, ap, subst, ◌∙◌, length, reverse, take, drop, get_or, slice_get, length-append, arith, true≢false}
use Rattle.std.proofs.lemmas.List.{length-replicate}
use Rattle.std.specs.Prelude.{flat_map, replicate}
use mathlib.Core.Logic.{⊎_elim}
use Rattle.wasm_types.specs.trees.Types.{concrete, ref, FieldOf, InnerOf, array_of, struct_of}
use Rattle.wasm_types.specs.trees.Trees.{TypeTree}
use Rattle.wasm_types.specs.trees.Below.{expanded}
use Rattle.wasm_operators_enums.specs.declared.gc.GcOperator.TheVariants as gc
use Rattle.wasm_operators_enums.specs.Op as op
use Rattle.wasm_operators_enums.specs.Op.{Op}
use Rattle.wasm_operators_encoding.specs.expressions.Code.{Code, plain}
use Rattle.wasm_operator_validator_rules.specs.Operands.{ValueType, Operand, known, all_known, stack}
use Rattle.wasm_operator_validator_rules.specs.InstructionTypes.{i32_type}
use Rattle.wasm_operator_validator_soundness.specs.runs.Values.{Program, Value, ref_object, Fits, AllFit, EachFits}
use Rattle.wasm_operator_validator_soundness.specs.runs.States.{Activation, Answer, Move, found, asks, pops}
use Rattle.wasm_operator_validator_soundness.specs.runs.ValidStates.{IsValidOutcome}
use Rattle.wasm_operator_validator_soundness.specs.runs.Machine.{AreStoredAlike, FromData, operand_of, operands_of, array_fields, last_of, writes, copies, goes, takes, may_trap, object, object_under, stores_from, write, execute}
use Rattle.wasm_operator_validator_soundness.specs.runs.Soundness.{IsValidProgram}
use Rattle.wasm_operator_validator_store.specs.Stores.{ObjectInstance, Store, nothing, bits_of, range, placed, segment_in, field_at, with_object, with_fields, data_in}
use Rattle.wasm_operator_validator_store.specs.Memories.{stored_type, stored_size, elements_from}
use Rattle.wasm_operator_validator_store.specs.ValidStores.{Each, Knows, Has, HasField, FieldsFit, ObjectFits, IsLater}
use Rattle.wasm_operator_validator_store.specs.Giving.{Traps, Makes, GivesOperator}
use Rattle.wasm_operator_validator_store.specs.Soundness.{AreValid}
use Rattle.wasm_operator_validator_store.proofs.Lists.{same_some, each_map, each_get, each_range, each_placed, each_take, each_replicate, each_reverse, placed_length, pairs_each}
use Rattle.wasm_operator_validator_store.proofs.Operating.{CodeNew}
use Rattle.wasm_operator_validator_store.proofs.Storing.{segment_holds, knows_later, object_evolves, object_fits, object_known, fields_evolve, written_fits}
use Rattle.wasm_operator_validator_store.proofs.Answering.{IsDone, found_needs, found_answer, no_trap, a_trap, no_trap_needs, told, top_known}
use Rattle.wasm_operator_validator_store.proofs.Accessing.{values_known}
use Rattle.wasm_operator_validator_store.proofs.Memories.{numbers_fit, read_known}
use Rattle.wasm_operator_validator_store.proofs.Objects.{there_some, or_traps, of_object, type_known, under_fits, object_any, trap_any, under_traps, under_answer, pops_any, pops_split, write_any, write_needs}
use Rattle.wasm_operator_validator_store.proofs.Making.{array_is, fit_in_order}
use Rattle.wasm_operator_validator_store.proofs.Control.{numbers_known}
use Rattle.wasm_operator_validator_store.proofs.Ranges.{each_fits, has_each, segment_known, trapped_done, answer_fits}

abbrev Fields : Type 0
Fields = List (FieldOf TypeTree)

-- ---- operands far below the top

module _ (p : Program) where
  pub last_three : (vs : List Value) (t q r : Operand) → AllFit p (take 3 vs) (t ∷ q ∷ r ∷ []) → last_of (take 3 vs) ≡ get_or vs 2 nothing
  last_three [] t q r h = absurd h
  last_three (v ∷ []) t q r h = absurd h.1
  last_three (v ∷ w ∷ []) t q r h = absurd h.1.1
  last_three (v ∷ w ∷ x ∷ vs) t q r h = refl

  pub last_four : (vs : List Value) (t q r m : Operand) → AllFit p (take 4 vs) (t ∷ q ∷ r ∷ m ∷ []) → last_of (take 4 vs) ≡ get_or vs 3 nothing
  last_four [] t q r m h = absurd h
  last_four (v ∷ []) t q r m h = absurd h.1
  last_four (v ∷ w ∷ []) t q r m h = absurd h.1.1
  last_four (v ∷ w ∷ x ∷ []) t q r m h = absurd h.1.1.1
  last_four (v ∷ w ∷ x ∷ y ∷ vs) t q r m h = refl

  pub last_below : (vs : List Value) (t q : Operand) → AllFit p (take 2 (drop 3 vs)) (t ∷ q ∷ []) → last_of (take 2 (drop 3 vs)) ≡ get_or vs 4 nothing
  last_below [] t q h = absurd h
  last_below (v ∷ []) t q h = absurd h
  last_below (v ∷ w ∷ []) t q h = absurd h
  last_below (v ∷ w ∷ x ∷ []) t q h = absurd h
  last_below (v ∷ w ∷ x ∷ y ∷ []) t q h = absurd h.1
  last_below (v ∷ w ∷ x ∷ y ∷ z ∷ vs) t q h = refl

  -- as many of one type
  pub each_of_many : (n : ℕ) (t : ValueType) (ws : List Value) → AllFit p ws (all_known (replicate n t ++ [])) → Each (λ w. Fits p w t) ws
  each_of_many zero t [] h = tt
  each_of_many zero t (w ∷ ws) h = absurd h
  each_of_many (suc n) t [] h = absurd h
  each_of_many (suc n) t (w ∷ ws) h = (h.0, each_of_many n t ws h.1)

pub fields_known : (p : Program) (s : Store) (y : InnerOf TypeTree) (ws : List Value) → FieldsFit p s y ws → Each (Knows s) ws
fields_known p s (struct_of fs) ws h = pairs_each (HasField p s) (Knows s) (λ f w k. k.1) fs ws h
fields_known p s (array_of f) ws h = each_map (HasField p s f) (Knows s) ws (λ w k. k.1) h
fields_known p s y ws h = absurd h

-- an array of which a field may be written is a later one, if it is as long
pub array_later : (o : ObjectInstance) (f : FieldOf TypeTree) (zs : List Value) → expanded o.type ≡ array_of f → f.mutable ≡ true → length zs ≡ length o.fields → IsLater o (record o { fields = zs })
array_later o f zs e m l = record {
  type = refl;
  size = l;
  kept = λ j g c n.
      let same : f ≡ g = same_some f g (subst (λ y. field_at y j ≡ Some g) e c) in
      absurd (true≢false (sym m ∙ ap (λ (k : FieldOf TypeTree). k.mutable) same ∙ n));
}

module _ (p : Program) (valid : IsValidProgram p) (results : List ValueType) (act : Activation) (acts : List Activation) (s : Store) (v : AreValid p results (act ∷ acts) s) (more : Code) (a : Answer) (u : Store) where
  abbrev Done : Op → Type 0
  Done o = IsDone p act acts (plain o more) s a u

  abbrev Given : Op → Type 0
  Given o = GivesOperator p (act ∷ acts) s a u act o

  abbrev Next : Op → Type 0
  Next o = act.innermost.code ≡ plain o more

  abbrev vs : List Value
  vs = act.innermost.values

  abbrev top : ℕ → Value
  top n = get_or act.innermost.values n nothing

  abbrev at : ℕ → ℕ
  at n = bits_of (get_or act.innermost.values n nothing)

  there : (n : ℕ) → Knows s (top n)
  there n = top_known p valid results act acts s v n

  fails : (o : Op) → (execute p a act acts (plain o more)).is_answer → (a.traps ≡ true → CodeNew (Knows s) p a act acts (plain o more)) → Traps p (act ∷ acts) s a u → Done o
  fails o answer new t = trapped_done p valid results act acts s v more a u o answer new t

  -- ---- an array is made

  array_made : (o : Op) (x : ℕ) (t : TypeTree) (f : FieldOf TypeTree) (ws given : List Value) → slice_get p.«module».types x ≡ Some t → expanded t ≡ array_of f → (execute p a act acts (plain o more)).is_answer
      → ((w : Store) → ((q : TypeTree) → slice_get p.«module».types x ≡ Some q → Knows w (ref_object a.made q)) → CodeNew (Knows w) p a act acts (plain o more))
      → EachFits p ws (operand_of f.storage) → Each (Knows s) ws → Each (Knows s) given → Makes p (act ∷ acts) s a u t ws given → Done o
  array_made o x t f ws given e is answer new fit there_is gives h =
      let b : ObjectInstance = record { type = t; fields = ws } in
      let later = object_evolves s b in
      subst (λ y. IsDone p act acts (plain o more) s a y) (sym h.1.2) (record {
        answer = answer;
        store = object_fits p s b v.store (subst (λ (y : InnerOf TypeTree). FieldsFit p s y ws) (sym is) (has_each p s (operand_of f.storage) ws fit there_is));
        evolves = later;
        values = values_known p valid results act acts s v (with_object s b) a given h.1.0 (each_map (Knows s) (Knows (with_object s b)) given (knows_later s (with_object s b) later) gives);
        new = new (with_object s b) (λ q d. subst (λ (y : TypeTree). Knows (with_object s b) (ref_object a.made y)) (same_some t q (sym e ∙ d)) (object_known s t ws a.made h.0));
      })

  pub array_new_fixed_done : (x n : ℕ) → Next (op.Gc (gc.ArrayNewFixed x n)) → Given (op.Gc (gc.ArrayNewFixed x n)) → Done (op.Gc (gc.ArrayNewFixed x n))
  array_new_fixed_done x n c h =
      let g = there_some p (act ∷ acts) s a u (slice_get p.«module».types x) _ h in
      let types : Fields → List ValueType = λ fs. flat_map (λ (q : ValueType). replicate n q) (operands_of fs) in
      let inner : TypeTree → Fields → Move = λ t fs. takes p a (types fs) vs (λ us ws. goes p a act acts (ref_object a.made t ∷ ws) more) in
      let outer : TypeTree → Move = λ t. found (array_fields (expanded t)) (inner t) in
      let answer : (execute p a act acts (plain (op.Gc (gc.ArrayNewFixed x n)) more)).is_answer = found_answer (slice_get p.«module».types x) outer (λ t d. found_answer (array_fields (expanded t)) (inner t) (λ fs q. tt)) in
      let m = told p valid results act acts s v a (plain (op.Gc (gc.ArrayNewFixed x n)) more) c answer in
      let q = found_needs {A = TypeTree} p results (slice_get p.«module».types x) outer m.0 m.1 in
      let r = found_needs {A = Fields} p results (array_fields (expanded q.0)) (inner q.0) q.2 q.3 in
      let y = array_is (expanded q.0) r.0 r.1 in
      let t : ValueType = operand_of (y.0).storage in
      let same : q.0 ≡ g.0 = same_some q.0 g.0 (sym q.1 ∙ g.1) in
      let is : expanded g.0 ≡ array_of y.0 = sym (ap (λ (k : TypeTree). expanded k) same) ∙ y.1 in
      let size : length (replicate n t ++ []) ≡ n = length-append (replicate n t) [] ∙ plus_zero (length (replicate n t)) ∙ length-replicate n t in
      let fit : AllFit p (take (length (replicate n t ++ [])) vs) (stack (replicate n t ++ [])) = subst (λ (fs : Fields). AllFit p (take (length (types fs)) vs) (stack (types fs))) y.2 r.2.0 in
      let fit_n : AllFit p (take n vs) (stack (replicate n t ++ [])) = subst (λ k. AllFit p (take k vs) (stack (replicate n t ++ []))) size fit in
      array_made (op.Gc (gc.ArrayNewFixed x n)) x g.0 y.0 (reverse (take n vs)) [] g.1 is answer (λ w k. k)
      (each_fits p t (reverse (take n vs)) (each_of_many p n t (reverse (take n vs)) (fit_in_order p (take n vs) (replicate n t ++ []) fit_n)))
      (each_reverse (Knows s) (take n vs) (each_take (Knows s) n vs v.known.0.innermost.values)) tt g.2
    where
      plus_zero : (k : ℕ) → k + 0 ≡ k
      plus_zero k = omega arith

  -- ---- of a segment

  pub array_new_data_done : (x d : ℕ) → Next (op.Gc (gc.ArrayNewData x d)) → Given (op.Gc (gc.ArrayNewData x d)) → Done (op.Gc (gc.ArrayNewData x d))
  array_new_data_done x d c h =
      let inner : TypeTree → Fields → Move = λ t fs. takes p a (i32_type ∷ i32_type ∷ []) vs (λ us ws. asks (FromData p a act acts d fs) (may_trap p a (goes p a act acts (ref_object a.made t ∷ ws) more))) in
      let outer : TypeTree → Move = λ t. found (array_fields (expanded t)) (inner t) in
      let answer : (execute p a act acts (plain (op.Gc (gc.ArrayNewData x d)) more)).is_answer =
      found_answer (slice_get p.«module».types x) outer (λ t e. found_answer (array_fields (expanded t)) (inner t) (λ fs q. trap_any p valid results act acts s v more a u a.traps (goes p a act acts (ref_object a.made t ∷ drop 2 vs) more) tt)) in
      let g = there_some p (act ∷ acts) s a u (slice_get p.«module».types x) _ h in
      ⊎_elim (λ t. fails (op.Gc (gc.ArrayNewData x d)) answer (λ e q f n. absurd (true≢false (sym e ∙ n))) t) (λ f.
      ⊎_elim (λ t. fails (op.Gc (gc.ArrayNewData x d)) answer (λ e q f n. absurd (true≢false (sym e ∙ n))) t) (λ k.
      let es = elements_from (f.0).storage (at 0) k.0 in
      let m = told p valid results act acts s v a (plain (op.Gc (gc.ArrayNewData x d)) more) c answer in
      let q = found_needs {A = TypeTree} p results (slice_get p.«module».types x) outer m.0 m.1 in
      let r = found_needs {A = Fields} p results (array_fields (expanded q.0)) (inner q.0) q.2 q.3 in
      let y = array_is (expanded q.0) r.0 r.1 in
      let same : q.0 ≡ g.0 = same_some q.0 g.0 (sym q.1 ∙ g.1) in
      let is : expanded g.0 ≡ array_of y.0 = sym (ap (λ (z : TypeTree). expanded z) same) ∙ y.1 in
      let one : f.0 ≡ y.0 = same_some f.0 y.0 (sym f.1 ∙ ap (λ (z : InnerOf TypeTree). field_at z 0) is) in
      array_made (op.Gc (gc.ArrayNewData x d)) x g.0 y.0 es [] g.1 is answer (λ w z q e n. z q e)
      (subst (λ (z : FieldOf TypeTree). EachFits p es (operand_of z.storage)) one (numbers_fit p (f.0).storage (at 0) k.0)) (read_known s (stored_type (f.0).storage) (stored_size (f.0).storage) (at 0) k.0) tt k.2)
      (or_traps p (act ∷ acts) s a u (range (data_in s d) (at 1) (at 0 * stored_size (f.0).storage)) _ f.2))
      (or_traps p (act ∷ acts) s a u (field_at (expanded g.0) 0) _ g.2)

  abbrev from_segment : ℕ → Fields → (FieldOf TypeTree → Move → Move) → Move → Move
  from_segment i fs may m = found (slice_get p.«module».elements i) (λ (q : ValueType). found (slice_get fs 0) (λ (f : FieldOf TypeTree). may f (copies p a q (operand_of f.storage) m)))

  segment_answer : (i : ℕ) (fs : Fields) (may : FieldOf TypeTree → Move → Move) (m : Move) (us : List Value) (from n : ℕ) → range (segment_in s i) from n ≡ Some us → a.values ≡ us → m.is_answer
      → ((f : FieldOf TypeTree) (k : Move) → k.is_answer → (may f k).is_answer) → (stores_from p a act acts i fs may m).is_answer
  segment_answer i fs may m us from n e values answer any = found_answer {A = ValueType} (slice_get p.«module».elements i) _ (λ (q : ValueType) d. found_answer {A = FieldOf TypeTree} (slice_get fs 0) _ (λ (f : FieldOf TypeTree) b.
      any f (copies p a q (operand_of f.storage) m) (answer_fits p valid results act acts s v more a u q us values (each_range (Has p s q) (segment_in s i) from n us (segment_holds p s v.store i q d) e), answer)))

  pub array_new_elem_done : (x i : ℕ) → Next (op.Gc (gc.ArrayNewElem x i)) → Given (op.Gc (gc.ArrayNewElem x i)) → Done (op.Gc (gc.ArrayNewElem x i))
  array_new_elem_done x i c h =
      let rest : TypeTree → Move = λ t. goes p a act acts (ref_object a.made t ∷ drop 2 vs) more in
      let stored : TypeTree → Fields → Move = λ t fs. from_segment i fs (λ f n. n) (rest t) in
      let inner : TypeTree → Fields → Move = λ t fs. takes p a (i32_type ∷ i32_type ∷ []) vs (λ us ws. may_trap p a (stores_from p a act acts i fs (λ f n. n) (goes p a act acts (ref_object a.made t ∷ ws) more))) in
      let outer : TypeTree → Move = λ t. found (array_fields (expanded t)) (inner t) in
      ⊎_elim (λ t. fails (op.Gc (gc.ArrayNewElem x i)) (found_answer (slice_get p.«module».types x) outer (λ k e. found_answer (array_fields (expanded k)) (inner k) (λ fs q. a_trap p a (stored k fs) t.0))) (λ e q f n. absurd (true≢false (sym e ∙ n))) t) (λ k.
      let g = there_some p (act ∷ acts) s a u (slice_get p.«module».types x) _ k.2 in
      let traps = g.2.1.1 in
      let answer : (execute p a act acts (plain (op.Gc (gc.ArrayNewElem x i)) more)).is_answer =
      found_answer (slice_get p.«module».types x) outer (λ t e. found_answer (array_fields (expanded t)) (inner t) (λ fs q. no_trap p a (stored t fs) traps
      (segment_answer i fs (λ f n. n) (rest t) k.0 (at 1) (at 0) k.1 g.2.1.0 tt (λ f n b. b)))) in
      let m = told p valid results act acts s v a (plain (op.Gc (gc.ArrayNewElem x i)) more) c answer in
      let q = found_needs {A = TypeTree} p results (slice_get p.«module».types x) outer m.0 m.1 in
      let r = found_needs {A = Fields} p results (array_fields (expanded q.0)) (inner q.0) q.2 q.3 in
      let y = array_is (expanded q.0) r.0 r.1 in
      let same : q.0 ≡ g.0 = same_some q.0 g.0 (sym q.1 ∙ g.1) in
      let is : expanded g.0 ≡ array_of y.0 = sym (ap (λ (z : TypeTree). expanded z) same) ∙ y.1 in
      let w = no_trap_needs p a results (stored q.0 r.0) traps r.2.1 r.3 in
      let e = found_needs {A = ValueType} p results (slice_get p.«module».elements i) (λ (z : ValueType). found (slice_get r.0 0) (λ (f : FieldOf TypeTree). copies p a z (operand_of f.storage) (rest q.0))) w.0 w.1 in
      let f = found_needs {A = FieldOf TypeTree} p results (slice_get r.0 0) (λ (f : FieldOf TypeTree). copies p a e.0 (operand_of f.storage) (rest q.0)) e.2 e.3 in
      let one : y.0 ≡ f.0 = same_some y.0 f.0 (subst (λ (fs : Fields). slice_get fs 0 ≡ Some f.0) y.2 f.1) in
      let fit : EachFits p k.0 (operand_of (y.0).storage) = subst (λ (z : FieldOf TypeTree). EachFits p k.0 (operand_of z.storage)) (sym one) (subst (λ ws. EachFits p ws (operand_of (f.0).storage)) g.2.1.0 f.2.0) in
      let known = each_range (Knows s) (segment_in s i) (at 1) (at 0) k.0 (segment_known p valid results act acts s v i) k.1 in
      array_made (op.Gc (gc.ArrayNewElem x i)) x g.0 y.0 k.0 k.0 g.1 is answer (λ w z q e n. z q e) fit known known g.2)
      (or_traps p (act ∷ acts) s a u (range (segment_in s i) (at 1) (at 0)) _ h)

  -- ---- many are written

  many_written : (o : Op) (k i : ℕ) (t : TypeTree) (b : ObjectInstance) (w : Value) (fs : Fields) (f : FieldOf TypeTree) (us zs given : List Value) → (execute p a act acts (plain o more)).is_answer
      → CodeNew (Knows (with_fields s k b zs)) p a act acts (plain o more) → Knows s w → w ≡ ref_object k t → slice_get s.objects k ≡ Some b → array_fields (expanded t) ≡ Some fs → slice_get fs 0 ≡ Some f → f.mutable ≡ true
      → Each (HasField p s f) us → placed b.fields i us ≡ Some zs → Each (Knows s) given → a.values ≡ given → u ≡ with_fields s k b zs → Done o
  many_written o k i t b w fs f us zs given answer new at_top names e own first m has d were values same =
      let type = type_known s w k t b at_top names e in
      let y = array_is (expanded t) fs own in
      let one : y.0 ≡ f = same_some y.0 f (subst (λ (gs : Fields). slice_get gs 0 ≡ Some f) y.2 first) in
      let is : expanded b.type ≡ array_of f = ap (λ (z : TypeTree). expanded z) type ∙ y.1 ∙ ap (λ (z : FieldOf TypeTree). array_of z) one in
      let later = array_later b f zs is m (placed_length b.fields i us zs d) in
      let old : Each (HasField p s f) b.fields = subst (λ (z : InnerOf TypeTree). FieldsFit p s z b.fields) is (each_get (ObjectFits p s) s.objects k b v.store.objects e) in
      let after = fields_evolve s k b zs e later in
      subst (λ z. IsDone p act acts (plain o more) s a z) (sym same) (record {
        answer = answer;
        store = written_fits p s k b zs e later v.store (subst (λ (z : InnerOf TypeTree). FieldsFit p s z zs) (sym is) (each_placed (HasField p s f) b.fields i us zs old has d));
        evolves = after;
        values = values_known p valid results act acts s v (with_fields s k b zs) a given values (each_map (Knows s) (Knows (with_fields s k b zs)) given (knows_later s (with_fields s k b zs) after) were);
        new = new;
      })

  pub array_fill_done : (x : ℕ) → Next (op.Gc (gc.ArrayFill x)) → Given (op.Gc (gc.ArrayFill x)) → Done (op.Gc (gc.ArrayFill x))
  array_fill_done x c h =
      let f : Value → List Value → Move = λ w ws. write p a act acts array_fields (i32_type ∷ []) x 0 w ws more in
      let g : Value → List Value → Move = λ n ws. asks (Fits p n i32_type) (pops ws f) in
      let answer : (execute p a act acts (plain (op.Gc (gc.ArrayFill x)) more)).is_answer = pops_any p valid results act acts s v more a u vs g (λ n ws. pops_any p valid results act acts s v more a u ws f (λ w us. write_any p valid results act acts s v more a u array_fields (i32_type ∷ []) x 0 w us)) in
      ⊎_elim (λ t. fails (op.Gc (gc.ArrayFill x)) answer (λ e. tt) t) (λ r.
      ⊎_elim (λ t. fails (op.Gc (gc.ArrayFill x)) answer (λ e. tt) t) (λ k.
      let n = told p valid results act acts s v a (plain (op.Gc (gc.ArrayFill x)) more) c answer in
      let q = pops_split p valid results act acts s v more a u vs g n.0 n.1 in
      let y = pops_split p valid results act acts s v more a u q.1 f q.3.1 q.4 in
      let second : get_or vs 1 nothing ≡ y.0 = ap (λ l. get_or l 1 nothing) q.2 ∙ ap (λ l. get_or l 0 nothing) y.2 in
      let third : get_or y.1 1 nothing ≡ top 3 = ap (λ l. get_or l 2 nothing) (sym y.2) ∙ ap (λ l. get_or l 3 nothing) (sym q.2) in
      let m = write_needs p valid results act acts s v more a u array_fields (i32_type ∷ []) x 0 y.0 y.1 r.0 r.1 k.2.1 (λ z fit. last_of_two y.1 (known i32_type) (known (ref true (concrete z))) fit ∙ third ∙ r.3) y.3 y.4 in
      many_written (op.Gc (gc.ArrayFill x)) r.0 (at 2) r.1 r.2 (top 3) m.0 m.1 (replicate (at 0) (top 1)) k.0 [] answer tt (there 3) r.3 r.4 m.2 m.3 m.4
      (each_replicate (HasField p s m.1) (at 0) (top 1) (subst (λ z. Fits p z (operand_of (m.1).storage)) (sym second) m.5, there 1)) k.1 tt k.2.0 k.2.2)
      (or_traps p (act ∷ acts) s a u (placed (r.2).fields (at 2) (replicate (at 0) (top 1))) _ r.5))
      (of_object p (act ∷ acts) s a u (top 3) _ h)
    where
      last_of_two : (ws : List Value) (t q : Operand) → AllFit p (take 2 ws) (t ∷ q ∷ []) → last_of (take 2 ws) ≡ get_or ws 1 nothing
      last_of_two [] t q h = absurd h
      last_of_two (w ∷ []) t q h = absurd h.1
      last_of_two (w ∷ y ∷ ws) t q h = refl

  -- ---- what a write of many asks

  -- through an object that is there, after no trap
  under_needs : (b : Answer) (ns : List ValueType) (x : ℕ) (ws : List Value) (f : Fields → List Value → Move) (k : ℕ) (t : TypeTree) → b.traps ≡ false
      → ((q : TypeTree) → AllFit p (take (suc (length ns)) ws) (stack (ref true (concrete q) ∷ ns)) → last_of (take (suc (length ns)) ws) ≡ ref_object k t)
      → (object_under p b act acts array_fields ns x ws f).needs → IsValidOutcome p results (object_under p b act acts array_fields ns x ws f).outcome
      → (fs : Fields) × (array_fields (expanded t) ≡ Some fs) × (f fs (drop (suc (length ns)) ws)).needs × IsValidOutcome p results (f fs (drop (suc (length ns)) ws)).outcome
  under_needs b ns x ws f k t e last n i =
      let below = drop (suc (length ns)) ws in
      let inner : TypeTree → Fields → Move = λ y own. takes p b (ref true (concrete y) ∷ ns) ws (λ us rest. may_trap p b (object p b act acts array_fields (last_of us) (λ fs. f fs rest))) in
      let q = found_needs {A = TypeTree} p results (slice_get p.«module».types x) (λ y. found (array_fields (expanded y)) (inner y)) n i in
      let r = found_needs {A = Fields} p results (array_fields (expanded q.0)) (inner q.0) q.2 q.3 in
      let m = no_trap_needs p b results (object p b act acts array_fields (last_of (take (suc (length ns)) ws)) (λ fs. f fs below)) e r.2.1 r.3 in
      let is = last q.0 r.2.0 in
      found_needs {A = Fields} p results (array_fields (expanded t)) (λ fs. f fs below)
      (subst (λ z. (object p b act acts array_fields z (λ fs. f fs below)).needs) is m.0) (subst (λ z. IsValidOutcome p results (object p b act acts array_fields z (λ fs. f fs below)).outcome) is m.1)

  under_any : (ns : List ValueType) (x : ℕ) (ws : List Value) (f : Fields → List Value → Move) → ((fs : Fields) → (f fs (drop (suc (length ns)) ws)).is_answer) → (object_under p a act acts array_fields ns x ws f).is_answer
  under_any ns x ws f g = found_answer (slice_get p.«module».types x) _ (λ t e. found_answer (array_fields (expanded t)) _ (λ own d.
      trap_any p valid results act acts s v more a u a.traps (object p a act acts array_fields (last_of (take (suc (length ns)) ws)) (λ fs. f fs (drop (suc (length ns)) ws)))
      (object_any p valid results act acts s v more a u array_fields (last_of (take (suc (length ns)) ws)) (λ fs. f fs (drop (suc (length ns)) ws)) g)))

  abbrev three : List ValueType
  three = i32_type ∷ i32_type ∷ i32_type ∷ []

  fourth : (k : ℕ) (t : TypeTree) → top 3 ≡ ref_object k t → (q : TypeTree) → AllFit p (take 4 vs) (stack (ref true (concrete q) ∷ three)) → last_of (take 4 vs) ≡ ref_object k t
  fourth k t e q h = last_four p vs (known i32_type) (known i32_type) (known i32_type) (known (ref true (concrete q))) h ∙ e

  pub array_init_data_done : (x d : ℕ) → Next (op.Gc (gc.ArrayInitData x d)) → Given (op.Gc (gc.ArrayInitData x d)) → Done (op.Gc (gc.ArrayInitData x d))
  array_init_data_done x d c h =
      let f : Fields → List Value → Move = λ fs ws. found (slice_get fs 0) (λ (z : FieldOf TypeTree). writes z (asks (FromData p a act acts d fs) (goes p a act acts ws more))) in
      let answer : (execute p a act acts (plain (op.Gc (gc.ArrayInitData x d)) more)).is_answer = under_any three x vs f (λ fs. found_answer (slice_get fs 0) _ (λ z e. tt)) in
      ⊎_elim (λ t. fails (op.Gc (gc.ArrayInitData x d)) answer (λ e. tt) t) (λ r.
      ⊎_elim (λ t. fails (op.Gc (gc.ArrayInitData x d)) answer (λ e. tt) t) (λ z.
      ⊎_elim (λ t. fails (op.Gc (gc.ArrayInitData x d)) answer (λ e. tt) t) (λ j.
      let es = elements_from (z.0).storage (at 0) j.0 in
      ⊎_elim (λ t. fails (op.Gc (gc.ArrayInitData x d)) answer (λ e. tt) t) (λ k.
      let n = told p valid results act acts s v a (plain (op.Gc (gc.ArrayInitData x d)) more) c answer in
      let m = under_needs a three x vs f r.0 r.1 k.2.1 (fourth r.0 r.1 r.3) n.0 n.1 in
      let w = found_needs {A = FieldOf TypeTree} p results (slice_get m.0 0) (λ (q : FieldOf TypeTree). writes q (asks (FromData p a act acts d m.0) (goes p a act acts (drop 4 vs) more))) m.2 m.3 in
      let type = type_known s (top 3) r.0 r.1 r.2 (there 3) r.3 r.4 in
      let is = array_is (expanded r.1) m.0 m.1 in
      let own : z.0 ≡ is.0 = same_some z.0 is.0 (sym z.1 ∙ ap (λ (q : TypeTree). field_at (expanded q) 0) type ∙ ap (λ (q : InnerOf TypeTree). field_at q 0) is.1) in
      let one : z.0 ≡ w.0 = own ∙ same_some is.0 w.0 (subst (λ (gs : Fields). slice_get gs 0 ≡ Some w.0) is.2 w.1) in
      many_written (op.Gc (gc.ArrayInitData x d)) r.0 (at 2) r.1 r.2 (top 3) m.0 w.0 es k.0 [] answer tt (there 3) r.3 r.4 m.1 w.1 w.2.0
      (has_each p s (operand_of (w.0).storage) es (subst (λ (q : FieldOf TypeTree). EachFits p es (operand_of q.storage)) one (numbers_fit p (z.0).storage (at 0) j.0)) (read_known s (stored_type (z.0).storage) (stored_size (z.0).storage) (at 0) j.0)) k.1 tt k.2.0 k.2.2)
      (or_traps p (act ∷ acts) s a u (placed (r.2).fields (at 2) es) _ j.2))
      (or_traps p (act ∷ acts) s a u (range (data_in s d) (at 1) (at 0 * stored_size (z.0).storage)) _ z.2))
      (or_traps p (act ∷ acts) s a u (field_at (expanded (r.2).type) 0) _ r.5))
      (of_object p (act ∷ acts) s a u (top 3) _ h)

  pub array_init_elem_done : (x i : ℕ) → Next (op.Gc (gc.ArrayInitElem x i)) → Given (op.Gc (gc.ArrayInitElem x i)) → Done (op.Gc (gc.ArrayInitElem x i))
  array_init_elem_done x i c h =
      let f : Fields → List Value → Move = λ fs ws. stores_from p a act acts i fs writes (goes p a act acts ws more) in
      let traps : IsTrue a.traps → (execute p a act acts (plain (op.Gc (gc.ArrayInitElem x i)) more)).is_answer = λ e. under_traps p valid results act acts s v more a u array_fields three x vs f e in
      ⊎_elim (λ t. fails (op.Gc (gc.ArrayInitElem x i)) (traps t.0) (λ e. tt) t) (λ g.
      ⊎_elim (λ t. fails (op.Gc (gc.ArrayInitElem x i)) (traps t.0) (λ e. tt) t) (λ r.
      ⊎_elim (λ t. fails (op.Gc (gc.ArrayInitElem x i)) (traps t.0) (λ e. tt) t) (λ k.
      let answer : (execute p a act acts (plain (op.Gc (gc.ArrayInitElem x i)) more)).is_answer = under_any three x vs f (λ fs. segment_answer i fs writes (goes p a act acts (drop 4 vs) more) g.0 (at 1) (at 0) g.1 k.2.0 tt (λ z q b. b)) in
      let n = told p valid results act acts s v a (plain (op.Gc (gc.ArrayInitElem x i)) more) c answer in
      let m = under_needs a three x vs f r.0 r.1 k.2.1 (fourth r.0 r.1 r.3) n.0 n.1 in
      let e = found_needs {A = ValueType} p results (slice_get p.«module».elements i) (λ (z : ValueType). found (slice_get m.0 0) (λ (q : FieldOf TypeTree). writes q (copies p a z (operand_of q.storage) (goes p a act acts (drop 4 vs) more)))) m.2 m.3 in
      let w = found_needs {A = FieldOf TypeTree} p results (slice_get m.0 0) (λ (q : FieldOf TypeTree). writes q (copies p a e.0 (operand_of q.storage) (goes p a act acts (drop 4 vs) more))) e.2 e.3 in
      let known = each_range (Knows s) (segment_in s i) (at 1) (at 0) g.0 (segment_known p valid results act acts s v i) g.1 in
      many_written (op.Gc (gc.ArrayInitElem x i)) r.0 (at 2) r.1 r.2 (top 3) m.0 w.0 g.0 k.0 g.0 answer tt (there 3) r.3 r.4 m.1 w.1 w.2.0
      (has_each p s (operand_of (w.0).storage) g.0 (subst (λ ws. EachFits p ws (operand_of (w.0).storage)) k.2.0 w.2.1.0) known) k.1 known k.2.0 k.2.2)
      (or_traps p (act ∷ acts) s a u (placed (r.2).fields (at 2) g.0) _ r.5))
      (of_object p (act ∷ acts) s a u (top 3) _ g.2))
      (or_traps p (act ∷ acts) s a u (range (segment_in s i) (at 1) (at 0)) _ h)

  -- ---- an array is copied to another

  abbrev stored_in : Fields → Fields → List Value → Move
  stored_in ss fs us = found (slice_get ss 0) (λ (q : FieldOf TypeTree). found (slice_get fs 0) (λ (f : FieldOf TypeTree). writes f (asks (AreStoredAlike q.storage f.storage)
      (copies p a (operand_of q.storage) (operand_of f.storage) (goes p a act acts us more)))))

  abbrev copied_to : ℕ → Fields → List Value → Move
  copied_to x ss ws = object_under p a act acts array_fields (i32_type ∷ []) x ws (stored_in ss)

  abbrev two : List ValueType
  two = i32_type ∷ i32_type ∷ []

  -- the third operand is the object that is read, as a step that traps tells
  third_is : (x y : ℕ) → Next (op.Gc (gc.ArrayCopy x y)) → last_of (take 3 vs) ≡ top 2
  third_is x y c =
      let b : Answer = record a { traps = true } in
      let f : Fields → List Value → Move = λ ss ws. object_under p b act acts array_fields (i32_type ∷ []) x ws (λ fs us. found (slice_get ss 0) (λ (q : FieldOf TypeTree). found (slice_get fs 0) (λ (g : FieldOf TypeTree). writes g (asks (AreStoredAlike q.storage g.storage)
      (copies p b (operand_of q.storage) (operand_of g.storage) (goes p b act acts us more)))))) in
      let answer : (execute p b act acts (plain (op.Gc (gc.ArrayCopy x y)) more)).is_answer = found_answer (slice_get p.«module».types y) _ (λ t e. found_answer (array_fields (expanded t)) _ (λ own d. tt)) in
      let n = told p valid results act acts s v b (plain (op.Gc (gc.ArrayCopy x y)) more) c answer in
      let k = under_fits p valid results act acts s v more a u b array_fields two y vs f n.0 n.1 in
      last_three p vs (known i32_type) (known i32_type) (known (ref true (concrete k.0))) k.1

  object_holds : (k : ℕ) (b : ObjectInstance) → slice_get s.objects k ≡ Some b → Each (Knows s) b.fields
  object_holds k b e = fields_known p s (expanded b.type) b.fields (each_get (ObjectFits p s) s.objects k b v.store.objects e)

  elements_hold : (k : ℕ) (t : TypeTree) (b : ObjectInstance) (ss : Fields) (q : FieldOf TypeTree) → slice_get s.objects k ≡ Some b → b.type ≡ t → array_fields (expanded t) ≡ Some ss → slice_get ss 0 ≡ Some q → Each (Has p s (operand_of q.storage)) b.fields
  elements_hold k t b ss q e type own first =
      let z = array_is (expanded t) ss own in
      let one : z.0 ≡ q = same_some z.0 q (subst (λ (gs : Fields). slice_get gs 0 ≡ Some q) z.2 first) in
      subst (λ (y : InnerOf TypeTree). FieldsFit p s y b.fields) (ap (λ (y : TypeTree). expanded y) type ∙ z.1 ∙ ap (λ (y : FieldOf TypeTree). array_of y) one) (each_get (ObjectFits p s) s.objects k b v.store.objects e)

  -- what is read from an object may be stored in any
  copy_answer : (x y k : ℕ) (t : TypeTree) (b : ObjectInstance) (us : List Value) → Next (op.Gc (gc.ArrayCopy x y)) → a.traps ≡ false → top 2 ≡ ref_object k t → slice_get s.objects k ≡ Some b → range b.fields (at 1) (at 0) ≡ Some us → a.values ≡ us
      → (execute p a act acts (plain (op.Gc (gc.ArrayCopy x y)) more)).is_answer
  copy_answer x y k t b us c traps names e d values =
      under_answer p valid results act acts s v more a u array_fields two y vs (λ ss ws. copied_to x ss ws) (top 2) k t traps (third_is x y c) names (λ ss own.
      under_any (i32_type ∷ []) x (drop 3 vs) (stored_in ss) (λ fs. found_answer {A = FieldOf TypeTree} (slice_get ss 0) _ (λ (q : FieldOf TypeTree) i. found_answer {A = FieldOf TypeTree} (slice_get fs 0) _ (λ (z : FieldOf TypeTree) j. (
        answer_fits p valid results act acts s v more a u (operand_of q.storage) us values (each_range (Has p s (operand_of q.storage)) b.fields (at 1) (at 0) us (elements_hold k t b ss q e (type_known s (top 2) k t b (there 2) names e) own i) d),
        tt,
      )))))

  -- and the object that is written may be, and takes it
  abbrev MayStore : Fields → Type 0
  MayStore fs = (f : FieldOf TypeTree) × (slice_get fs 0 ≡ Some f) × (f.mutable ≡ true) × EachFits p a.values (operand_of f.storage)

  stored_needs : (ss fs : Fields) (us : List Value) → (stored_in ss fs us).needs → IsValidOutcome p results (stored_in ss fs us).outcome → MayStore fs
  stored_needs ss fs us n i =
      let own = found_needs {A = FieldOf TypeTree} p results (slice_get ss 0) (λ (q : FieldOf TypeTree). found (slice_get fs 0) (λ (z : FieldOf TypeTree). writes z (asks (AreStoredAlike q.storage z.storage)
      (copies p a (operand_of q.storage) (operand_of z.storage) (goes p a act acts us more))))) n i in
      let field = found_needs {A = FieldOf TypeTree} p results (slice_get fs 0) (λ (z : FieldOf TypeTree). writes z (asks (AreStoredAlike (own.0).storage z.storage)
      (copies p a (operand_of (own.0).storage) (operand_of z.storage) (goes p a act acts us more)))) own.2 own.3 in
      (field.0, field.1, field.2.0, field.2.1.1.0)

  copy_needs : (x y k j : ℕ) (t q : TypeTree) → a.traps ≡ false → top 2 ≡ ref_object k t → top 4 ≡ ref_object j q → (execute p a act acts (plain (op.Gc (gc.ArrayCopy x y)) more)).needs
      → IsValidOutcome p results (execute p a act acts (plain (op.Gc (gc.ArrayCopy x y)) more)).outcome → (fs : Fields) × (array_fields (expanded q) ≡ Some fs) × MayStore fs
  copy_needs x y k j t q traps from to n i =
      let m = under_needs a two y vs (λ ss ws. copied_to x ss ws) k t traps (λ z fit. last_three p vs (known i32_type) (known i32_type) (known (ref true (concrete z))) fit ∙ from) n i in
      let w = under_needs a (i32_type ∷ []) x (drop 3 vs) (stored_in m.0) j q traps (λ z fit. last_below p vs (known i32_type) (known (ref true (concrete z))) fit ∙ to) m.2 m.3 in
      (w.0, w.1, stored_needs m.0 w.0 (drop 2 (drop 3 vs)) w.2 w.3)

  -- one array is read and another, or the same, is written
  copy_written : (x y k j : ℕ) (t q : TypeTree) (b o : ObjectInstance) (us zs : List Value) → Next (op.Gc (gc.ArrayCopy x y)) → a.traps ≡ false → top 2 ≡ ref_object k t → slice_get s.objects k ≡ Some b → range b.fields (at 1) (at 0) ≡ Some us → a.values ≡ us
      → top 4 ≡ ref_object j q → slice_get s.objects j ≡ Some o → placed o.fields (at 3) us ≡ Some zs → u ≡ with_fields s j o zs → Done (op.Gc (gc.ArrayCopy x y))
  copy_written x y k j t q b o us zs c traps from e d values to i l same =
      let answer = copy_answer x y k t b us c traps from e d values in
      let n = told p valid results act acts s v a (plain (op.Gc (gc.ArrayCopy x y)) more) c answer in
      let m = copy_needs x y k j t q traps from to n.0 n.1 in
      let were : Each (Knows s) us = each_range (Knows s) b.fields (at 1) (at 0) us (object_holds k b e) d in
      let f : FieldOf TypeTree = m.2.0 in
      many_written (op.Gc (gc.ArrayCopy x y)) j (at 3) q o (top 4) m.0 f us zs us answer tt (there 4) to i m.1 m.2.1 m.2.2
      (has_each p s (operand_of f.storage) us (subst (λ ws. EachFits p ws (operand_of f.storage)) values m.2.3) were) l were values same

  pub array_copy_done : (x y : ℕ) → Next (op.Gc (gc.ArrayCopy x y)) → Given (op.Gc (gc.ArrayCopy x y)) → Done (op.Gc (gc.ArrayCopy x y))
  array_copy_done x y c h =
      let fails_so : Traps p (act ∷ acts) s a u → Done (op.Gc (gc.ArrayCopy x y)) = λ t. fails (op.Gc (gc.ArrayCopy x y)) (under_traps p valid results act acts s v more a u array_fields two y vs (λ ss ws. copied_to x ss ws) t.0) (λ e. tt) t in
      ⊎_elim fails_so (λ r.
      ⊎_elim fails_so (λ g.
      ⊎_elim fails_so (λ w.
      ⊎_elim fails_so (λ k. copy_written x y r.0 w.0 r.1 w.1 r.2 w.2 g.0 k.0 c k.2.1 r.3 r.4 g.1 k.2.0 w.3 w.4 k.1 k.2.2)
      (or_traps p (act ∷ acts) s a u (placed (w.2).fields (at 3) g.0) _ w.5))
      (of_object p (act ∷ acts) s a u (top 4) _ g.2))
      (or_traps p (act ∷ acts) s a u (range (r.2).fields (at 1) (at 0)) _ r.5))
      (of_object p (act ∷ acts) s a u (top 2) _ h)
