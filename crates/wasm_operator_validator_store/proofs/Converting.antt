-- References that go from one hierarchy to another and back, and unboxed scalars.
use Rattle.std.proofs.Common.{◌≡◌, ℕ, Bool, true, false, List, [], ◌∷◌, ◌++◌, refl, sym, ap, subst, ◌∙◌, inl, get_or, slice_get, true≢false}
use Rattle.std.specs.Prelude.{◌%◌, ◌^◌}
use mathlib.Core.Logic.{⊎_elim}
use Rattle.wasm_types.specs.trees.Types.{i32, Abstract, any, extern, i31, abstract, ref}
use Rattle.wasm_types.specs.trees.AbstractOrder.{same}
use Rattle.wasm_operators_enums.specs.declared.gc.GcOperator.TheVariants as gc
use Rattle.wasm_operators_enums.specs.Op as op
use Rattle.wasm_operators_enums.specs.Op.{Op}
use Rattle.wasm_operators_encoding.specs.expressions.Code.{Code, plain}
use Rattle.wasm_operator_validator_rules.specs.Operands.{ValueType, known}
use Rattle.wasm_operator_validator_rules.specs.InstructionTypes.{i32_type}
use Rattle.wasm_operator_validator_soundness.specs.runs.Values.{Program, Value, number_value, ref_null, ref_function, ref_object, ref_i31, ref_host, ref_extern, ref_exn, is_null, Fits, AllFit}
use Rattle.wasm_operator_validator_soundness.specs.runs.States.{Activation, Answer, Move, asks, allows, choose, pops}
use Rattle.wasm_operator_validator_soundness.specs.runs.States as states
use Rattle.wasm_operator_validator_soundness.specs.runs.Machine.{IsUnboxed, IsOf, null_in, goes, convert, number_from, execute}
use Rattle.wasm_operator_validator_soundness.specs.runs.Soundness.{IsValidProgram}
use Rattle.wasm_operator_validator_soundness.proofs.Values.{never_null}
use Rattle.wasm_operator_validator_soundness.proofs.Unshared.{internal_whole}
use Rattle.wasm_operator_validator_store.specs.Stores.{Store, nothing, bits_of, with_extern}
use Rattle.wasm_operator_validator_store.specs.ValidStores.{Each, Knows, Has, StoreFits, Evolves}
use Rattle.wasm_operator_validator_store.specs.Giving.{Stays, Unboxes, Externalises, ConvertsToExtern, ConvertsToAny, GivesOperator}
use Rattle.wasm_operator_validator_store.specs.Soundness.{AreValid}
use Rattle.wasm_operator_validator_store.proofs.Lists.{each_append, each_get, get_append}
use Rattle.wasm_operator_validator_store.proofs.Storing.{stays, is_same, global_is_same, table_is_same, memory_is_same, globals_fit, tables_fit, segments_fit, objects_fit, exceptions_fit, externs_fit, globals_there, tables_there, memories_there, tags_there, has_later}
use Rattle.wasm_operator_validator_store.proofs.Answering.{IsDone, told, top_known}
use Rattle.wasm_operator_validator_store.proofs.Accessing.{unchanged, values_known, exchanged, fit_as}
use Rattle.wasm_operator_validator_store.proofs.Objects.{there_some, pops_split}
use Rattle.wasm_operator_validator_store.proofs.Casting.{choose_any, pops_top}
use Rattle.wasm_operator_validator_store.proofs.Control.{silent}

-- ---- an external reference is made

module _ (s : Store) (w : Value) where
  pub extern_evolves : Evolves s (with_extern s w)
  extern_evolves = record {
    globals = λ k g d. (g, d, global_is_same g);
    tables = λ k t d. (t, d, table_is_same t);
    memories = λ k m d. (m, d, memory_is_same m);
    segments = λ i vs d. (vs, d, inl refl);
    data_segments = λ i bs d. (bs, d, inl refl);
    objects = λ k q d. (q, d, is_same q);
    exceptions = λ k y d. d;
    tags = λ k t d. d;
    externs = λ k y d. get_append s.externs (w ∷ []) k y d;
    addresses = refl;
  }

module _ (p : Program) (s : Store) (w : Value) where
  pub extern_fits : StoreFits p s → Has p s (ref false (abstract false any)) w → StoreFits p (with_extern s w)
  extern_fits f h = record {
    globals = globals_fit p s (with_extern s w) (extern_evolves s w) f;
    tables = tables_fit p s (with_extern s w) (extern_evolves s w) f;
    memories = f.memories;
    segments = segments_fit p s (with_extern s w) (extern_evolves s w) f;
    objects = objects_fit p s (with_extern s w) (extern_evolves s w) f;
    exceptions = exceptions_fit p s (with_extern s w) (extern_evolves s w) f;
    tags = f.tags;
    externs = each_append (Has p (with_extern s w) (ref false (abstract false any))) s.externs (w ∷ []) (externs_fit p s (with_extern s w) (extern_evolves s w) f) (has_later p s (with_extern s w) (extern_evolves s w) (ref false (abstract false any)) w h, tt);
    global_addresses = globals_there p s (with_extern s w) (extern_evolves s w) f;
    table_addresses = tables_there p s (with_extern s w) (extern_evolves s w) f;
    memory_addresses = memories_there p s (with_extern s w) (extern_evolves s w) f;
    tag_addresses = tags_there p s (with_extern s w) (extern_evolves s w) f;
  }

module _ (p : Program) (valid : IsValidProgram p) (results : List ValueType) (act : Activation) (acts : List Activation) (s : Store) (v : AreValid p results (act ∷ acts) s) (more : Code) (a : Answer) (u : Store) where
  abbrev Done : Op → Type 0
  Done o = IsDone p act acts (plain o more) s a u

  abbrev Given : Op → Type 0
  Given o = GivesOperator p (act ∷ acts) s a u act o

  abbrev Next : Op → Type 0
  Next o = act.innermost.code ≡ plain o more

  abbrev vs : List Value
  vs = act.innermost.values

  abbrev top : Value
  top = get_or act.innermost.values 0 nothing

  -- what a conversion asks of an answer
  abbrev Converted : Abstract → Abstract → Value → Type 0
  Converted h k w = (c : Bool) → Fits p w (ref true (abstract c h)) → AllFit p a.values (known (ref false (abstract c k)) ∷ [])

  abbrev converting : Abstract → Abstract → Value → List Value → Move
  converting h k w ws = asks (IsOf p a act acts h w) (choose (is_null w) (goes p a act acts (null_in p a act acts k w ∷ ws) more) (allows (Converted h k w) (goes p a act acts (a.values ++ ws) more)))

  converting_answer : (h k : Abstract) (w : Value) → top ≡ w → (is_null w ≡ false → Converted h k w) → (convert p a act acts h k more).is_answer
  converting_answer h k w e f = pops_top vs (converting h k) (λ y ys d. subst (λ z. (converting h k z ys).is_answer) (sym e ∙ ap (λ l. get_or l 0 nothing) d) (chosen (is_null w) refl ys))
    where
      chosen : (b : Bool) → is_null w ≡ b → (ys : List Value) → (converting h k w ys).is_answer
      chosen true n ys = subst (λ b. (choose b (goes p a act acts (null_in p a act acts k w ∷ ys) more) (allows (Converted h k w) (goes p a act acts (a.values ++ ys) more))).is_answer) (sym n) tt
      chosen false n ys = subst (λ b. (choose b (goes p a act acts (null_in p a act acts k w ∷ ys) more) (allows (Converted h k w) (goes p a act acts (a.values ++ ys) more))).is_answer) (sym n) (f n, tt)

  -- ---- to an external reference

  one_extern : (k : ℕ) (w : Value) → is_null w ≡ false → a.values ≡ ref_extern k ∷ [] → Converted any extern w
  one_extern k w e values c f = subst (λ ws. AllFit p ws (known (ref false (abstract c extern)) ∷ [])) (sym values) ((tt, (tt, (internal_whole p w c e f, same))), tt)

  externalises : (w : Value) → top ≡ w → is_null w ≡ false → Next (op.Gc gc.ExternConvertAny) → Externalises p (act ∷ acts) s a u act w → Done (op.Gc gc.ExternConvertAny)
  externalises w e n c h =
      let answer : (execute p a act acts (plain (op.Gc gc.ExternConvertAny) more)).is_answer = converting_answer any extern w e (λ q. one_extern h.0 w n h.1) in
      let m = told p valid results act acts s v a (plain (op.Gc gc.ExternConvertAny) more) c answer in
      let q = pops_split p valid results act acts s v more a u vs (converting any extern) m.0 m.1 in
      let is : q.0 ≡ w = sym (ap (λ l. get_or l 0 nothing) q.2) ∙ e in
      let of = subst (λ z. IsOf p a act acts any z) is q.3.0 in
      let fit : Fits p w (ref false (abstract of.0 any)) = never_null p w true (abstract of.0 any) n of.1 in
      let has : Has p s (ref false (abstract false any)) w = (subst (λ c. Fits p w (ref false (abstract c any))) (sym (internal_whole p w of.0 n of.1)) fit, subst (Knows s) e (top_known p valid results act acts s v 0)) in
      let known : Each (Knows u) a.values = subst (Each (Knows u)) (sym h.1) ((w, h.2), tt) in
      ⊎_elim
      (λ d. record { answer = answer; store = subst (StoreFits p) (sym d) v.store; evolves = subst (Evolves s) (sym d) (stays s); values = known; new = tt })
      (λ d. record { answer = answer; store = subst (StoreFits p) (sym d) (extern_fits p s w v.store has); evolves = subst (Evolves s) (sym d) (extern_evolves s w); values = known; new = tt })
      h.3

  to_extern : (w : Value) → top ≡ w → Next (op.Gc gc.ExternConvertAny) → ConvertsToExtern p (act ∷ acts) s a u act w → Done (op.Gc gc.ExternConvertAny)
  to_extern (ref_null q k) e c h = silent p valid results act acts s v more a u (op.Gc gc.ExternConvertAny) (converting_answer any extern (ref_null q k) e (λ n. absurd (true≢false n))) tt h
  to_extern (ref_object k t) e c h = externalises (ref_object k t) e refl c h
  to_extern (ref_i31 b) e c h = externalises (ref_i31 b) e refl c h
  to_extern (ref_host k) e c h = externalises (ref_host k) e refl c h
  to_extern (number_value n b) e c h = absurd h
  to_extern (ref_function i t) e c h = absurd h
  to_extern (ref_extern k) e c h = absurd h
  to_extern (ref_exn k t) e c h = absurd h

  pub extern_convert_any_done : Next (op.Gc gc.ExternConvertAny) → Given (op.Gc gc.ExternConvertAny) → Done (op.Gc gc.ExternConvertAny)
  extern_convert_any_done c h = to_extern top refl c h

  -- ---- and back

  to_any : (w : Value) → top ≡ w → ConvertsToAny p (act ∷ acts) s a u act w → Done (op.Gc gc.AnyConvertExtern)
  to_any (ref_null q k) e h = silent p valid results act acts s v more a u (op.Gc gc.AnyConvertExtern) (converting_answer extern any (ref_null q k) e (λ n. absurd (true≢false n))) tt h
  to_any (ref_extern k) e h =
      let r = there_some p (act ∷ acts) s a u (slice_get s.externs k) _ h in
      let has = each_get (Has p s (ref false (abstract false any))) s.externs k r.0 v.store.externs r.1 in
      unchanged p valid results act acts s v (plain (op.Gc gc.AnyConvertExtern) more) a u r.2.2
      (converting_answer extern any (ref_extern k) e (λ n c f. subst (λ ws. AllFit p ws (known (ref false (abstract c any)) ∷ [])) (sym r.2.0) (subst (λ b. Fits p r.0 (ref false (abstract b any))) f.1.1.0 has.0, tt)))
      (values_known p valid results act acts s v s a (r.0 ∷ []) r.2.0 (has.1, tt)) tt
  to_any (number_value n b) e h = absurd h
  to_any (ref_function i t) e h = absurd h
  to_any (ref_object k t) e h = absurd h
  to_any (ref_i31 b) e h = absurd h
  to_any (ref_host k) e h = absurd h
  to_any (ref_exn k t) e h = absurd h

  pub any_convert_extern_done : Given (op.Gc gc.AnyConvertExtern) → Done (op.Gc gc.AnyConvertExtern)
  any_convert_extern_done h = to_any top refl h

  -- ---- unboxed scalars

  pub box_done : Given (op.Gc gc.RefI31) → Done (op.Gc gc.RefI31)
  box_done h =
      let b = bits_of top % 2 ^ 31 in
      unchanged p valid results act acts s v (plain (op.Gc gc.RefI31) more) a u h.2
      (exchanged p valid results act acts s v more a u (i32_type ∷ []) (ref false (abstract false i31) ∷ []) h.1 (fit_as p valid results act acts s v more a u (ref_i31 b ∷ []) (ref false (abstract false i31) ∷ []) h.0 ((tt, (tt, (refl, same))), tt)))
      (values_known p valid results act acts s v s a (ref_i31 b ∷ []) h.0 (tt, tt)) tt

  unbox_answer : (number_from p a act acts i31 IsUnboxed more).is_answer
  unbox_answer = pops_top vs _ (λ w ws d. choose_any a.traps (states.done states.trapped) (goes p a act acts (number_value i32 a.made ∷ ws) more) tt tt)

  unboxes : (signed : Bool) (w : Value) → Unboxes p (act ∷ acts) s a u act signed w → Stays p (act ∷ acts) s a u
  unboxes signed (ref_i31 b) h = (h.1.0, h.1.2)
  unboxes signed (number_value n b) h = h.1
  unboxes signed (ref_null q k) h = h.1
  unboxes signed (ref_function i t) h = h.1
  unboxes signed (ref_object k t) h = h.1
  unboxes signed (ref_host k) h = h.1
  unboxes signed (ref_extern k) h = h.1
  unboxes signed (ref_exn k t) h = h.1

  pub unbox_signed_done : Given (op.Gc gc.I31GetS) → Done (op.Gc gc.I31GetS)
  unbox_signed_done h = silent p valid results act acts s v more a u (op.Gc gc.I31GetS) unbox_answer (λ e. tt) (unboxes true top h)

  pub unbox_unsigned_done : Given (op.Gc gc.I31GetU) → Done (op.Gc gc.I31GetU)
  unbox_unsigned_done h = silent p valid results act acts s v more a u (op.Gc gc.I31GetU) unbox_answer (λ e. tt) (unboxes false top h)
