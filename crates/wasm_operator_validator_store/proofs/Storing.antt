-- A store in which all fits, and what becomes of it where something in it is replaced or added.
use Rattle.std.proofs.Common.{◌≡◌, ◌≤◌, ℕ, true, false, List, [], ◌∷◌, ◌++◌, Option, Some, None, refl, sym, ap, subst, ◌∙◌, inl, inr, length, slice_get, arith, true≢false}
use Rattle.wasm_types.specs.trees.Types.{ref, abstract, any, InnerOf, array_of, struct_of}
use Rattle.wasm_types.specs.trees.Trees.{TypeTree}
use Rattle.wasm_types.specs.externs.declared.memory.MemoryType.{MemoryType}
use Rattle.wasm_types.specs.trees.Below.{Below, expanded}
use Rattle.wasm_types.specs.trees.laws.Below.{below_transitive}
use Rattle.wasm_operator_validator_rules.specs.Operands.{ValueType}
use Rattle.wasm_operator_validator_rules.specs.Context.{Table, Global}
use Rattle.wasm_operator_validator_soundness.specs.runs.Values.{Program, Value, number_value, ref_null, ref_function, ref_object, ref_i31, ref_host, ref_extern, ref_exn, least_type}
use Rattle.wasm_operator_validator_soundness.specs.runs.States.{Exception, Label, Activation, State}
use Rattle.wasm_operator_validator_store.specs.Stores.{GlobalInstance, TableInstance, MemoryInstance, ObjectInstance, ExceptionInstance, Addresses, Store, value_held, elements_held, with_value, with_elements, bytes_held, with_bytes, global_address, table_address, memory_address, global_in, table_in, memory_at, memory_in, segment_in, with_global, with_table, with_memory, without_data, without_segment, with_object, with_fields, with_exception}
use Rattle.wasm_operator_validator_store.specs.ValidStores.{Each, Pairs, Knows, Has, HasField, FieldsFit, ObjectFits, ThrownFits, GlobalMatches, TableMatches, MemoryMatches, IsGlobalAt, IsTableAt, IsMemoryAt, IsTagAt, GlobalFits, TableFits, MemoryFits, StoreFits, GlobalIsLater, TableIsLater, MemoryIsLater, SegmentIsLater, DataIsLater, IsLater, Evolves, HasLocal, HasCaught, HasLabel, HasActivation, HasState}
use Rattle.wasm_operator_validator_store.proofs.Lists.{same_some, each_get, each_append, each_set, each_changed, each_map, pairs_get, pairs_set, pairs_map, get_append, get_last, get_or_there, get_set_by, get_set_any, get_changed_by}
use Rattle.wasm_operator_validator_store.proofs.Keeping.{IsPlain}

pub is_same : (o : ObjectInstance) → IsLater o o
is_same o = record { type = refl; size = refl; kept = λ i f e m. refl }

pub global_is_same : (g : GlobalInstance) → GlobalIsLater g g
global_is_same g = record { type = refl; kept = λ m. refl }

pub table_is_same : (t : TableInstance) → TableIsLater t t
table_is_same t = record { type = refl; size = omega arith }

pub memory_is_same : (m : MemoryInstance) → MemoryIsLater m m
memory_is_same m = record { type = refl; size = omega arith }

pub knows_plain : (s : Store) → IsPlain (Knows s)
knows_plain s = record { zeros = λ n. tt; nulls = λ c h. tt; functions = λ i t. tt }

pub stays : (s : Store) → Evolves s s
stays s = record {
  globals = λ k g e. (g, e, global_is_same g);
  tables = λ k t e. (t, e, table_is_same t);
  memories = λ k m e. (m, e, memory_is_same m);
  segments = λ i vs e. (vs, e, inl refl);
  data_segments = λ i bs e. (bs, e, inl refl);
  objects = λ k o e. (o, e, is_same o);
  exceptions = λ k x e. e;
  tags = λ k t e. e;
  externs = λ k v e. e;
  addresses = refl;
}

-- ---- what was there is there still

module _ (s u : Store) (e : Evolves s u) where
  pub knows_later : (v : Value) → Knows s v → Knows u v
  knows_later (ref_object k t) h = let r = e.objects k h.0 h.1 in (r.0, r.1, r.2.type ∙ h.2)
  knows_later (ref_exn k t) h = (h.0, e.exceptions k h.0 h.1, e.tags h.0.tag t h.2)
  knows_later (ref_extern k) h = (h.0, e.externs k h.0 h.1)
  knows_later (number_value n b) h = tt
  knows_later (ref_null c h') h = tt
  knows_later (ref_function i t) h = tt
  knows_later (ref_i31 b) h = tt
  knows_later (ref_host k) h = tt

  pub local_later : (o : Option Value) → HasLocal (Knows s) o → HasLocal (Knows u) o
  local_later None h = tt
  local_later (Some v) h = knows_later v h

  pub caught_later : (o : Option Exception) → HasCaught (Knows s) o → HasCaught (Knows u) o
  caught_later None h = tt
  caught_later (Some x) h = knows_later (ref_exn x.address x.type) h

  pub label_later : (l : Label) → HasLabel (Knows s) l → HasLabel (Knows u) l
  label_later l h = record { values = each_map (Knows s) (Knows u) l.values knows_later h.values; caught = caught_later l.caught h.caught }

  pub activation_later : (act : Activation) → HasActivation (Knows s) act → HasActivation (Knows u) act
  activation_later act h = record {
    locals = each_map (HasLocal (Knows s)) (HasLocal (Knows u)) act.locals local_later h.locals;
    innermost = label_later act.innermost h.innermost;
    around = each_map (HasLabel (Knows s)) (HasLabel (Knows u)) act.around label_later h.around;
  }

  pub state_later : (x : State) → HasState (Knows s) x → HasState (Knows u) x
  state_later x h = each_map (HasActivation (Knows s)) (HasActivation (Knows u)) x activation_later h

  -- ---- at the module's addresses too

  pub global_there : (g : Global) (k : ℕ) → IsGlobalAt s g k → IsGlobalAt u g k
  global_there g k h = let r = e.globals k h.0 h.1 in (r.0, r.1, subst (λ (t : Global). GlobalMatches t g) (sym r.2.type) h.2)

  pub table_there : (t : Table) (k : ℕ) → IsTableAt s t k → IsTableAt u t k
  table_there t k h = let r = e.tables k h.0 h.1 in (r.0, r.1, subst (λ (q : Table). TableMatches q t) (sym r.2.type) h.2)

  pub memory_there : (t : MemoryType) (k : ℕ) → IsMemoryAt s t k → IsMemoryAt u t k
  memory_there t k h =
      let r = e.memories k h.0 h.1 in
      (r.0, r.1, subst (λ (q : MemoryType). MemoryMatches q t) (sym r.2.type) h.2, omega (arith, h.3, r.2.size))

-- ---- what becomes of a store in which something is replaced or added

pub global_evolves : (s : Store) (x : ℕ) (v : Value) (i : GlobalInstance) → slice_get s.globals (global_address s x) ≡ Some i → i.type.mutable ≡ true → Evolves s (with_global s x v)
global_evolves s x v i e m = record {
  globals = get_changed_by GlobalIsLater (with_value v) s.globals (global_address s x) global_is_same written;
  tables = λ k t d. (t, d, table_is_same t);
  memories = λ k m d. (m, d, memory_is_same m);
  segments = λ i vs d. (vs, d, inl refl);
  data_segments = λ i bs d. (bs, d, inl refl);
  objects = λ k q d. (q, d, is_same q);
  exceptions = λ k y d. d;
  tags = λ k t d. d;
  externs = λ k w d. d;
  addresses = refl;
}
  where
    written : (g : GlobalInstance) → slice_get s.globals (global_address s x) ≡ Some g → GlobalIsLater g (with_value v g)
    written g d = record { type = refl; kept = λ n. absurd (true≢false (sym m ∙ ap (λ (k : GlobalInstance). k.type.mutable) (same_some i g (sym e ∙ d)) ∙ n)) }

pub table_evolves : (s : Store) (x : ℕ) (vs : List Value) → length (table_in s x) ≤ length vs → Evolves s (with_table s x vs)
table_evolves s x vs l = record {
  globals = λ k g d. (g, d, global_is_same g);
  tables = get_changed_by TableIsLater (with_elements vs) s.tables (table_address s x) table_is_same written;
  memories = λ k m d. (m, d, memory_is_same m);
  segments = λ i vs d. (vs, d, inl refl);
  data_segments = λ i bs d. (bs, d, inl refl);
  objects = λ k q d. (q, d, is_same q);
  exceptions = λ k y d. d;
  tags = λ k t d. d;
  externs = λ k w d. d;
  addresses = refl;
}
  where
    written : (t : TableInstance) → slice_get s.tables (table_address s x) ≡ Some t → TableIsLater t (with_elements vs t)
    written t d = record { type = refl; size = subst (λ (ws : List Value). length ws ≤ length vs) (ap elements_held d) l }

pub memory_evolves : (s : Store) (x : ℕ) (bs : List ℕ) → length (memory_in s x) ≤ length bs → Evolves s (with_memory s x bs)
memory_evolves s x bs l = record {
  globals = λ k g d. (g, d, global_is_same g);
  tables = λ k t d. (t, d, table_is_same t);
  memories = get_changed_by MemoryIsLater (with_bytes bs) s.memories (memory_address s x) memory_is_same written;
  segments = λ i vs d. (vs, d, inl refl);
  data_segments = λ i cs d. (cs, d, inl refl);
  objects = λ k q d. (q, d, is_same q);
  exceptions = λ k y d. d;
  tags = λ k t d. d;
  externs = λ k w d. d;
  addresses = refl;
}
  where
    written : (m : MemoryInstance) → slice_get s.memories (memory_address s x) ≡ Some m → MemoryIsLater m (with_bytes bs m)
    written m d = record { type = refl; size = subst (λ (cs : List ℕ). length cs ≤ length bs) (ap bytes_held d) l }

pub data_evolves : (s : Store) (i : ℕ) → Evolves s (without_data s i)
data_evolves s i = record {
  globals = λ k g d. (g, d, global_is_same g);
  tables = λ k t d. (t, d, table_is_same t);
  memories = λ k m d. (m, d, memory_is_same m);
  segments = λ i vs d. (vs, d, inl refl);
  data_segments = get_set_any DataIsLater s.data_segments i [] (λ cs. inl refl) (λ cs. inr refl);
  objects = λ k q d. (q, d, is_same q);
  exceptions = λ k y d. d;
  tags = λ k t d. d;
  externs = λ k w d. d;
  addresses = refl;
}

pub segment_evolves : (s : Store) (i : ℕ) → Evolves s (without_segment s i)
segment_evolves s i = record {
  globals = λ k g d. (g, d, global_is_same g);
  tables = λ k t d. (t, d, table_is_same t);
  memories = λ k m d. (m, d, memory_is_same m);
  segments = get_set_any SegmentIsLater s.segments i [] (λ vs. inl refl) (λ vs. inr refl);
  data_segments = λ i bs d. (bs, d, inl refl);
  objects = λ k q d. (q, d, is_same q);
  exceptions = λ k y d. d;
  tags = λ k t d. d;
  externs = λ k w d. d;
  addresses = refl;
}

pub object_evolves : (s : Store) (o : ObjectInstance) → Evolves s (with_object s o)
object_evolves s o = record {
  globals = λ k g d. (g, d, global_is_same g);
  tables = λ k t d. (t, d, table_is_same t);
  memories = λ k m d. (m, d, memory_is_same m);
  segments = λ i vs d. (vs, d, inl refl);
  data_segments = λ i bs d. (bs, d, inl refl);
  objects = λ k q d. (q, get_append s.objects (o ∷ []) k q d, is_same q);
  exceptions = λ k y d. d;
  tags = λ k t d. d;
  externs = λ k w d. d;
  addresses = refl;
}

pub object_known : (s : Store) (t : TypeTree) (vs : List Value) (k : ℕ) → k ≡ length s.objects → Knows (with_object s (record { type = t; fields = vs })) (ref_object k t)
object_known s t vs k e = (record { type = t; fields = vs }, subst (λ n. slice_get (s.objects ++ record { type = t; fields = vs } ∷ []) n ≡ Some (record { type = t; fields = vs })) (sym e) (get_last s.objects (record { type = t; fields = vs })), refl)

pub fields_evolve : (s : Store) (k : ℕ) (o : ObjectInstance) (vs : List Value) → slice_get s.objects k ≡ Some o → IsLater o (record o { fields = vs }) → Evolves s (with_fields s k o vs)
fields_evolve s k o vs e l = record {
  globals = λ k g d. (g, d, global_is_same g);
  tables = λ k t d. (t, d, table_is_same t);
  memories = λ k m d. (m, d, memory_is_same m);
  segments = λ i vs d. (vs, d, inl refl);
  data_segments = λ i bs d. (bs, d, inl refl);
  objects = λ i q d. get_set_by IsLater s.objects k o (record o { fields = vs }) is_same e l i q d;
  exceptions = λ k y d. d;
  tags = λ k t d. d;
  externs = λ k w d. d;
  addresses = refl;
}

pub exception_evolves : (s : Store) (x : ExceptionInstance) → Evolves s (with_exception s x)
exception_evolves s x = record {
  globals = λ k g d. (g, d, global_is_same g);
  tables = λ k t d. (t, d, table_is_same t);
  memories = λ k m d. (m, d, memory_is_same m);
  segments = λ i vs d. (vs, d, inl refl);
  data_segments = λ i bs d. (bs, d, inl refl);
  objects = λ k q d. (q, d, is_same q);
  exceptions = λ k y d. get_append s.exceptions (x ∷ []) k y d;
  tags = λ k t d. d;
  externs = λ k w d. d;
  addresses = refl;
}

-- ---- and fits still

module _ (p : Program) where
  module _ (s u : Store) (e : Evolves s u) where
    pub has_later : (t : ValueType) (v : Value) → Has p s t v → Has p u t v
    has_later t v h = (h.0, knows_later s u e v h.1)

    pub all_later : (t : ValueType) (vs : List Value) → Each (Has p s t) vs → Each (Has p u t) vs
    all_later t vs h = each_map (Has p s t) (Has p u t) vs (has_later t) h

    pub fields_later : (x : InnerOf TypeTree) (vs : List Value) → FieldsFit p s x vs → FieldsFit p u x vs
    fields_later (struct_of fs) vs h = pairs_map (HasField p s) (HasField p u) fs vs (λ f v i. has_later _ v i) h
    fields_later (array_of f) vs h = each_map (HasField p s f) (HasField p u f) vs (λ v i. has_later _ v i) h
    fields_later x vs h = absurd h

    pub object_later : (o : ObjectInstance) → ObjectFits p s o → ObjectFits p u o
    object_later o h = fields_later (expanded o.type) o.fields h

    pub thrown_later : (x : ExceptionInstance) → ThrownFits p s x → ThrownFits p u x
    thrown_later x h = (h.0, e.tags x.tag h.0 h.1, h.2, each_map (Knows s) (Knows u) x.values (knows_later s u e) h.3)

    module _ (f : StoreFits p s) where
      pub globals_fit : Each (GlobalFits p u) s.globals
      globals_fit = each_map (GlobalFits p s) (GlobalFits p u) s.globals (λ g i. has_later g.type.content g.value i) f.globals

      pub tables_fit : Each (TableFits p u) s.tables
      tables_fit = each_map (TableFits p s) (TableFits p u) s.tables (λ t i. all_later t.type.element t.elements i) f.tables

      pub segments_fit : Pairs (λ t vs. Each (Has p u t) vs) p.«module».elements s.segments
      segments_fit = pairs_map (λ t vs. Each (Has p s t) vs) (λ t vs. Each (Has p u t) vs) p.«module».elements s.segments (λ t vs i. all_later t vs i) f.segments

      pub objects_fit : Each (ObjectFits p u) s.objects
      objects_fit = each_map (ObjectFits p s) (ObjectFits p u) s.objects object_later f.objects

      pub exceptions_fit : Each (ThrownFits p u) s.exceptions
      exceptions_fit = each_map (ThrownFits p s) (ThrownFits p u) s.exceptions thrown_later f.exceptions

      pub externs_fit : Each (Has p u (ref false (abstract false any))) s.externs
      externs_fit = all_later (ref false (abstract false any)) s.externs f.externs

      pub globals_there : Pairs (IsGlobalAt u) p.«module».globals u.addresses.globals
      globals_there = subst (λ (a : Addresses). Pairs (IsGlobalAt u) p.«module».globals a.globals) (sym e.addresses)
          (pairs_map (IsGlobalAt s) (IsGlobalAt u) p.«module».globals s.addresses.globals (global_there s u e) f.global_addresses)

      pub tables_there : Pairs (IsTableAt u) p.«module».tables u.addresses.tables
      tables_there = subst (λ (a : Addresses). Pairs (IsTableAt u) p.«module».tables a.tables) (sym e.addresses)
          (pairs_map (IsTableAt s) (IsTableAt u) p.«module».tables s.addresses.tables (table_there s u e) f.table_addresses)

      pub memories_there : Pairs (IsMemoryAt u) p.«module».memories u.addresses.memories
      memories_there = subst (λ (a : Addresses). Pairs (IsMemoryAt u) p.«module».memories a.memories) (sym e.addresses)
          (pairs_map (IsMemoryAt s) (IsMemoryAt u) p.«module».memories s.addresses.memories (memory_there s u e) f.memory_addresses)

      pub tags_there : Pairs (IsTagAt u) p.«module».tags u.addresses.tags
      tags_there = subst (λ (a : Addresses). Pairs (IsTagAt u) p.«module».tags a.tags) (sym e.addresses)
          (pairs_map (IsTagAt s) (IsTagAt u) p.«module».tags s.addresses.tags (λ t k h. e.tags k t h) f.tag_addresses)

  -- ---- what lies at an address of the module

  -- of a type that is below another, which is below a third
  pub has_above : (s : Store) (t q : ValueType) (v : Value) → Below t q → Has p s t v → Has p s q v
  has_above s t q v b h = ((h.0.0, below_transitive (least_type v) t q h.0.1 b), h.1)

  pub all_above : (s : Store) (t q : ValueType) (vs : List Value) → Below t q → Each (Has p s t) vs → Each (Has p s q) vs
  all_above s t q vs b h = each_map (Has p s t) (Has p s q) vs (λ v i. has_above s t q v b i) h

  module _ (s : Store) (f : StoreFits p s) where
    pub global_at : (x : ℕ) (g : Global) → slice_get p.«module».globals x ≡ Some g → IsGlobalAt s g (global_address s x)
    global_at x g e =
        let r = pairs_get (IsGlobalAt s) p.«module».globals s.addresses.globals x g f.global_addresses e in
        subst (IsGlobalAt s g) (sym (get_or_there s.addresses.globals x r.0 (length s.globals) r.1)) r.2

    pub table_at : (x : ℕ) (t : Table) → slice_get p.«module».tables x ≡ Some t → IsTableAt s t (table_address s x)
    table_at x t e =
        let r = pairs_get (IsTableAt s) p.«module».tables s.addresses.tables x t f.table_addresses e in
        subst (IsTableAt s t) (sym (get_or_there s.addresses.tables x r.0 (length s.tables) r.1)) r.2

    -- a global has a value of the type by which the module knows it, and a table and a segment have such elements
    pub global_holds : (x : ℕ) (g : Global) → slice_get p.«module».globals x ≡ Some g → Has p s g.content (global_in s x)
    global_holds x g e =
        let r = global_at x g e in
        has_above s (r.0).type.content g.content (global_in s x) r.2.2
        (subst (λ (w : Value). Has p s (r.0).type.content w) (sym (ap value_held r.1)) (each_get (GlobalFits p s) s.globals (global_address s x) r.0 f.globals r.1))

    pub table_holds : (x : ℕ) (t : Table) → slice_get p.«module».tables x ≡ Some t → Each (Has p s t.element) (table_in s x)
    table_holds x t e =
        let r = table_at x t e in
        all_above s (r.0).type.element t.element (table_in s x) r.2.2
        (subst (Each (Has p s (r.0).type.element)) (sym (ap elements_held r.1)) (each_get (TableFits p s) s.tables (table_address s x) r.0 f.tables r.1))

    pub segment_holds : (i : ℕ) (t : ValueType) → slice_get p.«module».elements i ≡ Some t → Each (Has p s t) (segment_in s i)
    segment_holds i t e =
        let r = pairs_get (λ (k : ValueType) ws. Each (Has p s k) ws) p.«module».elements s.segments i t f.segments e in
        subst (Each (Has p s t)) (sym (get_or_there s.segments i r.0 [] r.1)) r.2

  -- ---- a global is written

  pub global_fits : (s : Store) (x : ℕ) (v : Value) (g : Global) (f : StoreFits p s) → slice_get p.«module».globals x ≡ Some g → g.mutable ≡ true → Has p s g.content v
      → StoreFits p (with_global s x v) × Evolves s (with_global s x v)
  global_fits s x v g f e m h =
      let r = global_at s f x g e in
      let later = global_evolves s x v r.0 r.1 (r.2.0 ∙ m) in (
        record {
          globals = each_changed (GlobalFits p (with_global s x v)) (with_value v) s.globals (global_address s x) (globals_fit s (with_global s x v) later f) (λ i d. written r i d later);
          tables = tables_fit s (with_global s x v) later f;
          memories = f.memories;
          segments = segments_fit s (with_global s x v) later f;
          objects = objects_fit s (with_global s x v) later f;
          exceptions = exceptions_fit s (with_global s x v) later f;
          tags = f.tags;
          externs = externs_fit s (with_global s x v) later f;
          global_addresses = globals_there s (with_global s x v) later f;
          table_addresses = tables_there s (with_global s x v) later f;
          memory_addresses = memories_there s (with_global s x v) later f;
          tag_addresses = tags_there s (with_global s x v) later f;
        },
        later,
      )
    where
      written : IsGlobalAt s g (global_address s x) → (i : GlobalInstance) → slice_get s.globals (global_address s x) ≡ Some i → Evolves s (with_global s x v) → Has p (with_global s x v) i.type.content v
      written r i d later = has_later s (with_global s x v) later i.type.content v (subst (λ (k : GlobalInstance). Has p s k.type.content v) (same_some r.0 i (sym r.1 ∙ d)) (has_above s g.content (r.0).type.content v (r.2.3 m) h))

  -- ---- a table is written, or grows

  pub table_fits : (s : Store) (x : ℕ) (vs : List Value) (t : Table) → slice_get p.«module».tables x ≡ Some t → length (table_in s x) ≤ length vs → StoreFits p s → Each (Has p s t.element) vs → StoreFits p (with_table s x vs)
  table_fits s x vs t e l f h =
      let later = table_evolves s x vs l in
      record {
        globals = globals_fit s (with_table s x vs) later f;
        tables = each_changed (TableFits p (with_table s x vs)) (with_elements vs) s.tables (table_address s x) (tables_fit s (with_table s x vs) later f) written;
        memories = f.memories;
        segments = segments_fit s (with_table s x vs) later f;
        objects = objects_fit s (with_table s x vs) later f;
        exceptions = exceptions_fit s (with_table s x vs) later f;
        tags = f.tags;
        externs = externs_fit s (with_table s x vs) later f;
        global_addresses = globals_there s (with_table s x vs) later f;
        table_addresses = tables_there s (with_table s x vs) later f;
        memory_addresses = memories_there s (with_table s x vs) later f;
        tag_addresses = tags_there s (with_table s x vs) later f;
      }
    where
      written : (i : TableInstance) → slice_get s.tables (table_address s x) ≡ Some i → Each (Has p (with_table s x vs) i.type.element) vs
      written i d =
          let r = table_at s f x t e in
          all_later s (with_table s x vs) (table_evolves s x vs l) i.type.element vs (subst (λ (k : TableInstance). Each (Has p s k.type.element) vs) (same_some r.0 i (sym r.1 ∙ d)) (all_above s t.element (r.0).type.element vs r.2.3 h))

  -- ---- a memory is written, or grows; a data segment is dropped

  -- where its new bytes are so many whole pages, each memory at that address fits
  pub memory_fits : (s : Store) (x : ℕ) (bs : List ℕ) → length (memory_in s x) ≤ length bs → ((m : MemoryInstance) → memory_at s x ≡ Some m → MemoryFits (with_bytes bs m)) → StoreFits p s → StoreFits p (with_memory s x bs)
  memory_fits s x bs l h f =
      let later = memory_evolves s x bs l in
      record {
        globals = globals_fit s (with_memory s x bs) later f;
        tables = tables_fit s (with_memory s x bs) later f;
        memories = each_changed MemoryFits (with_bytes bs) s.memories (memory_address s x) f.memories h;
        segments = segments_fit s (with_memory s x bs) later f;
        objects = objects_fit s (with_memory s x bs) later f;
        exceptions = exceptions_fit s (with_memory s x bs) later f;
        tags = f.tags;
        externs = externs_fit s (with_memory s x bs) later f;
        global_addresses = globals_there s (with_memory s x bs) later f;
        table_addresses = tables_there s (with_memory s x bs) later f;
        memory_addresses = memories_there s (with_memory s x bs) later f;
        tag_addresses = tags_there s (with_memory s x bs) later f;
      }

  -- as many bytes as there were
  pub bytes_fit : (s : Store) (x : ℕ) (bs : List ℕ) → length bs ≡ length (memory_in s x) → StoreFits p s → StoreFits p (with_memory s x bs) × Evolves s (with_memory s x bs)
  bytes_fit s x bs e f = (
    memory_fits s x bs (omega (arith, e)) (λ m d.
        let k = each_get MemoryFits s.memories (memory_address s x) m f.memories d in
        (k.0, e ∙ ap (λ (o : Option MemoryInstance). length (bytes_held o)) d ∙ k.1, k.2)) f,
    memory_evolves s x bs (omega (arith, e)),
  )

  pub data_fits : (s : Store) (i : ℕ) → StoreFits p s → StoreFits p (without_data s i)
  data_fits s i f =
      let later = data_evolves s i in
      record {
        globals = globals_fit s (without_data s i) later f;
        tables = tables_fit s (without_data s i) later f;
        memories = f.memories;
        segments = segments_fit s (without_data s i) later f;
        objects = objects_fit s (without_data s i) later f;
        exceptions = exceptions_fit s (without_data s i) later f;
        tags = f.tags;
        externs = externs_fit s (without_data s i) later f;
        global_addresses = globals_there s (without_data s i) later f;
        table_addresses = tables_there s (without_data s i) later f;
        memory_addresses = memories_there s (without_data s i) later f;
        tag_addresses = tags_there s (without_data s i) later f;
      }

  -- ---- a segment is dropped

  pub segment_fits : (s : Store) (i : ℕ) (t : ValueType) → slice_get p.«module».elements i ≡ Some t → StoreFits p s → StoreFits p (without_segment s i)
  segment_fits s i t e f =
      let later = segment_evolves s i in
      record {
        globals = globals_fit s (without_segment s i) later f;
        tables = tables_fit s (without_segment s i) later f;
        memories = f.memories;
        segments = pairs_set (λ k ws. Each (Has p (without_segment s i) k) ws) p.«module».elements s.segments i t [] (segments_fit s (without_segment s i) later f) e tt;
        objects = objects_fit s (without_segment s i) later f;
        exceptions = exceptions_fit s (without_segment s i) later f;
        tags = f.tags;
        externs = externs_fit s (without_segment s i) later f;
        global_addresses = globals_there s (without_segment s i) later f;
        table_addresses = tables_there s (without_segment s i) later f;
        memory_addresses = memories_there s (without_segment s i) later f;
        tag_addresses = tags_there s (without_segment s i) later f;
      }

  -- ---- an object is made

  pub object_fits : (s : Store) (o : ObjectInstance) → StoreFits p s → ObjectFits p s o → StoreFits p (with_object s o)
  object_fits s o f h =
      let later = object_evolves s o in
      record {
        globals = globals_fit s (with_object s o) later f;
        tables = tables_fit s (with_object s o) later f;
        memories = f.memories;
        segments = segments_fit s (with_object s o) later f;
        objects = each_append (ObjectFits p (with_object s o)) s.objects (o ∷ []) (objects_fit s (with_object s o) later f) (object_later s (with_object s o) later o h, tt);
        exceptions = exceptions_fit s (with_object s o) later f;
        tags = f.tags;
        externs = externs_fit s (with_object s o) later f;
        global_addresses = globals_there s (with_object s o) later f;
        table_addresses = tables_there s (with_object s o) later f;
        memory_addresses = memories_there s (with_object s o) later f;
        tag_addresses = tags_there s (with_object s o) later f;
      }

  -- ---- fields of an object are written

  pub written_fits : (s : Store) (k : ℕ) (o : ObjectInstance) (vs : List Value) → slice_get s.objects k ≡ Some o → IsLater o (record o { fields = vs }) → StoreFits p s → FieldsFit p s (expanded o.type) vs
      → StoreFits p (with_fields s k o vs)
  written_fits s k o vs e l f h =
      let later = fields_evolve s k o vs e l in
      record {
        globals = globals_fit s (with_fields s k o vs) later f;
        tables = tables_fit s (with_fields s k o vs) later f;
        memories = f.memories;
        segments = segments_fit s (with_fields s k o vs) later f;
        objects = each_set (ObjectFits p (with_fields s k o vs)) s.objects k (record o { fields = vs }) (objects_fit s (with_fields s k o vs) later f) (fields_later s (with_fields s k o vs) later (expanded o.type) vs h);
        exceptions = exceptions_fit s (with_fields s k o vs) later f;
        tags = f.tags;
        externs = externs_fit s (with_fields s k o vs) later f;
        global_addresses = globals_there s (with_fields s k o vs) later f;
        table_addresses = tables_there s (with_fields s k o vs) later f;
        memory_addresses = memories_there s (with_fields s k o vs) later f;
        tag_addresses = tags_there s (with_fields s k o vs) later f;
      }

  -- ---- an exception is thrown

  pub exception_fits : (s : Store) (x : ExceptionInstance) → StoreFits p s → ThrownFits p s x → StoreFits p (with_exception s x)
  exception_fits s x f h =
      let later = exception_evolves s x in
      record {
        globals = globals_fit s (with_exception s x) later f;
        tables = tables_fit s (with_exception s x) later f;
        memories = f.memories;
        segments = segments_fit s (with_exception s x) later f;
        objects = objects_fit s (with_exception s x) later f;
        exceptions = each_append (ThrownFits p (with_exception s x)) s.exceptions (x ∷ []) (exceptions_fit s (with_exception s x) later f) (thrown_later s (with_exception s x) later x h, tt);
        tags = f.tags;
        externs = externs_fit s (with_exception s x) later f;
        global_addresses = globals_there s (with_exception s x) later f;
        table_addresses = tables_there s (with_exception s x) later f;
        memory_addresses = memories_there s (with_exception s x) later f;
        tag_addresses = tags_there s (with_exception s x) later f;
      }
