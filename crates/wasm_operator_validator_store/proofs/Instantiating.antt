-- In the first store of a program all fits.
use Rattle.std.proofs.Common.{◌≡◌, ℕ, suc, ◌+◌, ◌*◌, ◌≤◌, false, List, [], ◌∷◌, ◌++◌, Option, Some, None, refl, sym, ap, subst, ◌∙◌, length, map, take, slice_get, take_all, arith}
use Rattle.std.specs.Prelude.{replicate}
use Rattle.std.proofs.lemmas.List.{length-replicate}
use Rattle.wasm_types.specs.trees.Types.{ref, abstract, any, InnerOf, array_of, struct_of}
use Rattle.wasm_types.specs.trees.Trees.{TypeTree}
use Rattle.wasm_types.specs.externs.declared.memory.MemoryType.{MemoryType}
use Rattle.wasm_types.specs.trees.Below.{Below, expanded}
use Rattle.wasm_types.specs.trees.laws.Below.{below_reflexive}
use Rattle.wasm_operators_encoding.specs.expressions.Code.{Code}
use Rattle.wasm_operator_validator_rules.specs.Operands.{ValueType, Operand, bottom, some_reference, known, stack}
use Rattle.wasm_operator_validator_rules.specs.Context.{Table, Global}
use Rattle.wasm_operator_validator_soundness.specs.runs.Values.{Function, Program, Value, number_value, ref_null, ref_function, ref_object, ref_i31, ref_host, ref_extern, ref_exn, IsMade, IsNamed, Fits, AllFit}
use Rattle.wasm_operator_validator_soundness.specs.runs.ValidStates.{IsTagType}
use Rattle.wasm_operator_validator_soundness.specs.runs.Machine.{address}
use Rattle.wasm_operator_validator_soundness.specs.runs.Soundness.{IsValidProgram}
use Rattle.wasm_operator_validator_store.specs.Stores.{GlobalInstance, TableInstance, MemoryInstance, ExceptionInstance, Store, page_of, bits_of, with_elements, table_address, table_in, memory_in, segment_in, data_in, with_table, with_memory}
use Rattle.wasm_operator_validator_store.specs.ValidStores.{Each, Pairs, Knows, Has, HasField, FieldsFit, ObjectFits, ThrownFits, GlobalMatches, TableMatches, IsBelowMaximum, MemoryMatches, IsGlobalAt, IsTableAt, IsMemoryAt, IsTagAt, GlobalFits, TableFits, MemoryFits, StoreFits, Evolves, HasLocal}
use Rattle.wasm_operator_validator_store.specs.Instantiation.{without_body, seen_with, IsConstant, Filling, Item, function_item, constant_item, Use, kept, dropped, written, Segment, DataSegment, Initials, GlobalsAreTyped, IsFilling, TablesAreTyped, IsItem, IsUse, SegmentsAreTyped, IsDataUse, IsDataSegment, IsSizedMemory, AreInitials, addresses_from, empty_table, zero_memory, imports_of, own_tables, own_memories, own_tags, allocated, with_new_global, seeing_globals, with_segment, all_seen, GlobalsBecome, Fills, TablesBecome, ItemBecomes, ItemsBecome, SegmentsBecome, IsUsed, AreUsed, IsDataUsed, DataAreUsed, FirstStoresFit}
use Rattle.wasm_operator_validator_store.proofs.Lists.{same_some, each_append, each_changed, each_map, each_placed, each_replicate, each_from, each_of_map, pairs_map, pairs_set, pairs_of_map, pairs_take, pairs_more, pairs_join, get_append, get_last, get_map, get_past, get_drop, get_changed_by, placed_length}
use Rattle.wasm_operator_validator_store.proofs.Keeping.{default_kept}
use Rattle.wasm_operator_validator_store.proofs.Storing.{knows_plain, stays, global_there, has_later, all_above, table_at, table_holds, segment_holds, segment_fits, bytes_fit, data_fits}
use Rattle.wasm_operator_validator_store.proofs.Throwing.{get_map_back}
use Rattle.wasm_operator_validator_store.proofs.Steps.{store_constants_sound, evolves_again}

-- ---- what fits in one program and store fits in another

-- a value of a program is one of another that has functions of these types
module _ (p q : Program) (named : (x : ℕ) (f : Function) → slice_get p.functions x ≡ Some f → (h : Function) × (slice_get q.functions x ≡ Some h) × (h.type ≡ f.type)) where
  named_too : (i : Option ℕ) (t : TypeTree) → IsNamed p i t → IsNamed q i t
  named_too None t h = tt
  named_too (Some x) t h = let r = named x h.0 h.1 in (r.0, r.1, r.2 ∙ h.2)

  made_too : (w : Value) → IsMade p w → IsMade q w
  made_too (ref_function i t) h = (h.0, h.1, named_too i t h.2)
  made_too (ref_object k t) h = h
  made_too (ref_exn k t) h = h
  made_too (number_value n b) h = tt
  made_too (ref_null c r) h = tt
  made_too (ref_i31 b) h = tt
  made_too (ref_host k) h = tt
  made_too (ref_extern k) h = tt

-- what a store knows another knows, which has the same objects, exceptions and external references
module _ (s u : Store) (objects : u.objects ≡ s.objects) (exceptions : u.exceptions ≡ s.exceptions) (externs : u.externs ≡ s.externs) (tags : (k : ℕ) (t : TypeTree) → slice_get s.tags k ≡ Some t → slice_get u.tags k ≡ Some t) where
  knows_too : (w : Value) → Knows s w → Knows u w
  knows_too (ref_object k r) h = (h.0, ap (λ os. slice_get os k) objects ∙ h.1, h.2)
  knows_too (ref_exn k r) h = (h.0, ap (λ xs. slice_get xs k) exceptions ∙ h.1, tags (h.0).tag r h.2)
  knows_too (ref_extern k) h = (h.0, ap (λ es. slice_get es k) externs ∙ h.1)
  knows_too (number_value n b) h = tt
  knows_too (ref_null c r) h = tt
  knows_too (ref_function i r) h = tt
  knows_too (ref_i31 b) h = tt
  knows_too (ref_host k) h = tt

same_knows : (s u : Store) → u.objects ≡ s.objects → u.exceptions ≡ s.exceptions → u.externs ≡ s.externs → u.tags ≡ s.tags → (w : Value) → Knows s w → Knows u w
same_knows s u o x e t w h = knows_too s u o x e (λ k r i. ap (λ ts. slice_get ts k) t ∙ i) w h

module _ (p q : Program) (s u : Store) (made : (w : Value) → IsMade p w → IsMade q w) (knows : (w : Value) → Knows s w → Knows u w) where
  has_too : (t : ValueType) (w : Value) → Has p s t w → Has q u t w
  has_too t w h = ((made w h.0.0, h.0.1), knows w h.1)

  each_too : (t : ValueType) (ws : List Value) → Each (Has p s t) ws → Each (Has q u t) ws
  each_too t ws h = each_map (Has p s t) (Has q u t) ws (has_too t) h

  all_too : (ws : List Value) (ts : List Operand) → AllFit p ws ts → AllFit q ws ts
  all_too [] [] h = tt
  all_too [] (t ∷ ts) h = absurd h
  all_too (w ∷ ws) [] h = absurd h
  all_too (w ∷ ws) (known t ∷ ts) h = ((made w h.0.0, h.0.1), all_too ws ts h.1)
  all_too (w ∷ ws) (bottom ∷ ts) h = absurd h.0
  all_too (w ∷ ws) (some_reference ∷ ts) h = absurd h.0

  fields_too : (x : InnerOf TypeTree) (ws : List Value) → FieldsFit p s x ws → FieldsFit q u x ws
  fields_too (struct_of fs) ws h = pairs_map (HasField p s) (HasField q u) fs ws (λ f w i. has_too _ w i) h
  fields_too (array_of f) ws h = each_map (HasField p s f) (HasField q u f) ws (λ w i. has_too _ w i) h
  fields_too x ws h = absurd h

  globals_too : (gs : List GlobalInstance) → Each (GlobalFits p s) gs → Each (GlobalFits q u) gs
  globals_too gs h = each_map (GlobalFits p s) (GlobalFits q u) gs (λ g i. has_too g.type.content g.value i) h

  tables_too : (ts : List TableInstance) → Each (TableFits p s) ts → Each (TableFits q u) ts
  tables_too ts h = each_map (TableFits p s) (TableFits q u) ts (λ t i. each_too t.type.element t.elements i) h

  segments_too : (ts : List ValueType) (vss : List (List Value)) → Pairs (λ t ws. Each (Has p s t) ws) ts vss → Pairs (λ t ws. Each (Has q u t) ws) ts vss
  segments_too ts vss h = pairs_map (λ t ws. Each (Has p s t) ws) (λ t ws. Each (Has q u t) ws) ts vss (λ t ws i. each_too t ws i) h

  -- with the same objects, exceptions and external references, and with the tags that there were
  fits_too : Each (GlobalFits q u) u.globals → Each (TableFits q u) u.tables → Pairs (λ t ws. Each (Has q u t) ws) q.«module».elements u.segments
      → Pairs (IsGlobalAt u) q.«module».globals u.addresses.globals → Pairs (IsTableAt u) q.«module».tables u.addresses.tables → Pairs (IsTagAt u) q.«module».tags u.addresses.tags
      → u.objects ≡ s.objects → u.exceptions ≡ s.exceptions → u.externs ≡ s.externs → ((k : ℕ) (t : TypeTree) → slice_get s.tags k ≡ Some t → slice_get u.tags k ≡ Some t) → Each IsTagType u.tags
      → Each MemoryFits u.memories → Pairs (IsMemoryAt u) q.«module».memories u.addresses.memories
      → StoreFits p s → StoreFits q u
  fits_too globals tables segments global_addresses table_addresses tag_addresses objects exceptions externs tags_kept tags memories memory_addresses f = record {
    globals = globals;
    tables = tables;
    memories = memories;
    segments = segments;
    objects = subst (Each (ObjectFits q u)) (sym objects) (each_map (ObjectFits p s) (ObjectFits q u) s.objects (λ o h. fields_too (expanded o.type) o.fields h) f.objects);
    exceptions = subst (Each (ThrownFits q u)) (sym exceptions) (each_map (ThrownFits p s) (ThrownFits q u) s.exceptions thrown f.exceptions);
    tags = tags;
    externs = subst (Each (Has q u (ref false (abstract false any)))) (sym externs) (each_too (ref false (abstract false any)) s.externs f.externs);
    global_addresses = global_addresses;
    table_addresses = table_addresses;
    memory_addresses = memory_addresses;
    tag_addresses = tag_addresses;
  }
    where
      thrown : (x : ExceptionInstance) → ThrownFits p s x → ThrownFits q u x
      thrown x h = (h.0, tags_kept x.tag h.0 h.1, (λ b is. all_too x.values (stack b.params) (h.2 b is)), each_map (Knows s) (Knows u) x.values knows h.3)

below_itself : (o : Option ℕ) → IsBelowMaximum o o
below_itself None = tt
below_itself (Some n) = omega arith

-- a memory of zeros is of the size that its type says
zero_size : (t : MemoryType) → t.initial * page_of t ≤ length (zero_memory t).bytes
zero_size t = omega (arith, length-replicate {A = ℕ} (t.initial * page_of t) 0)

zeros_fit : (p : Program) (ts : List MemoryType) → Each (IsSizedMemory p) ts → Each MemoryFits (map zero_memory ts)
zeros_fit p [] h = tt
zeros_fit p (t ∷ ts) h = ((t.initial, length-replicate {A = ℕ} (t.initial * page_of t) 0, h.0), zeros_fit p ts h.1)

-- what is at an address of one store is there in another that has it too
module _ (s u : Store) where
  globals_stay : ((k : ℕ) (g : GlobalInstance) → slice_get s.globals k ≡ Some g → slice_get u.globals k ≡ Some g) → (gs : List Global) (ks : List ℕ) → Pairs (IsGlobalAt s) gs ks → Pairs (IsGlobalAt u) gs ks
  globals_stay still gs ks h = pairs_map (IsGlobalAt s) (IsGlobalAt u) gs ks (λ g k r. (r.0, still k r.0 r.1, r.2)) h

  tables_stay : ((k : ℕ) (t : TableInstance) → slice_get s.tables k ≡ Some t → slice_get u.tables k ≡ Some t) → (ts : List Table) (ks : List ℕ) → Pairs (IsTableAt s) ts ks → Pairs (IsTableAt u) ts ks
  tables_stay still ts ks h = pairs_map (IsTableAt s) (IsTableAt u) ts ks (λ t k r. (r.0, still k r.0 r.1, r.2)) h

  memories_stay : ((k : ℕ) (m : MemoryInstance) → slice_get s.memories k ≡ Some m → slice_get u.memories k ≡ Some m) → (ts : List MemoryType) (ks : List ℕ) → Pairs (IsMemoryAt s) ts ks → Pairs (IsMemoryAt u) ts ks
  memories_stay still ts ks h = pairs_map (IsMemoryAt s) (IsMemoryAt u) ts ks (λ t k r. (r.0, still k r.0 r.1, r.2, r.3)) h

  tags_stay : ((k : ℕ) (t : TypeTree) → slice_get s.tags k ≡ Some t → slice_get u.tags k ≡ Some t) → (ts : List TypeTree) (ks : List ℕ) → Pairs (IsTagAt s) ts ks → Pairs (IsTagAt u) ts ks
  tags_stay still ts ks h = pairs_map (IsTagAt s) (IsTagAt u) ts ks (λ t k r. still k t r) h

memory_matches : (t : MemoryType) → MemoryMatches t t
memory_matches t = (refl, refl, refl, below_itself t.maximum)

global_matches : (g : Global) → GlobalMatches g g
global_matches g = (refl, refl, below_reflexive g.content, (λ m. below_reflexive g.content))

table_matches : (t : Table) → TableMatches t t
table_matches t = (refl, refl, below_reflexive t.element, below_reflexive t.element)

-- ---- new addresses

one_further : (P : ℕ → Type 0) (n i : ℕ) → P (n + suc i) → P (suc n + i)
one_further P n i h = let same : n + suc i ≡ suc n + i = omega arith in subst P same h

fresh : {A : Type 0} (P : A → ℕ → Type 0) (xs : List A) (n : ℕ) → ((i : ℕ) (x : A) → slice_get xs i ≡ Some x → P x (n + i)) → Pairs P xs (addresses_from n (length xs))
fresh P [] n h = tt
fresh P (x ∷ xs) n h =
    let same : n + 0 ≡ n = omega arith in
    (subst (P x) same (h 0 x refl), fresh P xs (suc n) (λ i y e. one_further (P y) n i (h (suc i) y e)))

module _ (p : Program) (valid : IsValidProgram p) where
  -- ---- what constants see

  seen_valid : (gs : List Global) → IsValidProgram (seen_with p gs)
  seen_valid gs = record {
    standard = valid.standard;
    types = valid.types;
    functions = λ x t e. let r = valid.functions x t e in (without_body r.0, get_map without_body p.functions x r.0 r.1, record { below = (r.2).below; standard = (r.2).standard; function = (r.2).function; body = tt });
    own = λ x f e. let r = get_map_back without_body p.functions x f e in valid.own x r.0 r.1;
    tags = valid.tags;
  }

  -- values of the program with these globals are values of it with others, and of the whole program, and back
  made_seen : (gs hs : List Global) (w : Value) → IsMade (seen_with p gs) w → IsMade (seen_with p hs) w
  made_seen gs hs w h = made_too (seen_with p gs) (seen_with p hs) (λ x f e. (f, e, refl)) w h

  made_whole : (gs : List Global) (w : Value) → IsMade (seen_with p gs) w → IsMade p w
  made_whole gs w h = made_too (seen_with p gs) p (λ x f e. let r = get_map_back without_body p.functions x f e in (r.0, r.1, ap (λ (k : Function). k.type) r.2)) w h

  made_bare : (gs : List Global) (w : Value) → IsMade p w → IsMade (seen_with p gs) w
  made_bare gs w h = made_too p (seen_with p gs) (λ x f e. (without_body f, get_map without_body p.functions x f e, refl)) w h

  abbrev all : List Global
  all = p.«module».globals

  abbrev q : Program
  q = all_seen p

  -- ---- what is allocated

  module _ (i : Initials) (host : Store) (typed : AreInitials p i) (f : StoreFits (imports_of p i) host) where
    abbrev first : List Global
    first = take i.imported_globals p.«module».globals

    abbrev u : Store
    u = allocated p i host

    tags_kept : (k : ℕ) (t : TypeTree) → slice_get host.tags k ≡ Some t → slice_get (host.tags ++ own_tags p i) k ≡ Some t
    tags_kept k t e = get_append host.tags (own_tags p i) k t e

    made_first : (w : Value) → IsMade (imports_of p i) w → IsMade (seen_with p first) w
    made_first w h = made_too (imports_of p i) (seen_with p first) (λ x g e. (g, e, refl)) w h

    knows_first : (w : Value) → Knows host w → Knows u w
    knows_first w h = knows_too host u refl refl refl tags_kept w h

    own_thrown : Each IsTagType (own_tags p i)
    own_thrown = each_from IsTagType (own_tags p i) (λ k t e. valid.tags (i.imported_tags + k) t (get_drop i.imported_tags p.«module».tags k t e))

    tables_placed : Pairs (IsTableAt u) p.«module».tables (host.addresses.tables ++ addresses_from (length host.tables) (length (own_tables p i)))
    tables_placed = pairs_join (IsTableAt u) i.imported_tables p.«module».tables host.addresses.tables (addresses_from (length host.tables) (length (own_tables p i)))
        (tables_stay host u (λ k t e. get_append host.tables (map empty_table (own_tables p i)) k t e) (take i.imported_tables p.«module».tables) host.addresses.tables f.table_addresses)
        (fresh (IsTableAt u) (own_tables p i) (length host.tables) (λ k t e. (empty_table t, get_past host.tables (map empty_table (own_tables p i)) k (empty_table t) (get_map empty_table (own_tables p i) k t e), table_matches t)))

    memories_placed : Pairs (IsMemoryAt u) p.«module».memories (host.addresses.memories ++ addresses_from (length host.memories) (length (own_memories p i)))
    memories_placed = pairs_join (IsMemoryAt u) i.imported_memories p.«module».memories host.addresses.memories (addresses_from (length host.memories) (length (own_memories p i)))
        (memories_stay host u (λ k m e. get_append host.memories (map zero_memory (own_memories p i)) k m e) (take i.imported_memories p.«module».memories) host.addresses.memories f.memory_addresses)
        (fresh (IsMemoryAt u) (own_memories p i) (length host.memories) (λ k t e. (zero_memory t, get_past host.memories (map zero_memory (own_memories p i)) k (zero_memory t) (get_map zero_memory (own_memories p i) k t e), memory_matches t, zero_size t)))

    tags_placed : Pairs (IsTagAt u) p.«module».tags (host.addresses.tags ++ addresses_from (length host.tags) (length (own_tags p i)))
    tags_placed = pairs_join (IsTagAt u) i.imported_tags p.«module».tags host.addresses.tags (addresses_from (length host.tags) (length (own_tags p i)))
        (tags_stay host u tags_kept (take i.imported_tags p.«module».tags) host.addresses.tags f.tag_addresses)
        (fresh (IsTagAt u) (own_tags p i) (length host.tags) (λ k t e. get_past host.tags (own_tags p i) k t e))

    allocated_fits : StoreFits (seen_with p first) u
    allocated_fits = fits_too (imports_of p i) (seen_with p first) host u made_first knows_first
        (globals_too (imports_of p i) (seen_with p first) host u made_first knows_first host.globals f.globals)
        (each_append (TableFits (seen_with p first) u) host.tables (map empty_table (own_tables p i)) (tables_too (imports_of p i) (seen_with p first) host u made_first knows_first host.tables f.tables)
        (each_of_map (TableFits (seen_with p first) u) empty_table (own_tables p i) (λ t. tt)))
        (pairs_of_map (λ t ws. Each (Has (seen_with p first) u t) ws) (λ t. []) p.«module».elements (λ t. tt))
        (globals_stay host u (λ k g e. e) first host.addresses.globals f.global_addresses) tables_placed tags_placed refl refl refl tags_kept (each_append IsTagType host.tags (own_tags p i) f.tags own_thrown)
        (each_append MemoryFits host.memories (map zero_memory (own_memories p i)) f.memories (zeros_fit p (own_memories p i) typed.memories)) memories_placed f

  -- ---- globals

  globals_fit : (cs : List Code) (n : ℕ) (s u : Store) → GlobalsAreTyped p n cs → StoreFits (seen_with p (take n all)) s → GlobalsBecome p n cs s u → StoreFits q u
  globals_fit [] n s u e f h =
      let size : length all ≤ n = omega (arith, e) in
      subst (λ gs. StoreFits (seen_with p gs) u) (take_all n all size) (subst (λ x. StoreFits (seen_with p (take n all)) x) h f)
  globals_fit (c ∷ cs) n s u a f h =
      let gs = take n all in
      let hs = take (suc n) all in
      let typed : IsConstant p gs (h.0).content c = subst (λ (g : Global). IsConstant p gs g.content c) (same_some a.0 h.0 (sym a.1 ∙ h.3)) a.2 in
      let k = store_constants_sound (seen_with p gs) (h.0).content c s h.1 h.2 (seen_valid gs) typed f h.4 in
      let i : GlobalInstance = record { type = h.0; value = h.1 } in
      let x = with_new_global h.2 i in
      let knows = same_knows h.2 x refl refl refl refl in
      let made = made_seen gs hs in
      let there : Pairs (IsGlobalAt x) gs (h.2).addresses.globals = globals_stay h.2 x (λ b g e. get_append (h.2).globals (i ∷ []) b g e) gs (h.2).addresses.globals (k.1).global_addresses in
      globals_fit cs (suc n) x u a.3 (fits_too (seen_with p gs) (seen_with p hs) h.2 x made knows
      (each_append (GlobalFits (seen_with p hs) x) (h.2).globals (i ∷ []) (globals_too (seen_with p gs) (seen_with p hs) h.2 x made knows (h.2).globals (k.1).globals) (has_too (seen_with p gs) (seen_with p hs) h.2 x made knows (h.0).content h.1 k.0, tt))
      (tables_too (seen_with p gs) (seen_with p hs) h.2 x made knows (h.2).tables (k.1).tables)
      (segments_too (seen_with p gs) (seen_with p hs) h.2 x made knows p.«module».elements (h.2).segments (k.1).segments)
      (pairs_more (IsGlobalAt x) n all (h.2).addresses.globals h.0 (length (h.2).globals) h.3 (i, get_last (h.2).globals i, global_matches h.0) there)
      (tables_stay h.2 x (λ b t e. e) p.«module».tables (h.2).addresses.tables (k.1).table_addresses) (tags_stay h.2 x (λ b t e. e) p.«module».tags (h.2).addresses.tags (k.1).tag_addresses)
      refl refl refl (λ b t r. r) (k.1).tags (k.1).memories (k.1).memory_addresses k.1) h.5

  -- a store in which the module sees other globals
  seeing_fits : (gs hs : List Global) (s : Store) (ks : List ℕ) → Pairs (IsGlobalAt s) hs ks → StoreFits (seen_with p gs) s → StoreFits (seen_with p hs) (seeing_globals s ks)
  seeing_fits gs hs s ks there f =
      let x = seeing_globals s ks in
      let knows = same_knows s x refl refl refl refl in
      let made = made_seen gs hs in
      fits_too (seen_with p gs) (seen_with p hs) s x made knows
      (globals_too (seen_with p gs) (seen_with p hs) s x made knows s.globals f.globals)
      (tables_too (seen_with p gs) (seen_with p hs) s x made knows s.tables f.tables)
      (segments_too (seen_with p gs) (seen_with p hs) s x made knows p.«module».elements s.segments f.segments)
      (globals_stay s x (λ b g e. e) hs ks there) (tables_stay s x (λ b t e. e) p.«module».tables s.addresses.tables f.table_addresses) (tags_stay s x (λ b t e. e) p.«module».tags s.addresses.tags f.tag_addresses)
      refl refl refl (λ b t r. r) f.tags f.memories f.memory_addresses f

  -- ---- tables

  -- a value for a table comes with a store in which all fits
  filled : (n : ℕ) (t : ValueType) (c : Option Code) (s u : Store) (v : Value) → IsFilling p n t c → StoreFits q s → Fills p n t c s v u → Has q u t v × StoreFits q u
  filled n t None s u v a f h =
      let fit : Fits p v t = subst (λ w. Fits p w t) (same_some a.0 v (sym a.1 ∙ h.0)) a.2 in
      let has : Has q s t v = ((made_bare all v fit.0, fit.1), subst (HasLocal (Knows s)) h.0 (default_kept (Knows s) (knows_plain s) t)) in
      subst (λ y. Has q y t v × StoreFits q y) h.1 (has, f)
  filled n t (Some c) s u v a f h =
      let gs = take n all in
      let before = seeing_globals s (take n s.addresses.globals) in
      let after = seeing_globals h.0 s.addresses.globals in
      let k = store_constants_sound (seen_with p gs) t c before v h.0 (seen_valid gs) a (seeing_fits all gs s (take n s.addresses.globals) (pairs_take (IsGlobalAt s) n all s.addresses.globals f.global_addresses) f) h.1 in
      let there : Pairs (IsGlobalAt h.0) all s.addresses.globals = pairs_map (IsGlobalAt s) (IsGlobalAt h.0) all s.addresses.globals (λ g b r. global_there before h.0 k.2 g b (r.0, r.1, r.2)) f.global_addresses in
      let has = has_too (seen_with p gs) q h.0 after (made_seen gs all) (same_knows h.0 after refl refl refl refl) t v k.0 in
      subst (λ y. Has q y t v × StoreFits q y) h.2 (has, seeing_fits gs all h.0 s.addresses.globals there k.1)

  -- a table of a store that fits holds something else
  written_fits : (s : Store) (x : ℕ) (t : Table) (ws : List Value) → slice_get p.«module».tables x ≡ Some t → StoreFits q s → Each (Has q s t.element) ws → StoreFits q (with_table s x ws)
  written_fits s x t ws e f h =
      let y = with_table s x ws in
      let knows = same_knows s y refl refl refl refl in
      let r = table_at q s f x t e in
      fits_too q q s y (λ w i. i) knows
      (globals_too q q s y (λ w i. i) knows s.globals f.globals)
      (each_changed (TableFits q y) (with_elements ws) s.tables (table_address s x) (tables_too q q s y (λ w i. i) knows s.tables f.tables)
      (λ i d. subst (λ (k : TableInstance). Each (Has q y k.type.element) ws) (same_some r.0 i (sym r.1 ∙ d)) (each_too q q s y (λ w m. m) knows (r.0).type.element ws (all_above q s t.element (r.0).type.element ws r.2.3 h))))
      (segments_too q q s y (λ w i. i) knows p.«module».elements s.segments f.segments)
      (globals_stay s y (λ b g d. d) all s.addresses.globals f.global_addresses)
      (pairs_map (IsTableAt s) (IsTableAt y) p.«module».tables s.addresses.tables (λ k b d. still k b d) f.table_addresses)
      (tags_stay s y (λ b k d. d) p.«module».tags s.addresses.tags f.tag_addresses) refl refl refl (λ b k d. d) f.tags f.memories f.memory_addresses f
    where
      still : (k : Table) (b : ℕ) → IsTableAt s k b → IsTableAt (with_table s x ws) k b
      still k b d =
          let r = get_changed_by (λ (i j : TableInstance). j.type ≡ i.type) (with_elements ws) s.tables (table_address s x) (λ i. refl) (λ i m. refl) b d.0 d.1 in
          (r.0, r.1, subst (λ (own : Table). TableMatches own k) (sym r.2) d.2)

  tables_fit : (fs : List Filling) (n x : ℕ) (s u : Store) → TablesAreTyped p n x fs → StoreFits q s → TablesBecome p n x fs s u → StoreFits q u
  tables_fit [] n x s u a f h = subst (λ y. StoreFits q y) h f
  tables_fit (c ∷ fs) n x s u a f h =
      let typed : IsFilling p n (h.0).element c.constant = subst (λ (t : Table). IsFilling p n t.element c.constant) (same_some a.0 h.0 (sym a.1 ∙ h.3)) a.2 in
      let k = filled n (h.0).element c.constant s h.2 h.1 typed f h.4 in
      tables_fit fs n (suc x) (with_table h.2 x (replicate c.size h.1)) u a.3 (written_fits h.2 x h.0 (replicate c.size h.1) h.3 k.1 (each_replicate (Has q h.2 (h.0).element) c.size h.1 k.0)) h.5

  -- ---- segments

  item_fits : (t : ValueType) (i : Item) (s u : Store) (v : Value) → IsItem p t i → StoreFits q s → ItemBecomes p t i s v u → Has q u t v × StoreFits q u × Evolves s u
  item_fits t (function_item x) s u v a f h =
      let fit : Fits p (ref_function (Some x) (h.0).type) t = subst (λ (g : Function). Fits p (ref_function (Some x) g.type) t) (same_some a.0 h.0 (sym a.1 ∙ h.1)) a.2 in
      let has : Has q s t v = subst (Has q s t) (sym h.2) ((made_bare all (ref_function (Some x) (h.0).type) fit.0, fit.1), tt) in
      subst (λ y. Has q y t v × StoreFits q y × Evolves s y) h.3 (has, f, stays s)
  item_fits t (constant_item c) s u v a f h = store_constants_sound q t c s v u (seen_valid all) a f h

  items_fit : (t : ValueType) (is : List Item) (s u : Store) (vs : List Value) → Each (IsItem p t) is → StoreFits q s → ItemsBecome p t is s vs u → Each (Has q u t) vs × StoreFits q u × Evolves s u
  items_fit t [] s u vs a f h = (subst (Each (Has q u t)) (sym h.0) tt, subst (λ y. StoreFits q y) h.1 f, subst (λ y. Evolves s y) h.1 (stays s))
  items_fit t (i ∷ is) s u vs a f h =
      let k = item_fits t i s h.2 h.0 a.0 f h.3 in
      let r = items_fit t is h.2 u h.1 a.1 k.1 h.4 in
      (subst (Each (Has q u t)) (sym h.5) (has_later q h.2 u r.2 t h.0 k.0, r.0), r.1, evolves_again s h.2 u k.2 r.2)

  segments_fit : (xs : List Segment) (i : ℕ) (s u : Store) → SegmentsAreTyped p i xs → StoreFits q s → SegmentsBecome p i xs s u → StoreFits q u
  segments_fit [] i s u a f h = subst (λ y. StoreFits q y) h f
  segments_fit (x ∷ xs) i s u a f h =
      let typed : Each (IsItem p h.0) x.items = subst (λ t. Each (IsItem p t) x.items) (same_some a.0 h.0 (sym a.1 ∙ h.3)) a.2 in
      let k = items_fit h.0 x.items s h.2 h.1 typed f h.4 in
      let y = with_segment h.2 i h.1 in
      let knows = same_knows h.2 y refl refl refl refl in
      segments_fit xs (suc i) y u a.4 (fits_too q q h.2 y (λ w m. m) knows
      (globals_too q q h.2 y (λ w m. m) knows (h.2).globals (k.1).globals)
      (tables_too q q h.2 y (λ w m. m) knows (h.2).tables (k.1).tables)
      (pairs_set (λ t vs. Each (Has q y t) vs) p.«module».elements (h.2).segments i h.0 h.1 (segments_too q q h.2 y (λ w m. m) knows p.«module».elements (h.2).segments (k.1).segments) h.3 (each_too q q h.2 y (λ w m. m) knows h.0 h.1 k.0))
      (globals_stay h.2 y (λ b g d. d) all (h.2).addresses.globals (k.1).global_addresses)
      (tables_stay h.2 y (λ b g d. d) p.«module».tables (h.2).addresses.tables (k.1).table_addresses)
      (tags_stay h.2 y (λ b g d. d) p.«module».tags (h.2).addresses.tags (k.1).tag_addresses) refl refl refl (λ b t d. d) (k.1).tags (k.1).memories (k.1).memory_addresses k.1) h.5

  -- ---- active segments

  use_fits : (i : ℕ) (t : ValueType) (c : Use) (s u : Store) → slice_get p.«module».elements i ≡ Some t → IsUse p t c → StoreFits q s → IsUsed p i c s u → StoreFits q u
  use_fits i t kept s u e a f h = subst (λ y. StoreFits q y) h f
  use_fits i t dropped s u e a f h = subst (λ y. StoreFits q y) h (segment_fits q s i t e f)
  use_fits i t (written x c) s u e a f h =
      let same : a.0 ≡ h.0 = same_some a.0 h.0 (sym a.1 ∙ h.4) in
      let typed : IsConstant p all (address (h.0).table64) c = subst (λ (k : Table). IsConstant p all (address k.table64) c) same a.3 in
      let k = store_constants_sound q (address (h.0).table64) c s h.1 h.2 (seen_valid all) typed f h.5 in
      let elements : Each (Has q h.2 (h.0).element) (segment_in h.2 i) = all_above q h.2 t (h.0).element (segment_in h.2 i) (subst (λ (b : Table). Below t b.element) same a.2) (segment_holds q h.2 k.1 i t e) in
      let all_fit : Each (Has q h.2 (h.0).element) h.3 = each_placed (Has q h.2 (h.0).element) (table_in h.2 x) (bits_of h.1) (segment_in h.2 i) h.3 (table_holds q h.2 k.1 x h.0 h.4) elements h.6 in
      subst (λ y. StoreFits q y) h.7 (segment_fits q (with_table h.2 x h.3) i t e (written_fits h.2 x h.0 h.3 h.4 k.1 all_fit))

  uses_fit : (xs : List Segment) (i : ℕ) (s u : Store) → SegmentsAreTyped p i xs → StoreFits q s → AreUsed p i xs s u → StoreFits q u
  uses_fit [] i s u a f h = subst (λ y. StoreFits q y) h f
  uses_fit (x ∷ xs) i s u a f h = uses_fit xs (suc i) h.0 u a.4 (use_fits i a.0 x.first_use s h.0 a.1 a.3 f h.1) h.2

  -- ---- active data segments

  data_use_fits : (d : ℕ) (c : Use) (s u : Store) → IsDataUse p c → StoreFits q s → IsDataUsed p d c s u → StoreFits q u
  data_use_fits d kept s u a f h = subst (λ y. StoreFits q y) h f
  data_use_fits d dropped s u a f h = subst (λ y. StoreFits q y) h (data_fits q s d f)
  data_use_fits d (written x c) s u a f h =
      let same : a.0 ≡ h.0 = same_some a.0 h.0 (sym a.1 ∙ h.4) in
      let typed : IsConstant p all (address (h.0).memory64) c = subst (λ (k : MemoryType). IsConstant p all (address k.memory64) c) same a.2 in
      let k = store_constants_sound q (address (h.0).memory64) c s h.1 h.2 (seen_valid all) typed f h.5 in
      let w = bytes_fit q h.2 x h.3 (placed_length (memory_in h.2 x) (bits_of h.1) (data_in h.2 d) h.3 h.6) k.1 in
      subst (λ y. StoreFits q y) h.7 (data_fits q (with_memory h.2 x h.3) d w.0)

  data_uses_fit : (xs : List DataSegment) (d : ℕ) (s u : Store) → Each (IsDataSegment p) xs → StoreFits q s → DataAreUsed p d xs s u → StoreFits q u
  data_uses_fit [] d s u a f h = subst (λ y. StoreFits q y) h f
  data_uses_fit (x ∷ xs) d s u a f h = data_uses_fit xs (suc d) h.0 u a.1 (data_use_fits d x.first_use s h.0 a.0 f h.1) h.2

  -- ---- all of them

  whole : (s : Store) → StoreFits q s → StoreFits p s
  whole s f =
      let made = made_whole all in
      let knows : (w : Value) → Knows s w → Knows s w = λ w k. k in
      fits_too q p s s made knows (globals_too q p s s made knows s.globals f.globals) (tables_too q p s s made knows s.tables f.tables) (segments_too q p s s made knows p.«module».elements s.segments f.segments)
      f.global_addresses f.table_addresses f.tag_addresses refl refl refl (λ b t d. d) f.tags f.memories f.memory_addresses f

pub first_stores_fit : FirstStoresFit
first_stores_fit p i host u valid typed fits h =
    let g = globals_fit p valid i.globals i.imported_globals (allocated p i host) h.with_globals typed.globals (allocated_fits p valid i host typed fits) h.globals in
    let k = tables_fit p valid i.tables i.imported_globals i.imported_tables h.with_globals h.with_tables typed.tables g h.tables in
    let n = segments_fit p valid i.segments 0 h.with_tables h.with_segments typed.segments k h.segments in
    let m = uses_fit p valid i.segments 0 h.with_segments h.with_elements typed.segments n h.used in
    whole p valid u (data_uses_fit p valid i.data_segments 0 h.with_elements u typed.data_segments m h.data_used)
