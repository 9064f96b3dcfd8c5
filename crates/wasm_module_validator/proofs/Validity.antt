-- A valid module is a valid program.
use Rattle.std.proofs.Common.{◌≡◌, ◌<◌, ◌≤◌, ◌/◌, drop, ℕ, zero, suc, ◌+◌, List, [], ◌∷◌, ◌++◌, length, map, Option, Some, None, Bool, true, false, refl, sym, ap, subst, ◌∙◌, slice_get, replicate, inl, inr, true≢false, arith, length-append}
use Rattle.std.proofs.lemmas.Option.{same_Some}
use Rattle.std.specs.Prelude.{All, Contains, filter_map, take}
use Rattle.std.specs.List.{AllZip, cons_option}
use Rattle.std.proofs.lemmas.Option.{slice_get_within, slice_get-get_or, get_or_from_slice_get}
use Rattle.std.proofs.lemmas.List.{length-map}
use Rattle.std.proofs.lemmas.List.Elements.{All-nil, All-cons, All-append, All-contains, All-replicate}
use Rattle.wasm_types.specs.settings.Settings.{Settings}
use Rattle.wasm_types.specs.trees.declared.index.UnpackedIndex.{UnpackedIndex}
use Rattle.wasm_types.specs.trees.declared.index.UnpackedIndex.TheVariants as index
use Rattle.wasm_types.specs.trees.AbstractOrder.{AbstractBelow, same}
use Rattle.wasm_types.specs.trees.Types.{Abstract, func, HeapOf, abstract, concrete, exact, ValueOf, number, ref, InnerOf, function, array_of, struct_of, continuation, heap_map, value_map}
use Rattle.wasm_types.specs.trees.Trees.{TypeTree}
use Rattle.wasm_types.specs.trees.Each.{EachHeap, EachValue}
use Rattle.wasm_types.specs.trees.Below.{itself, expanded, is_shared, abstract_above}
use Rattle.wasm_types.specs.trees.ValidGroup.{Written, type_at, IsFunction, AreValidTypes, AreValidGroups, done, next}
use Rattle.wasm_types.specs.values.Reference.{Reference}
use Rattle.wasm_types.specs.values.declared.value.ValType.TheVariants as value
use Rattle.wasm_types.specs.values.Trees.{heap_of}
use Rattle.wasm_types.specs.values.Values.{value_of}
use Rattle.wasm_types.specs.externs.declared.table.TableType.{TableType}
use Rattle.wasm_types.specs.externs.declared.tag.TagType.{TagType}
use Rattle.wasm_operators_encoding.specs.Locals.{LocalGroup}
use Rattle.wasm_sections_items.specs.declared.imports.type_ref.TypeRef.{TypeRef}
use Rattle.wasm_sections_items.specs.declared.imports.type_ref.TypeRef.TheVariants as import
use Rattle.wasm_sections_items.specs.imports.Spells.{ImportTree}
use Rattle.wasm_sections_items.specs.segments.Spells.{GlobalTree, DataTree, DataMode}
use Rattle.wasm_sections_items.specs.segments.Spells as data_mode
use Rattle.wasm_sections_items.specs.segments.Tables.{TableTree}
use Rattle.wasm_sections_items.specs.elements.Spells.{ElementTree, ElementMode, ElementItems, passive, active, declared, functions, expressions}
use Rattle.wasm_operators_encoding.specs.expressions.Code.{Code as Expression}
use Rattle.wasm_operator_validator_rules.specs.Operands.{ValueType, known}
use Rattle.wasm_operator_validator_rules.specs.constants.Constants.{IsConstant}
use Rattle.wasm_operator_validator_rules.specs.Context.{Global, Signature, IsTypeIndex, written_type, IsFunctionType, address_type}
use Rattle.wasm_module_validator_rules.specs.Syntax.{Function as CodeItem, ModuleTree}
use Rattle.wasm_module_validator_rules.specs.Binary.{SpelledModule}
use Rattle.wasm_module_validator_rules.specs.ModuleLaws.{one_module}
use Rattle.wasm_module_validator_rules.specs.Spaces.{with_types, value_in, FunctionEntry, function_with, function_of, imported, imported_globals, element_type, function_space, table_of, table_in, memory_of, global_of, global_in, tag_of, tag_space, module_of}
use Rattle.wasm_types.specs.externs.declared.memory.MemoryType.{MemoryType}
use Rattle.wasm_operator_validator_store.specs.Stores.{page_size, at_most, addressed_pages}
use Rattle.wasm_module_validator_rules.specs.Valid.{most_pages as valid_most, page_size as valid_page, IsValidMemoryType, Each, IfThere, IsValidStart, IsFunctionIndex, IsValidElementType, IsValidTableType, IsValidTagType, IsValidImport, IsValidValueType, IsInitialised, IsValidTable, AreValidGlobals, IsValidMode, AreValidItems, IsValidElement, IsValidData, locals_in, HasValidBody, IsValid}
use Rattle.wasm_operator_validator_soundness.specs.runs.Values.{Function, Program, IsStandard, IsStandardType, Value, number_value, ref_null, ref_function, ref_object, ref_i31, ref_host, ref_extern, ref_exn, Fits as FitsType, null_of, default_of}
use Rattle.wasm_operator_validator_soundness.specs.runs.Soundness as sound
use Rattle.wasm_operator_validator_soundness.specs.runs.Soundness.{IsValidProgram, evaluated}
use Rattle.wasm_operator_validator_soundness.proofs.RunsLeaving.{standard_is_sound, standard_links, null_fits}
use Rattle.wasm_operator_validator_soundness.specs.runs.Machine.{address}
use Rattle.wasm_operator_validator_soundness.proofs.Options.{address_is}
use Rattle.wasm_operator_validator_soundness.proofs.RunsFitting.{fits_below}
use Rattle.wasm_operator_validator_soundness.proofs.Objects.{function_abstract}
use Rattle.wasm_operator_validator_soundness.proofs.RunsSteps.{programs_sound, constants_sound, constants_valid as constant_states, runs_stay_valid, starts_valid}
use Rattle.wasm_operator_validator_soundness.proofs.Placing.{stays_at_places}
use Rattle.wasm_operator_validator_soundness.proofs.Progress.{answers_exist}
use Rattle.wasm_operator_validator_store.specs.ValidStores as stores
use Rattle.wasm_operator_validator_store.specs.Instantiation.{IsConstant as InstantiationConstant, function_item, constant_item, IsItem, IsFilling, IsUse, IsDataUse, IsDataSegment, IsSizedMemory, GlobalsAreTyped, TablesAreTyped, SegmentsAreTyped, AreInitials}
use Rattle.wasm_operator_validator_store.proofs.Lists.{get_past}
use Rattle.wasm_operator_validator_store.proofs.Steps.{store_runs_sound, store_runs_pinned}
use Rattle.wasm_operator_validator_store.proofs.Determined.{store_runs_determined}
use Rattle.wasm_operator_validator_store.proofs.Exact.{bytes_kept, memories_kept}
use Rattle.wasm_operator_validator_store.proofs.Instantiating.{first_stores_fit}
use Rattle.wasm_operator_validator_soundness.proofs.Values.{calls_through}
use Rattle.wasm_types.specs.trees.Matches.{ResultsMatch}
use Rattle.wasm_module_validator.specs.soundness.Modules.{types_in, host_function, own_function, own_functions, program_of, MayBeImported, AreHosts}
use Rattle.wasm_module_validator.specs.soundness.Constants.{without_body, seen_with, Gives, all_seen, GlobalsFit, ContentFits, TableFits, FunctionFits, ItemsFit, PlaceFits, ElementFits, DataFits, EachConstantFits}
use Rattle.wasm_module_validator.specs.soundness.FirstStores.{filling_of, items_of, use_of, segment_of, data_use_of, data_segment_of, initials_of}
use Rattle.wasm_module_validator.specs.soundness.Soundness.{MayStart, ModulesAreSound, AcceptedIsSound}

-- ---- lists

IsNothing : {A : Type 0} → Option A → Type 0
IsNothing None = Unit {0}
IsNothing (Some y) = ⊥

none_is_some : {A : Type 0} (x : A) → None ≡ Some x → ⊥
unfolding IsNothing
none_is_some {A} x e = subst (λ (o : Option A). IsNothing o) e tt

-- what a mapped list has at a place
map_at : {A B : Type 0} (f : A → B) (xs : List A) (i : ℕ) (y : B) → slice_get (map f xs) i ≡ Some y → (x : A) × (slice_get xs i ≡ Some x) × (f x ≡ y)
map_at f [] i y e = absurd (none_is_some y e)
map_at f (x ∷ xs) zero y e = (x, refl, same_Some (f x) y e)
map_at f (x ∷ xs) (suc i) y e = map_at f xs i y e

map_there : {A B : Type 0} (f : A → B) (xs : List A) (i : ℕ) (x : A) → slice_get xs i ≡ Some x → slice_get (map f xs) i ≡ Some (f x)
map_there f [] i x e = absurd (none_is_some x e)
map_there f (y ∷ xs) zero x e = ap Some (ap f (same_Some y x e))
map_there f (y ∷ xs) (suc i) x e = map_there f xs i x e

-- places of two lists that go together
zip_left : {A B : Type 0} (R : A → B → Type 0) (xs : List A) (ys : List B) (i : ℕ) (x : A) → AllZip R xs ys → slice_get xs i ≡ Some x → (y : B) × (slice_get ys i ≡ Some y) × R x y
zip_left R [] ys i x z e = absurd (none_is_some x e)
zip_left R (a ∷ xs) [] i x z e = absurd z
zip_left R (a ∷ xs) (y ∷ ys) zero x z e = (y, refl, subst (λ b. R b y) (same_Some a x e) z.0)
zip_left R (a ∷ xs) (y ∷ ys) (suc i) x z e = zip_left R xs ys i x z.1 e

zip_right : {A B : Type 0} (R : A → B → Type 0) (xs : List A) (ys : List B) (i : ℕ) (y : B) → AllZip R xs ys → slice_get ys i ≡ Some y → (x : A) × (slice_get xs i ≡ Some x)
zip_right R [] [] i y z e = absurd (none_is_some y e)
zip_right R [] (b ∷ ys) i y z e = absurd z
zip_right R (a ∷ xs) [] i y z e = absurd (none_is_some y e)
zip_right R (a ∷ xs) (b ∷ ys) zero y z e = (a, refl)
zip_right R (a ∷ xs) (b ∷ ys) (suc i) y z e = zip_right R xs ys i y z.1 e

zip_joined : {A B : Type 0} (R : A → B → Type 0) (xs us : List A) (ys vs : List B) → AllZip R xs ys → AllZip R us vs → AllZip R (xs ++ us) (ys ++ vs)
zip_joined R [] us [] vs z w = w
zip_joined R [] us (y ∷ ys) vs z w = absurd z
zip_joined R (x ∷ xs) us [] vs z w = absurd z
zip_joined R (x ∷ xs) us (y ∷ ys) vs z w = (z.0, zip_joined R xs us ys vs z.1 w)

each_at : {A : Type 0} (P : A → Type 0) (xs : List A) (i : ℕ) (x : A) → Each P xs → slice_get xs i ≡ Some x → P x
each_at P [] i x h e = absurd (none_is_some x e)
each_at P (y ∷ xs) zero x h e = subst (λ b. P b) (same_Some y x e) h.0
each_at P (y ∷ xs) (suc i) x h e = each_at P xs i x h.1 e

each_joined : {A : Type 0} (P : A → Type 0) (xs ys : List A) → Each P xs → Each P ys → Each P (xs ++ ys)
each_joined P [] ys h k = k
each_joined P (x ∷ xs) ys h k = (h.0, each_joined P xs ys h.1 k)

contains_at : (xs : List TypeTree) (i : ℕ) (x : TypeTree) → slice_get xs i ≡ Some x → Contains xs x
contains_at xs i x e = (i, slice_get_within xs i x e, get_or_from_slice_get xs i x x e)

-- ---- the module

module _ (z : Settings) (m : ModuleTree) (hosts : List TypeTree) (standard : IsStandard z.features) (valid : IsValid z m)
    (hosted : AreHosts m hosts) where
  abbrev ts : List TypeTree
  ts = types_in m

  abbrev p : Program
  p = program_of z m hosts

  type_standard : (x : ℕ) (t : TypeTree) → slice_get ts x ≡ Some t → IsStandardType t
  type_standard x t e = record { settings = z; standard = standard; groups = m.types; types = ts; valid = valid.types; has_it = contains_at ts x t e }

  at_standard : (x : ℕ) → x < length ts → IsStandardType (type_at ts x)
  at_standard x l = type_standard x (type_at ts x) (slice_get-get_or ts x _ l)

  -- ---- locals

  heap_standard : (h : HeapOf UnpackedIndex) → EachHeap (IsTypeIndex (module_of m)) h → EachHeap IsStandardType (heap_map (written_type (with_types ts)) h)
  heap_standard (abstract s k) i = tt
  heap_standard (concrete (index.Module n)) i = at_standard n i
  heap_standard (concrete (index.RecGroup n)) i = absurd i
  heap_standard (concrete (index.Id n)) i = absurd i
  heap_standard (exact (index.Module n)) i = at_standard n i
  heap_standard (exact (index.RecGroup n)) i = absurd i
  heap_standard (exact (index.Id n)) i = absurd i

  value_standard : (v : ValueOf UnpackedIndex) → EachValue (IsTypeIndex (module_of m)) v → EachValue IsStandardType (value_map (written_type (with_types ts)) v)
  value_standard (number n) i = tt
  value_standard (ref n h) i = heap_standard h i

  locals_standard : (gs : List LocalGroup) → Each (λ (l : LocalGroup). IsValidValueType z (module_of m) l.type) gs → All (EachValue IsStandardType) (locals_in ts gs)
  locals_standard [] h = All-nil (EachValue IsStandardType)
  locals_standard (l ∷ gs) h =
      All-append (EachValue IsStandardType) (replicate l.count (value_in ts l.type)) (locals_in ts gs)
      (All-replicate (EachValue IsStandardType) l.count (value_in ts l.type) (value_standard (value_of l.type) (h.0.1).known)) (locals_standard gs h.1)

  -- ---- functions

  abbrev Fits : FunctionEntry → Function → Type 0
  Fits e f = sound.IsValidFunction p (type_at ts e.type) f

  is_function : (t : TypeTree) (b : Signature) → IsFunctionType t b → IsFunction (expanded t)
  is_function t b e = subst (λ (i : InnerOf TypeTree). IsFunction i) (sym e) tt

  own_body : (x : ℕ) (f : CodeItem) → HasValidBody z (module_of m) x f → Fits (function_with true x) (own_function m x f)
  own_body x f v =
      let e : type_at ts x ≡ v.0 = get_or_from_slice_get ts x v.0 _ v.1 in
      subst (λ (t : TypeTree). sound.IsValidFunction p t (record { type = t; body = Some (record { locals = locals_in ts f.locals; code = f.body }) })) (sym e)
      (record {
        below = itself;
        standard = type_standard x v.0 v.1;
        function = is_function v.0 (v.2).signature (v.2).function;
        body = record {
          signature = (v.2).signature;
          function = (v.2).function;
          locals = locals_standard f.locals (v.2).locals;
          typed = (v.2).body;
        };
      })

  own_bodies : (xs : List ℕ) (fs : List CodeItem) → AllZip (HasValidBody z (module_of m)) xs fs → AllZip Fits (map (function_with true) xs) (own_functions m xs fs)
  own_bodies [] [] v = tt
  own_bodies [] (f ∷ fs) v = absurd v
  own_bodies (x ∷ xs) [] v = absurd v
  own_bodies (x ∷ xs) (f ∷ fs) v = (own_body x f v.0, own_bodies xs fs v.1)

  -- what is imported is a function, and so is what may stand for it
  above_function : (i j : InnerOf TypeTree) → abstract_above i ≡ abstract_above j → IsFunction j → IsFunction i
  above_function (function ps rs) j e k = tt
  above_function (array_of f) (function qs ss) e k = absurd cc
  above_function (struct_of fs) (function qs ss) e k = absurd cc
  above_function (continuation t) (function qs ss) e k = absurd cc
  above_function i (array_of f) e k = absurd k
  above_function i (struct_of fs) e k = absurd k
  above_function i (continuation t) e k = absurd k

  abbrev IsFunctionEntry : FunctionEntry → Type 0
  IsFunctionEntry e = IsFunctionIndex (module_of m) e.type

  import_is : (t : TypeRef) (es : List FunctionEntry) → IsValidImport z (module_of m) t → Each IsFunctionEntry es → Each IsFunctionEntry (cons_option (function_of t) es)
  import_is (import.Func x) es v h = (v, h)
  import_is (import.FuncExact x) es v h = (v.1, h)
  import_is (import.Table t) es v h = h
  import_is (import.Memory t) es v h = h
  import_is (import.Global t) es v h = h
  import_is (import.Tag t) es v h = h

  imports_are : (is : List ImportTree) → Each (λ (i : ImportTree). IsValidImport z (module_of m) i.ty) is → Each IsFunctionEntry (filter_map (λ (i : ImportTree). function_of i.ty) is)
  imports_are [] h = tt
  imports_are (i ∷ is) h = import_is i.ty (filter_map (λ (j : ImportTree). function_of j.ty) is) h.0 (imports_are is h.1)

  host_fits : (t : TypeTree) (e : FunctionEntry) → MayBeImported m t e → IsFunctionEntry e → Fits e (host_function t)
  host_fits t e h k = record {
    below = h.1;
    standard = h.0;
    function = above_function (expanded t) (expanded (type_at ts e.type)) ((standard_is_sound t h.0 (type_at ts e.type) h.1).constructor)
        (subst (λ (u : TypeTree). IsFunction (expanded u)) (sym (get_or_from_slice_get ts e.type k.0 _ k.2)) (is_function k.0 k.1 k.3));
    body = tt;
  }

  hosts_fit : (hs : List TypeTree) (es : List FunctionEntry) → AllZip (MayBeImported m) hs es → Each IsFunctionEntry es → AllZip Fits es (map host_function hs)
  hosts_fit [] [] h k = tt
  hosts_fit [] (e ∷ es) h k = absurd h
  hosts_fit (t ∷ hs) [] h k = absurd h
  hosts_fit (t ∷ hs) (e ∷ es) h k = (host_fits t e h.0 k.0, hosts_fit hs es h.1 k.1)

  all_fit : AllZip Fits (function_space m) (map host_function hosts ++ own_functions m m.functions m.code)
  all_fit =
      zip_joined Fits (imported function_of m) (map (function_with true) m.functions) (map host_function hosts) (own_functions m m.functions m.code)
      (hosts_fit hosts (imported function_of m) hosted (imports_are m.imports valid.imports)) (own_bodies m.functions m.code valid.code)

  -- ---- tags

  tag_is : (t : TypeRef) (es : List TagType) → IsValidImport z (module_of m) t → Each (IsValidTagType z (module_of m)) es → Each (IsValidTagType z (module_of m)) (cons_option (tag_of t) es)
  tag_is (import.Tag t) es v h = (v, h)
  tag_is (import.Func x) es v h = h
  tag_is (import.FuncExact x) es v h = h
  tag_is (import.Table t) es v h = h
  tag_is (import.Memory t) es v h = h
  tag_is (import.Global t) es v h = h

  tags_are : (is : List ImportTree) → Each (λ (i : ImportTree). IsValidImport z (module_of m) i.ty) is → Each (IsValidTagType z (module_of m)) (filter_map (λ (i : ImportTree). tag_of i.ty) is)
  tags_are [] h = tt
  tags_are (i ∷ is) h = tag_is i.ty (filter_map (λ (j : ImportTree). tag_of j.ty) is) h.0 (tags_are is h.1)

  pub program_valid : IsValidProgram p
  program_valid = record {
    standard = standard;
    types = type_standard;
    functions = λ x t e.
        let r = map_at (λ (f : FunctionEntry). type_at ts f.type) (function_space m) x t e in
        let k = zip_left Fits (function_space m) p.functions x r.0 all_fit r.1 in
        (k.0, k.1, subst (λ (u : TypeTree). sound.IsValidFunction p u k.0) r.2 k.2);
    own = λ x f e.
        let r = zip_right Fits (function_space m) p.functions x f all_fit e in
        (type_at ts (r.0).type, map_there (λ (g : FunctionEntry). type_at ts g.type) (function_space m) x r.0 r.1);
    tags = λ x t e.
        let r = map_at (λ (g : TagType). type_at ts g.func_type_idx) (tag_space m) x t e in
        let v = each_at (IsValidTagType z (module_of m)) (tag_space m) x r.0 (each_joined (IsValidTagType z (module_of m)) (imported tag_of m) m.tags (tags_are m.imports valid.imports) valid.tags) r.1 in
        let d : type_at ts (r.0).func_type_idx ≡ v.type = get_or_from_slice_get ts (r.0).func_type_idx v.type _ v.named in
        subst (λ (u : TypeTree). IsStandardType u × IsFunction (expanded u)) (sym d ∙ r.2) (type_standard (r.0).func_type_idx v.type v.named, is_function v.type v.signature v.function);
  }

-- ---- constants

constants_valid : (p : Program) (globals : List Global) → IsValidProgram p → IsValidProgram (seen_with p globals)
constants_valid p globals v = record {
  standard = v.standard;
  types = v.types;
  functions = λ x t e.
      let r = v.functions x t e in
      (without_body r.0, map_there without_body p.functions x r.0 r.1, record { below = (r.2).below; standard = (r.2).standard; function = (r.2).function; body = tt });
  own = λ x f e. let r = map_at without_body p.functions x f e in v.own x r.0 r.1;
  tags = v.tags;
}

-- a value looks at no body, and at no global
value_kept : (p : Program) (seen : List Global) (v : Value) (t : ValueType) → FitsType (seen_with p seen) v t → FitsType p v t
value_kept p seen (ref_function (Some x) u) t f =
    let r = map_at without_body p.functions x f.0.2.0 f.0.2.1 in
    ((f.0.0, f.0.1, (r.0, r.1, ap (λ (g : Function). g.type) r.2 ∙ f.0.2.2)), f.1)
value_kept p seen (ref_function None u) t f = f
value_kept p seen (number_value n id) t f = f
value_kept p seen (ref_null s h) t f = f
value_kept p seen (ref_object id u) t f = f
value_kept p seen (ref_i31 id) t f = f
value_kept p seen (ref_host id) t f = f
value_kept p seen (ref_extern id) t f = f
value_kept p seen (ref_exn id u) t f = f

each_weaker : {A : Type 0} (P Q : A → Type 0) (xs : List A) → ((x : A) → P x → Q x) → Each P xs → Each Q xs
each_weaker P Q [] k h = tt
each_weaker P Q (x ∷ xs) k h = (k x h.0, each_weaker P Q xs k h.1)

-- types of a standard module are not shared
abbrev IsUnshared : TypeTree → Type 0
IsUnshared t = is_shared t ≡ false

not_true : (b : Bool) → (b ≡ true → ⊥) → b ≡ false
not_true true k = absurd (k refl)
not_true false k = refl

all_unshared : (z : Settings) (ts : List TypeTree) → IsStandard z.features → AreValidTypes z ts → All IsUnshared ts
all_unshared z [] s v = All-nil IsUnshared
all_unshared z (t ∷ ts) s v =
    All-cons IsUnshared t ts (not_true (is_shared t) (λ i. true≢false (sym ((v.0).composite.0 i) ∙ s.sharing))) (all_unshared z ts s v.1)

groups_unshared : (z : Settings) (space : List TypeTree) (gs : List Written) (us : List TypeTree) → IsStandard z.features → All IsUnshared space → AreValidGroups z space gs us → All IsUnshared us
groups_unshared z space gs us s k done = k
groups_unshared z space gs us s k (next v vs) = groups_unshared z _ _ us s (All-append IsUnshared space _ k (all_unshared z _ s v.types)) vs

is_unshared : (t : TypeTree) → IsStandardType t → IsUnshared t
is_unshared t i = All-contains IsUnshared i.types t (groups_unshared i.settings [] i.groups i.types i.standard (All-nil IsUnshared) i.valid) i.has_it

module _ (z : Settings) (m : ModuleTree) (hosts : List TypeTree) (standard : IsStandard z.features) (valid : IsValid z m)
    (hosted : AreHosts m hosts) where
  abbrev whole : Program
  whole = program_of z m hosts

  abbrev count : ℕ
  count = imported_globals m

  constant_gives : (globals : List Global) (v : ValueType) (c : Expression) → IsConstant z.features (record (module_of m) { globals = globals }) count v c → Gives (seen_with whole globals) v c
  constant_gives globals v c i =
      let k = constants_valid whole globals (program_valid z m hosts standard valid hosted) in
      (constants_sound (seen_with whole globals) v c k i.typed, λ answers t runs. runs_stay_valid (seen_with whole globals) (v ∷ []) (evaluated v c) answers t k (constant_states (seen_with whole globals) v c k i.typed) runs)

  globals_fit : (seen : ℕ) (xs : List (GlobalTree Expression)) → AreValidGlobals z (module_of m) count seen xs → GlobalsFit z m hosts seen xs
  globals_fit seen [] h = tt
  globals_fit seen (x ∷ xs) h = (constant_gives (take seen (module_of m).globals) (value_in (types_in m) x.ty.content_type) x.init h.0.1, globals_fit (suc seen) xs h.1)

  -- ---- tables

  null_default : (n : Bool) (q : HeapOf TypeTree) → n ≡ true → EachHeap IsStandardType q → (v : Value) × (default_of (ref n q) ≡ Some v) × FitsType whole v (ref n q)
  null_default true q e i = (null_of q, refl, null_fits whole q i)
  null_default false q e i = absurd (true≢false (sym e))

  element_standard : (r : Reference) → IsValidElementType z (module_of m) r → EachHeap IsStandardType (heap_map (written_type (with_types (types_in m))) (heap_of r.heap))
  element_standard r (inl e) = subst (λ (q : Reference). EachHeap IsStandardType (heap_map (written_type (with_types (types_in m))) (heap_of q.heap))) (sym e) tt
  element_standard r (inr v) = heap_standard z m hosts standard valid hosted (heap_of r.heap) (v.1).known

  content_fits : (t : TableType) (o : Option Expression) → IsValidTableType z (module_of m) t → IsInitialised z (module_of m) count t o
      → ContentFits z m hosts (value_in (types_in m) (value.Ref t.element_type)) o
  content_fits t None v i = null_default t.element_type.nullable (heap_map (written_type (with_types (types_in m))) (heap_of t.element_type.heap)) i (element_standard t.element_type v.element)
  content_fits t (Some c) v i = constant_gives (take count (module_of m).globals) (value_in (types_in m) (value.Ref t.element_type)) c i.1

  -- ---- segments

  function_fits : (x : ℕ) → x < length (module_of m).functions → FunctionFits z m hosts (ref false (abstract false func)) x
  function_fits x l =
      let r = (program_valid z m hosts standard valid hosted).functions x _ (slice_get-get_or (module_of m).functions x (type_at [] 0) l) in
      let own : TypeTree = (r.0).type in
      let is : abstract_above (expanded own) ≡ func = function_abstract (expanded own) (r.2).function in
      (r.0, r.1, (((r.2).standard, (r.2).function, (r.0, r.1, refl)), (tt, (own, itself, is_unshared own (r.2).standard, subst (λ (k : Abstract). AbstractBelow k func) (sym is) same))))

  items_fit : (items : ElementItems Expression) → AreValidItems z (module_of m) count items → ItemsFit z m hosts (element_type (types_in m) items) items
  items_fit (functions xs) h = each_weaker (λ x. x < length (module_of m).functions) (FunctionFits z m hosts (ref false (abstract false func))) xs function_fits h
  items_fit (expressions r cs) h =
      let t : ValueType = value_in (types_in m) (value.Ref r) in
      each_weaker (IsConstant z.features (module_of m) count t) (Gives (all_seen z m hosts) t) cs (λ c i. constant_gives (module_of m).globals t c i) h.1

  offset_gives : (wide : Bool) (c : Expression) → IsConstant z.features (module_of m) count (address_type wide) c → Gives (all_seen z m hosts) (address wide) c
  offset_gives wide c i = subst (λ (v : ValueType). Gives (all_seen z m hosts) v c) (sym (address_is wide)) (constant_gives (module_of m).globals (address_type wide) c i)

  place_fits : (t : ValueType) (mode : ElementMode Expression) → IsValidMode z (module_of m) count t mode → PlaceFits z m hosts t mode
  place_fits t passive h = tt
  place_fits t declared h = tt
  place_fits t (active x c) h =
      (h.0, h.1, (λ q v f. fits_below q v (known t) (known (h.0).element) f h.2), offset_gives (h.0).table64 c h.3)

  data_fits : (mode : DataMode Expression) → IsValidData z (module_of m) count mode → DataFits z m hosts mode
  data_fits data_mode.passive h = tt
  data_fits (data_mode.active x c) h = (h.0, h.1, offset_gives (h.0).memory64 c h.2)

  pub each_constant_fits : EachConstantFits z m hosts
  each_constant_fits = record {
    values = value_kept whole;
    globals = globals_fit count m.globals valid.globals;
    tables = each_weaker (IsValidTable z (module_of m) count) (TableFits z m hosts) m.tables (λ x h. content_fits x.ty x.init h.0 h.1) valid.tables;
    elements = each_weaker (IsValidElement z (module_of m) count) (ElementFits z m hosts) m.element_segments
        (λ x h. (items_fit x.items h.items, place_fits (element_type (types_in m) x.items) x.mode h.mode)) valid.element_segments;
    offsets = each_weaker (λ (x : DataTree Expression). IsValidData z (module_of m) count x.mode) (λ (x : DataTree Expression). DataFits z m hosts x.mode) m.data_segments
        (λ x h. data_fits x.mode h) valid.data_segments;
  }

-- ---- the first store

-- a list goes on at a place as another one does from there on
abbrev GoesOn : {A B : Type 0} → (A → B) → List A → List B → ℕ → Type 0
GoesOn {A} f xs ys n = (length ys ≡ n + length xs) × ((i : ℕ) (x : A) → slice_get xs i ≡ Some x → slice_get ys (n + i) ≡ Some (f x))

first_there : {A B : Type 0} (f : A → B) (x : A) (xs : List A) (ys : List B) (n : ℕ) → GoesOn f (x ∷ xs) ys n → slice_get ys n ≡ Some (f x)
first_there f x xs ys n h = let same : n + 0 ≡ n = omega arith in subst (λ k. slice_get ys k ≡ Some (f x)) same (h.1 0 x refl)

others_there : {A B : Type 0} (f : A → B) (x : A) (xs : List A) (ys : List B) (n : ℕ) → GoesOn f (x ∷ xs) ys n → GoesOn f xs ys (suc n)
others_there f x xs ys n h = (omega (arith, h.0), λ i y e. let same : n + suc i ≡ suc n + i = omega arith in subst (λ k. slice_get ys k ≡ Some (f y)) same (h.1 (suc i) y e))

ended : {A B : Type 0} (f : A → B) (ys : List B) (n : ℕ) → GoesOn f [] ys n → length ys ≡ n
ended f ys n h = omega (arith, h.0)

all_there : {A B : Type 0} (f : A → B) (xs : List A) → GoesOn f xs (map f xs) 0
all_there f xs = (omega (arith, length-map xs f), λ i x e. let same : i ≡ 0 + i = omega arith in subst (λ k. slice_get (map f xs) k ≡ Some (f x)) same (map_there f xs i x e))

-- what a space has of the module itself, after what is imported
own_there : {A B C : Type 0} (g : B → C) (f : A → B) (bs : List B) (xs : List A) → GoesOn (λ (x : A). g (f x)) xs (map g (bs ++ map f xs)) (length bs)
own_there g f bs xs = (
  length-map (bs ++ map f xs) g ∙ length-append bs (map f xs) ∙ ap (λ n. length bs + n) (length-map xs f),
  λ i x e. map_there g (bs ++ map f xs) (length bs + i) (f x) (get_past bs (map f xs) i (f x) (map_there f xs i x e)),
)

module _ (z : Settings) (m : ModuleTree) (hosts : List TypeTree) (standard : IsStandard z.features) (valid : IsValid z m)
    (hosted : AreHosts m hosts) where
  abbrev program : Program
  program = program_of z m hosts

  abbrev own_types : List TypeTree
  own_types = types_in m

  globals_typed : (xs : List (GlobalTree Expression)) (n : ℕ) → AreValidGlobals z (module_of m) (imported_globals m) n xs → GoesOn (λ (x : GlobalTree Expression). global_in own_types x.ty) xs (module_of m).globals n
      → GlobalsAreTyped program n (map (λ (x : GlobalTree Expression). x.init) xs)
  globals_typed [] n v h = ended (λ (x : GlobalTree Expression). global_in own_types x.ty) (module_of m).globals n h
  globals_typed (x ∷ xs) n v h = (
    global_in own_types x.ty,
    first_there (λ (y : GlobalTree Expression). global_in own_types y.ty) x xs (module_of m).globals n h,
    v.0.1.typed,
    globals_typed xs (suc n) v.1 (others_there (λ (y : GlobalTree Expression). global_in own_types y.ty) x xs (module_of m).globals n h),
  )

  filling_typed : (t : TableType) (o : Option Expression) → IsValidTableType z (module_of m) t → IsInitialised z (module_of m) (imported_globals m) t o
      → IsFilling program (imported_globals m) (value_in own_types (value.Ref t.element_type)) o
  filling_typed t None v i = content_fits z m hosts standard valid hosted t None v i
  filling_typed t (Some c) v i = i.1.typed

  tables_typed : (xs : List (TableTree Expression)) (n : ℕ) → Each (IsValidTable z (module_of m) (imported_globals m)) xs → GoesOn (λ (x : TableTree Expression). table_in own_types x.ty) xs (module_of m).tables n
      → TablesAreTyped program (imported_globals m) n (map filling_of xs)
  tables_typed [] n v h = ended (λ (x : TableTree Expression). table_in own_types x.ty) (module_of m).tables n h
  tables_typed (x ∷ xs) n v h = (
    table_in own_types x.ty,
    first_there (λ (y : TableTree Expression). table_in own_types y.ty) x xs (module_of m).tables n h,
    filling_typed x.ty x.init v.0.0 v.0.1,
    tables_typed xs (suc n) v.1 (others_there (λ (y : TableTree Expression). table_in own_types y.ty) x xs (module_of m).tables n h),
  )

  functions_typed : (xs : List ℕ) → Each (FunctionFits z m hosts (ref false (abstract false func))) xs → stores.Each (IsItem program (ref false (abstract false func))) (map function_item xs)
  functions_typed [] h = tt
  functions_typed (x ∷ xs) h = (h.0, functions_typed xs h.1)

  constants_typed : (t : ValueType) (cs : List Expression) → Each (IsConstant z.features (module_of m) (imported_globals m) t) cs → stores.Each (IsItem program t) (map constant_item cs)
  constants_typed t [] h = tt
  constants_typed t (c ∷ cs) h = (h.0.typed, constants_typed t cs h.1)

  elements_typed : (items : ElementItems Expression) → AreValidItems z (module_of m) (imported_globals m) items → stores.Each (IsItem program (element_type own_types items)) (items_of items)
  elements_typed (functions xs) h = functions_typed xs (each_weaker (λ x. x < length (module_of m).functions) (FunctionFits z m hosts (ref false (abstract false func))) xs (function_fits z m hosts standard valid hosted) h)
  elements_typed (expressions r cs) h = constants_typed (value_in own_types (value.Ref r)) cs h.1

  use_typed : (t : ValueType) (mode : ElementMode Expression) → IsValidMode z (module_of m) (imported_globals m) t mode → IsUse program t (use_of mode)
  use_typed t passive h = tt
  use_typed t declared h = tt
  use_typed t (active x c) h = (h.0, h.1, h.2, subst (λ (v : ValueType). InstantiationConstant program (module_of m).globals v c) (sym (address_is (h.0).table64)) h.3.typed)

  segments_typed : (xs : List (ElementTree Expression)) (n : ℕ) → Each (IsValidElement z (module_of m) (imported_globals m)) xs
      → GoesOn (λ (x : ElementTree Expression). element_type own_types x.items) xs (module_of m).elements n → SegmentsAreTyped program n (map segment_of xs)
  segments_typed [] n v h = ended (λ (x : ElementTree Expression). element_type own_types x.items) (module_of m).elements n h
  segments_typed (x ∷ xs) n v h = (
    element_type own_types x.items,
    first_there (λ (y : ElementTree Expression). element_type own_types y.items) x xs (module_of m).elements n h,
    elements_typed x.items v.0.items,
    use_typed (element_type own_types x.items) x.mode v.0.mode,
    segments_typed xs (suc n) v.1 (others_there (λ (y : ElementTree Expression). element_type own_types y.items) x xs (module_of m).elements n h),
  )

  -- a valid memory may have as many pages as its type says at first
  sized_within : (o : Option ℕ) (n most : ℕ) → n ≤ most → IfThere (λ k. n ≤ k) o → n ≤ at_most o most
  sized_within None n most l h = l
  sized_within (Some k) n most l h = omega (arith, l, h)

  few_pages : (wide : Bool) (page : ℕ) (n : ℕ) → n ≤ valid_most wide page → n ≤ addressed_pages wide page
  few_pages true page n l = l
  few_pages false page n l = l

  same_page : (o : Option ℕ) → valid_page o ≡ page_size o
  same_page None = refl
  same_page (Some k) = refl

  memory_sized : (t : MemoryType) → IsValidMemoryType z t → IsSizedMemory program t
  memory_sized t h = sized_within t.maximum t.initial (addressed_pages t.memory64 (page_size t.page_size_log2))
      (few_pages t.memory64 (page_size t.page_size_log2) t.initial (subst (λ k. t.initial ≤ valid_most t.memory64 k) (same_page t.page_size_log2) h.limits.least_within)) h.limits.ordered

  memories_sized : (ts : List MemoryType) → Each (IsValidMemoryType z) ts → stores.Each (IsSizedMemory program) ts
  memories_sized [] h = tt
  memories_sized (t ∷ ts) h = (memory_sized t h.0, memories_sized ts h.1)

  dropped_all : (bs cs : List MemoryType) → drop (length bs) (bs ++ cs) ≡ cs
  dropped_all [] cs = refl
  dropped_all (b ∷ bs) cs = dropped_all bs cs

  data_use_typed : (mode : DataMode Expression) → IsValidData z (module_of m) (imported_globals m) mode → IsDataUse program (data_use_of mode)
  data_use_typed data_mode.passive h = tt
  data_use_typed (data_mode.active x c) h = (h.0, h.1, subst (λ (v : ValueType). InstantiationConstant program (module_of m).globals v c) (sym (address_is (h.0).memory64)) h.2.typed)

  data_typed : (xs : List (DataTree Expression)) → Each (λ (x : DataTree Expression). IsValidData z (module_of m) (imported_globals m) x.mode) xs → stores.Each (IsDataSegment program) (map data_segment_of xs)
  data_typed [] h = tt
  data_typed (x ∷ xs) h = (data_use_typed x.mode h.0, data_typed xs h.1)

  pub initials_typed : AreInitials program (initials_of m)
  initials_typed = record {
    globals = globals_typed m.globals (imported_globals m) valid.globals (own_there (global_in own_types) (λ (x : GlobalTree Expression). x.ty) (imported global_of m) m.globals);
    tables = tables_typed m.tables (length (imported table_of m)) valid.tables (own_there (table_in own_types) (λ (x : TableTree Expression). x.ty) (imported table_of m) m.tables);
    memories = subst (stores.Each (IsSizedMemory program)) (sym (dropped_all (imported memory_of m) m.memories)) (memories_sized m.memories valid.memories);
    segments = segments_typed m.element_segments 0 valid.element_segments (all_there (λ (x : ElementTree Expression). element_type own_types x.items) m.element_segments);
    data_segments = data_typed m.data_segments valid.data_segments;
  }

-- ---- modules

no_more : (us : List ValueType) → ResultsMatch [] us → us ≡ []
no_more [] k = refl
no_more (t ∷ us) k = absurd k

no_less : (us : List ValueType) → ResultsMatch us [] → us ≡ []
no_less [] k = refl
no_less (t ∷ us) k = absurd k

nothing_less : (t : TypeTree) (c : Signature) → IsFunctionType t c → ResultsMatch [] c.params → ResultsMatch c.results [] → IsFunctionType t (record { params = []; results = [] })
nothing_less t c e k l = e ∙ ap (λ (ps : List ValueType). function ps c.results) (no_more c.params k) ∙ ap (λ (rs : List ValueType). function [] rs) (no_less c.results l)

may_start : (p : Program) → IsValidProgram p → (o : Option ℕ) → IfThere (IsValidStart p.«module») o → IfThere (MayStart p) o
may_start p v None s = tt
may_start p v (Some x) s =
    let r = v.functions x s.0 s.1 in
    let k = calls_through (r.0).type s.0 (record { params = []; results = [] }) (standard_links (r.0).type (r.2).standard) (r.2).below s.2 in
    (r.0, r.1, nothing_less (r.0).type k.own k.is k.params k.results)

pub modules_sound : ModulesAreSound
modules_sound z m standard valid hosts hosted = record {
  functions = λ s results started. programs_sound (program_of z m hosts) s results (program_valid z m hosts standard valid hosted) started;
  states = λ s results started answers t runs.
      let v = program_valid z m hosts standard valid hosted in
      runs_stay_valid (program_of z m hosts) results s answers t v (starts_valid (program_of z m hosts) s results v started) runs;
  answered = λ s results globals started. answers_exist (program_of z m hosts) s results (program_valid z m hosts standard valid hosted) globals started;
  stores = λ s results u started fits knows. store_runs_sound (program_of z m hosts) s results u (program_valid z m hosts standard valid hosted) started fits knows;
  pinned = λ s results u started fits knows. store_runs_pinned (program_of z m hosts) s results u (program_valid z m hosts standard valid hosted) started fits knows;
  determined = store_runs_determined (program_of z m hosts);
  bytes = bytes_kept;
  memories = memories_kept;
  start = may_start (program_of z m hosts) (program_valid z m hosts standard valid hosted) m.start valid.start;
  constants = each_constant_fits z m hosts standard valid hosted;
  first_stores = λ host u fits first. first_stores_fit (program_of z m hosts) (initials_of m) host u (program_valid z m hosts standard valid hosted) (initials_typed z m hosts standard valid hosted) fits first;
  program = program_valid z m hosts standard valid hosted;
  placed = λ D by_notes s results started. stays_at_places D (program_of z m hosts) s results by_notes started;
}

pub accepted_sound : AcceptedIsSound
accepted_sound z bytes accepted =
    let valid : (m : ModuleTree) → SpelledModule z m bytes → IsValid z m =
    λ m spelled. subst (λ (n : ModuleTree). IsValid z n) (one_module z accepted.0 m bytes (accepted.1).spelled spelled) (accepted.1).valid in
    record { accepted = accepted; valid = valid; runs = λ m spelled standard. modules_sound z m standard (valid m spelled) }
