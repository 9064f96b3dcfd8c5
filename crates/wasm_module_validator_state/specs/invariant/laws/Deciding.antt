-- What a call of the state decides is what the rules ask of the tree: contexts, sizes and room agree.
use Rattle.std.proofs.Common.{◌≡◌, ◌∙◌, ◌↔◌, ◌+◌, ◌<◌, ◌≤◌, ℕ, suc, false, List, [], ◌∷◌, length, map, None, refl, sym, ap, subst}
use Rattle.std.proofs.lemmas.List.{length-map}
use Rattle.wasm_types.specs.settings.Settings.{Settings}
use Rattle.wasm_types.specs.settings.Features.{BulkMemory}
use Rattle.wasm_types.specs.trees.Gates.{Has}
use Rattle.wasm_types.specs.externs.declared.memory.MemoryType.{MemoryType}
use Rattle.wasm_types.specs.externs.declared.tag.TagType.{TagType}
use Rattle.wasm_module_validator_type_storage.specs.trees.Groups.{Group}
use Rattle.wasm_module_validator_resources.specs.Reading.{context_of, meaning_of}
use Rattle.wasm_module_validator_state.specs.invariant.so_far.SoFar.{IsReadAs}
use Rattle.wasm_module_validator_state.specs.invariant.so_far.Counts.{AreCounted}
use Rattle.wasm_module_validator_state.specs.invariant.so_far.laws.Judging.{context_so_far_is}
use Rattle.wasm_module_validator_state.specs.invariant.so_far.laws.Context.{context_is}
use Rattle.wasm_module_validator_state.specs.invariant.so_far.laws.Limits.{counts_are, import_size_is, export_size_is}
use Rattle.wasm_module_validator_exports.specs.names.Exports.{IsNew, names_of}
use Rattle.wasm_module_validator_resources.specs.referring.Referring.{meaning_with_all, with_all_referenced}
use Rattle.wasm_module_validator_state.specs.Items.{Items, HasRoomFor, IsImportable, IsExportable}
use Rattle.wasm_sections_items.specs.imports.Spells.{ImportTree, ExportTree}
use Rattle.wasm_operators_encoding.specs.expressions.Code.{Code}
use Rattle.wasm_sections_items.specs.segments.Spells.{GlobalTree, DataTree}
use Rattle.wasm_sections_items.specs.segments.Tables.{TableTree}
use Rattle.wasm_sections_items.specs.elements.Spells.{ElementTree}
use Rattle.wasm_sections_items.specs.declared.imports.type_ref.TypeRef.{TypeRef}
use Rattle.wasm_sections_items.specs.declared.imports.type_ref.TypeRef.TheVariants as import
use Rattle.wasm_module_validator_checks.specs.rules.Syntax.{ModuleTree}
use Rattle.wasm_module_validator_checks.specs.rules.Spaces.{imported_globals, module_of, function_space, table_space, memory_space, global_space, tag_space}
use Rattle.wasm_module_validator_checks.specs.rules.Valid.{Each, IsFunctionIndex, IsValidMemoryType, IsValidTagType, IsValidStart, IsValidImport, IsValidExport, IsValidTable, IsValidGlobal, IsValidElement, IsValidData, import_size, export_size, most_tables, most_memories}
use Rattle.wasm_operator_validator_rules.specs.Context.{Module}
use Rattle.wasm_module_validator_resources.specs.rules_in_order.contexts.Agreement.{AgreeOnTypes, AgreeForExports, AgreeOnFunctions}
use Rattle.wasm_module_validator_resources.specs.rules_in_order.contexts.laws.Types.{function_agrees, tag_agrees, import_agrees}
use Rattle.wasm_module_validator_resources.specs.rules_in_order.contexts.laws.Items.{export_agrees, start_agrees}
use Rattle.wasm_module_validator_resources.specs.rules_in_order.contexts.InOrder.{context_so_far, places_from}
use Rattle.wasm_module_validator_resources.specs.rules_in_order.Sections as section
use Rattle.wasm_module_validator_resources.specs.rules_in_order.Sections.{Section, Item, adding}
use Rattle.wasm_module_validator_resources.specs.rules_in_order.Adding.{Adds, IsValidNext, IsWithinNext, Fits, HasRoomIn, size_so_far}
use Rattle.wasm_module_validator_state.specs.invariant.Standing.{Stands}

-- an item may be added where what is asked of it holds
pub may_be_added : (z : Settings) (s : Section) (m : ModuleTree) (x : Item s) (P : Type 0)
    → (P → IsValidNext z s m x × IsWithinNext z s m x) → (IsValidNext z s m x × IsWithinNext z s m x → P) → P ↔ ((n : ModuleTree) × Adds z s m x n)
may_be_added z s m x P to from = (
  λ p. let (v, w) = to p in (adding s m x, record { valid = v; within = w; added = refl }),
  λ h. from (h.1.valid, h.1.within),
)

-- the context of constants, in which each function may be referred to, is the context so far
pub constants_see : (groups : List Group) (s : Items) (m : ModuleTree) → IsReadAs groups s.spaces m → (meaning_with_all (meaning_of groups s.spaces)).«module» ≡ context_so_far m
constants_see groups s m r =
    ap with_all_referenced (context_is groups s.spaces m r) ∙ ap (λ (xs : List ℕ). record (module_of m) { referenced = xs }) (placed (function_space m) _ 0)
  where
    placed : {A B : Type 0} (xs : List A) (f : A → B) (i : ℕ) → places_from i (map f xs) ≡ places_from i xs
    placed [] f i = refl
    placed (x ∷ xs) f i = ap (λ ys. i ∷ ys) (placed xs f (suc i))

module _ (groups : List Group) (s : Items) (z : Settings) (m : ModuleTree) (r : Stands groups s z m) where
  abbrev here : Module
  here = context_of groups s.spaces

  abbrev there : Module
  there = context_so_far m

  both : record here { referenced = places_from 0 s.spaces.functions } ≡ there
  both = context_so_far_is groups s.spaces m r.read

  types_to : AgreeOnTypes here there
  types_to = record { types = ap (λ (g : Module). g.types) both }

  pub types_back : AgreeOnTypes there here
  types_back = record { types = sym (ap (λ (g : Module). g.types) both) }

  functions_to : AgreeOnFunctions here there
  functions_to = record { functions = ap (λ (g : Module). g.functions) both }

  functions_back : AgreeOnFunctions there here
  functions_back = record { functions = sym (ap (λ (g : Module). g.functions) both) }

  pub exports_to : AgreeForExports here there
  exports_to = record {
    functions = ap (λ (g : Module). g.functions) both;
    tables = ap (λ (g : Module). g.tables) both;
    memories = ap (λ (g : Module). g.memories) both;
    globals = ap (λ (g : Module). g.globals) both;
    tags = ap (λ (g : Module). g.tags) both;
  }

  exports_back : AgreeForExports there here
  exports_back = record {
    functions = sym exports_to.functions;
    tables = sym exports_to.tables;
    memories = sym exports_to.memories;
    globals = sym exports_to.globals;
    tags = sym exports_to.tags;
  }

  pub counts : AreCounted (module_of m) s.spaces
  counts = counts_are groups s.spaces m r.read

  functions_many : length (module_of m).functions ≡ length (function_space m)
  functions_many = length-map (function_space m) _

  tables_many : length (module_of m).tables ≡ length (table_space m)
  tables_many = length-map (table_space m) _

  globals_many : length (module_of m).globals ≡ length (global_space m)
  globals_many = length-map (global_space m) _

  tags_many : length (module_of m).tags ≡ length (tag_space m)
  tags_many = length-map (tag_space m) _

  -- ---- room

  pub functions_counted : length s.spaces.functions ≡ length (function_space m)
  functions_counted = sym counts.functions ∙ functions_many

  pub tables_counted : length s.spaces.tables ≡ length (table_space m)
  tables_counted = sym counts.tables ∙ tables_many

  pub memories_counted : length s.spaces.memories ≡ length (memory_space m)
  memories_counted = sym counts.memories

  pub globals_counted : length s.spaces.globals ≡ length (global_space m)
  globals_counted = sym counts.globals ∙ globals_many

  pub tags_counted : length s.spaces.tags ≡ length (tag_space m)
  tags_counted = sym counts.tags ∙ tags_many

  pub elements_counted : length s.spaces.elements ≡ length m.element_segments
  elements_counted = sym counts.elements ∙ length-map m.element_segments _

  -- what is below the limit that the state has is below that of the settings
  pub below : (P : ℕ → Settings → Type 0) (n k : ℕ) → n ≡ k → P n s.spaces.settings → P k z
  below P n k e h = subst (P k) r.settings (subst (λ i. P i s.spaces.settings) e h)

  pub above : (P : ℕ → Settings → Type 0) (n k : ℕ) → n ≡ k → P k z → P n s.spaces.settings
  above P n k e h = subst (λ i. P i s.spaces.settings) (sym e) (subst (P k) (sym r.settings) h)

  pub room : (P : ℕ → Settings → Type 0) (n k : ℕ) → n ≡ k → P n s.spaces.settings ↔ P k z
  room P n k e = (below P n k e, above P n k e)

  -- ---- items

  pub functions_decided : (x : ℕ) → (IsFunctionIndex here x × (length s.spaces.functions < s.spaces.settings.limits.functions)) ↔ ((n : ModuleTree) × Adds z section.functions m x n)
  functions_decided x =
      let l = room (λ n (y : Settings). n < y.limits.functions) _ _ functions_counted in
      may_be_added z section.functions m x _ (λ h. (function_agrees here there types_to x h.0, l.0 h.1)) (λ h. (function_agrees there here types_back x h.0, l.1 h.1))

  pub memories_decided : (t : MemoryType)
      → (IsValidMemoryType s.spaces.settings t × (length s.spaces.memories < most_memories s.spaces.settings)) ↔ ((n : ModuleTree) × Adds z section.memories m t n)
  memories_decided t =
      let l = room (λ n (y : Settings). n < most_memories y) _ _ memories_counted in
      may_be_added z section.memories m t _ (λ h. (subst (λ y. IsValidMemoryType y t) r.settings h.0, l.0 h.1)) (λ h. (subst (λ y. IsValidMemoryType y t) (sym r.settings) h.0, l.1 h.1))

  pub tags_decided : (t : TagType)
      → (IsValidTagType s.spaces.settings here t × (length s.spaces.tags < s.spaces.settings.limits.tags)) ↔ ((n : ModuleTree) × Adds z section.tags m t n)
  tags_decided t =
      let l = room (λ n (y : Settings). n < y.limits.tags) _ _ tags_counted in
      may_be_added z section.tags m t _
      (λ h. (tag_agrees here there types_to z t (subst (λ y. IsValidTagType y here t) r.settings h.0), l.0 h.1))
      (λ h. (subst (λ y. IsValidTagType y here t) (sym r.settings) (tag_agrees there here types_back z t h.0), l.1 h.1))

  pub start_decided : (x : ℕ) → m.start ≡ None → IsValidStart here x ↔ ((n : ModuleTree) × Adds z section.start m x n)
  start_decided x e = may_be_added z section.start m x _ (λ h. (start_agrees here there functions_to x h, e)) (λ h. start_agrees there here functions_back x h.0)

  pub data_count_decided : (n : ℕ) → m.data_count ≡ None
      → (Has s.spaces.settings.features BulkMemory × (n ≤ s.spaces.settings.limits.data_segments)) ↔ ((k : ModuleTree) × Adds z section.data_count m n k)
  data_count_decided n e =
      may_be_added z section.data_count m n _ (λ h. (subst (λ (y : Settings). Has y.features BulkMemory) r.settings h.0, (e, subst (λ (y : Settings). n ≤ y.limits.data_segments) r.settings h.1)))
      (λ h. (subst (λ (y : Settings). Has y.features BulkMemory) (sym r.settings) h.0, subst (λ (y : Settings). n ≤ y.limits.data_segments) (sym r.settings) h.1.1))

  -- ---- exports

  new_is : (name : List ℕ) (es : List ExportTree) → IsNew name (map (λ (e : ExportTree). e.name) es) → Each (λ (f : ExportTree). f.name ≡ name → ⊥) es
  new_is name [] h = tt
  new_is name (e ∷ es) h = (λ k. h.0 (sym k), new_is name es h.1)

  is_new : (name : List ℕ) (es : List ExportTree) → Each (λ (f : ExportTree). f.name ≡ name → ⊥) es → IsNew name (map (λ (e : ExportTree). e.name) es)
  is_new name [] h = tt
  is_new name (e ∷ es) h = (λ k. h.0 (sym k), is_new name es h.1)

  pub exports_decided : (e : ExportTree) → IsExportable groups s e.name e.kind e.index false ↔ ((n : ModuleTree) × Adds z section.exports m e n)
  exports_decided e =
      let size : s.type_size + export_size here e.kind e.index ≡ size_so_far m + export_size there e.kind e.index =
      (λ i. r.size i + export_size_is here there exports_to e.kind e.index i) in
      let l = room (λ n (y : Settings). n < y.limits.type_size) _ _ size in
      may_be_added z section.exports m e _
      (λ h. (
        (
          export_agrees here there z exports_to e.kind e.index (subst (λ y. IsValidExport y here e.kind e.index) r.settings h.valid),
          new_is e.name m.exports (subst (λ (es : List ExportTree). IsNew e.name (names_of es)) r.exports h.new),
        ),
        l.0 h.size,
      ))
      (λ h. record {
        valid = subst (λ y. IsValidExport y here e.kind e.index) (sym r.settings) (export_agrees there here z exports_back e.kind e.index h.0.0);
        room = λ k. absurd cc;
        size = l.1 h.1;
        new = subst (λ (es : List ExportTree). IsNew e.name (names_of es)) (sym r.exports) (is_new e.name m.exports h.0.1);
      })

  -- ---- imports

  room_of_import : (t : TypeRef) → HasRoomFor t s.spaces ↔ HasRoomIn z m t
  room_of_import (import.Func x) = room (λ n (y : Settings). n < y.limits.functions) _ _ functions_counted
  room_of_import (import.FuncExact x) = room (λ n (y : Settings). n < y.limits.functions) _ _ functions_counted
  room_of_import (import.Table t) = room (λ n (y : Settings). n < most_tables y) _ _ tables_counted
  room_of_import (import.Memory t) = room (λ n (y : Settings). n < most_memories y) _ _ memories_counted
  room_of_import (import.Global t) = room (λ n (y : Settings). n < y.limits.globals) _ _ globals_counted
  room_of_import (import.Tag t) = room (λ n (y : Settings). n < y.limits.tags) _ _ tags_counted

  pub imports_decided : (i : ImportTree) → IsImportable groups s i.ty ↔ ((n : ModuleTree) × Adds z section.imports m i n)
  imports_decided i =
      let size : s.type_size + import_size here i.ty ≡ size_so_far m + import_size there i.ty = (λ j. r.size j + import_size_is here there types_to i.ty j) in
      let l = room (λ n (y : Settings). n < y.limits.type_size) _ _ size in
      may_be_added z section.imports m i _
      (λ h. (import_agrees here there types_to z i.ty (subst (λ y. IsValidImport y here i.ty) r.settings h.valid), ((room_of_import i.ty).0 h.room, l.0 h.size)))
      (λ h. record {
        valid = subst (λ y. IsValidImport y here i.ty) (sym r.settings) (import_agrees there here types_back z i.ty h.0);
        room = (room_of_import i.ty).1 h.1.0;
        size = l.1 h.1.1;
      })

  -- ---- items with constants, judged where each function may be referred to

  abbrev constants : Module
  constants = (meaning_with_all (meaning_of groups s.spaces)).«module»

  seen : (P : Settings → Module → ℕ → Type 0) → P s.spaces.settings constants s.spaces.imported_globals ≡ P z there (imported_globals m)
  seen P = λ i. P (r.settings i) (constants_see groups s m r.read i) (r.read.imported_globals i)

  seen_to : (P : Settings → Module → ℕ → Type 0) → P s.spaces.settings constants s.spaces.imported_globals → P z there (imported_globals m)
  seen_to P h = subst (λ (T : Type 0). T) (seen P) h

  seen_back : (P : Settings → Module → ℕ → Type 0) → P z there (imported_globals m) → P s.spaces.settings constants s.spaces.imported_globals
  seen_back P h = subst (λ (T : Type 0). T) (sym (seen P)) h

  pub tables_decided : (x : TableTree Code)
      → (IsValidTable s.spaces.settings constants s.spaces.imported_globals x × (length s.spaces.tables < most_tables s.spaces.settings)) ↔ ((n : ModuleTree) × Adds z section.tables m x n)
  tables_decided x =
      let P : Settings → Module → ℕ → Type 0 = (λ y g c. IsValidTable y g c x) in
      let l = room (λ n (y : Settings). n < most_tables y) _ _ tables_counted in
      may_be_added z section.tables m x _ (λ h. (seen_to P h.0, l.0 h.1)) (λ h. (seen_back P h.0, l.1 h.1))

  pub globals_decided : (x : GlobalTree Code)
      → (IsValidGlobal s.spaces.settings constants s.spaces.imported_globals (length constants.globals) x × (length s.spaces.globals < s.spaces.settings.limits.globals))
      ↔ ((n : ModuleTree) × Adds z section.globals m x n)
  globals_decided x =
      let P : Settings → Module → ℕ → Type 0 = (λ y g c. IsValidGlobal y g c (length g.globals) x) in
      let l = room (λ n (y : Settings). n < y.limits.globals) _ _ globals_counted in
      may_be_added z section.globals m x _ (λ h. (seen_to P h.0, l.0 h.1)) (λ h. (seen_back P h.0, l.1 h.1))

  pub elements_decided : (x : ElementTree Code)
      → (IsValidElement s.spaces.settings constants s.spaces.imported_globals x × (length s.spaces.elements < s.spaces.settings.limits.element_segments))
      ↔ ((n : ModuleTree) × Adds z section.element_segments m x n)
  elements_decided x =
      let P : Settings → Module → ℕ → Type 0 = (λ y g c. IsValidElement y g c x) in
      let l = room (λ n (y : Settings). n < y.limits.element_segments) _ _ elements_counted in
      may_be_added z section.element_segments m x _ (λ h. (seen_to P h.0, l.0 h.1)) (λ h. (seen_back P h.0, l.1 h.1))

  pub data_decided : (x : DataTree Code) → IsValidData s.spaces.settings constants s.spaces.imported_globals x.mode ↔ ((n : ModuleTree) × Adds z section.data_segments m x n)
  data_decided x =
      let P : Settings → Module → ℕ → Type 0 = (λ y g c. IsValidData y g c x.mode) in
      may_be_added z section.data_segments m x _ (λ h. (seen_to P h, tt)) (λ h. seen_back P h.0)

  -- ---- where sections begin

  pub functions_fit : (n : ℕ) → (length s.spaces.functions + n ≤ s.spaces.settings.limits.functions) ↔ Fits z section.functions m n
  functions_fit n = room (λ k (y : Settings). k + n ≤ y.limits.functions) _ _ functions_counted

  pub tables_fit : (n : ℕ) → (length s.spaces.tables + n ≤ most_tables s.spaces.settings) ↔ Fits z section.tables m n
  tables_fit n = room (λ k (y : Settings). k + n ≤ most_tables y) _ _ tables_counted

  pub memories_fit : (n : ℕ) → (length s.spaces.memories + n ≤ most_memories s.spaces.settings) ↔ Fits z section.memories m n
  memories_fit n = room (λ k (y : Settings). k + n ≤ most_memories y) _ _ memories_counted

  pub tags_fit : (n : ℕ) → (length s.spaces.tags + n ≤ s.spaces.settings.limits.tags) ↔ Fits z section.tags m n
  tags_fit n = room (λ k (y : Settings). k + n ≤ y.limits.tags) _ _ tags_counted

  pub globals_fit : (n : ℕ) → (length s.spaces.globals + n ≤ s.spaces.settings.limits.globals) ↔ Fits z section.globals m n
  globals_fit n = room (λ k (y : Settings). k + n ≤ y.limits.globals) _ _ globals_counted
