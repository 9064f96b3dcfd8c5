-- What a call of the state leaves stands for every tree with the item more.
use Rattle.std.proofs.Common.{◌≡◌, ◌∙◌, ◌+◌, ◌<◌, ℕ, List, [], ◌∷◌, ◌++◌, length, map, Some, refl, sym, ap, subst}
use Rattle.std.proofs.lemmas.List.{map_push, append_assoc}
use Rattle.std.proofs.lemmas.Option.{slice_get_within}
use Rattle.wasm_types.specs.settings.Settings.{Settings}
use Rattle.wasm_types.specs.values.Reference.{Reference}
use Rattle.wasm_types.specs.externs.declared.table.TableType.{TableType}
use Rattle.wasm_types.specs.externs.declared.memory.MemoryType.{MemoryType}
use Rattle.wasm_types.specs.externs.declared.global.GlobalType.{GlobalType}
use Rattle.wasm_types.specs.externs.declared.tag.TagType.{TagType}
use Rattle.wasm_module_validator_type_storage.specs.trees.Groups.{Group}
use Rattle.wasm_module_validator_resources.specs.index_spaces.Spaces.{Spaces, own_function}
use Rattle.wasm_module_validator_resources.specs.Reading.{context_of}
use Rattle.wasm_module_validator_state.specs.invariant.so_far.SoFar.{sizes_of, IsReadAs}
use Rattle.wasm_module_validator_state.specs.invariant.so_far.Referring.{referring_to_each}
use Rattle.wasm_module_validator_state.specs.invariant.so_far.laws.Adding.{function_is_added, table_is_added, memory_is_added, tag_is_added, global_is_added, element_is_added, data_count_is_set, others_are_read, function_is_referred_to}
use Rattle.wasm_module_validator_state.specs.invariant.so_far.laws.Referring.{function_is_not_referred_to, export_refers, table_refers, global_refers, element_refers}
use Rattle.wasm_module_validator_state.specs.invariant.so_far.laws.Limits.{import_size_is, export_size_is}
use Rattle.wasm_module_validator_state.specs.Adding.{adding_function, adding_table, adding_memory, adding_global, adding_tag, adding_element, referring, counting_data, exporting}
use Rattle.wasm_module_validator_state.specs.Items.{Items}
use Rattle.wasm_sections_items.specs.declared.imports.kind.ExternalKind.{ExternalKind}
use Rattle.wasm_sections_items.specs.declared.imports.kind.ExternalKind.TheVariants as kind
use Rattle.wasm_sections_items.specs.imports.Spells.{ImportTree, ExportTree}
use Rattle.wasm_module_validator_checks.specs.rules.Syntax.{ModuleTree}
use Rattle.wasm_module_validator_checks.specs.rules.Spaces.{element_type, module_of, referenced_in, exported_function, referred_in, referred_in_option, referred_in_mode, referred_in_items}
use Rattle.wasm_module_validator_checks.specs.rules.Spaces as tree
use Rattle.wasm_operators_encoding.specs.expressions.Code.{Code}
use Rattle.wasm_sections_items.specs.segments.Spells.{GlobalTree}
use Rattle.wasm_sections_items.specs.segments.Tables.{TableTree}
use Rattle.wasm_sections_items.specs.elements.Spells.{ElementTree}
use Rattle.wasm_operator_validator_stacks.specs.resources.Meaning.{table_in, global_in, reference_in}
use Rattle.wasm_module_validator_checks.specs.rules.Valid.{import_size, export_size}
use Rattle.wasm_operator_validator_rules.specs.Context.{Module}
use Rattle.wasm_module_validator_resources.specs.rules_in_order.contexts.Agreement.{AgreeOnTypes, AgreeForExports}
use Rattle.wasm_module_validator_resources.specs.rules_in_order.contexts.InOrder.{context_so_far}
use Rattle.wasm_module_validator_resources.specs.rules_in_order.Sections as section
use Rattle.wasm_module_validator_resources.specs.rules_in_order.Sections.{Section, Item, adding, up_to}
use Rattle.wasm_module_validator_resources.specs.rules_in_order.Adding.{Adds, sum_from, size_so_far}
use Rattle.wasm_module_validator_state.specs.invariant.Standing.{Stands, constants_of, marking}
use Rattle.wasm_module_validator_state.specs.invariant.laws.Deciding.{exports_to, counts}
use Rattle.wasm_module_validator_state.specs.invariant.laws.Naming.{table_is_kept, global_is_kept, elements_are_kept}

-- ---- nothing was read behind a section

-- nor is it where an item of the section is added
pub still_last : (s : Section) (m : ModuleTree) (x : Item s) → m ≡ up_to s m → adding s m x ≡ up_to s (adding s m x)
still_last section.types m x e = ap (λ k. adding section.types k x) e
still_last section.imports m x e = λ i. record (e i) { imports = m.imports ++ x ∷ [] }
still_last section.functions m x e = λ i. record (e i) { functions = m.functions ++ x ∷ [] }
still_last section.tables m x e = λ i. record (e i) { tables = m.tables ++ x ∷ [] }
still_last section.memories m x e = λ i. record (e i) { memories = m.memories ++ x ∷ [] }
still_last section.tags m x e = λ i. record (e i) { tags = m.tags ++ x ∷ [] }
still_last section.globals m x e = λ i. record (e i) { globals = m.globals ++ x ∷ [] }
still_last section.exports m x e = λ i. record (e i) { exports = m.exports ++ x ∷ [] }
still_last section.start m x e = λ i. record (e i) { start = Some x }
still_last section.element_segments m x e = λ i. record (e i) { element_segments = m.element_segments ++ x ∷ [] }
still_last section.data_count m x e = λ i. record (e i) { data_count = Some x }
still_last section.data_segments m x e = λ i. record (e i) { data_segments = m.data_segments ++ x ∷ [] }

-- ---- sizes

pub import_sizes_are : (g h : Module) → AgreeOnTypes g h → (is : List ImportTree) → map (λ (i : ImportTree). import_size g i.ty) is ≡ map (λ (i : ImportTree). import_size h i.ty) is
import_sizes_are g h a [] = refl
import_sizes_are g h a (i ∷ is) = λ k. import_size_is g h a i.ty k ∷ import_sizes_are g h a is k

export_sizes_are : (g h : Module) → AgreeForExports g h → (es : List ExportTree)
    → map (λ (e : ExportTree). export_size g e.kind e.index) es ≡ map (λ (e : ExportTree). export_size h e.kind e.index) es
export_sizes_are g h a [] = refl
export_sizes_are g h a (e ∷ es) = λ k. export_size_is g h a e.kind e.index k ∷ export_sizes_are g h a es k

-- where nothing is exported, sizes are those of imports
sizes_without_exports : (g h : Module) → AgreeOnTypes g h → (is : List ImportTree) (es : List ExportTree) → es ≡ []
    → map (λ (i : ImportTree). import_size g i.ty) is ++ map (λ (e : ExportTree). export_size g e.kind e.index) es
    ≡ map (λ (i : ImportTree). import_size h i.ty) is ++ map (λ (e : ExportTree). export_size h e.kind e.index) es
sizes_without_exports g h a is es e =
    let none : map (λ (e : ExportTree). export_size g e.kind e.index) es ≡ map (λ (e : ExportTree). export_size h e.kind e.index) es =
    (ap (map (λ (e : ExportTree). export_size g e.kind e.index)) e ∙ sym (ap (map (λ (e : ExportTree). export_size h e.kind e.index)) e)) in
    λ k. import_sizes_are g h a is k ++ none k

sizes_with_exports : (g h : Module) → AgreeOnTypes g h → AgreeForExports g h → (is : List ImportTree) (es : List ExportTree)
    → map (λ (i : ImportTree). import_size g i.ty) is ++ map (λ (e : ExportTree). export_size g e.kind e.index) es
    ≡ map (λ (i : ImportTree). import_size h i.ty) is ++ map (λ (e : ExportTree). export_size h e.kind e.index) es
sizes_with_exports g h a b is es = λ k. import_sizes_are g h a is k ++ export_sizes_are g h b es k

-- a sum with one number more
pub sum_pushed : (sum : ℕ) (ns : List ℕ) (n : ℕ) → sum_from sum (ns ++ n ∷ []) ≡ sum_from sum ns + n
sum_pushed sum [] n = refl
sum_pushed sum (k ∷ ns) n = sum_pushed (sum + k) ns n

-- ---- exports

pub kept_settings : (k : ExternalKind) (x : ℕ) (s : Spaces) → (exporting k x s).settings ≡ s.settings
kept_settings kind.Func x s = refl
kept_settings kind.FuncExact x s = refl
kept_settings kind.Table x s = refl
kept_settings kind.Memory x s = refl
kept_settings kind.Global x s = refl
kept_settings kind.Tag x s = refl

pub kept_types : (k : ExternalKind) (x : ℕ) (s : Spaces) → (exporting k x s).types ≡ s.types
kept_types kind.Func x s = refl
kept_types kind.FuncExact x s = refl
kept_types kind.Table x s = refl
kept_types kind.Memory x s = refl
kept_types kind.Global x s = refl
kept_types kind.Tag x s = refl

exported : (k : ExternalKind) (x : ℕ) (s : Spaces) → (exporting k x s).functions ≡ referring_to_each (exported_function k x) s.functions
exported kind.Func x s = refl
exported kind.FuncExact x s = refl
exported kind.Table x s = refl
exported kind.Memory x s = refl
exported kind.Global x s = refl
exported kind.Tag x s = refl

still_read : (groups : List Group) (s : Spaces) (m : ModuleTree) → IsReadAs groups s m → (k : ExternalKind) (x : ℕ) → IsReadAs groups (exporting k x s) m
still_read groups s m r kind.Func x = function_is_referred_to groups s m r x
still_read groups s m r kind.FuncExact x = function_is_referred_to groups s m r x
still_read groups s m r kind.Table x = r
still_read groups s m r kind.Memory x = r
still_read groups s m r kind.Global x = r
still_read groups s m r kind.Tag x = r

-- ---- functions that are named

marked_read : (groups : List Group) (xs : List ℕ) (s : Spaces) (m : ModuleTree) → IsReadAs groups s m → IsReadAs groups (marking xs s) m
marked_read groups [] s m r = r
marked_read groups (x ∷ xs) s m r = marked_read groups xs (referring x s) m (function_is_referred_to groups s m r x)

-- ---- items

module _ (groups : List Group) (s : Items) (z : Settings) (m : ModuleTree) (r : Stands groups s z m) where
  pub functions_stand : m ≡ up_to section.functions m → (x : ℕ) (n : ModuleTree) → Adds z section.functions m x n
      → Stands groups (record s { spaces = adding_function x s.spaces }) z n
  functions_stand u x n a =
      let k : ModuleTree = adding section.functions m x in
      let none : referenced_in m ≡ [] = ap referenced_in u in
      subst (λ t. Stands groups (record s { spaces = adding_function x s.spaces }) z t) (sym a.added) (record {
        settings = r.settings;
        read = function_is_added groups s.spaces m r.read x;
        referred = function_is_not_referred_to s.spaces (adding_function x s.spaces) m k (own_function x) r.referred none none refl refl;
        imports = r.imports;
        exports = r.exports;
        size = r.size ∙ ap (sum_from 1) (sizes_without_exports (module_of m) (module_of k) (record { types = refl }) m.imports m.exports (ap (λ (t : ModuleTree). t.exports) u));
      })

  pub memories_stand : m ≡ up_to section.memories m → (x : MemoryType) (n : ModuleTree) → Adds z section.memories m x n
      → Stands groups (record s { spaces = adding_memory x s.spaces }) z n
  memories_stand u x n a =
      let k : ModuleTree = adding section.memories m x in
      subst (λ t. Stands groups (record s { spaces = adding_memory x s.spaces }) z t) (sym a.added) (record {
        settings = r.settings;
        read = memory_is_added groups s.spaces m r.read x;
        referred = r.referred;
        imports = r.imports;
        exports = r.exports;
        size = r.size ∙ ap (sum_from 1) (sizes_without_exports (module_of m) (module_of k) (record { types = refl }) m.imports m.exports (ap (λ (t : ModuleTree). t.exports) u));
      })

  pub data_counts_stand : (x : ℕ) (n : ModuleTree) → Adds z section.data_count m x n → Stands groups (record s { spaces = counting_data x s.spaces }) z n
  data_counts_stand x n a =
      let k : ModuleTree = adding section.data_count m x in
      subst (λ t. Stands groups (record s { spaces = counting_data x s.spaces }) z t) (sym a.added) (record {
        settings = r.settings;
        read = data_count_is_set groups s.spaces m r.read x;
        referred = r.referred;
        imports = r.imports;
        exports = r.exports;
        size = r.size ∙ ap (sum_from 1) (sizes_with_exports (module_of m) (module_of k) (record { types = refl })
            (record { functions = refl; tables = refl; memories = refl; globals = refl; tags = refl }) m.imports m.exports);
      })

  pub starts_stand : (x : ℕ) (n : ModuleTree) → Adds z section.start m x n → Stands groups s z n
  starts_stand x n a =
      let k : ModuleTree = adding section.start m x in
      subst (λ t. Stands groups s z t) (sym a.added) (record {
        settings = r.settings;
        read = others_are_read groups s.spaces m r.read k refl;
        referred = r.referred;
        imports = r.imports;
        exports = r.exports;
        size = r.size;
      })

  pub exports_stand : (e : ExportTree) (n : ModuleTree) → Adds z section.exports m e n
      → Stands groups (record s {
        spaces = exporting e.kind e.index s.spaces;
        exports = s.exports ++ e ∷ [];
        type_size = s.type_size + export_size (context_of groups s.spaces) e.kind e.index;
      }) z n
  exports_stand e n a =
      let k : ModuleTree = adding section.exports m e in
      let after : Items = record s {
        spaces = exporting e.kind e.index s.spaces;
        exports = s.exports ++ e ∷ [];
        type_size = s.type_size + export_size (context_of groups s.spaces) e.kind e.index;
      } in
      let f : ExportTree → ℕ = (λ (x : ExportTree). export_size (module_of m) x.kind x.index) in
      let is : List ℕ = map (λ (i : ImportTree). import_size (module_of m) i.ty) m.imports in
      let there : sum_from 1 (is ++ map f (m.exports ++ e ∷ [])) ≡ size_so_far k = ap (sum_from 1) (sizes_with_exports (module_of m) (module_of k) (record { types = refl })
      (record { functions = refl; tables = refl; memories = refl; globals = refl; tags = refl }) m.imports (m.exports ++ e ∷ [])) in
      let pushed : is ++ map f (m.exports ++ e ∷ []) ≡ (is ++ map f m.exports) ++ f e ∷ [] =
      (ap (λ ns. is ++ ns) (map_push f m.exports e) ∙ sym (append_assoc is (map f m.exports) (f e ∷ []))) in
      let one : export_size (context_of groups s.spaces) e.kind e.index ≡ f e =
      (export_size_is (context_of groups s.spaces) (context_so_far m) (exports_to groups s z m r) e.kind e.index
      ∙ export_size_is (context_so_far m) (module_of m) (record { functions = refl; tables = refl; memories = refl; globals = refl; tags = refl }) e.kind e.index) in
      subst (λ t. Stands groups after z t) (sym a.added) (record {
        settings = kept_settings e.kind e.index s.spaces ∙ r.settings;
        read = others_are_read groups (exporting e.kind e.index s.spaces) m (still_read groups s.spaces m r.read e.kind e.index) k refl;
        referred = export_refers s.spaces m r.referred (exporting e.kind e.index s.spaces) e (exported e.kind e.index s.spaces);
        imports = r.imports;
        exports = ap (λ (es : List ExportTree). es ++ e ∷ []) r.exports;
        size = (λ i. r.size i + one i) ∙ (sym (sum_pushed 1 (is ++ map f m.exports) (f e)) ∙ (sym (ap (sum_from 1) pushed) ∙ there));
      })

  pub tags_stand : m ≡ up_to section.tags m → (x : TagType) (n : ModuleTree) → Adds z section.tags m x n
      → Stands groups (record s { spaces = adding_tag x.func_type_idx s.spaces }) z n
  tags_stand u x n a =
      let k : ModuleTree = adding section.tags m x in
      let l : x.func_type_idx < length s.spaces.types =
      subst (λ c. x.func_type_idx < c) (counts groups s z m r).types (slice_get_within (context_so_far m).types x.func_type_idx a.valid.type a.valid.named) in
      subst (λ t. Stands groups (record s { spaces = adding_tag x.func_type_idx s.spaces }) z t) (sym a.added) (record {
        settings = r.settings;
        read = tag_is_added groups s.spaces m r.read x l;
        referred = r.referred;
        imports = r.imports;
        exports = r.exports;
        size = r.size ∙ ap (sum_from 1) (sizes_without_exports (module_of m) (module_of k) (record { types = refl }) m.imports m.exports (ap (λ (t : ModuleTree). t.exports) u));
      })

  pub tables_stand : m ≡ up_to section.tables m → (x : TableTree Code) (kept : TableType)
      → table_in (constants_of groups s.spaces) kept ≡ tree.table_in (context_of groups s.spaces).types x.ty → sizes_of kept ≡ sizes_of x.ty
      → (n : ModuleTree) → Adds z section.tables m x n
      → Stands groups (record s { spaces = marking (referred_in_option x.init) (adding_table kept s.spaces) }) z n
  tables_stand u x kept e sizes n a =
      let k : ModuleTree = adding section.tables m x in
      let after : Spaces = marking (referred_in_option x.init) (adding_table kept s.spaces) in
      subst (λ t. Stands groups (record s { spaces = after }) z t) (sym a.added) (record {
        settings = r.settings;
        read = marked_read groups (referred_in_option x.init) (adding_table kept s.spaces) k
            (table_is_added groups s.spaces m r.read x kept (table_is_kept groups s.spaces m r.read x.ty kept e) sizes);
        referred = table_refers s.spaces m r.referred after x refl;
        imports = r.imports;
        exports = r.exports;
        size = r.size ∙ ap (sum_from 1) (sizes_without_exports (module_of m) (module_of k) (record { types = refl }) m.imports m.exports (ap (λ (t : ModuleTree). t.exports) u));
      })

  pub globals_stand : m ≡ up_to section.globals m → (x : GlobalTree Code) (kept : GlobalType)
      → global_in (constants_of groups s.spaces) kept ≡ tree.global_in (context_of groups s.spaces).types x.ty → (n : ModuleTree) → Adds z section.globals m x n
      → Stands groups (record s { spaces = marking (referred_in x.init) (adding_global kept s.spaces) }) z n
  globals_stand u x kept e n a =
      let k : ModuleTree = adding section.globals m x in
      let after : Spaces = marking (referred_in x.init) (adding_global kept s.spaces) in
      subst (λ t. Stands groups (record s { spaces = after }) z t) (sym a.added) (record {
        settings = r.settings;
        read = marked_read groups (referred_in x.init) (adding_global kept s.spaces) k
            (global_is_added groups s.spaces m r.read x kept (global_is_kept groups s.spaces m r.read x.ty kept e));
        referred = global_refers s.spaces m r.referred after x refl;
        imports = r.imports;
        exports = r.exports;
        size = r.size ∙ ap (sum_from 1) (sizes_without_exports (module_of m) (module_of k) (record { types = refl }) m.imports m.exports (ap (λ (t : ModuleTree). t.exports) u));
      })

  pub elements_stand : (x : ElementTree Code) (kept : Reference)
      → reference_in (constants_of groups s.spaces) kept ≡ element_type (context_of groups s.spaces).types x.items → (n : ModuleTree) → Adds z section.element_segments m x n
      → Stands groups (record s { spaces = marking (referred_in_mode x.mode ++ referred_in_items x.items) (adding_element kept s.spaces) }) z n
  elements_stand x kept e n a =
      let k : ModuleTree = adding section.element_segments m x in
      let named : List ℕ = referred_in_mode x.mode ++ referred_in_items x.items in
      let after : Spaces = marking named (adding_element kept s.spaces) in
      subst (λ t. Stands groups (record s { spaces = after }) z t) (sym a.added) (record {
        settings = r.settings;
        read = marked_read groups named (adding_element kept s.spaces) k (element_is_added groups s.spaces m r.read x kept (elements_are_kept groups s.spaces m r.read x.items kept e));
        referred = element_refers s.spaces m r.referred after x refl;
        imports = r.imports;
        exports = r.exports;
        size = r.size ∙ ap (sum_from 1) (sizes_with_exports (module_of m) (module_of k) (record { types = refl })
            (record { functions = refl; tables = refl; memories = refl; globals = refl; tags = refl }) m.imports m.exports);
      })

  pub data_stand : (x : Item section.data_segments) (n : ModuleTree) → Adds z section.data_segments m x n → Stands groups s z n
  data_stand x n a =
      let k : ModuleTree = adding section.data_segments m x in
      subst (λ t. Stands groups s z t) (sym a.added) (record {
        settings = r.settings;
        read = others_are_read groups s.spaces m r.read k refl;
        referred = r.referred;
        imports = r.imports;
        exports = r.exports;
        size = r.size;
      })
