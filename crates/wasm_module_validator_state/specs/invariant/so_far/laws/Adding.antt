-- What is added to a module as far as it was read is added to the tree.
use Rattle.std.proofs.Common.{◌≡◌, ◌∙◌, ◌<◌, ℕ, zero, suc, true, List, [], ◌∷◌, ◌++◌, map, length, Option, Some, None, ap, refl, sym, subst, arith}
use Rattle.std.proofs.lemmas.List.{append_assoc, map_push, get_or-map}
use Rattle.wasm_types.specs.trees.declared.index.CoreTypeId.{CoreTypeId}
use Rattle.wasm_types.specs.settings.Settings.{Settings}
use Rattle.wasm_types.specs.trees.Trees.{TypeTree}
use Rattle.wasm_types.specs.trees.ValidGroup.{Written, type_at, types_of}
use Rattle.wasm_types.specs.values.Reference.{Reference}
use Rattle.wasm_types.specs.externs.declared.table.TableType.{TableType}
use Rattle.wasm_types.specs.externs.declared.memory.MemoryType.{MemoryType}
use Rattle.wasm_types.specs.externs.declared.global.GlobalType.{GlobalType}
use Rattle.wasm_types.specs.externs.declared.tag.TagType.{TagType}
use Rattle.wasm_sections_items.specs.segments.Spells.{GlobalTree}
use Rattle.wasm_sections_items.specs.segments.Tables.{TableTree}
use Rattle.wasm_sections_items.specs.elements.Spells.{ElementTree}
use Rattle.wasm_operators_encoding.specs.expressions.Code.{Code}
use Rattle.wasm_module_validator_checks.specs.rules.Syntax.{ModuleTree}
use Rattle.wasm_module_validator_checks.specs.rules.Spaces as tree
use Rattle.wasm_module_validator_checks.specs.rules.Spaces.{types_behind, function_with, function_of, table_of, memory_of, global_of, tag_of, imported, function_space, table_space, memory_space, global_space, tag_space, element_type}
use Rattle.wasm_module_validator_resources.specs.rules_in_order.contexts.InOrder.{no_items}
use Rattle.wasm_operator_validator_stacks.specs.resources.Meaning.{table_in, global_in, reference_in}
use Rattle.wasm_module_validator_type_storage.specs.trees.Groups.{Group, tree_of}
use Rattle.wasm_module_validator_type_groups.specs.adding.Interned.{space_of}
use Rattle.wasm_module_validator_resources.specs.index_spaces.declared.module.Function.{Function}
use Rattle.wasm_module_validator_resources.specs.index_spaces.Spaces.{Spaces, nothing_read, id_at, own_function, referring_to}
use Rattle.wasm_module_validator_resources.specs.Reading.{names_in}
use Rattle.wasm_module_validator_state.specs.invariant.so_far.SoFar.{entry_of, sizes_of, IsReadAs}

-- ---- lists

-- one more on each side
pub one_more : {A B C : Type 0} (f : A → C) (g : B → C) (xs : List A) (ys : List B) (x : A) (y : B) → map f xs ≡ map g ys → f x ≡ g y → map f (xs ++ x ∷ []) ≡ map g (ys ++ y ∷ [])
one_more f g xs ys x y e k = map_push f xs x ∙ ((λ i. e i ++ k i ∷ []) ∙ sym (map_push g ys y))

-- behind what is imported
behind : {A : Type 0} (imports own : List A) (x : A) → imports ++ (own ++ x ∷ []) ≡ (imports ++ own) ++ x ∷ []
behind imports own x = sym (append_assoc imports own (x ∷ []))

behind_mapped : {A C : Type 0} (f : C → A) (imports : List A) (own : List C) (x : C) → imports ++ map f (own ++ x ∷ []) ≡ (imports ++ map f own) ++ f x ∷ []
behind_mapped f imports own x = ap (λ xs. imports ++ xs) (map_push f own x) ∙ behind imports (map f own) (f x)

empty_from : {A B : Type 0} (f : A → B) (xs : List A) → map f xs ≡ [] → xs ≡ []
empty_from f [] e = refl
empty_from f (x ∷ xs) e = absurd cc

still_empty : {A B C : Type 0} (f : A → B) (g : A → C) (xs : List A) → map f xs ≡ [] → map g xs ≡ []
still_empty f g xs e = ap (map g) (empty_from f xs e)

-- ---- nothing, and types

pub nothing_is : (groups : List Group) (z : Settings) → IsReadAs groups (nothing_read z) no_items
nothing_is groups z = record {
  types = refl;
  functions = refl;
  tables = refl;
  table_sizes = refl;
  memories = refl;
  globals = refl;
  tags = refl;
  elements = refl;
  data_count = refl;
  imported_functions = refl;
  imported_globals = refl;
}

types_behind_one : (space : List TypeTree) (gs : List Written) (g : Written) → types_behind space (gs ++ g ∷ []) ≡ types_behind space gs ++ types_of (types_behind space gs) g
types_behind_one space [] g = refl
types_behind_one space (h ∷ gs) g = types_behind_one (space ++ types_of space h) gs g

-- a tree of which the types alone were read
abbrev pub types_alone : List Written → ModuleTree
types_alone gs = record no_items { types = gs }

-- a group, where nothing but groups was read
pub group_is_added : (old new : List Group) (s : Spaces) (ids : List CoreTypeId) (gs : List Written) (g : Written) → IsReadAs old s (types_alone gs)
    → space_of new ids ≡ space_of old s.types ++ types_of (space_of old s.types) g → IsReadAs new (record s { types = ids }) (types_alone (gs ++ g ∷ []))
group_is_added old new s ids gs g r e = record {
  types = e ∙ (ap (λ ts. ts ++ types_of ts g) r.types ∙ sym (types_behind_one [] gs g));
  functions = r.functions;
  tables = still_empty _ _ s.tables r.tables;
  table_sizes = still_empty _ _ s.tables r.tables;
  memories = r.memories;
  globals = still_empty _ _ s.globals r.globals;
  tags = still_empty _ _ s.tags r.tags;
  elements = still_empty _ _ s.elements r.elements;
  data_count = r.data_count;
  imported_functions = r.imported_functions;
  imported_globals = r.imported_globals;
}

-- ---- what the module has itself

module _ (groups : List Group) (s : Spaces) (m : ModuleTree) (r : IsReadAs groups s m) where
  abbrev space : List TypeTree
  space = types_behind [] m.types

  pub function_is_added : (x : ℕ) → IsReadAs groups (record s { functions = s.functions ++ own_function x ∷ [] }) (record m { functions = m.functions ++ x ∷ [] })
  function_is_added x = record {
    types = r.types;
    functions = map_push entry_of s.functions (own_function x) ∙ (ap (λ fs. fs ++ function_with true x ∷ []) r.functions ∙ sym (behind_mapped (function_with true) (imported function_of m) m.functions x));
    tables = r.tables;
    table_sizes = r.table_sizes;
    memories = r.memories;
    globals = r.globals;
    tags = r.tags;
    elements = r.elements;
    data_count = r.data_count;
    imported_functions = r.imported_functions;
    imported_globals = r.imported_globals;
  }

  pub table_is_added : (x : TableTree Code) (kept : TableType) → table_in (names_in groups s.types) kept ≡ tree.table_in space x.ty → sizes_of kept ≡ sizes_of x.ty
      → IsReadAs groups (record s { tables = s.tables ++ kept ∷ [] }) (record m { tables = m.tables ++ x ∷ [] })
  table_is_added x kept e k = record {
    types = r.types;
    functions = r.functions;
    tables = one_more (table_in (names_in groups s.types)) (tree.table_in space) s.tables (table_space m) kept x.ty r.tables e
        ∙ ap (map (tree.table_in space)) (sym (behind_mapped (λ (t : TableTree Code). t.ty) (imported table_of m) m.tables x));
    table_sizes = one_more sizes_of sizes_of s.tables (table_space m) kept x.ty r.table_sizes k
        ∙ ap (map sizes_of) (sym (behind_mapped (λ (t : TableTree Code). t.ty) (imported table_of m) m.tables x));
    memories = r.memories;
    globals = r.globals;
    tags = r.tags;
    elements = r.elements;
    data_count = r.data_count;
    imported_functions = r.imported_functions;
    imported_globals = r.imported_globals;
  }

  pub memory_is_added : (x : MemoryType) → IsReadAs groups (record s { memories = s.memories ++ x ∷ [] }) (record m { memories = m.memories ++ x ∷ [] })
  memory_is_added x = record {
    types = r.types;
    functions = r.functions;
    tables = r.tables;
    table_sizes = r.table_sizes;
    memories = ap (λ ms. ms ++ x ∷ []) r.memories ∙ sym (behind (imported memory_of m) m.memories x);
    globals = r.globals;
    tags = r.tags;
    elements = r.elements;
    data_count = r.data_count;
    imported_functions = r.imported_functions;
    imported_globals = r.imported_globals;
  }

  -- the type of an id that an index has
  pub tag_means : (x : ℕ) → x < length s.types → tree_of groups (id_at s.types x).0 ≡ type_at space x
  tag_means x l = sym (get_or-map (λ (i : CoreTypeId). tree_of groups i.0) s.types x (record { 0 = 0 }) _ l) ∙ ap (λ ts. type_at ts x) r.types

  pub tag_is_added : (x : TagType) → x.func_type_idx < length s.types
      → IsReadAs groups (record s { tags = s.tags ++ id_at s.types x.func_type_idx ∷ [] }) (record m { tags = m.tags ++ x ∷ [] })
  tag_is_added x l = record {
    types = r.types;
    functions = r.functions;
    tables = r.tables;
    table_sizes = r.table_sizes;
    memories = r.memories;
    globals = r.globals;
    tags = one_more (λ (i : CoreTypeId). tree_of groups i.0) (λ (t : TagType). type_at space t.func_type_idx) s.tags (tag_space m) (id_at s.types x.func_type_idx) x r.tags
        (tag_means x.func_type_idx l)
        ∙ ap (map (λ (t : TagType). type_at space t.func_type_idx)) (sym (behind (imported tag_of m) m.tags x));
    elements = r.elements;
    data_count = r.data_count;
    imported_functions = r.imported_functions;
    imported_globals = r.imported_globals;
  }

  pub global_is_added : (x : GlobalTree Code) (kept : GlobalType) → global_in (names_in groups s.types) kept ≡ tree.global_in space x.ty
      → IsReadAs groups (record s { globals = s.globals ++ kept ∷ [] }) (record m { globals = m.globals ++ x ∷ [] })
  global_is_added x kept e = record {
    types = r.types;
    functions = r.functions;
    tables = r.tables;
    table_sizes = r.table_sizes;
    memories = r.memories;
    globals = one_more (global_in (names_in groups s.types)) (tree.global_in space) s.globals (global_space m) kept x.ty r.globals e
        ∙ ap (map (tree.global_in space)) (sym (behind_mapped (λ (t : GlobalTree Code). t.ty) (imported global_of m) m.globals x));
    tags = r.tags;
    elements = r.elements;
    data_count = r.data_count;
    imported_functions = r.imported_functions;
    imported_globals = r.imported_globals;
  }

  pub element_is_added : (x : ElementTree Code) (kept : Reference) → reference_in (names_in groups s.types) kept ≡ element_type space x.items
      → IsReadAs groups (record s { elements = s.elements ++ kept ∷ [] }) (record m { element_segments = m.element_segments ++ x ∷ [] })
  element_is_added x kept e = record {
    types = r.types;
    functions = r.functions;
    tables = r.tables;
    table_sizes = r.table_sizes;
    memories = r.memories;
    globals = r.globals;
    tags = r.tags;
    elements = one_more (reference_in (names_in groups s.types)) (λ (y : ElementTree Code). element_type space y.items) s.elements m.element_segments kept x r.elements e;
    data_count = r.data_count;
    imported_functions = r.imported_functions;
    imported_globals = r.imported_globals;
  }

  pub data_count_is_set : (n : ℕ) → IsReadAs groups (record s { data_count = Some n }) (record m { data_count = Some n })
  data_count_is_set n = record {
    types = r.types;
    functions = r.functions;
    tables = r.tables;
    table_sizes = r.table_sizes;
    memories = r.memories;
    globals = r.globals;
    tags = r.tags;
    elements = r.elements;
    data_count = refl;
    imported_functions = r.imported_functions;
    imported_globals = r.imported_globals;
  }

  -- exports, the start function, bodies and data segments are in no space
  pub others_are_read : (m' : ModuleTree) → m' ≡ record m { exports = m'.exports; start = m'.start; code = m'.code; data_segments = m'.data_segments } → IsReadAs groups s m'
  others_are_read m' e = subst (IsReadAs groups s) (sym e) (record {
    types = r.types;
    functions = r.functions;
    tables = r.tables;
    table_sizes = r.table_sizes;
    memories = r.memories;
    globals = r.globals;
    tags = r.tags;
    elements = r.elements;
    data_count = r.data_count;
    imported_functions = r.imported_functions;
    imported_globals = r.imported_globals;
  })

  -- a function that code may refer to is what it was
  referring_stays : (n : ℕ) (fs : List Function) → map entry_of (referring_to n fs) ≡ map entry_of fs
  referring_stays n [] = refl
  referring_stays zero (f ∷ fs) = refl
  referring_stays (suc n) (f ∷ fs) = ap (λ es. entry_of f ∷ es) (referring_stays n fs)

  pub function_is_referred_to : (n : ℕ) → IsReadAs groups (record s { functions = referring_to n s.functions }) m
  function_is_referred_to n = record {
    types = r.types;
    functions = referring_stays n s.functions ∙ r.functions;
    tables = r.tables;
    table_sizes = r.table_sizes;
    memories = r.memories;
    globals = r.globals;
    tags = r.tags;
    elements = r.elements;
    data_count = r.data_count;
    imported_functions = r.imported_functions;
    imported_globals = r.imported_globals;
  }

-- ---- worked tables

module _ (groups : List Group) (z : Settings) (t : TableType) (x : TableTree Code) where
  -- a table was read, and this one is in the tree
  abbrev IsReadSo : Type 0
  IsReadSo = IsReadAs groups (record (nothing_read z) { tables = t ∷ [] }) (record no_items { tables = x ∷ [] })

  same_sizes : IsReadSo → sizes_of t ≡ sizes_of x.ty
  same_sizes r = let e = r.table_sizes in cc

  pub worked_initial : t.initial ≡ 0 → x.ty.initial ≡ 1 → IsReadSo → ⊥
  worked_initial a b r = let e = ap (λ (s : ℕ × Option ℕ). s.0) (same_sizes r) in omega (arith, a, b, e)

  none_of_one : (o : Option ℕ) → o ≡ None → o ≡ Some 1 → ⊥
  none_of_one o e k = let both : ◌≡◌ {A = Option ℕ} None (Some 1) = sym e ∙ k in absurd cc

  pub worked_maximum : t.maximum ≡ None → x.ty.maximum ≡ Some 1 → IsReadSo → ⊥
  worked_maximum a b r = none_of_one t.maximum a (ap (λ (s : ℕ × Option ℕ). s.1) (same_sizes r) ∙ b)
