-- What is imported to a module as far as it was read, while nothing but types and imports was, is imported in the tree.
use Rattle.std.proofs.Common.{◌≡◌, ◌∙◌, ◌<◌, ℕ, ◌+◌, Bool, true, false, List, [], ◌∷◌, ◌++◌, map, length, filter_map, Option, Some, None, ap, refl, sym}
use Rattle.std.specs.List.{cons_option}
use Rattle.std.proofs.lemmas.List.{append-nil, map_push, length_push}
use Rattle.wasm_types.specs.trees.declared.index.CoreTypeId.{CoreTypeId}
use Rattle.wasm_types.specs.trees.Trees.{TypeTree}
use Rattle.wasm_types.specs.trees.ValidGroup.{Written, type_at}
use Rattle.wasm_types.specs.externs.declared.table.TableType.{TableType}
use Rattle.wasm_types.specs.externs.declared.memory.MemoryType.{MemoryType}
use Rattle.wasm_types.specs.externs.declared.global.GlobalType.{GlobalType}
use Rattle.wasm_types.specs.externs.declared.tag.TagType.{TagType}
use Rattle.wasm_sections_items.specs.declared.imports.type_ref.TypeRef.{TypeRef}
use Rattle.wasm_sections_items.specs.declared.imports.type_ref.TypeRef.TheVariants as import
use Rattle.wasm_sections_items.specs.imports.Spells.{ImportTree}
use Rattle.wasm_module_validator_checks.specs.rules.Syntax.{ModuleTree}
use Rattle.wasm_module_validator_checks.specs.rules.Spaces as tree
use Rattle.wasm_module_validator_checks.specs.rules.Spaces.{types_behind, FunctionEntry, function_with, function_of, table_of, memory_of, global_of, tag_of, imported, table_space, global_space, tag_space}
use Rattle.wasm_module_validator_resources.specs.rules_in_order.contexts.InOrder.{no_items}
use Rattle.wasm_operator_validator_stacks.specs.resources.Meaning.{table_in, global_in}
use Rattle.wasm_module_validator_type_storage.specs.trees.Groups.{Group, tree_of}
use Rattle.wasm_module_validator_resources.specs.index_spaces.Spaces.{Spaces, id_at, imported_function}
use Rattle.wasm_module_validator_resources.specs.Reading.{names_in}
use Rattle.wasm_module_validator_state.specs.invariant.so_far.SoFar.{entry_of, sizes_of, IsReadAs}
use Rattle.wasm_module_validator_state.specs.invariant.so_far.laws.Adding.{one_more, tag_means}

-- ---- the imports of one kind

cons_joined : {A : Type 0} (o : Option A) (xs ys : List A) → cons_option o (xs ++ ys) ≡ cons_option o xs ++ ys
cons_joined None xs ys = refl
cons_joined (Some x) xs ys = refl

pushed : {A : Type 0} (f : TypeRef → Option A) (is : List ImportTree) (i : ImportTree)
    → filter_map (λ (j : ImportTree). f j.ty) (is ++ i ∷ []) ≡ filter_map (λ (j : ImportTree). f j.ty) is ++ cons_option (f i.ty) []
pushed f [] i = refl
pushed f (j ∷ is) i = ap (cons_option (f j.ty)) (pushed f is i) ∙ cons_joined (f j.ty) (filter_map (λ (k : ImportTree). f k.ty) is) (cons_option (f i.ty) [])

-- types and imports alone
abbrev pub imports_alone : List Written → List ImportTree → ModuleTree
imports_alone gs is = record no_items { types = gs; imports = is }

module _ (groups : List Group) (s : Spaces) (gs : List Written) (is : List ImportTree) (r : IsReadAs groups s (imports_alone gs is)) (i : ImportTree) where
  abbrev before : ModuleTree
  before = imports_alone gs is

  abbrev behind : ModuleTree
  behind = imports_alone gs (is ++ i ∷ [])

  abbrev space : List TypeTree
  space = types_behind [] gs

  same : {A : Type 0} (f : TypeRef → Option A) → f i.ty ≡ None → imported f behind ≡ imported f before
  same f e = pushed f is i ∙ (ap (λ o. imported f before ++ cons_option o []) e ∙ append-nil (imported f before))

  more : {A : Type 0} (f : TypeRef → Option A) (x : A) → f i.ty ≡ Some x → imported f behind ≡ imported f before ++ x ∷ []
  more f x e = pushed f is i ∙ ap (λ o. imported f before ++ cons_option o []) e

  -- in a space, where nothing stands behind what is imported
  stays : {A : Type 0} (f : TypeRef → Option A) → f i.ty ≡ None → imported f before ++ [] ≡ imported f behind ++ []
  stays f e = ap (λ xs. xs ++ []) (sym (same f e))

  grows : {A : Type 0} (f : TypeRef → Option A) (x : A) → f i.ty ≡ Some x → (imported f before ++ []) ++ x ∷ [] ≡ imported f behind ++ []
  grows f x e = ap (λ xs. xs ++ x ∷ []) (append-nil (imported f before)) ∙ (sym (more f x e) ∙ sym (append-nil (imported f behind)))

  function_goes_in : (exact : Bool) (x : ℕ) → function_of i.ty ≡ Some (function_with exact x) → table_of i.ty ≡ None → memory_of i.ty ≡ None → global_of i.ty ≡ None → tag_of i.ty ≡ None
      → IsReadAs groups (record s { functions = s.functions ++ imported_function exact x ∷ []; imported_functions = s.imported_functions + 1 }) behind
  function_goes_in exact x e a b c d = record {
    types = r.types;
    functions = map_push entry_of s.functions (imported_function exact x) ∙ (ap (λ fs. fs ++ function_with exact x ∷ []) r.functions ∙ grows function_of (function_with exact x) e);
    tables = r.tables ∙ ap (map (tree.table_in space)) (stays table_of a);
    table_sizes = r.table_sizes ∙ ap (map sizes_of) (stays table_of a);
    memories = r.memories ∙ stays memory_of b;
    globals = r.globals ∙ ap (map (tree.global_in space)) (stays global_of c);
    tags = r.tags ∙ ap (map (λ (t : TagType). type_at space t.func_type_idx)) (stays tag_of d);
    elements = r.elements;
    data_count = r.data_count;
    imported_functions = ap (λ n. n + 1) r.imported_functions ∙ (sym (length_push (imported function_of before) (function_with exact x)) ∙ ap length (sym (more function_of (function_with exact x) e)));
    imported_globals = r.imported_globals ∙ ap length (sym (same global_of c));
  }

  pub function_is_imported : (x : ℕ) → i.ty ≡ import.Func x
      → IsReadAs groups (record s { functions = s.functions ++ imported_function false x ∷ []; imported_functions = s.imported_functions + 1 }) behind
  function_is_imported x e = function_goes_in false x (ap function_of e) (ap table_of e) (ap memory_of e) (ap global_of e) (ap tag_of e)

  pub exact_function_is_imported : (x : ℕ) → i.ty ≡ import.FuncExact x
      → IsReadAs groups (record s { functions = s.functions ++ imported_function true x ∷ []; imported_functions = s.imported_functions + 1 }) behind
  exact_function_is_imported x e = function_goes_in true x (ap function_of e) (ap table_of e) (ap memory_of e) (ap global_of e) (ap tag_of e)

  pub table_is_imported : (t kept : TableType) → i.ty ≡ import.Table t → table_in (names_in groups s.types) kept ≡ tree.table_in space t → sizes_of kept ≡ sizes_of t
      → IsReadAs groups (record s { tables = s.tables ++ kept ∷ [] }) behind
  table_is_imported t kept e k l = record {
    types = r.types;
    functions = r.functions ∙ stays function_of (ap function_of e);
    tables = one_more (table_in (names_in groups s.types)) (tree.table_in space) s.tables (table_space before) kept t r.tables k ∙ ap (map (tree.table_in space)) (grows table_of t (ap table_of e));
    table_sizes = one_more sizes_of sizes_of s.tables (table_space before) kept t r.table_sizes l ∙ ap (map sizes_of) (grows table_of t (ap table_of e));
    memories = r.memories ∙ stays memory_of (ap memory_of e);
    globals = r.globals ∙ ap (map (tree.global_in space)) (stays global_of (ap global_of e));
    tags = r.tags ∙ ap (map (λ (y : TagType). type_at space y.func_type_idx)) (stays tag_of (ap tag_of e));
    elements = r.elements;
    data_count = r.data_count;
    imported_functions = r.imported_functions ∙ ap length (sym (same function_of (ap function_of e)));
    imported_globals = r.imported_globals ∙ ap length (sym (same global_of (ap global_of e)));
  }

  pub memory_is_imported : (t : MemoryType) → i.ty ≡ import.Memory t → IsReadAs groups (record s { memories = s.memories ++ t ∷ [] }) behind
  memory_is_imported t e = record {
    types = r.types;
    functions = r.functions ∙ stays function_of (ap function_of e);
    tables = r.tables ∙ ap (map (tree.table_in space)) (stays table_of (ap table_of e));
    table_sizes = r.table_sizes ∙ ap (map sizes_of) (stays table_of (ap table_of e));
    memories = ap (λ ms. ms ++ t ∷ []) r.memories ∙ grows memory_of t (ap memory_of e);
    globals = r.globals ∙ ap (map (tree.global_in space)) (stays global_of (ap global_of e));
    tags = r.tags ∙ ap (map (λ (y : TagType). type_at space y.func_type_idx)) (stays tag_of (ap tag_of e));
    elements = r.elements;
    data_count = r.data_count;
    imported_functions = r.imported_functions ∙ ap length (sym (same function_of (ap function_of e)));
    imported_globals = r.imported_globals ∙ ap length (sym (same global_of (ap global_of e)));
  }

  pub global_is_imported : (t kept : GlobalType) → i.ty ≡ import.Global t → global_in (names_in groups s.types) kept ≡ tree.global_in space t
      → IsReadAs groups (record s { globals = s.globals ++ kept ∷ []; imported_globals = s.imported_globals + 1 }) behind
  global_is_imported t kept e k = record {
    types = r.types;
    functions = r.functions ∙ stays function_of (ap function_of e);
    tables = r.tables ∙ ap (map (tree.table_in space)) (stays table_of (ap table_of e));
    table_sizes = r.table_sizes ∙ ap (map sizes_of) (stays table_of (ap table_of e));
    memories = r.memories ∙ stays memory_of (ap memory_of e);
    globals = one_more (global_in (names_in groups s.types)) (tree.global_in space) s.globals (global_space before) kept t r.globals k ∙ ap (map (tree.global_in space)) (grows global_of t (ap global_of e));
    tags = r.tags ∙ ap (map (λ (y : TagType). type_at space y.func_type_idx)) (stays tag_of (ap tag_of e));
    elements = r.elements;
    data_count = r.data_count;
    imported_functions = r.imported_functions ∙ ap length (sym (same function_of (ap function_of e)));
    imported_globals = ap (λ n. n + 1) r.imported_globals ∙ (sym (length_push (imported global_of before) t) ∙ ap length (sym (more global_of t (ap global_of e))));
  }

  pub tag_is_imported : (t : TagType) → i.ty ≡ import.Tag t → t.func_type_idx < length s.types
      → IsReadAs groups (record s { tags = s.tags ++ id_at s.types t.func_type_idx ∷ [] }) behind
  tag_is_imported t e l = record {
    types = r.types;
    functions = r.functions ∙ stays function_of (ap function_of e);
    tables = r.tables ∙ ap (map (tree.table_in space)) (stays table_of (ap table_of e));
    table_sizes = r.table_sizes ∙ ap (map sizes_of) (stays table_of (ap table_of e));
    memories = r.memories ∙ stays memory_of (ap memory_of e);
    globals = r.globals ∙ ap (map (tree.global_in space)) (stays global_of (ap global_of e));
    tags = one_more (λ (y : CoreTypeId). tree_of groups y.0) (λ (y : TagType). type_at space y.func_type_idx) s.tags (tag_space before) (id_at s.types t.func_type_idx) t r.tags
        (tag_means groups s before r t.func_type_idx l)
        ∙ ap (map (λ (y : TagType). type_at space y.func_type_idx)) (grows tag_of t (ap tag_of e));
    elements = r.elements;
    data_count = r.data_count;
    imported_functions = r.imported_functions ∙ ap length (sym (same function_of (ap function_of e)));
    imported_globals = r.imported_globals ∙ ap length (sym (same global_of (ap global_of e)));
  }
