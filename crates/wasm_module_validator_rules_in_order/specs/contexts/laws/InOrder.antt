-- A module is valid exactly where it is valid as it is read.
use Rattle.std.proofs.Common.{◌≡◌, ◌<◌, ℕ, suc, ◌+◌, List, [], ◌∷◌, ◌++◌, map, length, take, flat_map, inl, inr, refl, sym, ap, ◌∙◌, subst, arith}
use Rattle.std.proofs.lemmas.List.{append_assoc, length-map, length-append, length_push, take_all}
use Rattle.wasm_types.specs.settings.Settings.{Settings}
use Rattle.wasm_types.specs.externs.declared.global.GlobalType.{GlobalType}
use Rattle.wasm_types.specs.trees.Trees.{TypeTree}
use Rattle.wasm_types.specs.trees.ValidGroup.{type_at}
use Rattle.wasm_sections_items.specs.imports.Spells.{ExportTree}
use Rattle.wasm_sections_items.specs.segments.Spells.{GlobalTree, DataTree}
use Rattle.wasm_sections_items.specs.segments.Tables.{TableTree}
use Rattle.wasm_sections_items.specs.elements.Spells.{ElementTree}
use Rattle.wasm_operators_encoding.specs.expressions.Code.{Code}
use Rattle.wasm_operator_validator_rules.specs.Context.{Module, Global}
use Rattle.wasm_operator_validator_rules.specs.Row.{IsOneOf}
use Rattle.wasm_operator_validator_rules.specs.constants.Constants.{seeing}
use Rattle.wasm_module_validator_rules.specs.Syntax.{ModuleTree}
use Rattle.wasm_module_validator_rules.specs.Spaces.{FunctionEntry, types_behind, imported, global_of, global_in, function_space, imported_globals, referred_in, referred_in_option, exported_function}
use Rattle.wasm_module_validator_rules.specs.Spaces.{referred_in_mode, referred_in_items, module_of}
use Rattle.wasm_module_validator_rules.specs.Valid.{Each, IsValidExport, IsValidTable, HaveOwnNames, AreValidGlobals}
use Rattle.wasm_module_validator_rules.specs.Valid.{IsValidElement, IsValidData, IsValid, IsValidWith}
use Rattle.wasm_module_validator_rules_in_order.specs.contexts.Agreement.{MayReferToEach}
use Rattle.wasm_module_validator_rules_in_order.specs.contexts.InOrder.{imports_read, functions_read, tables_read, tags_read, globals_read, exports_read, elements_read, data_read, context_so_far}
use Rattle.wasm_module_validator_rules_in_order.specs.contexts.InOrder.{InTurn, IsImportInTurn, IsFunctionInTurn, IsTableInTurn, IsTagInTurn, IsGlobalInTurn, IsElementInTurn, IsDataInTurn, IsValidInOrder, IsValidInOrderWith}
use Rattle.wasm_module_validator_rules_in_order.specs.contexts.laws.Lists.{each_left, each_right, each_joined, each_from, each_trivial, each_both, one_left, one_right, one_of_item, one_of_places}
use Rattle.wasm_module_validator_rules_in_order.specs.contexts.laws.Lists.{in_turn, from_turn, turn_both, turn_first, turn_second, front_of_space}
use Rattle.wasm_module_validator_rules_in_order.specs.contexts.laws.Types.{function_agrees, tag_agrees, import_agrees}
use Rattle.wasm_module_validator_rules_in_order.specs.contexts.laws.Items.{valid_table_agrees, valid_global_agrees, element_agrees, data_agrees, export_agrees}

-- ---- functions that code may refer to

-- in the context so far, to each
pub may_refer_so_far : (m : ModuleTree) (xs : List ℕ) → MayReferToEach (context_so_far m) xs
may_refer_so_far m [] = tt
may_refer_so_far m (x ∷ xs) =
    let e : 0 + x ≡ x = omega arith in
    let here : x < length (context_so_far m).functions → IsOneOf x (context_so_far m).referenced = λ l. subst (λ n. IsOneOf n (context_so_far m).referenced) e
    (one_of_places (function_space m) 0 x (omega (arith, l, length-map (function_space m) (λ (f : FunctionEntry). type_at (types_behind [] m.types) f.type)))) in
    (here, may_refer_so_far m xs)

-- in the whole module, to those that are named in a table, a global, an export or an element segment
may_refer_among : (g : Module) (xs : List ℕ) → ((x : ℕ) → IsOneOf x xs → IsOneOf x g.referenced) → MayReferToEach g xs
may_refer_among g [] f = tt
may_refer_among g (x ∷ xs) f = (λ l. f x (inl refl), may_refer_among g xs (λ y h. f y (inr h)))

-- ---- names of exports

abbrev HasNewName : List ExportTree → ExportTree → Type 0
HasNewName before x = Each (λ (e : ExportTree). e.name ≡ x.name → ⊥) before

names_in_turn : (before xs : List ExportTree) → HaveOwnNames xs → Each (HasNewName before) xs → InTurn HasNewName before xs
names_in_turn before [] h k = tt
names_in_turn before (x ∷ xs) h k =
    let new = each_from (HasNewName (before ++ x ∷ [])) (λ (y : ExportTree). HasNewName before y × (x.name ≡ y.name → ⊥)) (λ y b. each_joined _ before (x ∷ []) b.0 (b.1, tt)) xs
    (each_both (HasNewName before) (λ (y : ExportTree). x.name ≡ y.name → ⊥) xs k.1 h.0) in
    (k.0, names_in_turn (before ++ x ∷ []) xs h.1 new)

names_from_turn : (before xs : List ExportTree) → InTurn HasNewName before xs → HaveOwnNames xs × Each (HasNewName before) xs
names_from_turn before [] h = (tt, tt)
names_from_turn before (x ∷ xs) h =
    let rest = names_from_turn (before ++ x ∷ []) xs h.1 in
    let others = each_from (λ (y : ExportTree). x.name ≡ y.name → ⊥) (HasNewName (before ++ x ∷ [])) (λ y b. (each_right _ before (x ∷ []) b).0) xs rest.1 in
    let own = each_from (HasNewName before) (HasNewName (before ++ x ∷ [])) (λ y b. each_left _ before (x ∷ []) b) xs rest.1 in
    ((others, rest.0), (h.0, own))

module _ (z : Settings) (m : ModuleTree) where
  abbrev whole : Module
  whole = module_of m

  abbrev count : ℕ
  count = imported_globals m

  abbrev space : List TypeTree
  space = types_behind [] m.types

  -- ---- which functions are among those that code may refer to

  abbrev table_names : TableTree Code → List ℕ
  table_names t = referred_in_option t.init

  abbrev global_names : GlobalTree Code → List ℕ
  global_names x = referred_in x.init

  abbrev export_names : ExportTree → List ℕ
  export_names e = exported_function e.kind e.index

  abbrev element_names : ElementTree Code → List ℕ
  element_names e = referred_in_mode e.mode ++ referred_in_items e.items

  by_table : (before rest : List (TableTree Code)) (x : TableTree Code) → m.tables ≡ before ++ (x ∷ rest) → MayReferToEach whole (table_names x)
  by_table before rest x e = may_refer_among whole (table_names x) (λ n h. one_left n (flat_map table_names m.tables) _
      (subst (λ xs. IsOneOf n (flat_map table_names xs)) (sym e) (one_of_item table_names n before x rest h)))

  by_global : (before rest : List (GlobalTree Code)) (x : GlobalTree Code) → m.globals ≡ before ++ (x ∷ rest) → MayReferToEach whole (global_names x)
  by_global before rest x e = may_refer_among whole (global_names x) (λ n h. one_right n (flat_map table_names m.tables) _ (one_left n (flat_map global_names m.globals) _
      (subst (λ xs. IsOneOf n (flat_map global_names xs)) (sym e) (one_of_item global_names n before x rest h))))

  by_element : (before rest : List (ElementTree Code)) (x : ElementTree Code) → m.element_segments ≡ before ++ (x ∷ rest) → MayReferToEach whole (element_names x)
  by_element before rest x e = may_refer_among whole (element_names x) (λ n h. one_right n (flat_map table_names m.tables) _ (one_right n (flat_map global_names m.globals) _
      (one_right n (flat_map export_names m.exports) _ (subst (λ xs. IsOneOf n (flat_map element_names xs)) (sym e) (one_of_item element_names n before x rest h)))))

  -- ---- what tables and globals see

  abbrev imports : List GlobalType
  imports = imported global_of m

  abbrev type_of : GlobalTree Code → GlobalType
  type_of x = x.ty

  -- the first globals of the whole module: what is imported, and these of its own
  first_globals : (before rest : List (GlobalTree Code)) (n : ℕ) → m.globals ≡ before ++ rest → n ≡ count + length before
      → take n whole.globals ≡ map (global_in space) (imports ++ map type_of before)
  first_globals before rest n e k = front_of_space (global_in space) type_of imports m.globals before rest n e k

  -- a table sees those that are imported
  table_sees : (before : List (TableTree Code)) → (seeing count whole).globals ≡ (seeing count (context_so_far (tables_read m before))).globals
  table_sees before = first_globals [] m.globals count refl (omega arith) ∙ sym (front_of_space (global_in space) type_of imports [] [] [] count refl (omega arith))

  -- a global sees those before it
  abbrev globals_before : List (GlobalTree Code) → List Global
  globals_before before = (context_so_far (globals_read m before)).globals

  many_before : (before : List (GlobalTree Code)) → length (globals_before before) ≡ count + length before
  many_before before = length-map (imports ++ map type_of before) (global_in space) ∙ (length-append imports (map type_of before) ∙ ap (λ n. count + n) (length-map before type_of))

  global_sees : (before rest : List (GlobalTree Code)) → m.globals ≡ before ++ rest → (n : ℕ) → n ≡ count + length before
      → (seeing n whole).globals ≡ (seeing (length (globals_before before)) (context_so_far (globals_read m before))).globals
  global_sees before rest e n k = first_globals before rest n e k ∙ sym (take_all (length (globals_before before)) (globals_before before) (omega arith))

  -- ---- sections, both ways

  table_goes : (before rest : List (TableTree Code)) (x : TableTree Code) → m.tables ≡ before ++ (x ∷ rest) → IsValidTable z whole count x → IsTableInTurn z m before x
  table_goes before rest x e k = valid_table_agrees whole (context_so_far (tables_read m before)) z count
      (record { types = refl; functions = refl; globals = table_sees before; exact_functions = refl }) x (may_refer_so_far (tables_read m before) (table_names x)) k

  table_comes : (before rest : List (TableTree Code)) (x : TableTree Code) → m.tables ≡ before ++ (x ∷ rest) → IsTableInTurn z m before x → IsValidTable z whole count x
  table_comes before rest x e k = valid_table_agrees (context_so_far (tables_read m before)) whole z count
      (record { types = refl; functions = refl; globals = sym (table_sees before); exact_functions = refl }) x (by_table before rest x e) k

  one_further : (before : List (GlobalTree Code)) (x : GlobalTree Code) (n : ℕ) → n ≡ count + length before → suc n ≡ count + length (before ++ x ∷ [])
  one_further before x n k = omega (arith, k, length_push before x)

  globals_go : (before xs : List (GlobalTree Code)) (n : ℕ) → m.globals ≡ before ++ xs → n ≡ count + length before → AreValidGlobals z whole count n xs → InTurn (IsGlobalInTurn z m) before xs
  globals_go before [] n e k h = tt
  globals_go before (x ∷ xs) n e k h =
      let here = valid_global_agrees whole (context_so_far (globals_read m before)) z count n (length (globals_before before))
      (record { types = refl; functions = refl; globals = global_sees before (x ∷ xs) e n k; exact_functions = refl }) x (may_refer_so_far (globals_read m before) (global_names x)) h.0 in
      (here, globals_go (before ++ x ∷ []) xs (suc n) (e ∙ sym (append_assoc before (x ∷ []) xs)) (one_further before x n k) h.1)

  globals_come : (before xs : List (GlobalTree Code)) (n : ℕ) → m.globals ≡ before ++ xs → n ≡ count + length before → InTurn (IsGlobalInTurn z m) before xs → AreValidGlobals z whole count n xs
  globals_come before [] n e k h = tt
  globals_come before (x ∷ xs) n e k h =
      let here = valid_global_agrees (context_so_far (globals_read m before)) whole z count (length (globals_before before)) n
      (record { types = refl; functions = refl; globals = sym (global_sees before (x ∷ xs) e n k); exact_functions = refl }) x (by_global before xs x e) h.0 in
      (here, globals_come (before ++ x ∷ []) xs (suc n) (e ∙ sym (append_assoc before (x ∷ []) xs)) (one_further before x n k) h.1)

  element_goes : (before rest : List (ElementTree Code)) (x : ElementTree Code) → m.element_segments ≡ before ++ (x ∷ rest) → IsValidElement z whole count x → IsElementInTurn z m before x
  element_goes before rest x e k = element_agrees whole (context_so_far (elements_read m before)) z count
      (record { constants = record { types = refl; functions = refl; globals = refl; exact_functions = refl }; tables = refl }) x (may_refer_so_far (elements_read m before) (element_names x)) k

  element_comes : (before rest : List (ElementTree Code)) (x : ElementTree Code) → m.element_segments ≡ before ++ (x ∷ rest) → IsElementInTurn z m before x → IsValidElement z whole count x
  element_comes before rest x e k = element_agrees (context_so_far (elements_read m before)) whole z count
      (record { constants = record { types = refl; functions = refl; globals = refl; exact_functions = refl }; tables = refl }) x (by_element before rest x e) k

  data_goes : (before rest : List (DataTree Code)) (x : DataTree Code) → m.data_segments ≡ before ++ (x ∷ rest) → IsValidData z whole count x.mode → IsDataInTurn z m before x
  data_goes before rest x e k = data_agrees whole (context_so_far (data_read m before)) z count
      (record { constants = record { types = refl; functions = refl; globals = refl; exact_functions = refl }; memories = refl }) x.mode k

  data_comes : (before rest : List (DataTree Code)) (x : DataTree Code) → m.data_segments ≡ before ++ (x ∷ rest) → IsDataInTurn z m before x → IsValidData z whole count x.mode
  data_comes before rest x e k = data_agrees (context_so_far (data_read m before)) whole z count
      (record { constants = record { types = refl; functions = refl; globals = refl; exact_functions = refl }; memories = refl }) x.mode k

  abbrev IsExportHere : List ExportTree → ExportTree → Type 0
  IsExportHere before x = IsValidExport z (context_so_far (exports_read m before)) x.kind x.index

  export_goes : (before rest : List ExportTree) (x : ExportTree) → m.exports ≡ before ++ (x ∷ rest) → IsValidExport z whole x.kind x.index → IsExportHere before x
  export_goes before rest x e k = export_agrees whole (context_so_far (exports_read m before)) z (record { functions = refl; tables = refl; memories = refl; globals = refl; tags = refl }) x.kind x.index k

  export_comes : (before rest : List ExportTree) (x : ExportTree) → m.exports ≡ before ++ (x ∷ rest) → IsExportHere before x → IsValidExport z whole x.kind x.index
  export_comes before rest x e k = export_agrees (context_so_far (exports_read m before)) whole z (record { functions = refl; tables = refl; memories = refl; globals = refl; tags = refl }) x.kind x.index k

  -- ---- modules

  pub valid_in_order_with : {Bodies : Type 0} → IsValidWith Bodies z whole count m → IsValidInOrderWith Bodies z m
  valid_in_order_with k = record {
    types = k.types;
    imports = in_turn m.imports _ (IsImportInTurn z m) (λ before rest x e. import_agrees whole (context_so_far (imports_read m before)) (record { types = refl }) z x.ty) [] m.imports refl k.imports;
    functions = in_turn m.functions _ (IsFunctionInTurn z m) (λ before rest x e. function_agrees whole (context_so_far (functions_read m before)) (record { types = refl }) x) [] m.functions refl k.functions;
    tables = in_turn m.tables _ (IsTableInTurn z m) table_goes [] m.tables refl k.tables;
    memories = k.memories;
    tags = in_turn m.tags _ (IsTagInTurn z m) (λ before rest x e. tag_agrees whole (context_so_far (tags_read m before)) (record { types = refl }) z x) [] m.tags refl k.tags;
    globals = globals_go [] m.globals count refl (omega arith) k.globals;
    exports = turn_both IsExportHere HasNewName [] m.exports (in_turn m.exports _ IsExportHere export_goes [] m.exports refl k.exports) (names_in_turn [] m.exports k.names (each_trivial m.exports));
    start = k.start;
    element_segments = in_turn m.element_segments _ (IsElementInTurn z m) element_goes [] m.element_segments refl k.element_segments;
    data_count = k.data_count;
    code = k.code;
    data_segments = in_turn m.data_segments _ (IsDataInTurn z m) data_goes [] m.data_segments refl k.data_segments;
    limits = k.limits;
  }

  pub valid_by_order_with : {Bodies : Type 0} → IsValidInOrderWith Bodies z m → IsValidWith Bodies z whole count m
  valid_by_order_with k = record {
    types = k.types;
    imports = from_turn m.imports _ (IsImportInTurn z m) (λ before rest x e. import_agrees (context_so_far (imports_read m before)) whole (record { types = refl }) z x.ty) [] m.imports refl k.imports;
    functions = from_turn m.functions _ (IsFunctionInTurn z m) (λ before rest x e. function_agrees (context_so_far (functions_read m before)) whole (record { types = refl }) x) [] m.functions refl k.functions;
    tables = from_turn m.tables _ (IsTableInTurn z m) table_comes [] m.tables refl k.tables;
    memories = k.memories;
    tags = from_turn m.tags _ (IsTagInTurn z m) (λ before rest x e. tag_agrees (context_so_far (tags_read m before)) whole (record { types = refl }) z x) [] m.tags refl k.tags;
    globals = globals_come [] m.globals count refl (omega arith) k.globals;
    exports = from_turn m.exports _ IsExportHere export_comes [] m.exports refl (turn_first IsExportHere HasNewName [] m.exports k.exports);
    names = (names_from_turn [] m.exports (turn_second IsExportHere HasNewName [] m.exports k.exports)).0;
    start = k.start;
    element_segments = from_turn m.element_segments _ (IsElementInTurn z m) element_comes [] m.element_segments refl k.element_segments;
    data_count = k.data_count;
    code = k.code;
    data_segments = from_turn m.data_segments _ (IsDataInTurn z m) data_comes [] m.data_segments refl k.data_segments;
    limits = k.limits;
  }

  pub valid_in_order : IsValid z m → IsValidInOrder z m
  valid_in_order = valid_in_order_with

  pub valid_by_order : IsValidInOrder z m → IsValid z m
  valid_by_order = valid_by_order_with
