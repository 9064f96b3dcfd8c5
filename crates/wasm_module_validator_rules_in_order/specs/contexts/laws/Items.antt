-- Items with constants, exports and the start function: the second context has of the first what they look at.
use Rattle.std.proofs.Common.{◌≡◌, ℕ, Bool, true, false, List, [], ◌∷◌, ◌++◌, flat_map, slice_get, Option, Some, None, sym, subst}
use Rattle.wasm_types.specs.settings.Settings.{Settings}
use Rattle.wasm_types.specs.trees.Types.{i32, i64}
use Rattle.wasm_types.specs.externs.declared.table.TableType.{TableType}
use Rattle.wasm_types.specs.values.declared.value.ValType.TheVariants as value
use Rattle.wasm_sections_items.specs.declared.imports.kind.ExternalKind.{ExternalKind}
use Rattle.wasm_sections_items.specs.segments.Spells.{GlobalTree, DataMode}
use Rattle.wasm_sections_items.specs.segments.Spells as data_mode
use Rattle.wasm_sections_items.specs.segments.Tables.{TableTree}
use Rattle.wasm_sections_items.specs.elements.Spells.{ElementTree, ElementMode, ElementItems, passive, active, declared, functions, expressions}
use Rattle.wasm_operators_encoding.specs.expressions.Code.{Code}
use Rattle.wasm_operator_validator_rules.specs.Operands.{ValueType}
use Rattle.wasm_operator_validator_rules.specs.Context.{Module, address_type}
use Rattle.wasm_operator_validator_rules.specs.constants.Constants.{seeing, IsConstant}
use Rattle.wasm_module_validator_rules.specs.Spaces.{value_in, referred_in, referred_in_option, referred_in_mode, referred_in_items}
use Rattle.wasm_module_validator_rules.specs.Valid.{Each, IsInitialised, IsValidTable, IsValidGlobal, IsValidMode, AreValidItems, IsValidElement, IsValidData}
use Rattle.wasm_module_validator_rules.specs.Valid.{IsValidExport, IsValidStart}
use Rattle.wasm_module_validator_rules_in_order.specs.contexts.Agreement.{AgreeForConstants, MayReferToEach, AgreeForElements, AgreeForData, AgreeForExports, AgreeOnFunctions}
use Rattle.wasm_module_validator_rules_in_order.specs.contexts.laws.Lists.{each_left, each_right}
use Rattle.wasm_module_validator_rules_in_order.specs.contexts.laws.Types.{value_agrees, table_agrees, global_agrees}
use Rattle.wasm_module_validator_rules_in_order.specs.contexts.laws.Constants.{constant_agrees}
use Rattle.wasm_module_validator_rules_in_order.specs.contexts.laws.Numbers.{number_names_none}

module _ (g h : Module) where
  -- ---- tables and globals, whose values see some globals

  -- the value of a table of this type
  initialised_agrees : (z : Settings) (count : ℕ) → AgreeForConstants (seeing count g) (seeing count h) → (t : TableType) (o : Option Code) → MayReferToEach h (referred_in_option o)
      → IsInitialised z g count t o → IsInitialised z h count t o
  initialised_agrees z count e t None m k = k
  initialised_agrees z count e t (Some c) m k =
      let here = constant_agrees (seeing count g) (seeing count h) z.features count (value_in g.types (value.Ref t.element_type)) e c m k.1 in
      (k.0, subst (λ ts. IsConstant z.features (seeing count h) count (value_in ts (value.Ref t.element_type)) c) e.types here)

  pub valid_table_agrees : (z : Settings) (count : ℕ) → AgreeForConstants (seeing count g) (seeing count h) → (x : TableTree Code) → MayReferToEach h (referred_in_option x.init)
      → IsValidTable z g count x → IsValidTable z h count x
  valid_table_agrees z count e x m k = (table_agrees g h (record { types = e.types }) z x.ty k.0, initialised_agrees z count e x.ty x.init m k.1)

  pub valid_global_agrees : (z : Settings) (count i j : ℕ) → AgreeForConstants (seeing i g) (seeing j h) → (x : GlobalTree Code) → MayReferToEach h (referred_in x.init)
      → IsValidGlobal z g count i x → IsValidGlobal z h count j x
  valid_global_agrees z count i j e x m k =
      let here = constant_agrees (seeing i g) (seeing j h) z.features count (value_in g.types x.ty.content_type) e x.init m k.1 in
      (global_agrees g h (record { types = e.types }) z x.ty k.0, subst (λ ts. IsConstant z.features (seeing j h) count (value_in ts x.ty.content_type) x.init) e.types here)

  -- ---- element segments

  abbrev elements_as : Module
  elements_as = record h { types = g.types; functions = g.functions; globals = g.globals; exact_functions = g.exact_functions; tables = g.tables }

  elements_are : AgreeForElements g h → elements_as ≡ h
  elements_are e = λ i. record h {
    types = e.constants.types i;
    functions = e.constants.functions i;
    globals = e.constants.globals i;
    exact_functions = e.constants.exact_functions i;
    tables = e.tables i;
  }

  same_for_elements : AgreeForConstants g elements_as
  same_for_elements = record { types = λ i. g.types; functions = λ i. g.functions; globals = λ i. g.globals; exact_functions = λ i. g.exact_functions }

  mode_as : (z : Settings) (count : ℕ) (t : ValueType) (x : ElementMode Code) → MayReferToEach elements_as (referred_in_mode x) → IsValidMode z g count t x → IsValidMode z elements_as count t x
  mode_as z count t passive m k = k
  mode_as z count t declared m k = k
  mode_as z count t (active y c) m k = (k.0, k.1, k.2, constant_agrees g elements_as z.features count _ same_for_elements c m k.3)

  constants_as : (bits count : ℕ) (t : ValueType) (cs : List Code) → MayReferToEach elements_as (flat_map referred_in cs) → Each (IsConstant bits g count t) cs
      → Each (IsConstant bits elements_as count t) cs
  constants_as bits count t [] m k = tt
  constants_as bits count t (c ∷ cs) m k = (
    constant_agrees g elements_as bits count t same_for_elements c (each_left _ (referred_in c) (flat_map referred_in cs) m) k.0,
    constants_as bits count t cs (each_right _ (referred_in c) (flat_map referred_in cs) m) k.1,
  )

  items_as : (z : Settings) (count : ℕ) (x : ElementItems Code) → MayReferToEach elements_as (referred_in_items x) → AreValidItems z g count x → AreValidItems z elements_as count x
  items_as z count (functions xs) m k = k
  items_as z count (expressions r cs) m k = (value_agrees g elements_as (record { types = λ i. g.types }) z _ k.0, constants_as z.features count _ cs m k.1)

  element_as : (z : Settings) (count : ℕ) (x : ElementTree Code) → MayReferToEach elements_as (referred_in_mode x.mode ++ referred_in_items x.items)
      → IsValidElement z g count x → IsValidElement z elements_as count x
  element_as z count x m k = record {
    mode = mode_as z count _ x.mode (each_left _ (referred_in_mode x.mode) (referred_in_items x.items) m) k.mode;
    items = items_as z count x.items (each_right _ (referred_in_mode x.mode) (referred_in_items x.items) m) k.items;
    within = k.within;
  }

  pub element_agrees : (z : Settings) (count : ℕ) → AgreeForElements g h → (x : ElementTree Code) → MayReferToEach h (referred_in_mode x.mode ++ referred_in_items x.items)
      → IsValidElement z g count x → IsValidElement z h count x
  element_agrees z count e x m k =
      let may = subst (λ (y : Module). MayReferToEach y (referred_in_mode x.mode ++ referred_in_items x.items)) (sym (elements_are e)) m in
      subst (λ (y : Module). IsValidElement z y count x) (elements_are e) (element_as z count x may k)

  -- ---- data segments

  abbrev data_as : Module
  data_as = record h { types = g.types; functions = g.functions; globals = g.globals; exact_functions = g.exact_functions; memories = g.memories }

  data_is : AgreeForData g h → data_as ≡ h
  data_is e = λ i. record h {
    types = e.constants.types i;
    functions = e.constants.functions i;
    globals = e.constants.globals i;
    exact_functions = e.constants.exact_functions i;
    memories = e.memories i;
  }

  -- an offset is a number, and names no function
  offset_may : (bits count : ℕ) (wide : Bool) (c : Code) → IsConstant bits g count (address_type wide) c → MayReferToEach data_as (referred_in c)
  offset_may bits count true c k = subst (MayReferToEach data_as) (sym (number_names_none bits g count i64 c k)) tt
  offset_may bits count false c k = subst (MayReferToEach data_as) (sym (number_names_none bits g count i32 c k)) tt

  same_for_data : AgreeForConstants g data_as
  same_for_data = record { types = λ i. g.types; functions = λ i. g.functions; globals = λ i. g.globals; exact_functions = λ i. g.exact_functions }

  data_mode_as : (z : Settings) (count : ℕ) (x : DataMode Code) → IsValidData z g count x → IsValidData z data_as count x
  data_mode_as z count data_mode.passive k = k
  data_mode_as z count (data_mode.active y c) k = (k.0, k.1, constant_agrees g data_as z.features count _ same_for_data c (offset_may z.features count k.0.memory64 c k.2) k.2)

  pub data_agrees : (z : Settings) (count : ℕ) → AgreeForData g h → (x : DataMode Code) → IsValidData z g count x → IsValidData z h count x
  data_agrees z count e x k = subst (λ (y : Module). IsValidData z y count x) (data_is e) (data_mode_as z count x k)

  -- ---- exports and the start function

  abbrev exports_as : Module
  exports_as = record h { functions = g.functions; tables = g.tables; memories = g.memories; globals = g.globals; tags = g.tags }

  exports_are : AgreeForExports g h → exports_as ≡ h
  exports_are e = λ i. record h { functions = e.functions i; tables = e.tables i; memories = e.memories i; globals = e.globals i; tags = e.tags i }

  pub export_agrees : (z : Settings) → AgreeForExports g h → (k : ExternalKind) (x : ℕ) → IsValidExport z g k x → IsValidExport z h k x
  export_agrees z e k x v = subst (λ (y : Module). IsValidExport z y k x) (exports_are e) v

  pub start_agrees : AgreeOnFunctions g h → (x : ℕ) → IsValidStart g x → IsValidStart h x
  start_agrees e x k = (k.0, subst (λ fs. slice_get fs x ≡ Some k.0) e.functions k.1, k.2)
