-- A valid module has no operators on vectors, while a set of features does not ask that these be judged.
use Rattle.std.proofs.Common.{◌≡◌, ℕ, suc, ◌<◌, ◌^◌, List, [], ◌∷◌, Option, Some, None}
use Rattle.std.specs.List.{AllZip}
use Rattle.wasm_types.specs.settings.Settings.{Settings}
use Rattle.wasm_types.specs.externs.declared.table.TableType.{TableType}
use Rattle.wasm_operators_encoding.specs.expressions.Code.{Code}
use Rattle.wasm_sections_items.specs.segments.Spells.{GlobalTree, DataTree, DataMode}
use Rattle.wasm_sections_items.specs.segments.Spells as data_mode
use Rattle.wasm_sections_items.specs.segments.Tables.{TableTree}
use Rattle.wasm_sections_items.specs.elements.Spells.{ElementTree, ElementMode, ElementItems, passive, active, declared, functions, expressions}
use Rattle.wasm_operator_validator_rules.specs.Operands.{ValueType}
use Rattle.wasm_operator_validator_rules.specs.Context.{Module}
use Rattle.wasm_operator_validator_rules.specs.constants.Constants.{IsConstant, constant_context}
use Rattle.wasm_operator_validator_expression.specs.laws.Vectors.{bodies_have_no_vectors}
use Rattle.wasm_module_validator_rules.specs.Syntax.{Function}
use Rattle.wasm_module_validator_rules.specs.Spaces.{module_of, imported_globals}
use Rattle.wasm_module_validator_rules.specs.Valid.{Each, IfThere, IsInitialised, IsValidTable, IsValidGlobal, AreValidGlobals, IsValidMode, AreValidItems, IsValidElement, IsValidData}
use Rattle.wasm_module_validator_rules.specs.Valid.{HasValidBody, body_context}
use Rattle.wasm_module_validator.specs.Unasked.{IsWithout, ModeIsWithout, ItemsAreWithout, DataIsWithout, HasNoVectorCode, VectorsAreAskedFor}

module _ (z : Settings) (below : z.features < 2 ^ 28) where
  constant_without : (g : Module) (imported : ℕ) (t : ValueType) (c : Code) → IsConstant z.features g imported t c → IsWithout c
  constant_without g imported t c k = bodies_have_no_vectors (constant_context z.features g t) 0 c below k.typed

  constants_without : (g : Module) (imported : ℕ) (t : ValueType) (cs : List Code) → Each (IsConstant z.features g imported t) cs → Each IsWithout cs
  constants_without g imported t [] h = tt
  constants_without g imported t (c ∷ cs) (k, h) = (constant_without g imported t c k, constants_without g imported t cs h)

  module _ (g : Module) (imported : ℕ) where
    initialised_without : (t : TableType) (o : Option Code) → IsInitialised z g imported t o → IfThere IsWithout o
    initialised_without t None h = tt
    initialised_without t (Some c) (has, k) = constant_without _ imported _ c k

    tables_without : (xs : List (TableTree Code)) → Each (IsValidTable z g imported) xs → Each (λ (x : TableTree Code). IfThere IsWithout x.init) xs
    tables_without [] h = tt
    tables_without (x ∷ xs) (v, h) = (initialised_without x.ty x.init v.1, tables_without xs h)

    globals_without : (seen : ℕ) (xs : List (GlobalTree Code)) → AreValidGlobals z g imported seen xs → Each (λ (x : GlobalTree Code). IsWithout x.init) xs
    globals_without seen [] h = tt
    globals_without seen (x ∷ xs) (v, h) = (constant_without _ imported _ x.init v.1, globals_without (suc seen) xs h)

    mode_without : (t : ValueType) (u : ElementMode Code) → IsValidMode z g imported t u → ModeIsWithout u
    mode_without t passive h = tt
    mode_without t (active x c) (v, at, fits, k) = constant_without _ imported _ c k
    mode_without t declared h = tt

    items_without : (xs : ElementItems Code) → AreValidItems z g imported xs → ItemsAreWithout xs
    items_without (functions xs) h = tt
    items_without (expressions r cs) (v, h) = constants_without g imported _ cs h

    elements_without : (xs : List (ElementTree Code)) → Each (IsValidElement z g imported) xs
        → Each (λ (x : ElementTree Code). ModeIsWithout x.mode × ItemsAreWithout x.items) xs
    elements_without [] h = tt
    elements_without (x ∷ xs) (v, h) = ((mode_without _ x.mode v.mode, items_without x.items v.items), elements_without xs h)

    mode_of_data_without : (u : DataMode Code) → IsValidData z g imported u → DataIsWithout u
    mode_of_data_without data_mode.passive h = tt
    mode_of_data_without (data_mode.active x c) (m, at, k) = constant_without _ imported _ c k

    data_without : (xs : List (DataTree Code)) → Each (λ (x : DataTree Code). IsValidData z g imported x.mode) xs → Each (λ (x : DataTree Code). DataIsWithout x.mode) xs
    data_without [] h = tt
    data_without (x ∷ xs) (v, h) = (mode_of_data_without x.mode v, data_without xs h)

  bodies_without : (g : Module) (ts : List ℕ) (fs : List Function) → AllZip (HasValidBody z g) ts fs → Each (λ (f : Function). IsWithout f.body) fs
  bodies_without g ts [] h = tt
  bodies_without g [] (f ∷ fs) h = absurd h
  bodies_without g (t ∷ ts) (f ∷ fs) ((type, at, v), h) =
      (bodies_have_no_vectors (body_context z g type v.signature f.locals) _ f.body below v.body, bodies_without g ts fs h)

pub vectors_are_asked_for : VectorsAreAskedFor
vectors_are_asked_for z bytes m below judged = let g = module_of m in let imported = imported_globals m in record {
  tables = tables_without z below g imported m.tables judged.valid.tables;
  globals = globals_without z below g imported imported m.globals judged.valid.globals;
  element_segments = elements_without z below g imported m.element_segments judged.valid.element_segments;
  code = bodies_without z below g m.functions m.code judged.valid.code;
  data_segments = data_without z below g imported m.data_segments judged.valid.data_segments;
}
