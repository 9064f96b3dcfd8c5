-- What the types alone decide: the second context has the types of the first.
use Rattle.std.proofs.Common.{◌≡◌, ℕ, subst, inl, inr}
use Rattle.wasm_types.specs.settings.Settings.{Settings}
use Rattle.wasm_types.specs.values.Reference.{Reference}
use Rattle.wasm_types.specs.values.declared.value.ValType.{ValType}
use Rattle.wasm_types.specs.externs.declared.table.TableType.{TableType}
use Rattle.wasm_types.specs.externs.declared.global.GlobalType.{GlobalType}
use Rattle.wasm_types.specs.externs.declared.tag.TagType.{TagType}
use Rattle.wasm_sections_items.specs.declared.imports.type_ref.TypeRef.{TypeRef}
use Rattle.wasm_sections_items.specs.declared.imports.type_ref.TypeRef.TheVariants as import
use Rattle.wasm_operator_validator_rules.specs.Operands.{ValueType}
use Rattle.wasm_operator_validator_rules.specs.Context.{Module, IsType}
use Rattle.wasm_module_validator_rules.specs.Valid.{IsValidValueType, IsFunctionIndex, IsValidElementType, IsValidTableType, IsValidGlobalType, IsValidTagType, IsValidImport}
use Rattle.wasm_module_validator_rules_in_order.specs.contexts.Agreement.{AgreeOnTypes}

module _ (g h : Module) where
  -- the second context, with the types of the first
  abbrev typed_as : Module
  typed_as = record h { types = g.types }

  typed_is : AgreeOnTypes g h → typed_as ≡ h
  typed_is e = λ i. record h { types = e.types i }

  type_as : (bits : ℕ) (v : ValType) (t : ValueType) → IsType bits g v t → IsType bits typed_as v t
  type_as bits v t k = record { allowed = k.allowed; known = k.known; is = k.is }

  value_as : (z : Settings) (v : ValType) → IsValidValueType z g v → IsValidValueType z typed_as v
  value_as z v k = (k.0, type_as z.features v k.0 k.1)

  element_as : (z : Settings) (r : Reference) → IsValidElementType z g r → IsValidElementType z typed_as r
  element_as z r (inl e) = inl e
  element_as z r (inr k) = inr (value_as z _ k)

  table_as : (z : Settings) (t : TableType) → IsValidTableType z g t → IsValidTableType z typed_as t
  table_as z t k = record { element = element_as z t.element_type k.element; limits = k.limits; wide = k.wide; shared = k.shared }

  global_as : (z : Settings) (t : GlobalType) → IsValidGlobalType z g t → IsValidGlobalType z typed_as t
  global_as z t k = record { content = value_as z t.content_type k.content; shared = k.shared }

  tag_as : (z : Settings) (t : TagType) → IsValidTagType z g t → IsValidTagType z typed_as t
  tag_as z t k = record { exceptions = k.exceptions; type = k.type; signature = k.signature; named = k.named; function = k.function; results = k.results }

  import_as : (z : Settings) (t : TypeRef) → IsValidImport z g t → IsValidImport z typed_as t
  import_as z (import.Func x) k = k
  import_as z (import.FuncExact x) k = k
  import_as z (import.Table t) k = table_as z t k
  import_as z (import.Memory t) k = k
  import_as z (import.Global t) k = (global_as z t k.0, k.1)
  import_as z (import.Tag t) k = tag_as z t k

  module _ (e : AgreeOnTypes g h) where
    pub type_agrees : (bits : ℕ) (v : ValType) (t : ValueType) → IsType bits g v t → IsType bits h v t
    type_agrees bits v t k = subst (λ (x : Module). IsType bits x v t) (typed_is e) (type_as bits v t k)

    pub value_agrees : (z : Settings) (v : ValType) → IsValidValueType z g v → IsValidValueType z h v
    value_agrees z v k = subst (λ (x : Module). IsValidValueType z x v) (typed_is e) (value_as z v k)

    pub function_agrees : (x : ℕ) → IsFunctionIndex g x → IsFunctionIndex h x
    function_agrees x k = subst (λ (y : Module). IsFunctionIndex y x) (typed_is e) k

    pub table_agrees : (z : Settings) (t : TableType) → IsValidTableType z g t → IsValidTableType z h t
    table_agrees z t k = subst (λ (x : Module). IsValidTableType z x t) (typed_is e) (table_as z t k)

    pub global_agrees : (z : Settings) (t : GlobalType) → IsValidGlobalType z g t → IsValidGlobalType z h t
    global_agrees z t k = subst (λ (x : Module). IsValidGlobalType z x t) (typed_is e) (global_as z t k)

    pub tag_agrees : (z : Settings) (t : TagType) → IsValidTagType z g t → IsValidTagType z h t
    tag_agrees z t k = subst (λ (x : Module). IsValidTagType z x t) (typed_is e) (tag_as z t k)

    pub import_agrees : (z : Settings) (t : TypeRef) → IsValidImport z g t → IsValidImport z h t
    import_agrees z t k = subst (λ (x : Module). IsValidImport z x t) (typed_is e) (import_as z t k)
