-- Types that are kept by ids mean what is written, where look-ups say that they do while constants are judged.
use Rattle.std.proofs.Common.{◌≡◌, ◌∙◌, List, [], refl, sym, ap}
use Rattle.wasm_types.specs.trees.declared.index.UnpackedIndex.{UnpackedIndex}
use Rattle.wasm_types.specs.trees.declared.index.UnpackedIndex.TheVariants as index
use Rattle.wasm_types.specs.trees.Types.{HeapOf, abstract, concrete, exact, heap_map, ValueOf, number, ref, value_map}
use Rattle.wasm_types.specs.values.Reference.{Reference}
use Rattle.wasm_types.specs.values.Trees.{heap_of}
use Rattle.wasm_types.specs.values.Values.{value_of}
use Rattle.wasm_types.specs.values.declared.value.ValType.{ValType}
use Rattle.wasm_types.specs.externs.declared.table.TableType.{TableType}
use Rattle.wasm_types.specs.externs.declared.global.GlobalType.{GlobalType}
use Rattle.wasm_operator_validator_stacks.specs.resources.Meaning.{named_type, type_in, reference_in, table_in, global_in}
use Rattle.wasm_module_validator_type_storage.specs.trees.Groups.{Group}
use Rattle.wasm_module_validator_resources.specs.index_spaces.Spaces.{Spaces}
use Rattle.wasm_module_validator_resources.specs.Reading.{names_in, context_of}
use Rattle.wasm_module_validator_state.specs.invariant.so_far.SoFar.{IsReadAs}
use Rattle.wasm_operator_validator_rules.specs.Operands.{ValueType}
use Rattle.wasm_operators_encoding.specs.expressions.Code.{Code}
use Rattle.wasm_sections_items.specs.elements.Spells.{ElementItems}
use Rattle.wasm_module_validator_checks.specs.rules.Syntax.{ModuleTree}
use Rattle.wasm_module_validator_checks.specs.rules.Spaces as tree
use Rattle.wasm_module_validator_checks.specs.rules.Spaces.{types_behind, element_type}
use Rattle.wasm_module_validator_state.specs.invariant.Standing.{constants_of}

module _ (groups : List Group) (s : Spaces) where
  -- a name means the same wherever the types are the same
  name_means : (i : UnpackedIndex) → named_type (constants_of groups s) i ≡ named_type (names_in groups s.types) i
  name_means (index.Module n) = refl
  name_means (index.RecGroup n) = refl
  name_means (index.Id n) = refl

  heap_means : (h : HeapOf UnpackedIndex) → heap_map (named_type (constants_of groups s)) h ≡ heap_map (named_type (names_in groups s.types)) h
  heap_means (abstract b a) = refl
  heap_means (concrete i) = ap concrete (name_means i)
  heap_means (exact i) = ap exact (name_means i)

  value_means : (v : ValueOf UnpackedIndex) → value_map (named_type (constants_of groups s)) v ≡ value_map (named_type (names_in groups s.types)) v
  value_means (number n) = refl
  value_means (ref b h) = ap (ref b) (heap_means h)

  type_means : (v : ValType) → type_in (constants_of groups s) v ≡ type_in (names_in groups s.types) v
  unfolding type_in
  type_means v = value_means (value_of v)

  reference_means : (r : Reference) → reference_in (constants_of groups s) r ≡ reference_in (names_in groups s.types) r
  reference_means r = ap (ref r.nullable) (heap_means (heap_of r.heap))

  table_means : (t : TableType) → table_in (constants_of groups s) t ≡ table_in (names_in groups s.types) t
  table_means t = ap (λ (v : ValueType). record { element = v; table64 = t.table64; shared = t.shared }) (reference_means t.element_type)

  global_means : (t : GlobalType) → global_in (constants_of groups s) t ≡ global_in (names_in groups s.types) t
  global_means t = ap (λ (v : ValueType). record { content = v; mutable = t.mutable; shared = t.shared }) (type_means t.content_type)

  -- ---- what is kept

  module _ (m : ModuleTree) (r : IsReadAs groups s m) where
    pub table_is_kept : (written kept : TableType) → table_in (constants_of groups s) kept ≡ tree.table_in (context_of groups s).types written
        → table_in (names_in groups s.types) kept ≡ tree.table_in (types_behind [] m.types) written
    table_is_kept written kept e = sym (table_means kept) ∙ (e ∙ ap (λ ts. tree.table_in ts written) r.types)

    pub global_is_kept : (written kept : GlobalType) → global_in (constants_of groups s) kept ≡ tree.global_in (context_of groups s).types written
        → global_in (names_in groups s.types) kept ≡ tree.global_in (types_behind [] m.types) written
    global_is_kept written kept e = sym (global_means kept) ∙ (e ∙ ap (λ ts. tree.global_in ts written) r.types)

    -- elements, which are functions or of a type that is written
    pub elements_are_kept : (xs : ElementItems Code) (kept : Reference) → reference_in (constants_of groups s) kept ≡ element_type (context_of groups s).types xs
        → reference_in (names_in groups s.types) kept ≡ element_type (types_behind [] m.types) xs
    elements_are_kept xs kept e = sym (reference_means kept) ∙ (e ∙ ap (λ ts. element_type ts xs) r.types)
