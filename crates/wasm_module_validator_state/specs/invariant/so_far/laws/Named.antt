-- Types that are kept by ids mean what is written, where they mean it in the context of the module as far as it was read.
use Rattle.std.proofs.Common.{◌≡◌, ◌∙◌, ℕ, List, [], refl, sym, ap}
use Rattle.wasm_types.specs.trees.declared.index.UnpackedIndex.{UnpackedIndex}
use Rattle.wasm_types.specs.trees.declared.index.UnpackedIndex.TheVariants as index
use Rattle.wasm_types.specs.trees.Types.{HeapOf, abstract, concrete, exact, heap_map, ValueOf, number, ref, value_map}
use Rattle.wasm_types.specs.values.Reference.{Reference}
use Rattle.wasm_types.specs.values.Trees.{heap_of}
use Rattle.wasm_types.specs.values.Values.{value_of}
use Rattle.wasm_types.specs.values.declared.value.ValType.{ValType}
use Rattle.wasm_types.specs.externs.declared.table.TableType.{TableType}
use Rattle.wasm_types.specs.externs.declared.global.GlobalType.{GlobalType}
use Rattle.wasm_operator_validator_rules.specs.Operands.{ValueType}
use Rattle.wasm_operator_validator_rules.specs.Context.{Module, IsType, written_type}
use Rattle.wasm_module_validator_checks.specs.rules.Syntax.{ModuleTree}
use Rattle.wasm_module_validator_checks.specs.rules.Spaces as tree
use Rattle.wasm_module_validator_checks.specs.rules.Spaces.{types_behind, with_types, value_in}
use Rattle.wasm_operator_validator_stacks.specs.resources.Meaning.{named_type, type_in, reference_in, table_in, global_in}
use Rattle.wasm_module_validator_type_storage.specs.trees.Groups.{Group}
use Rattle.wasm_module_validator_resources.specs.index_spaces.Spaces.{Spaces}
use Rattle.wasm_module_validator_resources.specs.Reading.{names_in, context_of, meaning_of}
use Rattle.wasm_module_validator_state.specs.invariant.so_far.SoFar.{IsReadAs}

-- ---- a name means the same wherever the types are the same

module _ (groups : List Group) (s : Spaces) where
  name_means : (i : UnpackedIndex) → named_type (meaning_of groups s) i ≡ named_type (names_in groups s.types) i
  name_means (index.Module n) = refl
  name_means (index.RecGroup n) = refl
  name_means (index.Id n) = refl

  heap_means : (h : HeapOf UnpackedIndex) → heap_map (named_type (meaning_of groups s)) h ≡ heap_map (named_type (names_in groups s.types)) h
  heap_means (abstract b a) = refl
  heap_means (concrete i) = ap concrete (name_means i)
  heap_means (exact i) = ap exact (name_means i)

  value_means : (v : ValueOf UnpackedIndex) → value_map (named_type (meaning_of groups s)) v ≡ value_map (named_type (names_in groups s.types)) v
  value_means (number n) = refl
  value_means (ref b h) = ap (ref b) (heap_means h)

  written_means : (g : Module) (i : UnpackedIndex) → written_type g i ≡ written_type (with_types g.types) i
  written_means g (index.Module n) = refl
  written_means g (index.RecGroup n) = refl
  written_means g (index.Id n) = refl

  heap_written : (g : Module) (h : HeapOf UnpackedIndex) → heap_map (written_type g) h ≡ heap_map (written_type (with_types g.types)) h
  heap_written g (abstract b a) = refl
  heap_written g (concrete i) = ap concrete (written_means g i)
  heap_written g (exact i) = ap exact (written_means g i)

  value_written : (g : Module) (v : ValueOf UnpackedIndex) → value_map (written_type g) v ≡ value_map (written_type (with_types g.types)) v
  value_written g (number n) = refl
  value_written g (ref b h) = ap (ref b) (heap_written g h)

  type_named : (v : ValType) → type_in (meaning_of groups s) v ≡ type_in (names_in groups s.types) v
  unfolding type_in
  type_named v = value_means (value_of v)

  reference_named : (r : Reference) → reference_in (meaning_of groups s) r ≡ reference_in (names_in groups s.types) r
  reference_named r = ap (ref r.nullable) (heap_means (heap_of r.heap))

  table_named : (t : TableType) → table_in (meaning_of groups s) t ≡ table_in (names_in groups s.types) t
  table_named t = ap (λ (v : ValueType). record { element = v; table64 = t.table64; shared = t.shared }) (reference_named t.element_type)

  global_named : (t : GlobalType) → global_in (meaning_of groups s) t ≡ global_in (names_in groups s.types) t
  global_named t = ap (λ (v : ValueType). record { content = v; mutable = t.mutable; shared = t.shared }) (type_named t.content_type)

  -- ---- what is kept

  module _ (m : ModuleTree) (r : IsReadAs groups s m) where
    pub value_is_named : (bits : ℕ) (written kept : ValType) → IsType bits (context_of groups s) written (type_in (meaning_of groups s) kept)
        → type_in (names_in groups s.types) kept ≡ value_in (types_behind [] m.types) written
    value_is_named bits written kept k =
        sym (type_named kept) ∙ (k.is ∙ (value_written (context_of groups s) (value_of written) ∙ ap (λ ts. value_in ts written) r.types))

    pub reference_is_named : (written : ValType) (kept : Reference) → reference_in (meaning_of groups s) kept ≡ value_in (context_of groups s).types written
        → reference_in (names_in groups s.types) kept ≡ value_in (types_behind [] m.types) written
    reference_is_named written kept e = sym (reference_named kept) ∙ (e ∙ ap (λ ts. value_in ts written) r.types)

    pub table_is_named : (written kept : TableType) → table_in (meaning_of groups s) kept ≡ tree.table_in (context_of groups s).types written
        → table_in (names_in groups s.types) kept ≡ tree.table_in (types_behind [] m.types) written
    table_is_named written kept e = sym (table_named kept) ∙ (e ∙ ap (λ ts. tree.table_in ts written) r.types)

    pub global_is_named : (written kept : GlobalType) → global_in (meaning_of groups s) kept ≡ tree.global_in (context_of groups s).types written
        → global_in (names_in groups s.types) kept ≡ tree.global_in (types_behind [] m.types) written
    global_is_named written kept e = sym (global_named kept) ∙ (e ∙ ap (λ ts. tree.global_in ts written) r.types)
