-- Types that are kept as the module writes them, by its own indices, mean what is written.
use Rattle.std.proofs.Common.{◌≡◌, List, refl, ap}
use Rattle.wasm_types.specs.trees.declared.index.CoreTypeId.{CoreTypeId}
use Rattle.wasm_types.specs.trees.declared.index.UnpackedIndex.{UnpackedIndex}
use Rattle.wasm_types.specs.trees.declared.index.UnpackedIndex.TheVariants as index
use Rattle.wasm_types.specs.trees.Types.{ValueOf, number, ref, abstract, concrete, exact, value_map}
use Rattle.wasm_types.specs.trees.Each.{EachValue}
use Rattle.wasm_types.specs.trees.Trees.{TypeTree}
use Rattle.wasm_types.specs.values.Reference.{Reference}
use Rattle.wasm_types.specs.values.Values.{value_of}
use Rattle.wasm_types.specs.values.declared.value.ValType.{ValType}
use Rattle.wasm_types.specs.values.declared.value.ValType.TheVariants as value
use Rattle.wasm_types.specs.externs.declared.table.TableType.{TableType}
use Rattle.wasm_types.specs.externs.declared.global.GlobalType.{GlobalType}
use Rattle.wasm_operator_validator_rules.specs.Context.{Module, IsTypeIndex, written_type}
use Rattle.wasm_module_validator_checks.specs.rules.Spaces as tree
use Rattle.wasm_module_validator_checks.specs.rules.Spaces.{with_types, value_in}
use Rattle.wasm_operator_validator_stacks.specs.resources.Meaning.{named_type, type_in, reference_in, table_in, global_in}
use Rattle.wasm_module_validator_type_storage.specs.trees.Groups.{Group}
use Rattle.wasm_module_validator_type_groups.specs.adding.Interned.{space_of}
use Rattle.wasm_module_validator_resources.specs.Reading.{names_in}

module _ (groups : List Group) (ids : List CoreTypeId) where
  abbrev own : Module
  own = with_types (space_of groups ids)

  index_means : (i : UnpackedIndex) → IsTypeIndex own i → named_type (names_in groups ids) i ≡ written_type own i
  index_means (index.Module n) k = refl
  index_means (index.RecGroup n) k = absurd k
  index_means (index.Id i) k = absurd k

  tree_means : (v : ValueOf UnpackedIndex) → EachValue (IsTypeIndex own) v → value_map (named_type (names_in groups ids)) v ≡ value_map (written_type own) v
  tree_means (number n) k = refl
  tree_means (ref n (abstract s a)) k = refl
  tree_means (ref n (concrete i)) k = ap (λ t. ref n (concrete t)) (index_means i k)
  tree_means (ref n (exact i)) k = ap (λ t. ref n (exact t)) (index_means i k)

  pub value_means : (v : ValType) → EachValue (IsTypeIndex own) (value_of v) → type_in (names_in groups ids) v ≡ value_in (space_of groups ids) v
  unfolding type_in
  value_means v k = tree_means (value_of v) k

  pub reference_means : (r : Reference) → EachValue (IsTypeIndex own) (value_of (value.Ref r)) → reference_in (names_in groups ids) r ≡ value_in (space_of groups ids) (value.Ref r)
  reference_means r k = tree_means (value_of (value.Ref r)) k

  pub table_means : (t : TableType) → EachValue (IsTypeIndex own) (value_of (value.Ref t.element_type)) → table_in (names_in groups ids) t ≡ tree.table_in (space_of groups ids) t
  table_means t k = ap (λ (v : ValueOf TypeTree). record { element = v; table64 = t.table64; shared = t.shared }) (reference_means t.element_type k)

  pub global_means : (t : GlobalType) → EachValue (IsTypeIndex own) (value_of t.content_type) → global_in (names_in groups ids) t ≡ tree.global_in (space_of groups ids) t
  global_means t k = ap (λ (v : ValueOf TypeTree). record { content = v; mutable = t.mutable; shared = t.shared }) (value_means t.content_type k)
