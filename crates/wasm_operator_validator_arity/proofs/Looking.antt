-- What a look-up finds has the numbers that the rules see.
use Rattle.std.proofs.Common.{◌≡◌, ◌∙◌, ℕ, List, map, length, Option, Some, None, option_map, slice_get, refl, sym, ap}
use Rattle.std.proofs.lemmas.List.{length-map}
use Rattle.wasm_types.specs.trees.Types.{EntryOf, value_map, field_map, inner_map}
use Rattle.wasm_types.specs.trees.Trees.{TypeTree, opened}
use Rattle.wasm_types.specs.values.declared.value.ValType.{ValType}
use Rattle.wasm_types.specs.values.Values.{value_of}
use Rattle.wasm_types.specs.fields.Fields.{field_of}
use Rattle.wasm_types.specs.Entries.{inner_of}
use Rattle.wasm_types.specs.declared.composite.CompositeInnerType.{CompositeInnerType}
use Rattle.wasm_types.specs.declared.composite.CompositeInnerType.TheVariants.{Func, Array, Struct, Cont}
use Rattle.wasm_types.specs.declared.sub_type.SubType.{SubType}
use Rattle.wasm_operator_validator_resources.specs.Answers.{IsTypeOf}
use Rattle.wasm_operator_validator_resources.specs.Meaning.{Meaning, named_type, entry_in}
use Rattle.wasm_operator_validator_rules.specs.Context.{Module}
use Rattle.wasm_operator_validator_rules.specs.arity.Arity.{function_counts, type_counts, field_count, struct_size}
use Rattle.wasm_operator_validator_arity.specs.Knowing.{declared_counts, declared_size}

pub values_long : (m : Meaning) (ts : List ValType) → length (map (value_map (named_type m)) (map value_of ts)) ≡ length ts
values_long m ts = length-map (map value_of ts) (value_map (named_type m)) ∙ length-map ts value_of

pub counts_seen : (m : Meaning) (i : CompositeInnerType) → function_counts (inner_map (named_type m) (inner_of i)) ≡ declared_counts i
counts_seen m (Func f) = rw (values_long m f.params, values_long m f.results) refl
counts_seen m (Array a) = refl
counts_seen m (Struct s) = refl
counts_seen m (Cont c) = refl

size_seen : (m : Meaning) (i : CompositeInnerType) → field_count (inner_map (named_type m) (inner_of i)) ≡ declared_size i
size_seen m (Func f) = refl
size_seen m (Array a) = refl
size_seen m (Struct s) = ap (λ (n : ℕ). Some n) (length-map (map field_of s.fields.items) (field_map (named_type m)) ∙ length-map s.fields.items field_of)
size_seen m (Cont c) = refl

-- ---- types by indices

-- the type behind what was found, and none where nothing was
pub type_behind : (a : EntryOf TypeTree) (o : Option TypeTree) → Some a ≡ option_map opened o → (t : TypeTree) × (o ≡ Some t) × (a ≡ opened t)
type_behind a None e = cc
type_behind a (Some t) e = (t, refl, cc)

pub nothing_behind : (o : Option TypeTree) → None ≡ option_map opened o → o ≡ None
nothing_behind None e = refl
nothing_behind (Some t) e = cc

pub counts_found : (m : Meaning) (x : SubType) (o : Option TypeTree) → Some (entry_in m x) ≡ option_map opened o → declared_counts x.composite_type.inner ≡ type_counts o
counts_found m x o e =
    let (t, f, g) = type_behind (entry_in m x) o e in
    sym (counts_seen m x.composite_type.inner) ∙ ap (λ (y : EntryOf TypeTree). function_counts y.inner) g ∙ sym (ap type_counts f)

pub counts_missing : (o : Option TypeTree) → None ≡ option_map opened o → None ≡ type_counts o
counts_missing o e = sym (ap type_counts (nothing_behind o e))

pub size_found : (m : Meaning) (x : SubType) (o : Option TypeTree) → Some (entry_in m x) ≡ option_map opened o → declared_size x.composite_type.inner ≡ struct_size o
size_found m x o e =
    let (t, f, g) = type_behind (entry_in m x) o e in
    sym (size_seen m x.composite_type.inner) ∙ ap (λ (y : EntryOf TypeTree). field_count y.inner) g ∙ sym (ap struct_size f)

pub size_missing : (o : Option TypeTree) → None ≡ option_map opened o → None ≡ struct_size o
size_missing o e = sym (ap struct_size (nothing_behind o e))

-- ---- functions

pub callee_found : (g : Module) (at x : ℕ) → IsTypeOf g at (Some x) → type_counts (slice_get g.types x) ≡ type_counts (slice_get g.functions at)
callee_found g at x (t, f, e) = ap type_counts (e ∙ sym f)

pub callee_missing : (g : Module) (at : ℕ) → IsTypeOf g at None → None ≡ type_counts (slice_get g.functions at)
callee_missing g at e = sym (ap type_counts e)
