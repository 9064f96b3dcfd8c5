-- Function types by their index.
use Rattle.std.proofs.Common.{◌≡◌, true, ℕ, Option, Some, None, map, option_map, is_some, slice_get, refl, sym, ap}
use Rattle.wasm_types.specs.trees.Types.{EntryOf, inner_map, value_map}
use Rattle.wasm_types.specs.trees.Trees.{TypeTree, opened}
use Rattle.wasm_types.specs.trees.Below.{expanded}
use Rattle.wasm_types.specs.values.Values.{value_of}
use Rattle.wasm_types.specs.Kinds.{func_in}
use Rattle.wasm_types.specs.Entries.{inner_of}
use Rattle.wasm_types.specs.declared.composite.CompositeInnerType.{CompositeInnerType}
use Rattle.wasm_types.specs.declared.composite.CompositeInnerType.TheVariants.{Func, Array, Struct, Cont}
use Rattle.wasm_types.specs.declared.sub_type.SubType.{SubType}
use Rattle.wasm_module_validator_checks.specs.operator_resources.Meaning.{Meaning, named_type, entry_in}
use Rattle.wasm_module_validator_checks.specs.rules.Valid.{IsFunctionIndex}

some_type : (a : EntryOf TypeTree) (o : Option TypeTree) → Some a ≡ option_map opened o → (t : TypeTree) × (o ≡ Some t) × (a ≡ opened t)
some_type a None e = cc
some_type a (Some t) e = (t, refl, cc)

by_inner : (m : Meaning) (x : ℕ) (t : TypeTree) (i : CompositeInnerType) → slice_get m.«module».types x ≡ Some t → inner_map (named_type m) (inner_of i) ≡ expanded t
    → is_some (func_in i) ≡ true → IsFunctionIndex m.«module» x
by_inner m x t (Func f) e p s = (
  t,
  record { params = map (value_map (named_type m)) (map value_of f.params); results = map (value_map (named_type m)) (map value_of f.results) },
  e,
  sym p,
)
by_inner m x t (Array a) e p s = cc
by_inner m x t (Struct a) e p s = cc
by_inner m x t (Cont a) e p s = cc

-- a function type that was looked up is one that a module may name
pub function_there : (m : Meaning) (x : ℕ) (s : SubType) → Some (entry_in m s) ≡ option_map opened (slice_get m.«module».types x) → is_some (func_in s.composite_type.inner) ≡ true
    → IsFunctionIndex m.«module» x
function_there m x s e f =
    let (t, g, h) = some_type (entry_in m s) (slice_get m.«module».types x) e in
    by_inner m x t s.composite_type.inner g (ap (λ (y : EntryOf TypeTree). y.inner) h) f

pub mapped_some : {A B : Type 0} (f : A → B) (o : Option A) → is_some (option_map f o) ≡ is_some o
mapped_some f None = refl
mapped_some f (Some x) = refl
