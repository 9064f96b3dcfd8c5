-- Tags of exceptions as the code looks them up.
use Rattle.std.proofs.Common.{◌≡◌, ◌∙◌, ℕ, Bool, false, List, [], ◌∷◌, Option, Some, None, length, map, option_map, slice_get, refl, sym, ap}
use Rattle.wasm_types.specs.trees.Types.{InnerOf, function, value_map}
use Rattle.wasm_types.specs.trees.Trees.{TypeTree}
use Rattle.wasm_types.specs.trees.Below.{expanded}
use Rattle.wasm_types.specs.values.declared.heap.HeapType.TheVariants as heap
use Rattle.wasm_types.specs.values.declared.heap.AbstractHeapType.TheVariants as heaps
use Rattle.wasm_types.specs.values.declared.value.ValType.{ValType}
use Rattle.wasm_types.specs.values.declared.value.ValType.TheVariants as vals
use Rattle.wasm_types.specs.values.Reference.{Reference}
use Rattle.wasm_types.specs.values.Values.{value_of}
use Rattle.wasm_types.specs.fields.declared.func.FuncType.{FuncType}
use Rattle.wasm_operator_validator_rules.specs.Operands.{ValueType}
use Rattle.wasm_operator_validator_rules.specs.Exceptions.{exception}
use Rattle.wasm_operator_validator_state.specs.resources.Meaning.{Meaning, named_type, type_in, reference_in, function_in}
use Rattle.wasm_operator_validator_state.specs.State.{types_in}
use Rattle.wasm_operator_validator_stacks.specs.determined.laws.Types.{reference_is}
use Rattle.wasm_operator_validator_state.proofs.Signing.{types_twice}
use Rattle.wasm_operator_validator_control.specs.Clauses.{IsTagIn}

-- what the code was answered
abbrev Answered : Meaning → ℕ → Option (InnerOf TypeTree) → Type 0
Answered m x o = o ≡ option_map expanded (slice_get m.«module».tags x)

some_tag : (a : InnerOf TypeTree) (o : Option TypeTree) → Some a ≡ option_map expanded o → (t : TypeTree) × (o ≡ Some t) × (a ≡ expanded t)
some_tag a None e = cc
some_tag a (Some t) e = (t, refl, cc)

no_tag_there : (o : Option TypeTree) → None ≡ option_map expanded o → o ≡ None
no_tag_there None e = refl
no_tag_there (Some t) e = cc

same_tag : (o : Option TypeTree) (t u : TypeTree) → o ≡ Some t → o ≡ Some u → u ≡ t
same_tag o t u e f = let g : ◌≡◌ {A = Option TypeTree} (Some u) (Some t) = sym f ∙ e in cc

function_is : (m : Meaning) (f : FuncType) → function_in m f ≡ function (types_in m f.params) (types_in m f.results)
function_is m f =
    let g : function (map (value_map (named_type m)) (map value_of f.params)) (map (value_map (named_type m)) (map value_of f.results))
    ≡ function (types_in m f.params) (types_in m f.results) = rw (types_twice m f.params, types_twice m f.results) refl in g

pub tag_unknown : (m : Meaning) (x : ℕ) → Answered m x None → (ts : List ValueType) → IsTagIn m x ts → ⊥
tag_unknown m x e ts (t, f, p) = let g : ◌≡◌ {A = Option TypeTree} None (Some t) = sym (no_tag_there (slice_get m.«module».tags x) e) ∙ f in cc

no_types : (m : Meaning) (ts : List ValType) → [] ≡ types_in m ts → ts ≡ []
no_types m [] e = refl
no_types m (t ∷ ts) e = cc

-- it gives something back
pub tag_gives : (m : Meaning) (x : ℕ) (f : FuncType) → Answered m x (Some (function_in m f)) → (f.results ≡ [] → ⊥) → (ts : List ValueType) → IsTagIn m x ts → ⊥
tag_gives m x f e n ts (u, g, q) =
    let (t, h, p) = some_tag (function_in m f) (slice_get m.«module».tags x) e in
    let k = same_tag (slice_get m.«module».tags x) t u h g in
    let r : ◌≡◌ {A = InnerOf TypeTree} (function ts []) (function (types_in m f.params) (types_in m f.results)) = sym q ∙ ap expanded k ∙ sym p ∙ function_is m f in
    n (no_types m f.results cc)

pub tag_is : (m : Meaning) (x : ℕ) (f : FuncType) → Answered m x (Some (function_in m f)) → f.results ≡ [] → IsTagIn m x (types_in m f.params)
tag_is m x f e n =
    let (t, h, p) = some_tag (function_in m f) (slice_get m.«module».tags x) e in
    (t, h, sym p ∙ function_is m f ∙ ap (λ (rs : List ValType). function (types_in m f.params) (types_in m rs)) n)

pub emptied : (ts : List ValType) → length ts ≡ 0 → ts ≡ []
emptied [] e = refl
emptied (t ∷ ts) e = cc

-- a tag carries one thing
pub one_tag : (m : Meaning) (x : ℕ) (ts us : List ValueType) → IsTagIn m x ts → IsTagIn m x us → us ≡ ts
one_tag m x ts us (t, e, p) (u, f, q) =
    let k = same_tag (slice_get m.«module».tags x) t u e f in
    let r : ◌≡◌ {A = InnerOf TypeTree} (function us []) (function ts []) = sym q ∙ ap expanded k ∙ p in cc

-- the type of references to exceptions, as the code makes it
pub exception_is : (m : Meaning) (n : Bool) (r : Reference) → r ≡ record { nullable = n; heap = heap.Abstract false heaps.Exn } → type_in m (vals.Ref r) ≡ exception n
exception_is m n r e = reference_is m r ∙ ap (reference_in m) e
