-- Tags of a module while the tables are made.
use Rattle.std.proofs.Common.{◌≡◌, ◌<◌, ◌∙◌, ◌⊎◌, inl, inr, ℕ, List, [], ◌∷◌, ◌++◌, Option, Some, None, refl, sym, ap, subst, arith, length, map, option_map, slice_get}
use Rattle.std.proofs.lemmas.List.{length-append, length-map}
use Rattle.wasm_types.specs.trees.Types.{InnerOf, function, value_map}
use Rattle.wasm_types.specs.trees.Trees.{TypeTree}
use Rattle.wasm_types.specs.trees.Below.{expanded}
use Rattle.wasm_types.specs.fields.declared.func.FuncType.{FuncType}
use Rattle.wasm_types.specs.values.declared.value.ValType.{ValType}
use Rattle.wasm_types.specs.values.Values.{value_of}
use Rattle.wasm_operator_validator_rules.specs.Operands.{ValueType}
use Rattle.wasm_operator_validator_rules.specs.Context.{Module}
use Rattle.wasm_operator_validator_state.specs.State.{types_in}
use Rattle.wasm_operator_validator_state.specs.resources.Meaning.{Meaning, named_type, type_in, function_in}
use Rattle.wasm_operator_validator_state.proofs.Signing.{types_twice}
use Rattle.wasm_operator_validator_fast_tables.specs.declared.tables.Sig.{Sig}
use Rattle.wasm_operator_validator_fast_tables.specs.Stacks.{part}
use Rattle.wasm_operator_validator_fast_tables.specs.Values.{type_of, types}
use Rattle.wasm_operator_validator_fast_tables.specs.Tables.{params_in, IsTagIn}
use Rattle.wasm_operator_validator_fast_tables.specs.Known.{IsMore, IsUsableTagIn, AreTagsIn}
use Rattle.wasm_operator_validator_fast_tables.proofs.Knowing.{of_pushed, part_stays, part_is}

-- what stands for a tag, and for one that is not for use
abbrev pub IsOneTag : List TypeTree → Module → List ℕ → ℕ → Sig → Type 0
IsOneTag ids m flat x s = (s.param_count ≡ 0xffffffff) ⊎ IsUsableTagIn ids m flat x s

usable_more : (ids : List TypeTree) (m : Module) (xs ys : List ℕ) (x : ℕ) (s : Sig) → IsUsableTagIn ids m xs x s → IsUsableTagIn ids m (xs ++ ys) x s
usable_more ids m xs ys x s u =
    let n = length-append xs ys in
    let p = u.params in
    record {
      params = omega (arith, n, p);
      type = u.type;
      at = u.at;
      function = u.function ∙ ap (λ (ps : List ℕ). function (types ids ps) []) (sym (part_stays s.params s.param_count xs ys u.params));
    }

tag_more : (ids : List TypeTree) (m : Module) (xs ys : List ℕ) (x : ℕ) (s : Sig) → IsOneTag ids m xs x s → IsOneTag ids m (xs ++ ys) x s
tag_more ids m xs ys x s (inl e) = inl e
tag_more ids m xs ys x s (inr u) = inr (usable_more ids m xs ys x s u)

pub tags_stay : (ids : List TypeTree) (m : Module) (xs zs : List ℕ) (n : ℕ) (ss : List Sig) → IsMore xs zs n → AreTagsIn ids m xs ss → AreTagsIn ids m zs ss
tags_stay ids m xs zs n ss (cs, is, few) h x s e = subst (λ (l : List ℕ). IsOneTag ids m l x s) (sym is) (tag_more ids m xs cs x s (h x s e))

pub tags_more : (ids : List TypeTree) (m : Module) (xs zs : List ℕ) (n : ℕ) (ss : List Sig) (s : Sig) → IsMore xs zs n → AreTagsIn ids m xs ss → IsOneTag ids m zs (length ss) s
    → AreTagsIn ids m zs (ss ++ s ∷ [])
tags_more ids m xs zs n ss s more h one = of_pushed (λ x t. IsOneTag ids m zs x t) ss s (tags_stay ids m xs zs n ss more h) one

pub tag_known : (ids : List TypeTree) (m : Module) (flat : List ℕ) (x : ℕ) (s : Sig) → length flat < 0xffffffff → IsOneTag ids m flat x s → IsTagIn ids m flat x s
tag_known ids m flat x s few (inl e) le = absurd (omega (arith, few, e, le))
tag_known ids m flat x s few (inr u) le = (u.type, u.at, u.function)

-- ---- one tag

some_tag : (a : InnerOf TypeTree) (o : Option TypeTree) → Some a ≡ option_map expanded o → (t : TypeTree) × (o ≡ Some t) × (a ≡ expanded t)
some_tag a None e = cc
some_tag a (Some t) e = (t, refl, cc)

function_is : (m : Meaning) (f : FuncType) → function_in m f ≡ function (types_in m f.params) (types_in m f.results)
function_is m f =
    let g : function (map (value_map (named_type m)) (map value_of f.params)) (map (value_map (named_type m)) (map value_of f.results))
    ≡ function (types_in m f.params) (types_in m f.results) = rw (types_twice m f.params, types_twice m f.results) refl in g

pub no_types : (ts : List ValType) → length ts ≡ 0 → ts ≡ []
no_types [] e = refl
no_types (t ∷ ts) e = cc

-- a tag whose values were put behind the codes
pub tagged : (m : Meaning) (x : ℕ) (s : Sig) (f : FuncType) (xs ps zs : List ℕ) → zs ≡ xs ++ ps → types_in m f.params ≡ types m.ids ps → s.params ≡ length xs
    → s.param_count ≡ length f.params → f.results ≡ [] → Some (function_in m f) ≡ option_map expanded (slice_get m.«module».tags x) → IsOneTag m.ids m.«module» zs x s
tagged m x s f xs ps zs e p a b none there =
    let (t, at, is) = some_tag (function_in m f) (slice_get m.«module».tags x) there in
    let long : length f.params ≡ length ps = sym (length-map f.params (type_in m)) ∙ ap (λ (l : List ValueType). length l) p ∙ length-map ps (type_of m.ids) in
    let n = ap (λ (l : List ℕ). length l) e ∙ length-append xs ps in
    let first : params_in zs s ≡ ps = ap (part s.params s.param_count) e ∙ part_is s.params s.param_count xs ps a (b ∙ long) in
    inr (record {
      params = omega (arith, n, a, b, long);
      type = t;
      at = at;
      function = sym is ∙ function_is m f ∙ ap (λ (rs : List ValType). function (types_in m f.params) (types_in m rs)) none
          ∙ ap (λ (l : List ValueType). function l []) (p ∙ ap (types m.ids) (sym first));
    })
