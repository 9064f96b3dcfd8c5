-- What look-ups of a module by ids and tags find.
use Rattle.std.proofs.Common.{◌≡◌, ◌∙◌, length, Option, Some, None, option_map, option_and_then, slice_get, refl, sym, ap, ⊎_elim}
use Rattle.std.proofs.lemmas.Bool.{cases_lt}
use Rattle.std.proofs.lemmas.Option.{slice_get-get_or, slice_get_past}
use Rattle.wasm_types.specs.trees.Indices.{type_id_of}
use Rattle.wasm_types.specs.trees.declared.index.CoreTypeId.{CoreTypeId}
use Rattle.wasm_types.specs.trees.declared.index.UnpackedIndex.{UnpackedIndex}
use Rattle.wasm_types.specs.trees.declared.index.UnpackedIndex.TheVariants as index
use Rattle.wasm_types.specs.trees.Types.{EntryOf, inner_map}
use Rattle.wasm_types.specs.trees.Trees.{TypeTree, opened}
use Rattle.wasm_types.specs.trees.Below.{expanded}
use Rattle.wasm_types.specs.fields.declared.func.FuncType.{FuncType}
use Rattle.wasm_types.specs.Entries.{inner_of}
use Rattle.wasm_types.specs.Kinds.{func_in}
use Rattle.wasm_types.specs.declared.composite.CompositeInnerType.{CompositeInnerType}
use Rattle.wasm_types.specs.declared.composite.CompositeInnerType.TheVariants.{Func, Array, Struct, Cont}
use Rattle.wasm_types.specs.declared.sub_type.SubType.{SubType}
use Rattle.wasm_operator_validator_resources.specs.Meaning.{Meaning, IsKnown, type_of_id, named_type, entry_in, function_in}
use Rattle.wasm_operator_validator_rules.specs.arity.Arity.{in_u32, function_counts, type_counts}
use Rattle.wasm_operator_validator_arity.specs.Knowing.{ended, type_by_id, type_named, function_alone, function_by_id, function_named, function_resumed, index_resumed}
use Rattle.wasm_operator_validator_arity.proofs.Looking.{type_behind, nothing_behind}
use Rattle.wasm_operator_validator_arity.proofs.Continuing.{function_counted}

-- ---- tags

pub tag_found : (m : Meaning) (f : FuncType) (o : Option TypeTree) → Some (function_in m f) ≡ option_map expanded o
    → Some (in_u32 (length f.params), in_u32 (length f.results)) ≡ ended (type_counts o)
tag_found m f None e = cc
tag_found m f (Some t) e =
    let is : function_in m f ≡ expanded t = cc in
    sym (ap ended (ap function_counts (sym is) ∙ function_counted m f))

pub tag_missing : (o : Option TypeTree) → None ≡ option_map expanded o → None ≡ ended (type_counts o)
tag_missing None e = refl
tag_missing (Some t) e = cc

-- ---- types by ids

pub named_found : (m : Meaning) (i : UnpackedIndex) (id : CoreTypeId) (x : SubType) → type_id_of i ≡ Some id → IsKnown m id → entry_in m x ≡ opened (type_of_id m id)
    → Some (entry_in m x) ≡ option_map opened (type_by_id m i)
named_found m (index.Module n) id x e k s = cc
named_found m (index.RecGroup n) id x e k s = cc
named_found m (index.Id j) id x e k s =
    let is : id ≡ j = cc in
    ap (λ (y : EntryOf TypeTree). Some y) s ∙ sym (ap (option_map opened) (slice_get-get_or m.ids id.0 _ k)) ∙ ap (λ (y : CoreTypeId). option_map opened (slice_get m.ids y.0)) is

pub named_unknown : (m : Meaning) (i : UnpackedIndex) (id : CoreTypeId) → type_id_of i ≡ Some id → (IsKnown m id → ⊥) → None ≡ option_map opened (type_by_id m i)
named_unknown m (index.Module n) id e k = refl
named_unknown m (index.RecGroup n) id e k = refl
named_unknown m (index.Id j) id e k =
    let is : id ≡ j = cc in
    ⊎_elim
    (λ h. absurd (k h))
    (λ h. sym (ap (option_map opened) (ap (λ (y : CoreTypeId). slice_get m.ids y.0) (sym is) ∙ slice_get_past m.ids id.0 h)))
    (cases_lt id.0 (length m.ids))

pub named_otherwise : (m : Meaning) (i : UnpackedIndex) → type_id_of i ≡ None → None ≡ option_map opened (type_by_id m i)
named_otherwise m (index.Module n) e = refl
named_otherwise m (index.RecGroup n) e = refl
named_otherwise m (index.Id j) e = cc

-- ---- functions that were found

functions_seen : (m : Meaning) (i : CompositeInnerType) → option_map (function_in m) (func_in i) ≡ function_alone (inner_map (named_type m) (inner_of i))
functions_seen m (Func f) = refl
functions_seen m (Array a) = refl
functions_seen m (Struct s) = refl
functions_seen m (Cont c) = refl

pub function_found : (m : Meaning) (o : Option TypeTree) (x : SubType) → Some (entry_in m x) ≡ option_map opened o
    → option_map (function_in m) (func_in x.composite_type.inner) ≡ option_and_then (λ t. function_alone (expanded t)) o
function_found m o x e =
    let (t, is, same) = type_behind (entry_in m x) o e in
    functions_seen m x.composite_type.inner ∙ ap (λ (y : EntryOf TypeTree). function_alone y.inner) same ∙ sym (ap (option_and_then (λ u. function_alone (expanded u))) is)

pub function_missing : (m : Meaning) (i : UnpackedIndex) → None ≡ option_map opened (type_by_id m i) → None ≡ function_by_id m i
function_missing m i e = sym (ap (option_and_then (λ u. function_alone (expanded u))) (nothing_behind (type_by_id m i) e))

map_twice : {A B C : Type 0} (f : A → B) (g : B → C) (r : Option A) → option_map g (option_map f r) ≡ option_map (λ (x : A). g (f x)) r
map_twice f g None = refl
map_twice f g (Some x) = refl

-- a function that was taken from what was found
pub function_taken : {A : Type 0} (now : A → FuncType) (r : Option A) (m : Meaning) (o : Option TypeTree) (x : SubType)
    → option_map now r ≡ func_in x.composite_type.inner → Some (entry_in m x) ≡ option_map opened o
    → option_map (λ (f : A). function_in m (now f)) r ≡ option_and_then (λ t. function_alone (expanded t)) o
function_taken now r m o x e s = sym (map_twice now (function_in m) r) ∙ ap (option_map (function_in m)) e ∙ function_found m o x s

-- the same of a function that a continuation goes on with
pub function_gone_to : {A : Type 0} (now : A → FuncType) (r : Option A) (m : Meaning) (k : CompositeInnerType) (i : UnpackedIndex) (x : SubType)
    → Some i ≡ index_resumed k
    → option_map now r ≡ func_in x.composite_type.inner → Some (entry_in m x) ≡ option_map opened (type_named m i)
    → option_map (λ (f : A). function_in m (now f)) r ≡ function_resumed m k
function_gone_to now r m k i x is e s = function_taken now r m (type_named m i) x e s ∙ ap (option_and_then (function_named m)) is
