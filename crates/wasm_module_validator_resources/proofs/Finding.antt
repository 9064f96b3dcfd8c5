-- What look-ups find.
use Rattle.std.proofs.Common.{◌≡◌, ◌∙◌, ◌↔◌, ℕ, zero, suc, ◌<◌, ◌≤◌, Bool, false, IsTrue, List, [], ◌∷◌, length, map, get_or, refl, ap, sym, subst, Option, Some, None, arith}
use Rattle.std.specs.Prelude.{slice_get, All, IfSome}
use Rattle.std.specs.Option.{option_map}
use Rattle.std.proofs.lemmas.List.{length-map}
use Rattle.std.proofs.lemmas.Option.{slice_get-map, slice_get_within, get_or_from_slice_get}
use Rattle.wasm_types.specs.trees.declared.index.CoreTypeId.{CoreTypeId}
use Rattle.wasm_types.specs.trees.Types.{InnerOf, function, array_of, struct_of, continuation, EntryOf, entry_map, inner_map}
use Rattle.wasm_types.specs.trees.Trees.{TypeTree, opened}
use Rattle.wasm_types.specs.trees.Below.{expanded}
use Rattle.wasm_types.specs.trees.ValidGroup.{type_at}
use Rattle.wasm_types.specs.fields.declared.field.ArrayType.{ArrayType}
use Rattle.wasm_types.specs.fields.declared.field.StructType.{StructType}
use Rattle.wasm_types.specs.fields.declared.cont.ContType.{ContType}
use Rattle.wasm_types.specs.declared.composite.CompositeInnerType.{CompositeInnerType}
use Rattle.wasm_types.specs.declared.composite.CompositeInnerType.TheVariants.{Array, Struct, Cont}
use Rattle.wasm_types.specs.Entries.{Declared, inner_of}
use Rattle.wasm_types.specs.externs.declared.global.GlobalType.{GlobalType}
use Rattle.wasm_operator_validator_rules.specs.Row.{IsOneOf}
use Rattle.wasm_operator_validator_resources.specs.Meaning.{named_type, type_in, type_of_id, global_in}
use Rattle.wasm_module_validator_type_storage.specs.trees.Groups.{Group, count, tree_of, declared_by_id}
use Rattle.wasm_module_validator_type_storage.specs.trees.Formed.{IsFormed}
use Rattle.wasm_module_validator_type_storage.specs.trees.BelowIds.{undeclared}
use Rattle.wasm_module_validator_type_storage.specs.trees.laws.Ids.{length_stored}
use Rattle.wasm_module_validator_type_groups.specs.adding.Interned.{space_of, AreIdsKnown}
use Rattle.wasm_module_validator_index_spaces.specs.declared.module.Function.{Function}
use Rattle.wasm_module_validator_index_spaces.specs.Spaces.{Spaces}
use Rattle.wasm_module_validator_resources.specs.Reading.{types_by_id, names_in, places, meaning_of}
use Rattle.wasm_module_validator_resources.specs.Named.{nowhere, IsSettled, kind_number}
use Rattle.wasm_module_validator_resources.specs.laws.Trees.{index_known, type_by_id, types_counted}
use Rattle.wasm_module_validator_resources.specs.laws.Stored.{stored_opens}
use Rattle.wasm_module_validator_resources.specs.laws.Places.{is_so, place_is_so}

-- an item that is not there lies past the end
pub none_past : {A : Type 0} (xs : List A) (i : ℕ) → None ≡ slice_get xs i → length xs ≤ i
none_past [] i e = omega arith
none_past (x ∷ xs) zero e = absurd cc
none_past (x ∷ xs) (suc i) e = let h = none_past xs i e in omega arith

pub all_at : {A : Type 0} (P : A → Type 0) (xs : List A) (i : ℕ) (x : A) → All P xs → Some x ≡ slice_get xs i → P x
all_at P xs i x h e = subst P (get_or_from_slice_get xs i x x (sym e)) (h i x (slice_get_within xs i x (sym e)))

-- ---- what is stored of an id

pub id_past : (groups : List Group) (i : CoreTypeId) → i.0 < count groups → None ≡ slice_get (declared_by_id groups) i.0 → ⊥
id_past groups i lt e = let past = none_past (declared_by_id groups) i.0 e in let long = length_stored groups in absurd (omega arith)

pub stored_as : (groups : List Group) (i : ℕ) (d : Declared) → Some d ≡ slice_get (declared_by_id groups) i → get_or (declared_by_id groups) i undeclared ≡ d
stored_as groups i d e = get_or_from_slice_get (declared_by_id groups) i d undeclared (sym e)

pub entry_stored : (bits : ℕ) (groups : List Group) → IsFormed groups → IsSettled bits groups → (ids : List CoreTypeId) (i : CoreTypeId) (d : Declared) → i.0 < count groups
    → get_or (declared_by_id groups) i.0 undeclared ≡ d → entry_map (named_type (names_in groups ids)) d.entry ≡ opened (tree_of groups i.0)
entry_stored bits groups formed s ids i d lt e =
    sym (ap (λ (x : Declared). entry_map (named_type (names_in groups ids)) x.entry) e) ∙ stored_opens bits groups formed s ids i lt

-- ---- items over whole types

pub mapped : {A B : Type 0} (f : A → B) (xs : List A) (i : ℕ) (o : Option A) → o ≡ slice_get xs i → option_map f o ≡ slice_get (map f xs) i
mapped f xs i o e = ap (option_map f) e ∙ sym (slice_get-map f xs i)

pub global_same : (groups : List Group) (m : Spaces) (xs : List GlobalType) (i : ℕ) (o : Option GlobalType) → o ≡ slice_get xs i
    → option_map (global_in (meaning_of groups m)) o ≡ slice_get (map (global_in (names_in groups m.types)) xs) i
unfolding type_in
global_same groups m xs i o e = mapped (global_in (names_in groups m.types)) xs i o e

-- ---- types by index

twice : {A B C : Type 0} (f : B → C) (h : A → B) (o : Option A) → option_map (λ x. f (h x)) o ≡ option_map f (option_map h o)
twice f h None = refl
twice f h (Some x) = refl

pub type_found : (groups : List Group) (ids : List CoreTypeId) (n : ℕ) (i : CoreTypeId) (x : EntryOf TypeTree) → Some i ≡ slice_get ids n → x ≡ opened (tree_of groups i.0)
    → Some x ≡ option_map opened (slice_get (space_of groups ids) n)
type_found groups ids n i x e same =
    ap Some same ∙ ap (option_map (λ (j : CoreTypeId). opened (tree_of groups j.0))) e ∙ twice opened (λ (j : CoreTypeId). tree_of groups j.0) (slice_get ids n)
    ∙ ap (option_map opened) (sym (slice_get-map (λ (j : CoreTypeId). tree_of groups j.0) ids n))

-- ---- functions

pub so_at : (p : Function → Bool) (fs : List Function) (n : ℕ) (f : Function) → Some f ≡ slice_get fs n → IsTrue (p f) ↔ IsOneOf n (places p 0 fs)
so_at p fs n f e =
    let w = place_is_so p fs n in
    let same : p f ≡ is_so p (slice_get fs n) = ap (is_so p) e in
    (λ t. w.1 (sym same ∙ t), λ h. same ∙ w.0 h)

pub none_at : (p : Function → Bool) (fs : List Function) (n : ℕ) → None ≡ slice_get fs n → IsTrue false ↔ IsOneOf n (places p 0 fs)
none_at p fs n e =
    let w = place_is_so p fs n in
    let same : false ≡ is_so p (slice_get fs n) = ap (is_so p) e in
    (λ t. w.1 (sym same ∙ t), λ h. same ∙ w.0 h)

-- a function's type is at its index
pub function_type : (groups : List Group) (ids : List CoreTypeId) (fs : List Function) (n : ℕ) (f : Function) (i : CoreTypeId) → Some f ≡ slice_get fs n
    → Some i ≡ slice_get ids f.type_index → Some (tree_of groups i.0) ≡ slice_get (map (λ (g : Function). type_at (space_of groups ids) g.type_index) fs) n
function_type groups ids fs n f i e at =
    ap Some (sym (index_known groups ids f.type_index i (sym at)))
    ∙ mapped (λ (g : Function). type_at (space_of groups ids) g.type_index) fs n (Some f) e

pub index_type : (groups : List Group) (ids : List CoreTypeId) (n : ℕ) (i : CoreTypeId) → Some i ≡ slice_get ids n → slice_get (space_of groups ids) n ≡ Some (tree_of groups i.0)
index_type groups ids n i e = sym (mapped (λ (j : CoreTypeId). tree_of groups j.0) ids n (Some i) e)

pub there : {A : Type 0} (xs : List A) (n : ℕ) → n < length xs → (x : A) × (Some x ≡ slice_get xs n)
there [] n lt = absurd (omega arith)
there (x ∷ xs) zero lt = (x, refl)
there (x ∷ xs) (suc n) lt = there xs n (omega arith)

-- ---- tags

kind_mapped : {R S : Type 0} (f : R → S) (x : InnerOf R) → kind_number (inner_map f x) ≡ kind_number x
kind_mapped f (function ps rs) = refl
kind_mapped f (array_of x) = refl
kind_mapped f (struct_of xs) = refl
kind_mapped f (continuation r) = refl

pub kind_in : {R : Type 0} (f : R → TypeTree) (x : EntryOf R) (t : TypeTree) → entry_map f x ≡ opened t → kind_number (expanded t) ≡ 0 → kind_number x.inner ≡ 0
kind_in f x t e k = sym (kind_mapped f x.inner) ∙ ap (λ (y : EntryOf TypeTree). kind_number y.inner) e ∙ k

pub tag_found : (groups : List Group) (tags : List CoreTypeId) (n : ℕ) (i : CoreTypeId) (x : InnerOf TypeTree) → Some i ≡ slice_get tags n → x ≡ expanded (tree_of groups i.0)
    → Some x ≡ option_map expanded (slice_get (space_of groups tags) n)
tag_found groups tags n i x e same = ap Some same ∙ ap (option_map expanded) (sym (index_type groups tags n i e))

-- ---- what is no function

array_number : (x : CompositeInnerType) (a : ArrayType) → x ≡ Array a → kind_number (inner_of x) ≡ 1
array_number x a e = ap (λ (y : CompositeInnerType). kind_number (inner_of y)) e

pub array_kind : (x : CompositeInnerType) (a : ArrayType) → x ≡ Array a → kind_number (inner_of x) ≡ 0 → ⊥
array_kind x a e z = let one = array_number x a e in absurd (omega arith)

struct_number : (x : CompositeInnerType) (a : StructType) → x ≡ Struct a → kind_number (inner_of x) ≡ 2
struct_number x a e = ap (λ (y : CompositeInnerType). kind_number (inner_of y)) e

pub struct_kind : (x : CompositeInnerType) (a : StructType) → x ≡ Struct a → kind_number (inner_of x) ≡ 0 → ⊥
struct_kind x a e z = let two = struct_number x a e in absurd (omega arith)

cont_number : (x : CompositeInnerType) (a : ContType) → x ≡ Cont a → kind_number (inner_of x) ≡ 3
cont_number x a e = ap (λ (y : CompositeInnerType). kind_number (inner_of y)) e

pub cont_kind : (x : CompositeInnerType) (a : ContType) → x ≡ Cont a → kind_number (inner_of x) ≡ 0 → ⊥
cont_kind x a e z = let three = cont_number x a e in absurd (omega arith)

-- ---- the id of a function's type

pub ids_known : (groups : List Group) (ids : List CoreTypeId) (n : ℕ) (o : Option CoreTypeId) → o ≡ slice_get ids n → AreIdsKnown groups ids
    → IfSome o (λ (i : CoreTypeId). i.0 < length (types_by_id groups))
ids_known groups ids n None e k = tt
ids_known groups ids n (Some i) e k =
    let lt = all_at (λ (j : CoreTypeId). j.0 < count groups) ids n i k e in
    let long = types_counted groups in
    omega arith

pub function_id : (groups : List Group) (m : Spaces) (n : ℕ) (f : Function) (o : Option CoreTypeId) → Some f ≡ slice_get m.functions n → f.type_index < length m.types
    → o ≡ slice_get m.types f.type_index → AreIdsKnown groups m.types
    → option_map (type_of_id (meaning_of groups m)) o ≡ slice_get (map (λ (g : Function). type_at (space_of groups m.types) g.type_index) m.functions) n
function_id groups m n f None e lt at k = let past = none_past m.types f.type_index at in absurd (omega arith)
function_id groups m n f (Some i) e lt at k =
    ap Some (type_by_id groups i.0 (nowhere i.0) (all_at (λ (j : CoreTypeId). j.0 < count groups) m.types f.type_index i k at))
    ∙ function_type groups m.types m.functions n f i e at

-- ---- an index that the module writes

pub index_within : (groups : List Group) (ids : List CoreTypeId) (n : ℕ) (i : CoreTypeId) → Some i ≡ slice_get ids n → n < length (space_of groups ids)
index_within groups ids n i e =
    let lt = slice_get_within ids n i (sym e) in
    let long = length-map ids (λ (j : CoreTypeId). tree_of groups j.0) in
    omega arith

pub index_past : (groups : List Group) (ids : List CoreTypeId) (n : ℕ) → None ≡ slice_get ids n → n < length (space_of groups ids) → ⊥
index_past groups ids n e lt =
    let past = none_past ids n e in
    let long = length-map ids (λ (j : CoreTypeId). tree_of groups j.0) in
    absurd (omega arith)
