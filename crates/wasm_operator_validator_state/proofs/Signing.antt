-- Function types by their index.
use Rattle.std.proofs.Common.{◌≡◌, ◌∙◌, ◌≤◌, ℕ, List, [], ◌∷◌, Option, Some, None, map, option_map, slice_get, length, refl, sym, ap, ⊎_elim}
use Rattle.std.proofs.lemmas.Bool.{cases_lt}
use Rattle.std.proofs.lemmas.Option.{slice_get-get_or, slice_get_past}
use Rattle.std.proofs.lemmas.List.{get_or_past}
use Rattle.wasm_types.specs.trees.Types.{InnerOf, EntryOf, function, array_of, struct_of, continuation, value_map, inner_map}
use Rattle.wasm_types.specs.trees.Trees.{TypeTree, opened}
use Rattle.wasm_types.specs.trees.Below.{expanded}
use Rattle.wasm_types.specs.trees.ValidGroup.{type_at}
use Rattle.wasm_types.specs.values.declared.value.ValType.{ValType}
use Rattle.wasm_types.specs.values.Values.{value_of}
use Rattle.wasm_types.specs.Kinds.{func_in}
use Rattle.wasm_types.specs.Entries.{inner_of}
use Rattle.wasm_types.specs.declared.composite.CompositeInnerType.{CompositeInnerType}
use Rattle.wasm_types.specs.declared.composite.CompositeInnerType.TheVariants.{Func, Array, Struct, Cont}
use Rattle.wasm_types.specs.declared.sub_type.SubType.{SubType}
use Rattle.wasm_operator_validator_rules.specs.Context.{Signature}
use Rattle.wasm_operator_validator_resources.specs.Meaning.{Meaning, named_type, entry_in, type_in}
use Rattle.wasm_operator_validator_state.specs.State.{types_in, signature_of_type}
use Rattle.wasm_operator_validator_state.specs.blocks.Signatures.{signature_in, IsFunctionAt}

pub types_twice : (m : Meaning) (ts : List ValType) → map (value_map (named_type m)) (map value_of ts) ≡ types_in m ts
unfolding type_in
types_twice m [] = refl
types_twice m (t ∷ ts) = rw (types_twice m ts) refl

pub map_twice : {A B C : Type 0} (f : A → B) (g : B → C) (r : Option A) → option_map g (option_map f r) ≡ option_map (λ (x : A). g (f x)) r
map_twice f g None = refl
map_twice f g (Some x) = refl

some_type : (a : EntryOf TypeTree) (o : Option TypeTree) → Some a ≡ option_map opened o → (t : TypeTree) × (o ≡ Some t) × (a ≡ opened t)
some_type a None e = cc
some_type a (Some t) e = (t, refl, cc)

no_type : (o : Option TypeTree) → None ≡ option_map opened o → o ≡ None
no_type None e = refl
no_type (Some t) e = cc

-- no look-up, no type
pub none_at : (m : Meaning) (x : ℕ) → None ≡ option_map opened (slice_get m.«module».types x) → IsFunctionAt m x None
none_at m x e t b f p = let g : ◌≡◌ {A = Option TypeTree} None (Some t) = sym (no_type (slice_get m.«module».types x) e) ∙ f in cc

same_type : (o : Option TypeTree) (t u : TypeTree) → o ≡ Some t → o ≡ Some u → t ≡ u
same_type o t u e f = let g : ◌≡◌ {A = Option TypeTree} (Some t) (Some u) = sym e ∙ f in cc

by_inner : (m : Meaning) (x : ℕ) (t : TypeTree) (i : CompositeInnerType) → slice_get m.«module».types x ≡ Some t → inner_map (named_type m) (inner_of i) ≡ expanded t
    → IsFunctionAt m x (option_map (signature_in m) (func_in i))
by_inner m x t (Func f) e p = (
  t,
  e,
  sym p ∙ (let g : function (map (value_map (named_type m)) (map value_of f.params)) (map (value_map (named_type m)) (map value_of f.results))
      ≡ function (types_in m f.params) (types_in m f.results) = rw (types_twice m f.params, types_twice m f.results) refl in g),
)
by_inner m x t (Array a) e p = λ u b f q. (let h = same_type _ t u e f in let k = p ∙ ap expanded h ∙ q in cc)
by_inner m x t (Struct s) e p = λ u b f q. (let h = same_type _ t u e f in let k = p ∙ ap expanded h ∙ q in cc)
by_inner m x t (Cont c) e p = λ u b f q. (let h = same_type _ t u e f in let k = p ∙ ap expanded h ∙ q in cc)

pub some_at : (m : Meaning) (x : ℕ) (s : SubType) → Some (entry_in m s) ≡ option_map opened (slice_get m.«module».types x)
    → IsFunctionAt m x (option_map (signature_in m) (func_in s.composite_type.inner))
some_at m x s e =
    let (t, f, g) = some_type (entry_in m s) (slice_get m.«module».types x) e in
    by_inner m x t s.composite_type.inner f (ap (λ (y : EntryOf TypeTree). y.inner) g)

-- ---- what a block with such a type takes and gives

abbrev pub no_signature : Signature
no_signature = record { params = []; results = [] }

-- the type at an index, where there is one, and where there is none
found : (types : List TypeTree) (x : ℕ) (t : TypeTree) → slice_get types x ≡ Some t → type_at types x ≡ t
found types x t e = ⊎_elim
    (λ h. (let f : ◌≡◌ {A = Option TypeTree} (Some (type_at types x)) (Some t) = sym (slice_get-get_or types x _ h) ∙ e in cc))
    (λ h. (let f : ◌≡◌ {A = Option TypeTree} None (Some t) = sym (slice_get_past types x h) ∙ e in cc))
    (cases_lt x (length types))

pub signature_found : (m : Meaning) (x : ℕ) (b : Signature) → IsFunctionAt m x (Some b) → signature_of_type (expanded (type_at m.«module».types x)) ≡ b
signature_found m x b (t, e, p) = ap (λ (u : TypeTree). signature_of_type (expanded u)) (found m.«module».types x t e) ∙ ap signature_of_type p

-- what is no function has neither parameters nor results
no_inner : (i : InnerOf TypeTree) → ((b : Signature) → i ≡ function b.params b.results → ⊥) → signature_of_type i ≡ no_signature
no_inner (function ps rs) n = absurd (n (record { params = ps; results = rs }) refl)
no_inner (array_of a) n = refl
no_inner (struct_of s) n = refl
no_inner (continuation c) n = refl

past : (types : List TypeTree) (x : ℕ) → length types ≤ x → signature_of_type (expanded (type_at types x)) ≡ no_signature
unfolding opened
past types x h = ap (λ (u : TypeTree). signature_of_type (expanded u)) (get_or_past types x _ h)

pub signature_none : (m : Meaning) (x : ℕ) → IsFunctionAt m x None → signature_of_type (expanded (type_at m.«module».types x)) ≡ no_signature
signature_none m x n = ⊎_elim
    (λ h. no_inner (expanded (type_at m.«module».types x)) (λ b p. n (type_at m.«module».types x) b (slice_get-get_or m.«module».types x _ h) p))
    (λ h. past m.«module».types x h)
    (cases_lt x (length m.«module».types))
