-- What an index names, if it names a type, and if it names none: then it is, in the rules, of a function from nothing to nothing.
use Rattle.std.proofs.Common.{◌≡◌, ◌∙◌, ℕ, zero, suc, List, [], ◌∷◌, get_or, Option, Some, None, option_and_then, slice_get, refl, sym, ap}
use Rattle.std.proofs.lemmas.Option.{get_or_from_slice_get}
use Rattle.wasm_types.specs.trees.declared.index.UnpackedIndex.{UnpackedIndex}
use Rattle.wasm_types.specs.trees.declared.index.UnpackedIndex.TheVariants as index
use Rattle.wasm_types.specs.trees.Types.{InnerOf, function, array_of, struct_of, continuation}
use Rattle.wasm_types.specs.trees.Trees.{TypeTree, group_tree, opened}
use Rattle.wasm_types.specs.trees.Below.{expanded}
use Rattle.wasm_operator_validator_resources.specs.Meaning.{Meaning, named_type}
use Rattle.wasm_operator_validator_arity.specs.Knowing.{type_named, function_alone, function_named}

pub named : (m : Meaning) (i : UnpackedIndex) (t : TypeTree) → type_named m i ≡ Some t → named_type m i ≡ t
named m (index.Module n) t e = get_or_from_slice_get m.«module».types n t _ e
named m (index.RecGroup n) t e = get_or_from_slice_get m.«module».types n t _ e
named m (index.Id i) t e = get_or_from_slice_get m.ids i.0 t _ e

unread : (ts : List TypeTree) (n : ℕ) (d : TypeTree) → slice_get ts n ≡ None → get_or ts n d ≡ d
unread [] n d e = refl
unread (t ∷ ts) zero d e = cc
unread (t ∷ ts) (suc n) d e = unread ts n d e

no_type : (n : ℕ) → expanded (record { group = group_tree []; place = n }) ≡ function [] []
unfolding opened
no_type n = refl

pub unnamed : (m : Meaning) (i : UnpackedIndex) → type_named m i ≡ None → expanded (named_type m i) ≡ function [] []
unnamed m (index.Module n) e = ap expanded (unread m.«module».types n _ e) ∙ no_type n
unnamed m (index.RecGroup n) e = ap expanded (unread m.«module».types n _ e) ∙ no_type n
unnamed m (index.Id i) e = ap expanded (unread m.ids i.0 _ e) ∙ no_type i.0

-- ---- functions

is_function : (i f : InnerOf TypeTree) → function_alone i ≡ Some f → i ≡ f
is_function (function ps rs) f e = cc
is_function (array_of x) f e = cc
is_function (struct_of xs) f e = cc
is_function (continuation t) f e = cc

found_function : (o : Option TypeTree) (f : InnerOf TypeTree) → Some f ≡ option_and_then (λ t. function_alone (expanded t)) o
    → (t : TypeTree) × (o ≡ Some t) × (expanded t ≡ f)
found_function None f e = cc
found_function (Some t) f e = (t, refl, is_function (expanded t) f (sym e))

-- the function that an index names is what the rules see
pub function_seen : (m : Meaning) (i : UnpackedIndex) (f : InnerOf TypeTree) → Some f ≡ function_named m i → expanded (named_type m i) ≡ f
function_seen m i f e =
    let (t, is, same) = found_function (type_named m i) f e in
    ap expanded (named m i t is) ∙ same
