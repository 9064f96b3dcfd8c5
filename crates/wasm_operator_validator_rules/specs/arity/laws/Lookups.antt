-- What was looked up was there.
use Rattle.std.proofs.Common.{◌≡◌, ℕ, Bool, true, false, List, [], ◌∷◌, ◌++◌, length, Option, Some, None, option_and_then, slice_get, if◌then◌else◌, refl, ap, ◌∙◌, sym, length-append}
use Rattle.wasm_types.specs.trees.Types.{InnerOf, function, array_of, struct_of, continuation}
use Rattle.wasm_types.specs.trees.Trees.{TypeTree}
use Rattle.wasm_types.specs.trees.Below.{is_shared}
use Rattle.wasm_operator_validator_rules.specs.Context.{Context, Signature, may_use}
use Rattle.wasm_operator_validator_rules.specs.Named.{used_type, as_function}
use Rattle.wasm_operator_validator_rules.specs.InstructionTypes.{InstructionType, named}

pub named_is : {A : Type 0} (o : Option A) (f : A → Option InstructionType) (u : InstructionType) → named o f ≡ Some u
    → (x : A) × (o ≡ Some x) × (f x ≡ Some u)
named_is None f u e = absurd cc
named_is (Some x) f u e = (x, refl, e)

kept_if : {A : Type 0} (b : Bool) (y x : A) → (if b then Some y else None) ≡ Some x → Some y ≡ Some x
kept_if true y x e = e
kept_if false y x e = absurd cc

kept_is : {A : Type 0} (p : A → Bool) (o : Option A) (x : A) → option_and_then (λ t. if p t then Some t else None) o ≡ Some x → o ≡ Some x
kept_is p None x e = absurd cc
kept_is p (Some y) x e = kept_if (p y) y x e

pub used_is : (g : Context) (x : ℕ) (t : TypeTree) → used_type g x ≡ Some t → slice_get g.«module».types x ≡ Some t
used_is g x t e = kept_is (λ u. may_use g (is_shared u)) (slice_get g.«module».types x) t e

pub function_is : (i : InnerOf TypeTree) (b : Signature) → as_function i ≡ Some b → i ≡ function b.params b.results
function_is (function ps rs) b e =
    let c : Signature = record { params = ps; results = rs } in let h : c ≡ b = cc in ap (λ (d : Signature). function d.params d.results) h
function_is (array_of x) b e = absurd cc
function_is (struct_of xs) b e = absurd cc
function_is (continuation f) b e = absurd cc

pub one_more : {A : Type 0} (xs : List A) (x : A) (y : A) → length (xs ++ x ∷ []) ≡ length (xs ++ y ∷ [])
one_more xs x y = length-append xs (x ∷ []) ∙ sym (length-append xs (y ∷ []))
