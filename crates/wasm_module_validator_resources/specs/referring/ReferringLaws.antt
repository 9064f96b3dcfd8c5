-- The places of a list are those below its length; the context so far is the one in which each function may be referred to.
use Rattle.std.proofs.Common.{◌≡◌, ◌∙◌, ◌↔◌, ◌⊎◌, inl, inr, ⊎_elim, ℕ, zero, suc, ◌+◌, ◌<◌, ◌≤◌, List, [], ◌∷◌, length, map, refl, ap, sym, subst, arith, true, false, Option, Some, None}
use Rattle.std.specs.Prelude.{slice_get}
use Rattle.std.proofs.lemmas.Bool.{cases_lt}
use Rattle.std.proofs.lemmas.Option.{slice_get_within, slice_get_cases}
use Rattle.wasm_operator_validator_rules.specs.Context.{Module}
use Rattle.wasm_operator_validator_rules.specs.Row.{IsOneOf}
use Rattle.wasm_operator_validator_resources.specs.Answers.{IsTypeOf}
use Rattle.wasm_module_validator_rules_in_order.specs.contexts.InOrder.{places_from, context_so_far}
use Rattle.wasm_module_validator_rules_in_order.specs.rules.Syntax.{ModuleTree}
use Rattle.wasm_module_validator_rules_in_order.specs.rules.Spaces.{FunctionEntry, function_space, types_behind, module_of}
use Rattle.wasm_types.specs.trees.ValidGroup.{type_at}
use Rattle.wasm_module_validator_resources.specs.referring.Referring.{with_all_referenced}

pub places_mapped : {A B : Type 0} (f : A → B) (i : ℕ) (xs : List A) → places_from i (map f xs) ≡ places_from i xs
places_mapped f i [] = refl
places_mapped f i (x ∷ xs) = ap (λ (ns : List ℕ). i ∷ ns) (places_mapped f (suc i) xs)

module _ {A : Type 0} where
  -- a place is from the first on, and before the end
  pub place_within : (x i : ℕ) (xs : List A) → IsOneOf x (places_from i xs) → (i ≤ x) × (x < i + length xs)
  place_within x i [] h = absurd h
  place_within x i (y ∷ ys) (inl e) = (omega (arith, e), omega (arith, e))
  place_within x i (y ∷ ys) (inr h) = let r = place_within x (suc i) ys h in (omega (arith, r.0), omega (arith, r.1))

  pub within_place : (x i : ℕ) (xs : List A) → i ≤ x → x < i + length xs → IsOneOf x (places_from i xs)
  within_place x i [] l m = absurd (omega (arith, l, m))
  within_place x i (y ∷ ys) l m = ⊎_elim (λ lt. inr (within_place x (suc i) ys (omega (arith, lt)) (omega (arith, m)))) (λ ge. inl (omega (arith, l, ge))) (cases_lt i x)

pub placed_below : (x : ℕ) (xs : List ℕ) → IsOneOf x (places_from 0 xs) ↔ x < length xs
placed_below x xs = (λ h. let r = (place_within x 0 xs h).1 in omega (arith, r), λ lt. within_place x 0 xs (omega arith) (omega (arith, lt)))

-- the context of a tree so far
pub so_far : (m : ModuleTree) → with_all_referenced (module_of m) ≡ context_so_far m
so_far m =
    let same = places_mapped (λ (f : FunctionEntry). type_at (types_behind [] m.types) f.type) 0 (function_space m) in
    λ i. record (module_of m) { referenced = same i }

-- a function that has a type is one of the module, and each of the module has one
pub typed_is_placed : (g : Module) (x y : ℕ) → IsTypeOf g x (Some y) → IsOneOf x (places_from 0 g.functions)
typed_is_placed g x y (t, found, named) = let lt = slice_get_within g.functions x t found in within_place x 0 g.functions (omega arith) (omega (arith, lt))

pub untyped_is_not : (g : Module) (x : ℕ) → IsTypeOf g x None → IsOneOf x (places_from 0 g.functions) → ⊥
untyped_is_not g x none h =
    let lt = (place_within x 0 g.functions h).1 in
    ⊎_elim (λ w. let e : Some w.0 ≡ None = sym w.2 ∙ none in cc) (λ w. omega (arith, w.0, lt)) (slice_get_cases g.functions x).1
