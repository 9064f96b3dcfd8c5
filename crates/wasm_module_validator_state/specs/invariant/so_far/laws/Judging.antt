-- A body is judged by a module as far as it was read as by the tree; constants by a context in which each function may be referred to.
use Rattle.std.proofs.Common.{◌≡◌, ◌∙◌, ◌↔◌, ◌⊎◌, inl, inr, ⊎_elim, ◌<◌, ◌+◌, ℕ, zero, suc, Bool, true, false, List, [], ◌∷◌, map, length, Some, slice_get, refl, sym, ap, subst, arith}
use Rattle.std.specs.Prelude.{if◌then◌else◌, get_or}
use Rattle.std.proofs.lemmas.List.{length-map}
use Rattle.std.proofs.lemmas.Option.{slice_get-get_or}
use Rattle.wasm_types.specs.settings.Settings.{Settings}
use Rattle.wasm_types.specs.trees.ValidGroup.{type_at}
use Rattle.wasm_operator_validator_rules.specs.Context.{Module}
use Rattle.wasm_operator_validator_rules.specs.Row.{IsOneOf}
use Rattle.wasm_module_validator_checks.specs.rules.Syntax.{ModuleTree}
use Rattle.wasm_module_validator_checks.specs.rules.Syntax as tree
use Rattle.wasm_module_validator_checks.specs.rules.Spaces.{FunctionEntry, types_behind, function_space, referenced_in, module_of}
use Rattle.wasm_module_validator_checks.specs.rules.Valid.{HasValidBody}
use Rattle.wasm_module_validator_resources.specs.rules_in_order.contexts.Agreement.{AgreeForCode}
use Rattle.wasm_module_validator_resources.specs.rules_in_order.contexts.InOrder.{places_from, context_so_far}
use Rattle.wasm_module_validator_resources.specs.rules_in_order.contexts.laws.Bodies.{body_agrees}
use Rattle.wasm_module_validator_type_storage.specs.trees.Groups.{Group}
use Rattle.wasm_module_validator_resources.specs.index_spaces.declared.module.Function.{Function}
use Rattle.wasm_module_validator_resources.specs.index_spaces.Spaces.{Spaces, own_function}
use Rattle.wasm_module_validator_resources.specs.Reading.{places, context_of}
use Rattle.wasm_module_validator_state.specs.invariant.so_far.SoFar.{entry_of, IsReadAs}
use Rattle.wasm_module_validator_state.specs.invariant.so_far.Referring.{IsReferredAs}
use Rattle.wasm_module_validator_state.specs.invariant.so_far.laws.Context.{context_is}

-- ---- the places of functions that are so

-- what is there of a function that is so
abbrev StandsSo : (Function → Bool) → ℕ → List Function → Type 0
StandsSo p x fs = (f : Function) × (slice_get fs x ≡ Some f) × (p f ≡ true)

-- the first is so, or a later one
first_or : (b : Bool) (x i : ℕ) (xs : List ℕ) → IsOneOf x (if b then i ∷ xs else xs) → ((b ≡ true) × (x ≡ i)) ⊎ IsOneOf x xs
first_or true x i xs h = ⊎_elim (λ e. inl (refl, e)) (λ r. inr r) h
first_or false x i xs h = inr h

or_first : (b : Bool) (x i : ℕ) (xs : List ℕ) → IsOneOf x xs → IsOneOf x (if b then i ∷ xs else xs)
or_first true x i xs h = inr h
or_first false x i xs h = h

module _ (p : Function → Bool) where
  pub stands_so : (fs : List Function) (i x : ℕ) → IsOneOf x (places p i fs) → (k : ℕ) × (x ≡ i + k) × StandsSo p k fs
  stands_so [] i x h = absurd h
  stands_so (f ∷ fs) i x h = ⊎_elim {C = (k : ℕ) × (x ≡ i + k) × StandsSo p k (f ∷ fs)} (λ (so, e). (zero, (omega (arith, e)), (f, refl, so)))
      (λ r. let (k, e, so) = stands_so fs (suc i) x r in (suc k, (omega (arith, e)), so)) (first_or (p f) x i (places p (suc i) fs) h)

  pub so_stands : (fs : List Function) (i k : ℕ) → StandsSo p k fs → IsOneOf (i + k) (places p i fs)
  so_stands [] i k (f, at, so) = absurd cc
  so_stands (g ∷ fs) i zero (f, at, so) =
      let same : p g ≡ true = subst (λ (h : Function). p h ≡ true) (sym (some_is g f at)) so in
      let here : i + zero ≡ i = omega arith in
      subst (λ (b : Bool). IsOneOf (i + zero) (if b then i ∷ places p (suc i) fs else places p (suc i) fs)) (sym same) (inl here)
    where
      some_is : (h k : Function) → Some h ≡ Some k → h ≡ k
      some_is h k e = cc
  so_stands (g ∷ fs) i (suc k) (f, at, so) =
      let e : suc i + k ≡ i + suc k = omega arith in
      or_first (p g) (i + suc k) i (places p (suc i) fs) (subst (λ n. IsOneOf n (places p (suc i) fs)) e (so_stands fs (suc i) k (f, at, so)))

-- ---- bodies

module _ (groups : List Group) (s : Spaces) (m : ModuleTree) (r : IsReadAs groups s m) where
  abbrev marks : List ℕ
  marks = places (λ (f : Function). f.is_referenced) 0 s.functions

  -- the context of the tree, with the functions that are marked to refer to
  abbrev marked : Module
  marked = record (module_of m) { referenced = marks }

  count_is : length (module_of m).functions ≡ length s.functions
  count_is =
      length-map (function_space m) (λ (f : FunctionEntry). type_at (types_behind [] m.types) f.type) ∙ (sym (ap length r.functions) ∙ length-map s.functions entry_of)

  module _ (referred : IsReferredAs s m) where
    marked_is_referred : (x : ℕ) → IsOneOf x marks → IsOneOf x (referenced_in m)
    marked_is_referred x h =
        let (k, e, (f, at, so)) = stands_so (λ (g : Function). g.is_referenced) s.functions 0 x h in
        let same : k ≡ x = omega (arith, e) in
        subst (λ n. IsOneOf n (referenced_in m)) same ((referred k f at).0 so)

    referred_is_marked : (x : ℕ) → x < length s.functions → IsOneOf x (referenced_in m) → IsOneOf x marks
    referred_is_marked x l h =
        let at = slice_get-get_or s.functions x (own_function 0) l in
        let e : 0 + x ≡ x = omega arith in
        subst (λ n. IsOneOf n marks) e (so_stands (λ (g : Function). g.is_referenced) s.functions 0 x (get_or s.functions x (own_function 0), at, (referred x (get_or s.functions x (own_function 0)) at).1 h))

    there : AgreeForCode marked (module_of m)
    there = record { types = refl; functions = refl; tables = refl; memories = refl; globals = refl; tags = refl; elements = refl; data_count = refl; exact_functions = refl }

    back : AgreeForCode (module_of m) marked
    back = record { types = refl; functions = refl; tables = refl; memories = refl; globals = refl; tags = refl; elements = refl; data_count = refl; exact_functions = refl }

    pub body_is_judged : (z : Settings) (x : ℕ) (f : tree.Function) → HasValidBody z (context_of groups s) x f ↔ HasValidBody z (module_of m) x f
    body_is_judged z x f = (
      λ h. body_agrees marked (module_of m) there (λ n l k. marked_is_referred n k) z x f (subst (λ g. HasValidBody z g x f) (context_is groups s m r) h),
      λ h. subst (λ g. HasValidBody z g x f) (sym (context_is groups s m r))
          (body_agrees (module_of m) marked back (λ n l k. referred_is_marked n (subst (λ c. n < c) count_is l) k) z x f h),
    )

  -- ---- constants

  places_mapped : {A B : Type 0} (f : A → B) (i : ℕ) (xs : List A) → places_from i (map f xs) ≡ places_from i xs
  places_mapped f i [] = refl
  places_mapped f i (x ∷ xs) = ap (λ ys. i ∷ ys) (places_mapped f (suc i) xs)

  -- where each function may be referred to, it is the context so far
  pub context_so_far_is : record (context_of groups s) { referenced = places_from 0 s.functions } ≡ context_so_far m
  context_so_far_is =
      let each : places_from 0 s.functions ≡ places_from 0 (function_space m) = sym (places_mapped entry_of 0 s.functions) ∙ ap (places_from 0) r.functions in
      ap (λ (g : Module). record g { referenced = places_from 0 s.functions }) (context_is groups s m r) ∙ ap (λ xs. record (module_of m) { referenced = xs }) each
