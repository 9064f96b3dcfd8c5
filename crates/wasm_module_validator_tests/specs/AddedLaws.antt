-- The rows of `Added`.
use Rattle.std.proofs.Common.{◌≡◌, ◌⊎◌, ◌<◌, inl, inr, ℕ, List, [], ◌∷◌, Option, Some, None, refl, ap, arith, lit<}
use Rattle.wasm_types.specs.settings.Settings.{Settings}
use Rattle.wasm_types.specs.trees.Unfold.{type_count, type_tree}
use Rattle.wasm_types.specs.trees.ValidGroup.{types_from}
use Rattle.wasm_operator_validator_rules.specs.Context.{Module}
use Rattle.wasm_module_validator_initialisers.specs.state.Contexts.{AlsoRefers}
use Rattle.wasm_module_validator_initialisers.specs.resources.Reading.{types_by_id}
use Rattle.wasm_module_validator_initialisers.specs.resources.referring.Referring.{type_in}
use Rattle.wasm_module_validator_tests.specs.Added.{SpacesAdded, SpacesMarked, ContextsAdded, ContextsRefer, ModulesMean, one_function}

pub spaces_added : (z : Settings) → SpacesAdded z
spaces_added z = record {
  functions = refl;
  imported = refl;
  imported_exactly = refl;
  tables = refl;
  table_imported = refl;
  memories = refl;
  globals = refl;
  global_imported = refl;
  tags = refl;
  elements = refl;
  data_count = refl;
}

pub spaces_marked : (z : Settings) (x : ℕ) → SpacesMarked z x
spaces_marked z x = record {
  first = refl;
  second = refl;
  exactly = refl;
  unknown = refl;
  table = refl;
  memory = refl;
  global = refl;
  tag = refl;
}

pub contexts_added : ContextsAdded
contexts_added = record {
  types = refl;
  function = refl;
  exact_function = refl;
  imported = refl;
  imported_exactly = refl;
  table = refl;
  memory = refl;
  global = refl;
  tag = refl;
  element = refl;
  data_count = refl;
}

-- ---- references to functions

also : AlsoRefers 0 (one_function []) (one_function (0 ∷ []))
also = record { same = refl; referenced = λ y. (λ o. there y o, λ o. back y o) }
  where
    there : (y : ℕ) → (y ≡ 0) ⊎ ⊥ → ⊥ ⊎ ((y ≡ 0) × (0 < 1))
    there y (inl e) = inr (e, lit< tt)
    there y (inr f) = absurd f

    back : (y : ℕ) → ⊥ ⊎ ((y ≡ 0) × (0 < 1)) → (y ≡ 0) ⊎ ⊥
    back y (inl f) = absurd f
    back y (inr h) = inl h.0

unknown : AlsoRefers 1 (one_function []) (one_function [])
unknown = record { same = refl; referenced = λ y. (λ o. absurd o, λ o. back y o) }
  where
    back : (y : ℕ) → ⊥ ⊎ ((y ≡ 1) × (1 < 1)) → ⊥
    back y (inl f) = f
    back y (inr h) = let k = h.1 in omega (arith, k)

nothing_more : AlsoRefers 0 (one_function []) (one_function []) → ⊥
nothing_more h = (h.referenced 0).1 (inr (refl, lit< tt))

another : AlsoRefers 0 (one_function []) (one_function (0 ∷ 1 ∷ [])) → ⊥
another h = no ((h.referenced 1).0 (inr (inl refl)))
  where
    no : ⊥ ⊎ (◌≡◌ {A = ℕ} 1 0 × (0 < 1)) → ⊥
    no (inl f) = f
    no (inr k) = let n : ◌≡◌ {A = ℕ} 1 0 = k.0 in omega (arith, n)

lost : AlsoRefers 0 (one_function (3 ∷ [])) (one_function (0 ∷ [])) → ⊥
lost h = no ((h.referenced 3).1 (inl (inl refl)))
  where
    no : ◌≡◌ {A = ℕ} 3 0 ⊎ ⊥ → ⊥
    no (inl e) = omega (arith, e)
    no (inr f) = f

invented : AlsoRefers 1 (one_function []) (one_function (1 ∷ [])) → ⊥
invented h = no ((h.referenced 1).0 (inl refl))
  where
    no : ⊥ ⊎ (◌≡◌ {A = ℕ} 1 1 × (1 < 1)) → ⊥
    no (inl f) = f
    no (inr k) = let n = k.1 in omega (arith, n)

otherwise : (g : Module) → AlsoRefers 0 (one_function []) g → g.data_count ≡ Some 1 → ⊥
otherwise g h e = let f = ap (λ (k : Module). k.data_count) h.same in absurd cc

changed : one_function (0 ∷ []) ≡ one_function [] → ⊥
changed e = let f = ap (λ (k : Module). k.referenced) e in absurd cc

pub contexts_refer : ContextsRefer
contexts_refer = record {
  also = also;
  not_also = nothing_more;
  not_another = another;
  not_lost = lost;
  not_unknown = invented;
  unknown = unknown;
  otherwise = λ h. otherwise _ h refl;
  function = also;
  function_not = nothing_more;
  exactly = also;
  exactly_not = nothing_more;
  table = refl;
  table_not = changed;
  memory = refl;
  memory_not = changed;
  global = refl;
  global_not = changed;
  tag = refl;
  tag_not = changed;
}

pub modules_mean : (z : Settings) → ModulesMean z
unfolding types_by_id types_from type_tree type_count type_in
modules_mean z = record {
  ids = refl;
  types = refl;
  functions = refl;
  memories = refl;
  tags = refl;
  data_count = refl;
  referenced = refl;
  exact = refl;
  tables = refl;
  globals = refl;
  elements = refl;
  meant = refl;
  known = refl;
}
