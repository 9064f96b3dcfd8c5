-- A list of types that grows, and settings that stay.
use Rattle.std.proofs.Common.{◌≡◌, ◌∙◌, ℕ, List, Result, Ok, Err, refl, sym, subst, arith}
use Rattle.std.specs.Prelude.{OnOk}
use Rattle.wasm_types.specs.decoding.ErrorValue.{ErrorValue}
use Rattle.wasm_types.specs.trees.Trees.{TypeTree}
use Rattle.wasm_module_validator_type_storage.specs.trees.Groups.{Group}
use Rattle.wasm_module_validator_resources.specs.index_spaces.Spaces.{Spaces}
use Rattle.wasm_module_validator_state.specs.invariant.Standing.{GrowsWith}
use Rattle.wasm_module_validator_state.specs.invariant.laws.Growing.{grows_by_none, grown_further, own_further}
use Rattle.wasm_module_validator_declarations.specs.Total.{IsPastTotal}
use Rattle.wasm_module_validator_declarations.specs.TotalLaws.{past_before}
use Rattle.wasm_module_validator_payloads.specs.Progress.{Kept, Grows}

pub grows_by_nothing : (k : Kept) → Grows k k
grows_by_nothing k = let g = grows_by_none k.groups k.items.spaces k.items.spaces refl in record { groups = g.0; types = g.1; own = g.2; settings = refl }

pub grows_further : (j k l : Kept) → Grows j k → Grows k l → Grows j l
grows_further j k l a b =
    let first = a.types in
    let second = b.types in
    record {
      groups = grown_further j.groups k.groups l.groups a.groups b.groups;
      types = omega (arith, first, second);
      own = own_further j.groups k.groups l.groups j.items.spaces.types k.items.spaces.types l.items.spaces.types a.own b.own;
      settings = b.settings ∙ a.settings;
    }

-- what stays has grown by nothing
pub stays : {X : Type 0} (result : Result X ErrorValue) (k l : Kept) → l ≡ k → OnOk result (Grows k l)
stays (Ok x) k l e = subst (λ (j : Kept). Grows k j) (sym e) (grows_by_nothing k)
stays (Err e) k l f = tt

pub list_stays : {X : Type 0} (result : Result X ErrorValue) (groups : List Group) (s t : Spaces) → t.types ≡ s.types → OnOk result (GrowsWith groups s groups t)
list_stays (Ok x) groups s t e = grows_by_none groups s t e
list_stays (Err x) groups s t e = tt

-- where the list has grown and the settings stay
pub grown_one : {X : Type 0} (result : Result X ErrorValue) (first k after : Kept) → first ≡ k → OnOk result (after.items.spaces.settings ≡ first.items.spaces.settings)
    → OnOk result (GrowsWith first.groups first.items.spaces after.groups after.items.spaces) → OnOk result (Grows k after)
grown_one (Ok x) first k after e s g = subst (λ (j : Kept). Grows j after) e (record { groups = g.0; types = g.1; own = g.2; settings = s })
grown_one (Err x) first k after e s g = tt

-- ---- a list that is full

-- was so before
pub total_before : (k l : Kept) (Has : List TypeTree → ℕ → Type 0) (e : ErrorValue) → Grows k l → IsPastTotal l.groups l.items Has e → IsPastTotal k.groups k.items Has e
total_before k l Has e g p = past_before k.groups l.groups k.items l.items Has e (g.groups, g.types, g.own) g.settings p
