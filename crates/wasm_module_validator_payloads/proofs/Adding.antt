-- What is promised of an item over trees, as it is promised of what was read.
use Rattle.std.proofs.Common.{◌≡◌, ℕ, Result, Ok, Err, IfErr, refl, sym, subst}
use Rattle.std.specs.Prelude.{OnOk}
use Rattle.wasm_types.specs.decoding.Denials.{Tells}
use Rattle.wasm_types.specs.decoding.DenialLaws.{denies_from}
use Rattle.wasm_types.specs.decoding.ErrorValue.{ErrorValue}
use Rattle.wasm_types.specs.settings.Settings.{Settings}
use Rattle.wasm_module_validator_section_order.specs.rules.Syntax.{ModuleTree}
use Rattle.wasm_module_validator_section_order.specs.rules_in_order.Sections.{Section}
use Rattle.wasm_module_validator_section_order.specs.rules_in_order.Texts.{ItemRead, AddsRead}
use Rattle.wasm_module_validator_section_order.specs.sections.Sections.{Reading, AddsIn, RefusesIn}
use Rattle.wasm_module_validator_payloads.specs.Progress.{Kept, IsRead}

pub told_one : {X : Type 0} (z : Settings) (m : ModuleTree) (s : Section) (x : ItemRead s) (result : Result X ErrorValue) → Tells result ((n : ModuleTree) × AddsRead z s m x n)
    → Tells result ((v : Reading) × AddsIn s (record { settings = z; tree = m }) x v)
told_one z m s x (Ok u) h = (record { settings = z; tree = h.0 }, (h.1, refl))
told_one z m s x (Err e) h = denies_from e.kind _ _ (λ a. (a.0.tree, a.1.0)) h

module _ (s : Section) (x : ItemRead s) {X : Type 0} (result : Result X ErrorValue) (first k : Kept) (same : first ≡ k) where
  here : (u : Reading) → IsRead s k u → IsRead s first u
  here u h = subst (λ (j : Kept). IsRead s j u) (sym same) h

  pub refused_one : ℕ → ((z : Settings) (m : ModuleTree) → IsRead s first (record { settings = z; tree = m }) → Tells result ((n : ModuleTree) × AddsRead z s m x n))
      → IfErr result (λ e. (u : Reading) → IsRead s k u → RefusesIn s u x 0 e)
  refused_one p answer = go result answer
    where
      go : (r : Result X ErrorValue) → ((z : Settings) (m : ModuleTree) → IsRead s first (record { settings = z; tree = m }) → Tells r ((n : ModuleTree) × AddsRead z s m x n))
          → IfErr r (λ e. (u : Reading) → IsRead s k u → RefusesIn s u x 0 e)
      go (Ok u) answer = tt
      go (Err e) answer = λ u h. denies_from e.kind _ _ (λ a. (a.0.tree, a.1.0)) (answer u.settings u.tree (here u h))

module _ (s : Section) (x : ItemRead s) {X : Type 0} where
  pub added_one : (result : Result X ErrorValue) (first k after : Kept) → first ≡ k
      → OnOk result ((z : Settings) (m n : ModuleTree) → IsRead s first (record { settings = z; tree = m }) → AddsRead z s m x n → IsRead s after (record { settings = z; tree = n }))
      → OnOk result ((u v : Reading) → IsRead s k u → AddsIn s u x v → IsRead s after v)
  added_one (Ok w) first k after same added = λ u v h adds.
      subst (λ (z : Settings). IsRead s after (record { settings = z; tree = v.tree })) (sym adds.1)
      (added u.settings u.tree v.tree (subst (λ (j : Kept). IsRead s j u) (sym same) h) adds.0)
  added_one (Err e) first k after same added = tt
