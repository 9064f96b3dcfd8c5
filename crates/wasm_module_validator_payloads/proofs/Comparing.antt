-- Settings that are compared, and what a module begins with after another.
use Rattle.std.proofs.Common.{◌≡◌, ◌∙◌, ℕ, Bool, true, false, [], ap, sym}
use Rattle.std.specs.Prelude.{◌==◌, ◌&&◌, if◌then◌else◌}
use Rattle.wasm_types.specs.settings.contracts.LimitsPartialEq.TheImpl as limits
use Rattle.wasm_types.specs.settings.declared.Limits.{Limits}
use Rattle.wasm_types.specs.settings.Settings.{Settings}
use Rattle.wasm_module_validator_payloads.specs.Progress.{Kept, are_same, nothing_over, nothing_kept, renewed, next_over}

module _ (y z : Settings) (m n : ℕ) (a : Bool) (e : m ≡ y.features) (f : n ≡ z.features) (told : a ≡ (m == n)) where
  features_told : a ≡ (y.features == z.features)
  features_told = told ∙ (ap (λ k. k == n) e ∙ ap (λ k. y.features == k) f)

  -- the features are the same, so the limits decide
  pub limits_decide : (p q : Limits) (b : Bool) → a ≡ true → p ≡ y.limits → q ≡ z.limits → b ≡ limits.ghosts.eq p q → b ≡ are_same y z
  limits_decide p q b it g h told =
      told ∙ (ap (λ l. limits.ghosts.eq l q) g ∙ ap (limits.ghosts.eq y.limits) h)
      ∙ ap (λ c. c && limits.ghosts.eq y.limits z.limits) (sym it ∙ features_told)

  pub features_decide : a ≡ false → a ≡ are_same y z
  features_decide it = it ∙ ap (λ c. c && limits.ghosts.eq y.limits z.limits) (sym it ∙ features_told)

module _ (z : Settings) (k : Kept) (a : Bool) (told : a ≡ are_same k.items.spaces.settings z) where
  -- over the same list, as the settings are the same
  pub same_list : a ≡ true → k.items.spaces.settings ≡ z → (next_over k).kept ≡ (renewed z k).kept
  same_list it same =
      ap (λ (w : Settings). (nothing_over k.groups w).kept) same
      ∙ ap (λ c. (nothing_over (if c then k.groups else []) z).kept) (sym it ∙ told)

  -- over another, as they are not
  pub other_list : a ≡ false → (nothing_kept z).kept ≡ (renewed z k).kept
  other_list it = ap (λ c. (nothing_over (if c then k.groups else []) z).kept) (sym it ∙ told)
