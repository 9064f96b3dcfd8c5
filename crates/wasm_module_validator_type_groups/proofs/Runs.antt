-- Runs of valid groups, one group longer.
use Rattle.std.proofs.Common.{◌≡◌, ◌↔◌, List, [], ◌∷◌, ◌++◌, refl, sym, subst}
use Rattle.wasm_types.specs.settings.Settings.{Settings}
use Rattle.wasm_types.specs.trees.Trees.{TypeTree}
use Rattle.wasm_types.specs.trees.ValidGroup.{Written, types_of, IsValidGroup, AreValidGroups, done, next}

module _ (z : Settings) (g : Written) where
  run_down : (before after : List TypeTree) (gs : List Written) → AreValidGroups z before (gs ++ g ∷ []) after
      → (space : List TypeTree) × AreValidGroups z before gs space × IsValidGroup z space g × (after ≡ space ++ types_of space g)
  run_down before after [] (next v done) = (before, done, v, refl)
  run_down before after (h ∷ hs) (next v r) =
      let w = run_down (before ++ types_of before h) after hs r in
      (w.0, next v w.1, w.2, w.3)

  run_up : (before space : List TypeTree) (gs : List Written) → AreValidGroups z before gs space → IsValidGroup z space g
      → AreValidGroups z before (gs ++ g ∷ []) (space ++ types_of space g)
  run_up before space [] done v = next v done
  run_up before space (h ∷ hs) (next w r) v = next w (run_up (before ++ types_of before h) space hs r v)

  pub run_longer : (before after : List TypeTree) (gs : List Written) → AreValidGroups z before (gs ++ g ∷ []) after
      ↔ ((space : List TypeTree) × AreValidGroups z before gs space × IsValidGroup z space g × (after ≡ space ++ types_of space g))
  run_longer before after gs = (
    run_down before after gs,
    λ w. subst (AreValidGroups z before (gs ++ g ∷ [])) (sym w.3) (run_up before w.0 gs w.1 w.2),
  )
