-- Groups of types that are valid one after the other, as items in turn.
use Rattle.std.proofs.Common.{◌≡◌, ◌+◌, ℕ, zero, suc, List, [], ◌∷◌, ◌++◌, length, refl, sym, ap, ◌∙◌, subst}
use Rattle.std.proofs.lemmas.List.{append_assoc, append-nil, length-append}
use Rattle.wasm_types.specs.settings.Settings.{Settings}
use Rattle.wasm_types.specs.trees.Trees.{TypeTree, GroupTree}
use Rattle.wasm_types.specs.trees.ValidGroup.{Written, written_tree, types_from, types_of, IsValidGroup, AreValidGroups, done, next}
use Rattle.wasm_module_validator_rules.specs.Spaces.{types_behind}
use Rattle.wasm_module_validator_rules_in_order.specs.contexts.InOrder.{InTurn}

types_behind_one : (space : List TypeTree) (gs : List Written) (g : Written) → types_behind space (gs ++ g ∷ []) ≡ types_behind space gs ++ types_of (types_behind space gs) g
types_behind_one space [] g = refl
types_behind_one space (h ∷ gs) g = types_behind_one (space ++ types_of space h) gs g

many_types : (t : GroupTree) (place n : ℕ) → length (types_from t place n) ≡ n
unfolding types_from
many_types t place zero = refl
many_types t place (suc n) = ap suc (many_types t (suc place) n)

-- a group adds as many types as it has
pub types_grow : (gs : List Written) (g : Written) → length (types_behind [] (gs ++ g ∷ [])) ≡ length (types_behind [] gs) + length g.types
types_grow gs g = ap length (types_behind_one [] gs g)
    ∙ (length-append (types_behind [] gs) (types_of (types_behind [] gs) g) ∙ ap (λ n. length (types_behind [] gs) + n) (many_types (written_tree (types_behind [] gs) g) 0 (length g.types)))

module _ (z : Settings) where
  abbrev pub IsGroupInTurn : List Written → Written → Type 0
  IsGroupInTurn b g = IsValidGroup z (types_behind [] b) g

  groups_go : (b gs : List Written) → InTurn IsGroupInTurn b gs → AreValidGroups z (types_behind [] b) gs (types_behind [] (b ++ gs))
  groups_go b [] h = subst (λ l. AreValidGroups z (types_behind [] b) [] (types_behind [] l)) (sym (append-nil b)) done
  groups_go b (g ∷ gs) h =
      let rest = groups_go (b ++ g ∷ []) gs h.1 in
      let moved = subst (λ l. AreValidGroups z (types_behind [] (b ++ g ∷ [])) gs (types_behind [] l)) (append_assoc b (g ∷ []) gs) rest in
      next h.0 (subst (λ space. AreValidGroups z space gs (types_behind [] (b ++ (g ∷ gs)))) (types_behind_one [] b g) moved)

  groups_come : (b gs : List Written) (after : List TypeTree) → AreValidGroups z (types_behind [] b) gs after → InTurn IsGroupInTurn b gs
  groups_come b [] after h = tt
  groups_come b (g ∷ gs) after (next v vs) = (v, groups_come (b ++ g ∷ []) gs after (subst (λ space. AreValidGroups z space gs after) (sym (types_behind_one [] b g)) vs))

  pub groups_from_turn : (gs : List Written) → InTurn IsGroupInTurn [] gs → AreValidGroups z [] gs (types_behind [] gs)
  groups_from_turn gs h = groups_go [] gs h

  pub groups_in_turn : (gs : List Written) → AreValidGroups z [] gs (types_behind [] gs) → InTurn IsGroupInTurn [] gs
  groups_in_turn gs h = groups_come [] gs (types_behind [] gs) h
