-- A module of which nothing was read stands over a list with no types, and over that of a module before.
use Rattle.std.proofs.Common.{arith, ◌≡◌, ◌∙◌, sym, ap, subst, ℕ, ◌<◌, List, [], true}
use Rattle.wasm_types.specs.settings.Limits.{IsWithinCeilings}
use Rattle.wasm_types.specs.settings.Settings.{Settings}
use Rattle.wasm_types.specs.trees.Unfold.{type_count}
use Rattle.wasm_module_validator_type_storage.specs.trees.Groups.{Group, count}
use Rattle.wasm_module_validator_type_groups.specs.adding.Interned.{IsChecked}
use Rattle.wasm_module_validator_type_list.specs.List.{Types}
use Rattle.wasm_module_validator_resources.specs.index_spaces.Spaces.{Spaces, nothing_read}
use Rattle.wasm_module_validator_resources.specs.Named.{IsReadOver}
use Rattle.wasm_module_validator_state.specs.Items.{Items, no_items}
use Rattle.wasm_module_validator_payloads.specs.Progress.{IsOver}

-- no id is below none
none_below : (id : ℕ) → id < count [] → ⊥
unfolding type_count
none_below id h = go h
  where
    go : id < 0 → ⊥
    go k = omega (arith, k)

at_nothing : (z : Settings) → IsReadOver [] (nothing_read z)
at_nothing z = record {
  checked = record { canonical = λ h. tt; valid = λ id h. absurd (none_below id h) };
  known = λ k d h. absurd (omega (arith, h));
  tags = λ k d h. absurd (omega (arith, h));
}

-- nothing stands over a list with no types, at which types may be added
pub nothing_is_over : (types : Types) (items : Items) (z : Settings) → types.groups ≡ [] → types.can_intern ≡ true → types.limits ≡ z.limits → items ≡ no_items z
    → IsWithinCeilings z.limits → (types.can_intern ≡ true) × IsOver types items.spaces
nothing_is_over types items z e c l f w =
    let read : IsReadOver types.groups (nothing_read z) = subst (λ (g : List Group). IsReadOver g (nothing_read z)) (sym e) (at_nothing z) in (
      c,
      (
        subst (λ (i : Items). IsReadOver types.groups i.spaces) (sym f) read,
        l ∙ sym (ap (λ (i : Items). i.spaces.settings.limits) f),
        subst (λ (i : Items). IsWithinCeilings i.spaces.settings.limits) (sym f) w,
      ),
    )

-- nothing stands over the list of a module before
pub next_is_over : (groups : List Group) (s : Spaces) (items : Items) (z : Settings) → IsReadOver groups s → items ≡ no_items z → z ≡ s.settings → IsReadOver groups items.spaces
next_is_over groups s items z r f e =
    let read : IsReadOver groups (nothing_read z) = record {
      checked = subst (λ (y : Settings). IsChecked y groups) (sym e) r.checked;
      known = λ k d h. absurd (omega (arith, h));
      tags = λ k d h. absurd (omega (arith, h));
    } in
    subst (λ (i : Items). IsReadOver groups i.spaces) (sym f) read
