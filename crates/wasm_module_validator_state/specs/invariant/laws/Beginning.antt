-- Where a section begins: nothing of it was read, so there is as much as its count.
use Rattle.std.proofs.Common.{◌≡◌, ◌∙◌, ◌↔◌, ◌+◌, ◌≤◌, ℕ, suc, List, [], length, refl, sym, ap, arith}
use Rattle.wasm_types.specs.settings.Settings.{Settings}
use Rattle.wasm_module_validator_type_storage.specs.trees.Groups.{Group}
use Rattle.wasm_module_validator_state.specs.Items.{Items}
use Rattle.wasm_module_validator_checks.specs.rules.Syntax.{ModuleTree}
use Rattle.wasm_module_validator_checks.specs.rules.Spaces.{types_behind}
use Rattle.wasm_module_validator_resources.specs.rules_in_order.Sections as section
use Rattle.wasm_module_validator_resources.specs.rules_in_order.Sections.{Section, place, up_to, IsUnread}
use Rattle.wasm_module_validator_resources.specs.rules_in_order.Adding.{Fits}
use Rattle.wasm_module_validator_resources.specs.rules_in_order.laws.Fronts.{front_twice_so}
use Rattle.wasm_module_validator_state.specs.invariant.Standing.{Stands, IsReading, IsBefore}
use Rattle.wasm_module_validator_state.specs.invariant.laws.Deciding.{counts, elements_counted, room}

-- where nothing was read of a section, nothing was read behind it
pub unread_is_last : (s : Section) (m : ModuleTree) → IsUnread s m → m ≡ up_to s m
unread_is_last s m u = u ∙ (sym (front_twice_so (place s) (suc (place s)) m (omega arith)) ∙ sym (ap (up_to s) u))

pub section_begins : (s : Section) (groups : List Group) (i : Items) (z : Settings) (m : ModuleTree) → IsBefore s groups i z m → IsReading s groups i z m
section_begins s groups i z m b = record { stands = b.stands; last = unread_is_last s m b.unread }

module _ (groups : List Group) (s : Items) (z : Settings) (m : ModuleTree) (r : Stands groups s z m) where
  pub types_fit : IsUnread section.types m → (n : ℕ) → (length s.spaces.types + n ≤ s.spaces.settings.limits.types) ↔ Fits z section.types m n
  types_fit u n =
      let none : length s.spaces.types ≡ 0 = sym (counts groups s z m r).types ∙ ap (λ (t : ModuleTree). length (types_behind [] t.types)) u in
      let all : length s.spaces.types + n ≡ n = omega (arith, none) in
      room groups s z m r (λ k (y : Settings). k ≤ y.limits.types) _ _ all

  pub imports_fit : (n : ℕ) → (0 + n ≤ s.spaces.settings.limits.imports) ↔ Fits z section.imports m n
  imports_fit n =
      let all : 0 + n ≡ n = omega arith in
      room groups s z m r (λ k (y : Settings). k ≤ y.limits.imports) _ _ all

  pub exports_fit : IsUnread section.exports m → (n : ℕ) → (length s.exports + n ≤ s.spaces.settings.limits.exports) ↔ Fits z section.exports m n
  exports_fit u n =
      let none : length s.exports ≡ 0 = ap length r.exports ∙ ap (λ (t : ModuleTree). length t.exports) u in
      let all : length s.exports + n ≡ n = omega (arith, none) in
      room groups s z m r (λ k (y : Settings). k ≤ y.limits.exports) _ _ all

  pub elements_fit : IsUnread section.element_segments m → (n : ℕ) → (length s.spaces.elements + n ≤ s.spaces.settings.limits.element_segments) ↔ Fits z section.element_segments m n
  elements_fit u n =
      let none : length s.spaces.elements ≡ 0 = elements_counted groups s z m r ∙ ap (λ (t : ModuleTree). length t.element_segments) u in
      let all : length s.spaces.elements + n ≡ n = omega (arith, none) in
      room groups s z m r (λ k (y : Settings). k ≤ y.limits.element_segments) _ _ all

  pub data_fit : (n : ℕ) → (n ≤ s.spaces.settings.limits.data_segments) ↔ Fits z section.data_segments m n
  data_fit n = room groups s z m r (λ k (y : Settings). k ≤ y.limits.data_segments) n n refl
