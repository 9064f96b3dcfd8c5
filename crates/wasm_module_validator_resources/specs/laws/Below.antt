-- Subtyping of the types that names stand for, where these are sound.
use Rattle.std.proofs.Common.{◌≡◌, ◌∙◌, ◌↔◌, Bool, refl, ap, sym, subst}
use Rattle.wasm_types.specs.trees.Types.{Abstract, InnerOf, function, array_of, struct_of, continuation}
use Rattle.wasm_types.specs.trees.Trees.{TypeTree}
use Rattle.wasm_types.specs.trees.AbstractOrder.{AbstractBelow}
use Rattle.wasm_types.specs.trees.Below.{expanded, abstract_above, bottom_of, itself, IsBelowAbstract, IsAboveAbstract}
use Rattle.wasm_types.specs.trees.Chains.{IsSound}
use Rattle.wasm_module_validator_resources.specs.Named.{bottom_under, IsUnderKind, IsOverKind}

-- the bottom type of a constructor, by its abstract type
bottom_by : {R : Type 0} (x : InnerOf R) → bottom_under (abstract_above x) ≡ bottom_of x
bottom_by (function ps rs) = refl
bottom_by (array_of x) = refl
bottom_by (struct_of xs) = refl
bottom_by (continuation f) = refl

-- a type is below an abstract type where it is of that sharedness and of a constructor below it
pub is_below_abstract : (t : TypeTree) → IsSound t → (s : Bool) (a : Abstract) → IsUnderKind t s a ↔ IsBelowAbstract t s a
is_below_abstract t sound s a = (
  λ h. (t, itself, h.0, h.1),
  λ h. let alike = sound h.0 h.1 in
      (alike.shared ∙ h.2, subst (λ (x : Abstract). AbstractBelow x a) (sym alike.constructor) h.3),
)

-- an abstract type is below a type where it is the bottom type of its constructor, of the same sharedness
pub is_above_abstract : (t : TypeTree) → IsSound t → (s : Bool) (a : Abstract) → IsOverKind t s a ↔ IsAboveAbstract t s a
is_above_abstract t sound s a = (
  λ h u d. let alike = sound u d in
      (h.0 ∙ alike.shared, h.1 ∙ ap bottom_under alike.constructor ∙ bottom_by (expanded u)),
  λ h. let own = h t itself in
      (own.0, own.1 ∙ sym (bottom_by (expanded t))),
)
