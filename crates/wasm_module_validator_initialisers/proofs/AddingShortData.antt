-- A data segment that its bytes alone tell may be added.
use Rattle.std.proofs.Common.{◌≡◌, ℕ, List, Result, Ok, Option, Some, None, refl, subst}
use Rattle.std.specs.Prelude.{IfSome}
use Rattle.wasm_types.specs.decoding.ErrorValue.{ErrorValue}
use Rattle.wasm_operator_validator_state.specs.resources.Meaning.{Meaning}
use Rattle.wasm_module_validator_initialisers.specs.segments.Short.{HasNarrowMemory, IsShortData, in_first_memory}
use Rattle.wasm_module_validator_initialisers.specs.segments.ShortLaws.{short_data_is_valid}
use Rattle.wasm_module_validator_type_storage.specs.trees.Groups.{Group}
use Rattle.wasm_module_validator_state.specs.Items.{Items}
use Rattle.wasm_module_validator_resources.specs.rules_in_order.Sections as section
use Rattle.wasm_module_validator_state.specs.invariant.Standing.{constants_of, IsAdded}
use Rattle.wasm_module_validator_initialisers.proofs.NewData.{data_told, data_added}

-- an answer that is no refusal
went_well : Result (Unit {0}) ErrorValue
went_well = Ok tt

module _ (groups : List Group) (i : Items) (text : List ℕ) (from : ℕ) where
  one : (to : ℕ) → HasNarrowMemory (constants_of groups i.spaces).«module» → (s : IsShortData text from to)
      → IsAdded section.data_segments groups i (in_first_memory s.constant s.content) i
  unfolding went_well
  one to narrow s =
      let t = in_first_memory s.constant s.content in
      let valid = short_data_is_valid text from to s i.spaces.settings (constants_of groups i.spaces).«module» i.spaces.imported_globals narrow in
      (data_told groups i t went_well valid, data_added groups i t i refl)

  pub short_added : (r : Option ℕ) (m : Meaning) → m ≡ constants_of groups i.spaces → IfSome r (λ to. HasNarrowMemory m.«module»)
      → IfSome r (λ to. (s : IsShortData text from to) → IsAdded section.data_segments groups i (in_first_memory s.constant s.content) i)
  short_added (Some to) m is h = one to (subst (λ (n : Meaning). HasNarrowMemory n.«module») is h)
  short_added None m is h = tt
