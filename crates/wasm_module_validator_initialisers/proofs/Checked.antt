-- What the checks of its parts tell of a segment.
use Rattle.std.proofs.Common.{◌≡◌, ℕ, sym, subst, Result, inr}
use Rattle.std.specs.Prelude.{IfErr}
use Rattle.wasm_types.specs.settings.Settings.{Settings}
use Rattle.wasm_types.specs.decoding.Decoder.{State}
use Rattle.wasm_types.specs.decoding.Denials.{Denies, UnlessMemory}
use Rattle.wasm_types.specs.decoding.DenialLaws.{denies_from}
use Rattle.wasm_types.specs.decoding.ErrorValue.{ErrorValue}
use Rattle.wasm_types.specs.decoding.declared.error.ErrorKind.{ErrorKind}
use Rattle.wasm_types.specs.values.Reference.{Reference}
use Rattle.wasm_types.specs.values.declared.value.ValType.TheVariants as value
use Rattle.wasm_sections_items.specs.declared.elements.element.ElementOf.{ElementOf}
use Rattle.wasm_sections_items.specs.declared.elements.element.ElementItemsOf.{ElementItemsOf}
use Rattle.wasm_operator_validator_state.specs.resources.Meaning.{Meaning, type_in, reference_in}
use Rattle.wasm_operator_validator_rules.specs.Operands.{ValueType}
use Rattle.wasm_operator_validator_rules.specs.Context.{Module}
use Rattle.wasm_module_validator_initialisers.specs.segments.Laws.{unless_from}
use Rattle.wasm_module_validator_initialisers.specs.segments.Refusals.{IsTypeRefusal}
use Rattle.wasm_module_validator_initialisers.specs.elements.Trees.{element_read}
use Rattle.wasm_module_validator_initialisers.specs.elements.Judged.{IsElementThere}
use Rattle.wasm_module_validator_initialisers.specs.elements.Items.{item_type, IsItemType, IsMode, AreItems}
use Rattle.wasm_module_validator_initialisers.specs.elements.Refusals.{RefusesItems, RefusesElement}
use Rattle.wasm_module_validator_initialisers.proofs.Trees.{element_is, is_element}

pub item_type_refused : {X : Type 0} (r : Result X ErrorValue) (z : Settings) (g : Module) (offset : ℕ) (i j : ElementItemsOf State) → i ≡ j
    → IfErr r (IsTypeRefusal z (λ y. IsItemType y g j) offset) → IfErr r (IsTypeRefusal z (λ y. IsItemType y g i) offset)
item_type_refused r z g offset i j e h = subst (λ (k : ElementItemsOf State). IfErr r (IsTypeRefusal z (λ y. IsItemType y g k) offset)) (sym e) h

module _ (z : Settings) (m : Meaning) (count : ℕ) (x : ElementOf State) where
  abbrev There : Type 0
  There = IsElementThere z m.«module» count (element_read x)

  pub type_denied : (k : ErrorKind) → Denies k (IsItemType z m.«module» x.items) → Denies k There
  type_denied k d = denies_from k (IsItemType z m.«module» x.items) There (λ h. (is_element z m.«module» count x h).0) d

  -- where the code names the type of the elements
  module _ (q : Reference) (named : reference_in m q ≡ item_type m.«module».types x.items) where
    pub mode_denied : (k : ErrorKind) → Denies k (IsMode z m.«module» count (reference_in m q) x.kind) → Denies k There
    mode_denied k d =
        let P : ValueType → Type 0 = λ t. IsMode z m.«module» count t x.kind in
        denies_from k (P (reference_in m q)) There (λ h. subst P (sym named) (is_element z m.«module» count x h).1) d

    pub items_denied : (k : ErrorKind) → Denies k (AreItems z m.«module» count (type_in m (value.Ref q)) x.items) → Denies k There
    unfolding type_in
    items_denied k d =
        let P : ValueType → Type 0 = λ t. AreItems z m.«module» count t x.items in
        denies_from k (P (reference_in m q)) There (λ h. subst P (sym named) (is_element z m.«module» count x h).2) d

    pub items_refused : (offset : ℕ) (e : ErrorValue) → IsItemType z m.«module» x.items → IsMode z m.«module» count (reference_in m q) x.kind
        → UnlessMemory e.kind (RefusesItems z m count offset (type_in m (value.Ref q)) x.items e) → UnlessMemory e.kind (RefusesElement z m count offset x e)
    unfolding type_in
    items_refused offset e typed used h =
        unless_from e.kind (RefusesItems z m count offset (reference_in m q) x.items e) (RefusesElement z m count offset x e)
        (λ p. inr (typed, inr (subst (λ (t : ValueType). IsMode z m.«module» count t x.kind) named used, subst (λ (t : ValueType). RefusesItems z m count offset t x.items e) named p))) h

    pub all_is : IsItemType z m.«module» x.items → IsMode z m.«module» count (reference_in m q) x.kind → AreItems z m.«module» count (type_in m (value.Ref q)) x.items → There
    unfolding type_in
    all_is typed used filled =
        element_is z m.«module» count x
        (typed, subst (λ (t : ValueType). IsMode z m.«module» count t x.kind) named used, subst (λ (t : ValueType). AreItems z m.«module» count t x.items) named filled)
