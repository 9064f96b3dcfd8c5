-- What the check of a place in a table tells of an active segment.
use Rattle.std.proofs.Common.{◌≡◌, ◌↔◌, ◌∙◌, ℕ, sym, ap, subst, Bool, true, false, IsTrue, Option, Some, Result, inl, inr}
use Rattle.std.specs.Prelude.{IfErr, slice_get}
use Rattle.wasm_types.specs.settings.Settings.{Settings}
use Rattle.wasm_types.specs.decoding.Decoder.{State}
use Rattle.wasm_types.specs.decoding.Denials.{Denies, Tells, UnlessMemory}
use Rattle.wasm_types.specs.decoding.DenialLaws.{denies}
use Rattle.wasm_types.specs.decoding.ErrorValue.{ErrorValue}
use Rattle.wasm_types.specs.decoding.declared.error.ErrorKind.{ErrorKind}
use Rattle.wasm_types.specs.trees.Below.{Below}
use Rattle.wasm_types.specs.values.Reference.{Reference}
use Rattle.wasm_types.specs.values.declared.value.ValType.{ValType}
use Rattle.wasm_types.specs.values.declared.value.ValType.TheVariants as value
use Rattle.wasm_types.specs.externs.Addresses.{address_type as address_written}
use Rattle.wasm_types.specs.externs.declared.table.TableType.{TableType}
use Rattle.wasm_sections_items.specs.declared.elements.element.ElementKindOf.{ElementKindOf}
use Rattle.wasm_sections_items.specs.declared.elements.element.ElementKindOf.TheVariants as kinds
use Rattle.wasm_operator_validator_state.specs.resources.Meaning.{Meaning, type_in, reference_in, table_in}
use Rattle.wasm_operator_validator_rules.specs.Operands.{ValueType}
use Rattle.wasm_operator_validator_rules.specs.Context.{Table, address_type}
use Rattle.wasm_module_validator_checks.specs.rules.Valid.{table_index}
use Rattle.wasm_module_validator_initialisers.specs.segments.Laws.{tells_from, refused_from, address_in}
use Rattle.wasm_module_validator_initialisers.specs.segments.Judged.{IsConstantText}
use Rattle.wasm_module_validator_initialisers.specs.segments.Refusals.{IsFault, StopsText}
use Rattle.wasm_module_validator_initialisers.specs.elements.Items.{IsMode}
use Rattle.wasm_module_validator_initialisers.specs.elements.Refusals.{RefusesMode}
use Rattle.wasm_module_validator_initialisers.proofs.Walks.{unless}

module _ (z : Settings) (m : Meaning) (count : ℕ) (q : Reference) where
  -- what a test of subtypes says of a table's elements
  module _ (t : TableType) (b : Bool) (test : IsTrue b ↔ Below (type_in m (value.Ref q)) (type_in m (value.Ref t.element_type))) where
    pub fits : b ≡ true → Below (reference_in m q) (table_in m t).element
    unfolding type_in
    fits e = test.0 e

    pub fits_not : b ≡ false → Below (reference_in m q) (table_in m t).element → ⊥
    unfolding type_in
    fits_not e h = let yes : b ≡ true = test.1 h in cc

  module _ (o : Option ℕ) (s : State) (t : TableType) (found : slice_get m.«module».tables (table_index o) ≡ Some (table_in m t)) where
    abbrev Placed : Type 0
    Placed = IsMode z m.«module» count (reference_in m q) (kinds.Active o s)

    same : (w : Table) → slice_get m.«module».tables (table_index o) ≡ Some w → w ≡ table_in m t
    same w there = let both : Some w ≡ Some (table_in m t) = sym there ∙ found in cc

    -- the table takes other elements
    pub place_denied : (k : ErrorKind) → (Below (reference_in m q) (table_in m t).element → ⊥) → Denies k Placed
    place_denied k none = denies k Placed (λ (w, there, below, typed). none (subst (λ (y : Table). Below (reference_in m q) y.element) (same w there) below))

    pub place_refused : (offset : ℕ) (e : ErrorValue) → (Below (reference_in m q) (table_in m t).element → ⊥) → IsFault offset e
        → UnlessMemory e.kind (RefusesMode z m count offset (reference_in m q) (kinds.Active o s) e)
    place_refused offset e none fault =
        unless e.kind (RefusesMode z m count offset (reference_in m q) (kinds.Active o s) e) (inr (table_in m t, found, inl (none, fault)))

    -- the answer of the offset
    module _ {X : Type 0} (r : Result X ErrorValue) (v : ValType) (named : v ≡ address_written t.table64) (below : Below (reference_in m q) (table_in m t).element) where
      addresses : type_in m v ≡ address_type (table_in m t).table64
      addresses = ap (type_in m) named ∙ address_in m t.table64

      pub offset_answer : Tells r (IsConstantText z m.«module» count (type_in m v) s.rest) → Tells r Placed
      offset_answer h =
          let P : ValueType → Type 0 = λ a. IsConstantText z m.«module» count a s.rest in
          tells_from r (P (type_in m v)) Placed (λ p. (table_in m t, found, below, subst P addresses p))
          (λ (w, there, fit, typed). subst P (sym addresses) (subst (λ (y : Table). P (address_type y.table64)) (same w there) typed)) h

      pub offset_refused : (offset : ℕ) → IfErr r (λ e. UnlessMemory e.kind (StopsText z m count (type_in m v) s e))
          → IfErr r (λ e. UnlessMemory e.kind (RefusesMode z m count offset (reference_in m q) (kinds.Active o s) e))
      offset_refused offset h =
          refused_from r (StopsText z m count (type_in m v) s) (RefusesMode z m count offset (reference_in m q) (kinds.Active o s))
          (λ e p. inr (table_in m t, found, inr (below, subst (λ (a : ValueType). StopsText z m count a s e) addresses p))) h

  pub mode_refused : {X : Type 0} (r : Result X ErrorValue) (offset : ℕ) (t : ValueType) (k j : ElementKindOf State) → k ≡ j
      → IfErr r (λ e. UnlessMemory e.kind (RefusesMode z m count offset t j e)) → IfErr r (λ e. UnlessMemory e.kind (RefusesMode z m count offset t k e))
  mode_refused r offset t k j e h = subst (λ (i : ElementKindOf State). IfErr r (λ f. UnlessMemory f.kind (RefusesMode z m count offset t i f))) (sym e) h
