-- Lists that match, compared from a place on.
use Rattle.std.proofs.Common.{◌≡◌, ◌∙◌, ◌↔◌, ℕ, zero, suc, ◌+◌, ◌<◌, ◌≤◌, List, [], ◌∷◌, length, map, get_or, drop, ap, sym, subst, arith, add-one, drop-cons}
use Rattle.std.proofs.lemmas.List.{drop_all, length-map}
use Rattle.wasm_types.specs.trees.declared.index.UnpackedIndex.{UnpackedIndex}
use Rattle.wasm_types.specs.trees.Types.{ValueOf, FieldOf}
use Rattle.wasm_types.specs.trees.Each.{EachStorage, EachValue, EachValues, EachFields}
use Rattle.wasm_types.specs.values.declared.value.ValType.{ValType}
use Rattle.wasm_types.specs.values.Values.{value_of}
use Rattle.wasm_types.specs.fields.declared.field.FieldType.{FieldType}
use Rattle.wasm_types.specs.fields.Fields.{field_of}
use Rattle.wasm_module_validator_type_storage.specs.trees.Groups.{Group, count}
use Rattle.wasm_module_validator_type_storage.specs.trees.BelowIds.{IsIdBelow, ValueBelowById}
use Rattle.wasm_module_validator_canonical_types.specs.matches.MatchesById.{FieldMatchesById, FieldsMatchById, ResultsMatchById}

module _ (P : UnpackedIndex → Type 0) where
  pub field_at : (xs : List FieldType) (i : ℕ) (d : FieldType) → EachFields P (map field_of xs) → i < length xs → EachStorage P (field_of (get_or xs i d)).storage
  field_at [] i d w lt = absurd (omega arith)
  field_at (x ∷ xs) zero d w lt = w.0
  field_at (x ∷ xs) (suc i) d w lt = field_at xs i d w.1 (omega arith)

  pub value_at : (xs : List ValType) (i : ℕ) (d : ValType) → EachValues P (map value_of xs) → i < length xs → EachValue P (value_of (get_or xs i d))
  value_at [] i d w lt = absurd (omega arith)
  value_at (x ∷ xs) zero d w lt = w.0
  value_at (x ∷ xs) (suc i) d w lt = value_at xs i d w.1 (omega arith)

  pub field_read : (xs : List FieldType) (i : ℕ) (x : FieldType) → EachFields P (map field_of xs) → i < length xs → x ≡ get_or xs i x → EachStorage P (field_of x).storage
  field_read xs i x w lt e = subst (λ (y : FieldType). EachStorage P (field_of y).storage) (sym e) (field_at xs i x w lt)

  pub value_read : (xs : List ValType) (i : ℕ) (x : ValType) → EachValues P (map value_of xs) → i < length xs → x ≡ get_or xs i x → EachValue P (value_of x)
  value_read xs i x w lt e = subst (λ (y : ValType). EachValue P (value_of y)) (sym e) (value_at xs i x w lt)

module _ (groups : List Group) where
  pub too_few : (xs ys : List FieldType) → length xs < length ys → FieldsMatchById groups (map field_of xs) (map field_of ys) → ⊥
  too_few xs [] lt m = omega arith
  too_few [] (y ∷ ys) lt m = m
  too_few (x ∷ xs) (y ∷ ys) lt m = too_few xs ys (omega arith) m.1

  pub other_count : (xs ys : List ValType) → (length xs ≡ length ys → ⊥) → ResultsMatchById groups (map value_of xs) (map value_of ys) → ⊥
  other_count [] [] apart m = apart (omega arith)
  other_count [] (y ∷ ys) apart m = m
  other_count (x ∷ xs) [] apart m = m
  other_count (x ∷ xs) (y ∷ ys) apart m = other_count xs ys (λ e. apart (omega arith)) m.1

  -- the fields from a place on match
  abbrev pub FieldsFrom : List FieldType → List FieldType → ℕ → Type 0
  FieldsFrom xs ys i = FieldsMatchById groups (map field_of (drop i xs)) (map field_of (drop i ys))

  pub field_step : (xs ys : List FieldType) (i : ℕ) (d : FieldType) → i < length xs → i < length ys
      → FieldsFrom xs ys i ↔ (FieldMatchesById groups (field_of (get_or xs i d)) (field_of (get_or ys i d)) × FieldsFrom xs ys (i + 1))
  field_step xs ys i d lx ly = rw (add-one, drop-cons xs i d lx, drop-cons ys i d ly) (λ h. h, λ h. h)

  pub fields_end : (xs ys : List FieldType) (i : ℕ) → length ys ≤ i → FieldsFrom xs ys i
  fields_end xs ys i le = rw (drop_all i ys le) tt

  -- the value types from a place on match
  abbrev pub ResultsFrom : List ValType → List ValType → ℕ → Type 0
  ResultsFrom xs ys i = ResultsMatchById groups (map value_of (drop i xs)) (map value_of (drop i ys))

  pub result_step : (xs ys : List ValType) (i : ℕ) (d : ValType) → i < length xs → i < length ys
      → ResultsFrom xs ys i ↔ (ValueBelowById groups (value_of (get_or xs i d)) (value_of (get_or ys i d)) × ResultsFrom xs ys (i + 1))
  result_step xs ys i d lx ly = rw (add-one, drop-cons xs i d lx, drop-cons ys i d ly) (λ h. h, λ h. h)

  pub results_end : (xs ys : List ValType) (i : ℕ) → length xs ≤ i → length ys ≤ i → ResultsFrom xs ys i
  results_end xs ys i lx ly = rw (drop_all i xs lx, drop_all i ys ly) tt
