-- A value type that features allow names types only where they ask for canonical forms.
use Rattle.std.proofs.Common.{◌≡◌, ℕ, zero, suc, ◌<◌, Bool, true, false, List, [], ◌∷◌, length, map, get_or, refl, sym, subst, ⊎_elim, IsTrue, arith}
use Rattle.std.specs.Prelude.{◌||◌}
use Rattle.wasm_types.specs.settings.Features.{has, FunctionReferences, Gc, CustomDescriptors, StackSwitching, needs_canonical_types}
use Rattle.wasm_types.specs.trees.declared.index.UnpackedIndex.{UnpackedIndex}
use Rattle.wasm_types.specs.trees.Types.{abstract, concrete, exact, ValueOf, number, ref}
use Rattle.wasm_types.specs.trees.Each.{EachValue}
use Rattle.wasm_types.specs.trees.Gates.{Has, ValueIsAllowed}
use Rattle.wasm_types.specs.trees.Each.{EachStorage, EachValues, EachFields}
use Rattle.wasm_types.specs.values.declared.value.ValType.{ValType}
use Rattle.wasm_types.specs.values.Values.{value_of, storage_of}
use Rattle.wasm_types.specs.fields.declared.field.FieldType.{FieldType}
use Rattle.wasm_types.specs.fields.Fields.{field_of}
use Rattle.wasm_module_validator_type_groups.specs.composites.Composites.{WhereCanonical}

-- what holds of one of four tests holds of their disjunction
record AnyOf (a b c d : Bool) : Type 0 where
  first : a ≡ true → IsTrue (a || b || c || d)
  second : b ≡ true → IsTrue (a || b || c || d)
  third : c ≡ true → IsTrue (a || b || c || d)
  fourth : d ≡ true → IsTrue (a || b || c || d)

any_of : (a b c d : Bool) → AnyOf a b c d
any_of true b c d = record { first = λ e. refl; second = λ e. refl; third = λ e. refl; fourth = λ e. refl }
any_of false true c d = record { first = λ e. refl; second = λ e. refl; third = λ e. refl; fourth = λ e. refl }
any_of false false true d = record { first = λ e. refl; second = λ e. refl; third = λ e. refl; fourth = λ e. refl }
any_of false false false true = record { first = λ e. refl; second = λ e. refl; third = λ e. refl; fourth = λ e. refl }
any_of false false false false = record { first = λ e. e; second = λ e. e; third = λ e. e; fourth = λ e. e }

module _ (bits : ℕ) where
  any : AnyOf (has FunctionReferences bits) (has Gc bits) (has CustomDescriptors bits) (has StackSwitching bits)
  any = any_of (has FunctionReferences bits) (has Gc bits) (has CustomDescriptors bits) (has StackSwitching bits)

  pub switching_canonical : Has bits StackSwitching → IsTrue (needs_canonical_types bits)
  switching_canonical h = any.fourth h

  -- the indices of an allowed value type are ids
  pub allowed_ids : (P : UnpackedIndex → Type 0) (v : ValueOf UnpackedIndex) → ValueIsAllowed bits v → WhereCanonical bits (EachValue P v) → EachValue P v
  allowed_ids P (number n) a w = tt
  allowed_ids P (ref n (abstract s k)) a w = tt
  allowed_ids P (ref n (concrete i)) a w = w (⊎_elim (λ f. any.first f) (λ g. any.second g) a.1)
  allowed_ids P (ref n (exact i)) a w = w (any.third a.1)

-- ---- one of a list

module _ (P : UnpackedIndex → Type 0) where
  value_at : (xs : List ValType) (i : ℕ) (d : ValType) → EachValues P (map value_of xs) → i < length xs → EachValue P (value_of (get_or xs i d))
  value_at [] i d w lt = absurd (omega arith)
  value_at (x ∷ xs) zero d w lt = w.0
  value_at (x ∷ xs) (suc i) d w lt = value_at xs i d w.1 (omega arith)

  pub value_read : (xs : List ValType) (i : ℕ) (x : ValType) → EachValues P (map value_of xs) → i < length xs → x ≡ get_or xs i x → EachValue P (value_of x)
  value_read xs i x w lt e = subst (λ (y : ValType). EachValue P (value_of y)) (sym e) (value_at xs i x w lt)

  pub field_at : (xs : List FieldType) (i : ℕ) (d : FieldType) → EachFields P (map field_of xs) → i < length xs → EachStorage P (storage_of (get_or xs i d).element_type)
  field_at [] i d w lt = absurd (omega arith)
  field_at (x ∷ xs) zero d w lt = w.0
  field_at (x ∷ xs) (suc i) d w lt = field_at xs i d w.1 (omega arith)
