-- Types of numbers, which a module may write whatever types it has.
use Rattle.std.proofs.Common.{◌≡◌, ◌∙◌, ℕ, Bool, true, refl, sym, subst}
use Rattle.wasm_types.specs.settings.Features.{Floats, has}
use Rattle.wasm_types.specs.values.declared.value.ValType.{ValType}
use Rattle.wasm_types.specs.values.declared.value.ValType.TheVariants as vals
use Rattle.wasm_operator_validator_rules.specs.Context.{IsType}
use Rattle.wasm_operator_validator_state.specs.resources.Meaning.{Meaning, type_in}

module _ (bits : ℕ) (t : ValType) where
  pub i32_is : t ≡ vals.I32 → (m : Meaning) → IsType bits m.«module» t (type_in m t)
  unfolding type_in
  i32_is e m = subst (λ (u : ValType). IsType bits m.«module» u (type_in m u)) (sym e) (record { allowed = tt; known = tt; is = refl })

  pub i64_is : t ≡ vals.I64 → (m : Meaning) → IsType bits m.«module» t (type_in m t)
  unfolding type_in
  i64_is e m = subst (λ (u : ValType). IsType bits m.«module» u (type_in m u)) (sym e) (record { allowed = tt; known = tt; is = refl })

  pub f32_is : (b : Bool) → t ≡ vals.F32 → b ≡ has Floats bits → b ≡ true → (m : Meaning) → IsType bits m.«module» t (type_in m t)
  unfolding type_in
  f32_is b e f g m = subst (λ (u : ValType). IsType bits m.«module» u (type_in m u)) (sym e) (record { allowed = sym f ∙ g; known = tt; is = refl })

  pub f64_is : (b : Bool) → t ≡ vals.F64 → b ≡ has Floats bits → b ≡ true → (m : Meaning) → IsType bits m.«module» t (type_in m t)
  unfolding type_in
  f64_is b e f g m = subst (λ (u : ValType). IsType bits m.«module» u (type_in m u)) (sym e) (record { allowed = sym f ∙ g; known = tt; is = refl })
