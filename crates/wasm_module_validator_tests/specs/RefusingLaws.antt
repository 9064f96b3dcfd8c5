-- The rows of `Refusing`.
use Rattle.std.proofs.Common.{◌≡◌, inl, inr, ℕ, [], refl, ap, arith}
use Rattle.wasm_types.specs.decoding.Decoder.{State}
use Rattle.wasm_types.specs.settings.Settings.{Settings}
use Rattle.wasm_types.specs.values.Reference.{Reference}
use Rattle.wasm_sections_items.specs.declared.limited.section.SectionLimited.{SectionLimited}
use Rattle.wasm_sections_items.specs.declared.elements.element.ElementOf.{ElementOf}
use Rattle.wasm_module_validator_initialisers.specs.state.Items.{no_items}
use Rattle.wasm_module_validator_initialisers.specs.state.invariant.Standing.{constants_of}
use Rattle.wasm_module_validator_section_order.specs.rules.Valid.{IsValidValueType, IsValidElementType, IsValidTableType}
use Rattle.wasm_module_validator_initialisers.specs.elements.Refusals.{RefusesElement}
use Rattle.wasm_module_validator_initialisers.specs.adding.Refusals.{RefusesNewGlobal, RefusesNewTable, RefusesNewElement}
use Rattle.wasm_types.specs.values.declared.value.ValType.TheVariants.{Ref}
use Rattle.wasm_module_validator_tests.specs.Refusing.{refused_at, to_nothing, global, table, element, ItemsRefused}

not_there : ◌≡◌ {A = ℕ} 6 7 → ⊥
not_there e = omega (arith, e)

-- the type names the first type of a module without types
no_type : (z y : Settings) → IsValidValueType y (constants_of [] (no_items z).spaces).«module» (Ref to_nothing) → ⊥
no_type z y (t, v) = let k = v.known in omega (arith, k)

no_element : (z y : Settings) → IsValidElementType y (constants_of [] (no_items z).spaces).«module» to_nothing → ⊥
no_element z y (inl e) = let h = ap (λ (r : Reference). r.heap) e in absurd cc
no_element z y (inr h) = no_type z y h

no_table : (z y : Settings) → IsValidTableType y (constants_of [] (no_items z).spaces).«module» table.ty → ⊥
no_table z y v = no_element z y v.element

global_elsewhere : (z : Settings) (s : State) → RefusesNewGlobal [] (no_items z) 7 (global s) (refused_at 6) → ⊥
global_elsewhere z s (inl (inl t)) = not_there t.1
global_elsewhere z s (inl (inr v)) = no_type z z v.0.content
global_elsewhere z s (inr h) = not_there h.1.1

table_elsewhere : (z : Settings) → RefusesNewTable [] (no_items z) 7 table (refused_at 6) → ⊥
table_elsewhere z (inl (inl t)) = not_there t.1
table_elsewhere z (inl (inr v)) = not_there v.1.1.1
table_elsewhere z (inr h) = not_there h.1.1

module _ (z : Settings) (s : State) (x : ElementOf State) (f : SectionLimited ℕ) where
  element_refused : RefusesElement z (constants_of [] (no_items z).spaces) 0 7 (element x f s) (refused_at 7)
  element_refused = inr (tt, inl (inl (refl, (refl, refl))))

  element_elsewhere : RefusesElement z (constants_of [] (no_items z).spaces) 0 7 (element x f s) (refused_at 6) → ⊥
  element_elsewhere (inl t) = not_there t.1
  element_elsewhere (inr (u, inl (inl m))) = not_there m.1.1
  element_elsewhere (inr (u, inl (inr (v, e, rest)))) = absurd cc
  element_elsewhere (inr (u, inr ((v, e, below, text), items))) = absurd cc

  new_element_elsewhere : RefusesNewElement [] (no_items z) 7 (element x f s) (refused_at 6) → ⊥
  new_element_elsewhere (inl r) = element_elsewhere r
  new_element_elsewhere (inr h) = not_there h.1.1

pub items_refused : (z : Settings) (s : State) (x : ElementOf State) (f : SectionLimited ℕ) → ItemsRefused z s x f
items_refused z s x f = record {
  global_refused = inl (inl ((λ b v. no_type z (record { features = b; limits = z.limits }) v.content), refl));
  global_elsewhere = global_elsewhere z s;
  table_refused = inl (inl ((λ b v. no_table z (record { features = b; limits = z.limits }) v), refl));
  table_elsewhere = table_elsewhere z;
  element_refused = element_refused z s x f;
  element_elsewhere = element_elsewhere z s x f;
  new_element_refused = inl (element_refused z s x f);
  new_element_elsewhere = new_element_elsewhere z s x f;
}
